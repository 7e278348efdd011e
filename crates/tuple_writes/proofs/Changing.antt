-- What a write does to versions says what it does to links.
use Rattle.std.proofs.Common.{◌≡◌, ◌⊎◌, ◌≤◌, ◌==◌, ◌&&◌, ℕ, Bool, true, false, not, List, length, Some, None, inl, inr, ⊎_elim, sym, ap, ◌∙◌, refl}
use Rattle.std.proofs.lemmas.Bool.{and_parts}
use Rattle.std.proofs.lemmas.Option.{same_Some}
use Rattle.page_sheet.specs.declared.slot.Slot.{Slot}
use Rattle.page_sheet.specs.declared.slot.Slot.TheVariants.{Redirect}
use Rattle.page_sheet.specs.Slots.{slot_at, version_at}
use Rattle.tuple_header.specs.Version.{Version}
use Rattle.tuple_header.specs.declared.version.Header.{Header}
use Rattle.tuple_header.specs.Marks.{is_heap_only, is_hot_updated}
use Rattle.commit_status.specs.Window.{Window}
use Rattle.hot_chain.specs.Chain.{has_aborted, is_replaced}
use Rattle.sound_page.specs.Links.{link}
use Rattle.sound_page.specs.Sound.{SomeNext, SoundPage}
use Rattle.sound_page.proofs.Links.{IsLink, link-of, successor-from}
use Rattle.sound_page.proofs.Undone.{aborted-has}
use Rattle.tuple_writes.specs.Keeps.{IsMade, HasNoXmax}
use Rattle.tuple_writes.proofs.Growth.{IsSameVersion, HadVersion, HasVersion, IsNew, IsNewLink, IsWrite, none-some}

-- the version in slot n, taken away by an id in progress, leads on to nothing or to the new version in slot k
pub record IsAltered (w : Window) (slots after : List Slot) (n k m : ℕ) (u : Version) : Type 0 where
  pub here : m ≡ n
  pub had : HadVersion w slots m u
  pub made : IsMade w had.old.header
  pub leads : (is_hot_updated u.header ≡ false) ⊎ ((version_at slots k ≡ None) × (u.header.ctid.slot ≡ k) × (link w after n ≡ Some k))

pub record IsChange (w : Window) (slots after : List Slot) (n k : ℕ) : Type 0 where
  pub few : length after ≤ 291
  -- a version stays as it is, unless no deleter of it counts
  pub kept : (m : ℕ) (t : Version) → version_at slots m ≡ Some t → HasVersion w after m t × (HasNoXmax w t.header ⊎ (version_at after m ≡ Some t))
  pub was : (m : ℕ) (u : Version) → version_at after m ≡ Some u → (version_at slots m ≡ Some u) ⊎ (IsAltered w slots after n k m u ⊎ IsNew w slots m u)
  pub redirect_kept : (m j : ℕ) → slot_at slots m ≡ Some (Redirect j) → slot_at after m ≡ Some (Redirect j)
  pub redirect_was : (m j : ℕ) → slot_at after m ≡ Some (Redirect j) → slot_at slots m ≡ Some (Redirect j)
  pub linked : (m : ℕ) (u : Version) → version_at after m ≡ Some u → version_at slots m ≡ None → is_heap_only u.header ≡ true
      → IsNewLink w slots n k n m × (link w after n ≡ Some m)

pub same-version : (w : Window) (t : Version) → IsSameVersion w t t
same-version w t = record { row = refl; inserter = refl; frozen = refl; heap_only = refl; deleter = inl refl }

not-hot : (aborted : ℕ → Bool) (h : Header) → is_hot_updated h ≡ false → is_replaced aborted h ≡ true → ⊥
not-hot aborted h off e =
    let outer = and_parts (is_hot_updated h && not (h.xmax.0 == 0)) (not (aborted h.xmax.0)) e in
    let inner = and_parts (is_hot_updated h) (not (h.xmax.0 == 0)) outer.0 in
    absurd (let f : true ≡ false = sym inner.0 ∙ off in cc)

not-deleted : (aborted : ℕ → Bool) (h : Header) → h.xmax.0 ≡ 0 → is_replaced aborted h ≡ true → ⊥
not-deleted aborted h none e =
    let outer = and_parts (is_hot_updated h && not (h.xmax.0 == 0)) (not (aborted h.xmax.0)) e in
    let inner = and_parts (is_hot_updated h) (not (h.xmax.0 == 0)) outer.0 in
    let zero : not (h.xmax.0 == 0) ≡ false = rw none refl in
    absurd (let f : true ≡ false = sym inner.1 ∙ zero in cc)

untaken-unlinked : (w : Window) (slots : List Slot) (a b : ℕ) (l : IsLink (has_aborted w) slots a b) → HasNoXmax w l.old.header → ⊥
untaken-unlinked w slots a b l free = ⊎_elim (λ none. l.deleter none)
    (λ gone. let e : false ≡ true = sym l.live ∙ aborted-has w l.old.header.xmax.0 gone in absurd (cc)) free

change-forth : (w : Window) (slots after : List Slot) (n k a b : ℕ) → IsChange w slots after n k → link w slots a ≡ Some b → link w after a ≡ Some b
change-forth w slots after n k a b c next =
    let l = link-of (has_aborted w) slots a b next in
    let u = (c.kept b l.new l.to).0 in
    ⊎_elim (λ free. absurd (untaken-unlinked w slots a b l free))
    (λ there. successor-from (has_aborted w) after a b l.old u.new there u.there l.replaced l.place (u.same.heap_only ∙ l.heap_only) (u.same.inserter ∙ l.made))
    (c.kept a l.old l.from).1

change-back : (w : Window) (slots after : List Slot) (n k a b : ℕ) → SoundPage w slots → IsChange w slots after n k → link w after a ≡ Some b
    → (link w slots a ≡ Some b) ⊎ IsNewLink w slots n k a b
change-back w slots after n k a b sound c next =
    ⊎_elim same (λ x. ⊎_elim altered (λ new. absurd (l.deleter new.deleter)) x) (c.was a l.old l.from)
  where
    l : IsLink (has_aborted w) after a b
    l = link-of (has_aborted w) after a b next

    to-old : version_at slots a ≡ Some l.old → (t : Version) → version_at slots b ≡ Some t → IsSameVersion w t l.new → link w slots a ≡ Some b
    to-old from t to s = successor-from (has_aborted w) slots a b l.old t from to l.replaced l.place (sym s.heap_only ∙ l.heap_only) (sym s.inserter ∙ l.made)

    to-new : version_at slots a ≡ Some l.old → version_at slots b ≡ None → (link w slots a ≡ Some b) ⊎ IsNewLink w slots n k a b
    to-new from fresh =
        let was = sound.whole a l.old from l.replaced in
        let k = link-of (has_aborted w) slots a was.place was.next in
        let one : k.old ≡ l.old = same_Some k.old l.old (sym k.from ∙ from) in
        let place : b ≡ was.place = sym l.place ∙ ap (λ (v : Version). v.header.ctid.slot) (sym one) ∙ k.place in
        none-some (version_at slots b) k.new fresh (ap (version_at slots) place ∙ k.to)

    same : version_at slots a ≡ Some l.old → (link w slots a ≡ Some b) ⊎ IsNewLink w slots n k a b
    same from = ⊎_elim
        (λ to. inl (to-old from l.new to (same-version w l.new)))
        (λ x. ⊎_elim (λ y. inl (to-old from y.had.old y.had.there y.had.same)) (λ new. to-new from new.fresh) x)
        (c.was b l.new l.to)

    altered : IsAltered w slots after n k a l.old → (link w slots a ≡ Some b) ⊎ IsNewLink w slots n k a b
    altered x = ⊎_elim (λ off. absurd (not-hot (has_aborted w) l.old.header off l.replaced))
        (λ y. inr (record {
          from = x.here;
          to = sym l.place ∙ y.1;
          fresh = y.0;
          old = x.had.old;
          there = ap (version_at slots) (sym x.here) ∙ x.had.there;
          made = x.made;
        })) x.leads

change-whole : (w : Window) (slots after : List Slot) (n k m : ℕ) (u : Version) → SoundPage w slots → IsChange w slots after n k
    → version_at after m ≡ Some u → is_replaced (has_aborted w) u.header ≡ true → SomeNext w after m
change-whole w slots after n k m u sound c at replaced = ⊎_elim
    (λ from. let was = sound.whole m u from replaced in record { place = was.place; next = change-forth w slots after n k m was.place c was.next })
    (λ x. ⊎_elim
    (λ y. ⊎_elim (λ off. absurd (not-hot (has_aborted w) u.header off replaced)) (λ z. record { place = k; next = ap (link w after) y.here ∙ z.2 }) y.leads)
    (λ new. absurd (not-deleted (has_aborted w) u.header new.deleter replaced)) x)
    (c.was m u at)

pub change-write : (w : Window) (slots after : List Slot) (n k : ℕ) → SoundPage w slots → IsChange w slots after n k → IsWrite w slots after n k
change-write w slots after n k sound c = record {
  few = c.few;
  kept = λ m t at. (c.kept m t at).0;
  was = λ m u at. ⊎_elim (λ from. inl (record { old = u; there = from; same = same-version w u })) (λ x. ⊎_elim (λ y. inl y.had) (λ new. inr new) x) (c.was m u at);
  redirect_kept = c.redirect_kept;
  redirect_was = c.redirect_was;
  forth = λ a b next. change-forth w slots after n k a b c next;
  back = λ a b next. change-back w slots after n k a b sound c next;
  whole = λ m u at replaced. change-whole w slots after n k m u sound c at replaced;
  linked = c.linked;
}
