-- What a step does to each page, so that the entries stay right.
use Rattle.std.proofs.Common.{◌≡◌, ◌⊎◌, ℕ, ℤ, true, false, List, Option, Some, None, refl, sym, ap, ◌∙◌, subst, ⊎_elim, inl, inr}
use Rattle.std.specs.List.{Contains}
use Rattle.std.proofs.lemmas.Bool.{cases_eq}
use Rattle.xid_circle.specs.declared.Tid.{Tid}
use Rattle.xid_circle.proofs.Tids.{same-tid}
use Rattle.tuple_header.specs.Version.{Version}
use Rattle.tuple_header.specs.declared.version.Row.{Row}
use Rattle.page_sheet.specs.declared.slot.Slot.{Slot}
use Rattle.page_sheet.specs.declared.slot.Slot.TheVariants.{Unused, Normal, Redirect, Dead}
use Rattle.page_sheet.specs.Slots.{slot_at, version_at}
use Rattle.commit_status.specs.Window.{Window}
use Rattle.hot_chain.specs.Chain.{is_root, is_root_in}
use Rattle.sound_page.specs.Sound.{IsIn}
use Rattle.sound_page.proofs.SoundChains.{entry-root}
use Rattle.index_entries.specs.declared.entry.Entry.{Entry}
use Rattle.index_entries.specs.Sets.{AddsEntry, IsOf}
use Rattle.index_lookup.specs.Pages.{slots_on, slot_in, Puts}
use Rattle.sound_entries.specs.Entries.{MayBeTarget, SomeEntry, IsExcused, SoundEntries, KeepsTarget, same_version, led_on, died, KeepsTargets}

-- what is excused on the page stays so
abbrev pub StaysExcused : Option ℕ → Window → Window → List Slot → Type 0
StaysExcused since w v slots = (n : ℕ) (t : Version) → version_at slots n ≡ Some t → IsExcused w since t → IsExcused v since t

-- a version of the chain had the same value and the same key, and was not excused if this one is not
pub record Resembles (value_of : Row → ℤ) (since : Option ℕ) (w v : Window) (slots : List Slot) (root : ℕ) (t : Version) : Type 0 where
  pub place : ℕ
  pub version : Version
  pub within : IsIn w slots root place
  pub there : version_at slots place ≡ Some version
  pub value : value_of t.row ≡ value_of version.row
  pub key : t.row.key ≡ version.row.key
  pub excused : IsExcused w since version → IsExcused v since t

-- a step on a page, on which these roots are new
pub record PageGoesOn (value_of : Row → ℤ) (since : Option ℕ) (w v : Window) (slots after : List Slot) (IsNew : ℕ → Type 0) : Type 0 where
  pub stays : (n : ℕ) → MayBeTarget (slot_at slots n) → MayBeTarget (slot_at after n) × KeepsTarget (slot_at slots n) (slot_at after n)
  pub chains : (root n : ℕ) (t : Version) → IsIn v after root n → version_at after n ≡ Some t → Resembles value_of since w v slots root t ⊎ IsNew root

-- the root of a chain is one
pub in-root : (w : Window) (slots : List Slot) (root n : ℕ) → IsIn w slots root n → is_root slots root ≡ true
in-root w slots root n i = entry-root slots root i.entry i.leads

-- A slot that is as it was.

pub stays-same : (o : Option Slot) → MayBeTarget o → KeepsTarget o o
stays-same None may = absurd (⊎_elim (λ e. cc) (λ e. cc) may)
stays-same (Some Unused) may = absurd (⊎_elim (λ e. cc) (λ e. cc) may)
stays-same (Some (Normal t)) may = same_version t t refl refl refl refl
stays-same (Some (Redirect k)) may = led_on k refl refl
stays-same (Some Dead) may = died refl

pub stays-as : (o p : Option Slot) → p ≡ o → MayBeTarget o → MayBeTarget p × KeepsTarget o p
stays-as o p same may = subst (λ (q : Option Slot). MayBeTarget q × KeepsTarget o q) (sym same) (may, stays-same o may)

-- a page with the same slots, whose chains have nothing new
pub page-same : (value_of : Row → ℤ) (since : Option ℕ) (w v : Window) (slots : List Slot) (IsNew : ℕ → Type 0) → ((root n : ℕ) → IsIn v slots root n → IsIn w slots root n)
    → StaysExcused since w v slots → PageGoesOn value_of since w v slots slots IsNew
page-same value_of since w v slots IsNew back stays = record {
  stays = λ n may. (may, stays-same (slot_at slots n) may);
  chains = λ root n t i at. inl (record { place = n; version = t; within = back root n i; there = at; value = refl; key = refl; excused = stays n t at });
}

-- the pages, where one changes
pub puts-pages : (value_of : Row → ℤ) (since : Option ℕ) (w : Window) (pages pages' : List (List Slot)) (n : ℕ) (after : List Slot) (IsNew : ℕ → ℕ → Type 0) → Puts pages pages' n after
    → PageGoesOn value_of since w w (slots_on pages n) after (IsNew n) → (m : ℕ) → PageGoesOn value_of since w w (slots_on pages m) (slots_on pages' m) (IsNew m)
puts-pages value_of since w pages pages' n after IsNew puts step m = ⊎_elim
    (λ same. subst (λ k. PageGoesOn value_of since w w (slots_on pages k) (slots_on pages' k) (IsNew k)) (sym same)
    (subst (λ slots. PageGoesOn value_of since w w (slots_on pages n) slots (IsNew n)) (sym puts.put) step))
    (λ other. subst (λ slots. PageGoesOn value_of since w w (slots_on pages m) slots (IsNew m)) (sym (puts.others m other))
    (page-same value_of since w w (slots_on pages m) (IsNew m) (λ root k i. i) (λ k t at excused. excused)))
    (cases_eq m n)

-- The entries stay.

module _ (value_of : Row → ℤ) (since : Option ℕ) (w v : Window) (pages pages' : List (List Slot)) (entries : List Entry) (sound : SoundEntries value_of since w pages entries) where
  led-as : (p : Tid) (t : Version) → Resembles value_of since w v (slots_on pages p.page) p.slot t → IsExcused v since t ⊎ SomeEntry entries p
  led-as p t r = ⊎_elim (λ was. inl (r.excused was)) (λ some. inr some) (sound.led p r.place r.version r.within r.there)

  alike-as : (e : Entry) (t : Version) → Contains entries e → Resembles value_of since w v (slots_on pages e.tid.page) e.tid.slot t → IsExcused v since t ⊎ IsOf (value_of t.row) t.row.key e
  alike-as e t there r = ⊎_elim (λ was. inl (r.excused was)) (λ of. inr (of.0 ∙ sym r.value, of.1 ∙ sym r.key)) (sound.alike e r.place r.version there r.within r.there)

  pub stay-sound : ((m : ℕ) → PageGoesOn value_of since w v (slots_on pages m) (slots_on pages' m) (λ n. ⊥)) → SoundEntries value_of since v pages' entries
  stay-sound goes = record {
    leads = λ e there. ((goes e.tid.page).stays e.tid.slot (sound.leads e there)).0;
    led = λ p n t i at. ⊎_elim (λ r. led-as p t r) (λ new. absurd new) ((goes p.page).chains p.slot n t i at);
    one = sound.one;
    alike = λ e n t there i at. ⊎_elim (λ r. alike-as e t there r) (λ new. absurd new) ((goes e.tid.page).chains e.tid.slot n t i at);
  }

  pub stay-led : (IsNew : ℕ → ℕ → Type 0) → ((m : ℕ) → PageGoesOn value_of since w v (slots_on pages m) (slots_on pages' m) (IsNew m))
      → (entries' : List Entry) → KeepsTargets pages pages' entries entries'
  stay-led IsNew goes entries' e there after = ((goes e.tid.page).stays e.tid.slot (sound.leads e there)).1

  -- an entry comes, with the one new root
  pub add-sound : (new : Entry) (entries' : List Entry)
      → ((m : ℕ) → PageGoesOn value_of since w v (slots_on pages m) (slots_on pages' m) (λ n. (m ≡ new.tid.page) × (n ≡ new.tid.slot)))
      → AddsEntry entries entries' new → ¬ MayBeTarget (slot_in pages new.tid) → MayBeTarget (slot_in pages' new.tid)
      → ((n : ℕ) (t : Version) → IsIn v (slots_on pages' new.tid.page) new.tid.slot n → version_at (slots_on pages' new.tid.page) n ≡ Some t → IsOf (value_of t.row) t.row.key new)
      → SoundEntries value_of since v pages' entries'
  add-sound new entries' goes adds was is own = record {
    leads = λ e there. ⊎_elim
        (λ old. ((goes e.tid.page).stays e.tid.slot (sound.leads e old)).0)
        (λ same. subst (λ (f : Entry). MayBeTarget (slot_in pages' f.tid)) (sym same) is)
        ((adds.members e).0 there);
    led = λ p n t i at. ⊎_elim
        (λ r. ⊎_elim
        (λ excused. inl excused)
        (λ s. inr (record { entry = s.entry; there = (adds.members s.entry).1 (inl s.there); at = s.at }))
        (led-as p t r))
        (λ here. inr (record { entry = new; there = (adds.members new).1 (inr refl); at = sym (same-tid p new.tid here.0 here.1) }))
        ((goes p.page).chains p.slot n t i at);
    one = λ e f there among same. ⊎_elim
        (λ old. ⊎_elim
        (λ too. sound.one e f old too same)
        (λ now. absurd (not-new e old (same ∙ ap (λ (g : Entry). g.tid) now)))
        ((adds.members f).0 among))
        (λ now. ⊎_elim
        (λ too. absurd (not-new f too (sym same ∙ ap (λ (g : Entry). g.tid) now)))
        (λ also. now ∙ sym also)
        ((adds.members f).0 among))
        ((adds.members e).0 there);
    alike = λ e n t there i at. ⊎_elim
        (λ old. ⊎_elim
        (λ r. alike-as e t old r)
        (λ here. absurd (not-new e old (same-tid e.tid new.tid here.0 here.1)))
        ((goes e.tid.page).chains e.tid.slot n t i at))
        (λ now. inr (subst (λ (f : Entry). IsIn v (slots_on pages' f.tid.page) f.tid.slot n → version_at (slots_on pages' f.tid.page) n ≡ Some t → IsOf (value_of t.row) t.row.key f)
        (sym now) (λ j there. own n t j there) i at))
        ((adds.members e).0 there);
  }
    where
      not-new : (e : Entry) → Contains entries e → e.tid ≡ new.tid → ⊥
      not-new e there same = was (subst (λ (p : Tid). MayBeTarget (slot_in pages p)) same (sound.leads e there))

-- Two steps.

pub stays-then : (a b c : Option Slot) → MayBeTarget a → KeepsTarget a b → KeepsTarget b c → KeepsTarget a c
stays-then a b c may (KeepsTarget.same_version t u here there row inserter) (KeepsTarget.same_version u2 x from to row2 maker2) =
    let one : u ≡ u2 = normal-one u u2 (sym there ∙ from) in
    same_version t x here to (row2 ∙ ap (λ (z : Version). z.row) (sym one) ∙ row) (maker2 ∙ ap (λ (z : Version). z.header.xmin.0) (sym one) ∙ inserter)
  where
    normal-one : (x y : Version) → Some (Normal x) ≡ Some (Normal y) → x ≡ y
    normal-one x y e = cc
stays-then a b c may (KeepsTarget.same_version t u here there row inserter) (KeepsTarget.led_on k root to) =
    led_on k (⊎_elim (λ is. is) (λ dead. absurd (let e : Some Dead ≡ Some (Normal t) = sym dead ∙ here in cc)) may) to
stays-then a b c may (KeepsTarget.same_version t u here there row inserter) (KeepsTarget.died to) = died to
stays-then a b c may (KeepsTarget.led_on j root there) (KeepsTarget.same_version u x from to row inserter) =
    absurd (let e : Some (Redirect j) ≡ Some (Normal u) = sym there ∙ from in cc)
stays-then a b c may (KeepsTarget.led_on j root there) (KeepsTarget.led_on k root2 to) = led_on k root to
stays-then a b c may (KeepsTarget.led_on j root there) (KeepsTarget.died to) = died to
stays-then a b c may (KeepsTarget.died there) (KeepsTarget.same_version u x from to row inserter) = absurd (let e : Some Dead ≡ Some (Normal u) = sym there ∙ from in cc)
stays-then a b c may (KeepsTarget.died there) (KeepsTarget.led_on k root to) = absurd (let e : false ≡ true = ap is_root_in (sym there) ∙ root in cc)
stays-then a b c may (KeepsTarget.died there) (KeepsTarget.died to) = died to

pub led-then : (value_of : Row → ℤ) (since : Option ℕ) (w : Window) (a b c : List (List Slot)) (xs ys zs : List Entry) → SoundEntries value_of since w a xs
    → ((e : Entry) → Contains xs e → Contains ys e) → KeepsTargets a b xs ys → KeepsTargets b c ys zs → KeepsTargets a c xs zs
led-then value_of since w a b c xs ys zs sound more first second e there among =
    stays-then (slot_in a e.tid) (slot_in b e.tid) (slot_in c e.tid) (sound.leads e there) (first e there (more e there)) (second e (more e there) among)
