-- Writes and pruning leave the entries right.
use Rattle.std.proofs.Common.{◌≡◌, ◌≤◌, ℕ, ℤ, Bool, true, false, List, Option, Some, None, refl, sym, ap, ◌∙◌, subst, ⊎_elim, inl, inr}
use Rattle.std.specs.Option.{option_map, option_and_then}
use Rattle.std.proofs.lemmas.Bool.{cases_eq}
use Rattle.std.proofs.lemmas.Option.{same_Some}
use Rattle.tuple_header.specs.Version.{Version}
use Rattle.tuple_header.specs.declared.version.Row.{Row}
use Rattle.page_sheet.specs.declared.slot.Slot.{Slot}
use Rattle.page_sheet.specs.declared.slot.Slot.TheVariants.{Unused, Normal, Dead}
use Rattle.page_sheet.specs.Slots.{slot_at, version_at, version_of, free_number}
use Rattle.page_sheet.proofs.SlotLemmas.{there-from_slot_at, slot_at-from_version_at, version_at-from_slot_at, free_number-was, slot_at-with_added}
use Rattle.commit_status.specs.declared.status.Status.TheVariants.{InProgress, Committed, Aborted}
use Rattle.commit_status.specs.Window.{Window, IsActive}
use Rattle.visibility.specs.Visible.{IsDead}
use Rattle.sound_page.proofs.Undone.{committed-some}
use Rattle.hot_chain.specs.Chain.{has_aborted, is_root, is_root_in}
use Rattle.prune_actions.specs.declared.Action.{Action}
use Rattle.prune.specs.Actions.{acted}
use Rattle.prune.specs.Pruning.{PrunesSlot, by_root, by_none, IsPruned, loose_in, orphan_action}
use Rattle.sound_page.specs.Sound.{lead, IsIn, SoundPage}
use Rattle.sound_page.proofs.Links.{member-version}
use Rattle.sound_page.proofs.ChainPlaces.{place-of}
use Rattle.prune.specs.Thinning.{IsThinned}
use Rattle.prune.proofs.Thinned.{thinned-sound, thinned-keeps_chains, thinned-dead}
use Rattle.prune.proofs.Thins.{pruned-thins}
use Rattle.tuple_writes.specs.Headers.{root_header, heap_only_header, replaced_header}
use Rattle.tuple_writes.specs.Writes.{with_root, with_replaced, with_updated}
use Rattle.tuple_writes.specs.Keeps.{IsDeletable, KeepsEntries}
use Rattle.tuple_writes.specs.Laws.{AddsRoot, SetsXmaxOnPage, HotUpdatesPage}
use Rattle.tuple_writes.proofs.Growth.{none-some}
use Rattle.tuple_writes.proofs.Slotted.{root-added, taken-away, updated-here, replaced-at, updated-slots}
use Rattle.index_entries.specs.declared.entry.Entry.{Entry}
use Rattle.index_entries.specs.Sets.{AddsEntry, IsOf}
use Rattle.root_index.specs.Rows.{entry_for}
use Rattle.index_lookup.specs.Pages.{slots_on, version_in, Puts}
use Rattle.sound_entries.specs.Entries.{SoundHeap, MayBeTarget, IsExcused, EntriesAreSound, KeepsTarget, same_version, led_on, died, StaysSound}
use Rattle.sound_entries.proofs.Leads.{chained-version}
use Rattle.sound_entries.proofs.Going.{Resembles, PageGoesOn, stays-as, page-same, in-root, puts-pages, stay-sound, stay-led, add-sound}

-- A slot for a new version.

-- no entry leads to a slot for a new version
free-unled : (slots : List Slot) → ¬ MayBeTarget (slot_at slots (free_number slots))
free-unled slots may = ⊎_elim
    (λ none. not-none (subst (λ o. MayBeTarget o) none may))
    (λ unused. not-unused (subst (λ o. MayBeTarget o) unused may))
    (free_number-was slots)
  where
    not-none : ¬ MayBeTarget None
    not-none m = ⊎_elim (λ e. cc) (λ e. cc) m

    not-unused : ¬ MayBeTarget (Some Unused)
    not-unused m = ⊎_elim (λ e. cc) (λ e. cc) m

-- nor is it in a chain
free-unchained : (w : Window) (slots : List Slot) (root : ℕ) → SoundPage w slots → ¬ IsIn w slots root (free_number slots)
free-unchained w slots root sound i =
    let v = chained-version w slots root (free_number slots) sound i in
    ⊎_elim
    (λ none. none-some (version_at slots (free_number slots)) v.version (ap (option_and_then version_of) none) v.there)
    (λ unused. none-some (version_at slots (free_number slots)) v.version (ap (option_and_then version_of) unused) v.there)
    (free_number-was slots)

-- What is left of a chain.

-- what a transaction may take away is not excused
deletable-needed : (w : Window) (since : Option ℕ) (slots : List Slot) (k : ℕ) (t : Version) → IsDeletable w slots k → version_at slots k ≡ Some t → ¬ IsExcused w since t
deletable-needed w None slots k t f at none = none
deletable-needed w (Some since) slots k t f at dead =
    let one : f.version ≡ t = same_Some f.version t (sym f.there ∙ at) in
    by (subst (λ (z : Version). IsDead w since z.header) (sym one) dead)
  where
    by : IsDead w since f.version.header → ⊥
    by (IsDead.never_was thawed gone) = ⊎_elim (λ frozen. thawed frozen)
        (λ alive. ⊎_elim (λ done. let e : Aborted ≡ Committed = sym gone ∙ done in cc) (λ active. let e : Aborted ≡ InProgress = sym gone ∙ active in cc) alive) f.made
    by (IsDead.is_past done before) = ⊎_elim
        (λ none. committed-some w f.version.header.xmax.0 done none)
        (λ gone. let e : Committed ≡ Aborted = sym done ∙ gone in cc)
        f.untaken

-- a version in a slot that is as it was
same-resembles : (value_of : Row → ℤ) (since : Option ℕ) (w : Window) (slots after : List Slot) (root n : ℕ) (t : Version) → IsIn w slots root n → slot_at after n ≡ slot_at slots n
    → version_at after n ≡ Some t → Resembles value_of since w w slots root t
same-resembles value_of since w slots after root n t i same at = record {
  place = n;
  version = t;
  within = i;
  there = ap (option_and_then version_of) (sym same) ∙ at;
  value = refl;
  key = refl;
  excused = λ excused. excused;
}

-- a version that was not excused, and stays in its chain
needed-resembles : (value_of : Row → ℤ) (since : Option ℕ) (w : Window) (slots after : List Slot) (root n : ℕ) (t : Version) → SoundPage w slots → KeepsEntries w slots after
    → ((u : Version) → version_at slots n ≡ Some u → ¬ IsExcused w since u) → IsIn w slots root n → version_at after n ≡ Some t → Resembles value_of since w w slots root t
needed-resembles value_of since w slots after root n t sound keeps needed i at =
    let v = chained-version w slots root n sound i in
    let h = keeps.versions n v.version v.there in
    let row : t.row ≡ v.version.row = ap (λ (z : Version). z.row) (same_Some t h.version (sym at ∙ h.there)) ∙ h.row in
    record {
      place = n;
      version = v.version;
      within = i;
      there = v.there;
      value = ap value_of row;
      key = ap (λ (r : Row). r.key) row;
      excused = λ excused. absurd (needed v.version v.there excused);
    }

-- a version whose header alone changes
stays-replaced : (w : Window) (slots after : List Slot) (m : ℕ) (t u : Version) → KeepsEntries w slots after → slot_at slots m ≡ Some (Normal t) → slot_at after m ≡ Some (Normal u)
    → u.row ≡ t.row → u.header.xmin.0 ≡ t.header.xmin.0 → MayBeTarget (slot_at slots m) → MayBeTarget (slot_at after m) × KeepsTarget (slot_at slots m) (slot_at after m)
stays-replaced w slots after m t u keeps here put row inserter may = (
  ⊎_elim (λ root. inl (keeps.roots m root)) (λ dead. absurd (let e : Some Dead ≡ Some (Normal t) = sym dead ∙ here in cc)) may,
  same_version t u here put row inserter,
)

-- Each step on its page.

adds-page : (value_of : Row → ℤ) (since : Option ℕ) (w : Window) (slots after : List Slot) → SoundPage w slots → AddsRoot w slots after (free_number slots)
    → PageGoesOn value_of since w w slots after (λ n. n ≡ free_number slots)
adds-page value_of since w slots after sound a = record {
  stays = λ n may. ⊎_elim
      (λ here. absurd (free-unled slots (subst (λ k. MayBeTarget (slot_at slots k)) here may)))
      (λ other. stays-as (slot_at slots n) (slot_at after n) (a.others n other) may)
      (cases_eq n (free_number slots));
  chains = λ root n t i at. ⊎_elim
      (λ old. inl (same-resembles value_of since w slots after root n t old
      (a.others n (λ here. free-unchained w slots root sound (subst (λ k. IsIn w slots root k) here old))) at))
      (λ new. inr new.0)
      (a.chains.1 root n i);
}

-- the chain of a new root is the new version
own-chain : (value_of : Row → ℤ) (w : Window) (n : ℕ) (slots after : List Slot) (new : Version) → AddsRoot w slots after (free_number slots)
    → slot_at after (free_number slots) ≡ Some (Normal new) → (i : ℕ) (t : Version) → IsIn w after (free_number slots) i → version_at after i ≡ Some t
    → IsOf (value_of t.row) t.row.key (entry_for value_of new.row n (free_number slots))
own-chain value_of w n slots after new a added i t within at = ⊎_elim
    (λ was. absurd (free-unled slots (inl (in-root w slots (free_number slots) i was))))
    (λ here.
    let one : t ≡ new = same_Some t new (sym at ∙ ap (version_at after) here.1 ∙ version_at-from_slot_at after (free_number slots) new added) in
    (ap (λ (z : Version). value_of z.row) (sym one), ap (λ (z : Version). z.row.key) (sym one)))
    (a.chains.1 (free_number slots) i within)

takes-page : (value_of : Row → ℤ) (since : Option ℕ) (w : Window) (k x page place : ℕ) (slots : List Slot) → SoundPage w slots → IsDeletable w slots k
    → SetsXmaxOnPage w slots (with_replaced slots k x page place false) k → PageGoesOn value_of since w w slots (with_replaced slots k x page place false) (λ n. ⊥)
takes-page value_of since w k x page place slots sound f a =
    let after = with_replaced slots k x page place false in
    let t = f.version in
    let here = slot_at-from_version_at slots k t f.there in
    record {
      stays = λ n may. ⊎_elim
          (λ same. subst (λ i. MayBeTarget (slot_at slots i) → MayBeTarget (slot_at after i) × KeepsTarget (slot_at slots i) (slot_at after i)) (sym same)
          (stays-replaced w slots after k t (record t { header = replaced_header t.header x page place false }) a.entries here (replaced-at slots k x page place false t here) refl refl) may)
          (λ other. stays-as (slot_at slots n) (slot_at after n) (a.others n other) may)
          (cases_eq n k);
      chains = λ root n u i at. inl (⊎_elim
          (λ same. needed-resembles value_of since w slots after root n u sound a.entries
          (λ v there. deletable-needed w since slots k v f (subst (λ i. version_at slots i ≡ Some v) same there)) (a.chains root n i) at)
          (λ other. same-resembles value_of since w slots after root n u (a.chains root n i) (a.others n other) at)
          (cases_eq n k));
    }

updates-page : (value_of : Row → ℤ) (since : Option ℕ) (w : Window) (k x page : ℕ) (slots : List Slot) (row : Row) (old : Version) → SoundPage w slots → IsDeletable w slots k → free_number slots ≤ 291
    → version_at slots k ≡ Some old → value_of row ≡ value_of old.row → row.key ≡ old.row.key
    → HotUpdatesPage w slots (with_updated slots k x page row) k (free_number slots) → PageGoesOn value_of since w w slots (with_updated slots k x page row) (λ n. ⊥)
updates-page value_of since w k x page slots row old sound f few there value key a =
    let after = with_updated slots k x page row in
    let free = free_number slots in
    let here = slot_at-from_version_at slots k old there in
    let r = updated-slots slots k x page row old sound.few few here in
    let new : Version = record { header = heap_only_header x page free; row = row } in
    record {
      stays = λ n may. ⊎_elim
          (λ same. subst (λ i. MayBeTarget (slot_at slots i) → MayBeTarget (slot_at after i) × KeepsTarget (slot_at slots i) (slot_at after i)) (sym same)
          (stays-replaced w slots after k old (record old { header = replaced_header old.header x page free true }) a.entries here r.put refl refl) may)
          (λ off. ⊎_elim
          (λ same. absurd (free-unled slots (subst (λ i. MayBeTarget (slot_at slots i)) same may)))
          (λ other. stays-as (slot_at slots n) (slot_at after n) (a.others n off other) may)
          (cases_eq n free))
          (cases_eq n k);
      chains = λ root n t i at. ⊎_elim
          (λ was. inl (⊎_elim
          (λ same. needed-resembles value_of since w slots after root n t sound a.entries
          (λ v at_k. deletable-needed w since slots k v f (subst (λ i. version_at slots i ≡ Some v) same at_k)) was at)
          (λ other. same-resembles value_of since w slots after root n t was
          (a.others n other (λ here. free-unchained w slots root sound (subst (λ i. IsIn w slots root i) here was))) at)
          (cases_eq n k)))
          (λ y.
          let one : t ≡ new = same_Some t new (sym at ∙ ap (version_at after) y.1 ∙ version_at-from_slot_at after free new r.added) in
          inl (record {
            place = k;
            version = old;
            within = y.0;
            there = there;
            value = ap (λ (z : Version). value_of z.row) one ∙ value;
            key = ap (λ (z : Version). z.row.key) one ∙ key;
            excused = λ excused. absurd (deletable-needed w since slots k old f there excused);
          }))
          (a.chains.1 root n i);
    }

pub dead-stays : (w : Window) (horizon : ℕ) (slots after : List Slot) (n : ℕ) → IsPruned w horizon slots after → slot_at slots n ≡ Some Dead → slot_at after n ≡ Some Dead
dead-stays w horizon slots after n p at =
    let each = p.each n (there-from_slot_at slots n Dead at) in
    by each.answer each.does each.is
  where
    by : (o : Option Action) → PrunesSlot w horizon slots n o → slot_at after n ≡ acted (slot_at slots n) o → slot_at after n ≡ Some Dead
    by o (by_root root chain cut i c e) is = absurd (⊎_elim
        (λ same. let off : false ≡ true = ap is_root_in (sym at) ∙ ap (is_root slots) same ∙ i.starts in cc)
        (λ holds.
        let q = place-of n chain holds in
        let v = member-version (has_aborted w) slots root chain q.0 i.is_chain q.1 in
        none-some (version_at slots n) v.version (ap (option_and_then version_of) at) (ap (version_at slots) (sym q.2) ∙ v.there))
        i.holds)
    by o (by_none loose e) is =
        let none : orphan_action w slots n ≡ None = ap (λ (s : Option Slot). loose_in w (option_map (λ t. t.header) (option_and_then version_of s))) at in
        is ∙ ap (acted (slot_at slots n)) (e ∙ none) ∙ at

thins-page : (value_of : Row → ℤ) (since : Option ℕ) (w : Window) (horizon : ℕ) (slots after : List Slot) → SoundPage w slots → IsThinned w horizon slots after
    → PageGoesOn value_of since w w slots after (λ n. ⊥)
thins-page value_of since w horizon slots after sound p =
    let chains = thinned-keeps_chains w horizon slots after sound p in
    record {
      stays = λ n may. ⊎_elim
          (λ root. ⊎_elim
          (λ same. stays-as (slot_at slots n) (slot_at after n) same may)
          (λ led. leads n root led.0 led.1)
          (chains.roots n root))
          (λ dead. let is = thinned-dead w horizon slots after n p dead in (inr is, died is))
          may;
      chains = λ root n t i at. inl (record {
        place = n;
        version = t;
        within = chains.no_new root n i;
        there = p.removes.kept n t at;
        value = refl;
        key = refl;
        excused = λ excused. excused;
      });
    }
  where
    leads : (n : ℕ) → is_root slots n ≡ true → (kept : Option ℕ) → slot_at after n ≡ Some (lead kept) → MayBeTarget (slot_at after n) × KeepsTarget (slot_at slots n) (slot_at after n)
    leads n root None is = (inr is, died is)
    leads n root (Some k) is = (inl (ap is_root_in is), led_on k root is)

-- Each step on the pages.

pub heap-puts : (w : Window) (n : ℕ) (pages pages' : List (List Slot)) (after : List Slot) → SoundHeap w pages → Puts pages pages' n after → SoundPage w after
    → SoundHeap w pages'
heap-puts w n pages pages' after heap puts sound m = ⊎_elim
    (λ same. subst (λ k. SoundPage w (slots_on pages' k)) (sym same) (subst (SoundPage w) (sym puts.put) sound))
    (λ other. subst (SoundPage w) (sym (puts.others m other)) (heap m))
    (cases_eq m n)

stays-on : (value_of : Row → ℤ) (since : Option ℕ) (w : Window) (n : ℕ) (pages pages' : List (List Slot)) (entries : List Entry) (after : List Slot) → EntriesAreSound value_of since w pages entries
    → Puts pages pages' n after → SoundPage w after → PageGoesOn value_of since w w (slots_on pages n) after (λ k. ⊥) → StaysSound value_of since w pages pages' entries entries
stays-on value_of since w n pages pages' entries after sound puts page step =
    let goes = puts-pages value_of since w pages pages' n after (λ m k. ⊥) puts step in
    record {
      sound = record {
        heap = heap-puts w n pages pages' after sound.heap puts page;
        index = stay-sound value_of since w w pages pages' entries sound.index goes;
      };
      led = stay-led value_of since w w pages pages' entries sound.index (λ m k. ⊥) goes entries;
    }

pub taking-stays : (value_of : Row → ℤ) (since : Option ℕ) (w : Window) (n k x page place : ℕ) (pages pages' : List (List Slot)) (entries : List Entry)
    → EntriesAreSound value_of since w pages entries → IsActive w x → IsDeletable w (slots_on pages n) k
    → Puts pages pages' n (with_replaced (slots_on pages n) k x page place false)
    → StaysSound value_of since w pages pages' entries entries
taking-stays value_of since w n k x page place pages pages' entries sound active free puts =
    let slots = slots_on pages n in
    let a = taken-away w k x page place slots (sound.heap n) active free in
    stays-on value_of since w n pages pages' entries (with_replaced slots k x page place false) sound puts a.sound (takes-page value_of since w k x page place slots (sound.heap n) free a)

pub updating-stays : (value_of : Row → ℤ) (since : Option ℕ) (w : Window) (n k x page : ℕ) (pages pages' : List (List Slot)) (entries : List Entry) (row : Row) (old : Version)
    → EntriesAreSound value_of since w pages entries → IsActive w x → IsDeletable w (slots_on pages n) k → free_number (slots_on pages n) ≤ 291
    → version_in pages (record { page = n; slot = k }) ≡ Some old → value_of row ≡ value_of old.row → row.key ≡ old.row.key
    → Puts pages pages' n (with_updated (slots_on pages n) k x page row)
    → StaysSound value_of since w pages pages' entries entries
updating-stays value_of since w n k x page pages pages' entries row old sound active free few there value key puts =
    let slots = slots_on pages n in
    let a = updated-here w k x page slots row (sound.heap n) active free few in
    stays-on value_of since w n pages pages' entries (with_updated slots k x page row) sound puts a.sound
    (updates-page value_of since w k x page slots row old (sound.heap n) free few there value key a)

pub thinning-stays : (value_of : Row → ℤ) (since : Option ℕ) (w : Window) (horizon n : ℕ) (pages pages' : List (List Slot)) (entries : List Entry) (after : List Slot)
    → EntriesAreSound value_of since w pages entries → IsThinned w horizon (slots_on pages n) after → Puts pages pages' n after
    → StaysSound value_of since w pages pages' entries entries
thinning-stays value_of since w horizon n pages pages' entries after sound p puts =
    stays-on value_of since w n pages pages' entries after sound puts (thinned-sound w horizon (slots_on pages n) after (sound.heap n) p)
    (thins-page value_of since w horizon (slots_on pages n) after (sound.heap n) p)

pub pruning-stays : (value_of : Row → ℤ) (since : Option ℕ) (w : Window) (horizon n : ℕ) (pages pages' : List (List Slot)) (entries : List Entry) (after : List Slot)
    → EntriesAreSound value_of since w pages entries → IsPruned w horizon (slots_on pages n) after → Puts pages pages' n after
    → StaysSound value_of since w pages pages' entries entries
pruning-stays value_of since w horizon n pages pages' entries after sound p puts =
    thinning-stays value_of since w horizon n pages pages' entries after sound (pruned-thins w horizon (slots_on pages n) after p (sound.heap n)) puts

pub growing-stays : (value_of : Row → ℤ) (since : Option ℕ) (w : Window) (n : ℕ) (pages pages' : List (List Slot)) (entries : List Entry)
    → EntriesAreSound value_of since w pages entries → Puts pages pages' n (slots_on pages n) → StaysSound value_of since w pages pages' entries entries
growing-stays value_of since w n pages pages' entries sound puts =
    stays-on value_of since w n pages pages' entries (slots_on pages n) sound puts (sound.heap n) (page-same value_of since w w (slots_on pages n) (λ k. ⊥) (λ root k i. i) (λ k t at excused. excused))

pub adding-stays : (value_of : Row → ℤ) (since : Option ℕ) (w : Window) (x n : ℕ) (pages pages' : List (List Slot)) (entries entries' : List Entry) (updated : Bool) (row : Row)
    → EntriesAreSound value_of since w pages entries → IsActive w x → free_number (slots_on pages n) ≤ 291
    → Puts pages pages' n (with_root (slots_on pages n) updated x n row) → AddsEntry entries entries' (entry_for value_of row n (free_number (slots_on pages n)))
    → StaysSound value_of since w pages pages' entries entries'
adding-stays value_of since w x n pages pages' entries entries' updated row sound active few puts adds =
    let slots = slots_on pages n in
    let k = free_number slots in
    let new : Version = record { header = root_header updated x n k; row = row } in
    let after = with_root slots updated x n row in
    let a = root-added w x n slots updated row (sound.heap n) active few in
    let added : slot_at after k ≡ Some (Normal new) = slot_at-with_added slots (Normal new) in
    let step = adds-page value_of since w slots after (sound.heap n) a in
    let goes = puts-pages value_of since w pages pages' n after (λ m i. (m ≡ n) × (i ≡ k)) puts (record {
      stays = step.stays;
      chains = λ root i t within at. ⊎_elim (λ was. inl was) (λ here. inr (refl, here)) (step.chains root i t within at);
    }) in
    record {
      sound = record {
        heap = heap-puts w n pages pages' after sound.heap puts a.sound;
        index = add-sound value_of since w w pages pages' entries sound.index (entry_for value_of row n k) entries' goes adds (free-unled slots)
            (inl (subst (λ s. is_root s k ≡ true) (sym puts.put) (in-root w after k k a.chains.0)))
            (subst (λ s. (i : ℕ) (t : Version) → IsIn w s k i → version_at s i ≡ Some t → IsOf (value_of t.row) t.row.key (entry_for value_of row n k)) (sym puts.put)
            (λ i t within at. own-chain value_of w n slots after new a added i t within at));
      };
      led = stay-led value_of since w w pages pages' entries sound.index (λ m i. (m ≡ n) × (i ≡ k)) goes entries';
    }
