-- What stands at each place after each change of a table.
use Rattle.std.proofs.Common.{◌≡◌, ◌≢◌, ◌⊎◌, ℕ, zero, suc, Bool, true, false, List, [], ◌∷◌, map, Option, Some, None, refl, sym, ap, ◌∙◌, subst, ⊎_elim, inl, inr, eq-eqb, eqb-true}
use Rattle.std.specs.Prelude.{◌++◌, slice_get, slice_set, slice_index_or, ◌==◌, ◌&&◌, if◌then◌else◌}
use Rattle.std.specs.Option.{option_map, option_and_then}
use Rattle.std.proofs.lemmas.Bool.{cases_eq}
use Rattle.std.proofs.lemmas.Option.{slice_get_within, none-some}
use Rattle.xid_circle.specs.declared.Tid.{Tid}
use Rattle.xid_circle.proofs.Tids.{same-tid}
use Rattle.tuple_header.specs.Version.{Version, rounded_size_of}
use Rattle.tuple_header.specs.Marks.{is_frozen}
use Rattle.tuple_header.specs.declared.version.Row.{Row}
use Rattle.page_sheet.specs.declared.slot.Slot.{Slot}
use Rattle.page_sheet.specs.declared.slot.Slot.TheVariants.{Normal}
use Rattle.page_sheet.specs.Slots.{version_at, version_of, row_at, with_added, free_number}
use Rattle.page_slots.specs.View.{PageView}
use Rattle.page_sheet.proofs.SlotLemmas.{normal_at, slot_at-from_version_at, version_at-from_slot_at, free_number-not_normal, slot_at-with_added, slot_at-with_added_other}
use Rattle.tuple_writes.specs.Headers.{root_header, heap_only_header, replaced_header}
use Rattle.tuple_writes.specs.Writes.{with_root, with_heap_only, with_replaced, with_updated}
use Rattle.tuple_writes.proofs.Bits.{root-thawed}
use Rattle.tuple_writes.proofs.Slotted.{replaced-at, replaced-other}
use Rattle.prune_actions.specs.declared.Action.{Action}
use Rattle.prune.specs.Actions.{applied}
use Rattle.prune.specs.Cutting.{RemovesVersions, IsCut}
use Rattle.prune.proofs.CheckLemmas.{checks-removes}
use Rattle.index_lookup.specs.Pages.{slots_on, version_in, Puts}
use Rattle.index_lookup.proofs.PageLists.{slots-there, puts-with_page, puts-pushed}
use Rattle.snapshot.specs.Own.{Own}
use Rattle.heap_write.specs.Heap.{HeapView, slots_of, unused_page, page_on, PutsPage}
use Rattle.heap_write.specs.Writes.{PutsRoot, SetsXmax, HotUpdates, ColdUpdates, UpdatesOnPage, Replaces, PrunesIfFull, Prunes, Applies, Inserts, Updates, Deletes}
use Rattle.heap_write.proofs.PageLemmas.{slots-kept}
use Rattle.heap_write.proofs.Plans.{pruned-cut}
use Rattle.table_integrity.proofs.Memory.{cut-back}

-- Changes of what stands at each place.

-- a version is put where none was
pub record AddsAt (store store' : Tid → Option Version) (q : Tid) (new : Version) : Type 0 where
  pub here : store' q ≡ Some new
  pub unused : store q ≡ None
  pub others : (p : Tid) → p ≢ q → store' p ≡ store p

-- a version becomes another
pub record AltersAt (store store' : Tid → Option Version) (p : Tid) (old new : Version) : Type 0 where
  pub before : store p ≡ Some old
  pub here : store' p ≡ Some new
  pub others : (q : Tid) → q ≢ p → store' q ≡ store q

-- The pages of a table by their slots.

pub slots_on-page_on : (h : HeapView) (n : ℕ) → slots_on (slots_of h) n ≡ (page_on h n).slots
slots_on-page_on h n = by h.pages.pages n
  where
    by : (pages : List PageView) (n : ℕ) → slots_on (map (λ (p : PageView). p.slots) pages) n ≡ (slice_index_or pages n unused_page).slots
    by [] n = refl
    by (p ∷ ps) zero = refl
    by (p ∷ ps) (suc n) = by ps n

pub version-on : (h : HeapView) (p : Tid) → version_in (slots_of h) p ≡ version_at (page_on h p.page).slots p.slot
version-on h p = ap (λ slots. version_at slots p.slot) (slots_on-page_on h p.page)

pub row-there : (h : HeapView) (p : Tid) (t : Version) → version_in (slots_of h) p ≡ Some t → row_at (page_on h p.page).slots p.slot ≡ Some t.row
row-there h p t at = ap (option_map (λ (v : Version). v.row)) (sym (version-on h p) ∙ at)

pub puts-from : (h h' : HeapView) (n : ℕ) (page : PageView) → PutsPage h.pages h'.pages n page → Puts (slots_of h) (slots_of h') n page.slots
puts-from h h' n page (PutsPage.in_use within is marks) =
    subst (λ (pages : List PageView). Puts (slots_of h) (map (λ (p : PageView). p.slots) pages) n page.slots) (sym is) (puts-with_page h.pages n page within)
puts-from h h' n page (PutsPage.after_all end is marks) =
    subst (λ (pages : List PageView). Puts (slots_of h) (map (λ (p : PageView). p.slots) pages) n page.slots) (sym is)
    (subst (λ k. Puts (slots_of h) (map (λ (p : PageView). p.slots) (h.pages.pages ++ page ∷ [])) k page.slots) (sym end) (puts-pushed h.pages.pages page))

put-here : (pages pages' : List (List Slot)) (n : ℕ) (after : List Slot) (p : Tid) → Puts pages pages' n after → p.page ≡ n → version_in pages' p ≡ version_at after p.slot
put-here pages pages' n after p puts same = ap (λ slots. version_at slots p.slot) (ap (slots_on pages') same ∙ puts.put)

put-other : (pages pages' : List (List Slot)) (n : ℕ) (after : List Slot) (p : Tid) → Puts pages pages' n after → p.page ≢ n → version_in pages' p ≡ version_in pages p
put-other pages pages' n after p puts other = ap (λ slots. version_at slots p.slot) (puts.others p.page other)

-- One page changes.

-- a version is put at the free number of page n
adds-on : (h : HeapView) (pages' : List (List Slot)) (n : ℕ) (v : Version) → Puts (slots_of h) pages' n (with_added (page_on h n).slots (Normal v))
    → AddsAt (version_in (slots_of h)) (version_in pages') (record { page = n; slot = free_number (page_on h n).slots }) v
adds-on h pages' n v puts =
    let slots = (page_on h n).slots in
    let after = with_added slots (Normal v) in
    let k = free_number slots in
    record {
      here = put-here (slots_of h) pages' n after (record { page = n; slot = k }) puts refl ∙ ap (option_and_then version_of) (slot_at-with_added slots (Normal v));
      unused = version-on h (record { page = n; slot = k }) ∙ free_number-not_normal slots;
      others = λ p ne. ⊎_elim
          (λ same.
          put-here (slots_of h) pages' n after p puts same
          ∙ ap (option_and_then version_of) (slot_at-with_added_other slots p.slot (Normal v) (λ slot. ne (same-tid p (record { page = n; slot = k }) same slot)))
          ∙ ap (λ m. version_at (page_on h m).slots p.slot) (sym same) ∙ sym (version-on h p))
          (λ other. put-other (slots_of h) pages' n after p puts other)
          (cases_eq p.page n);
    }

-- the version that x took away, and whose successor is at this place
abbrev pub taken_version : Version → ℕ → Tid → Bool → Version
taken_version t x successor hot = record t { header = replaced_header t.header x successor.page successor.slot hot }

-- the version at a place is taken away from slots that hold it
alters-on : (before pages' : List (List Slot)) (slots : List Slot) (place : Tid) (x : ℕ) (successor : Tid) (hot : Bool) (t : Version) (store : Tid → Option Version)
    → Puts before pages' place.page (with_replaced slots place.slot x successor.page successor.slot hot)
    → version_at slots place.slot ≡ Some t
    → ((p : Tid) → p.page ≡ place.page → store p ≡ version_at slots p.slot) → ((p : Tid) → p.page ≢ place.page → store p ≡ version_in before p)
    → AltersAt store (version_in pages') place t (taken_version t x successor hot)
alters-on before pages' slots place x successor hot t store puts at here other =
    let after = with_replaced slots place.slot x successor.page successor.slot hot in
    let slot = slot_at-from_version_at slots place.slot t at in
    record {
      before = here place refl ∙ at;
      here = put-here before pages' place.page after place puts refl
          ∙ ap (option_and_then version_of) (replaced-at slots place.slot x successor.page successor.slot hot t slot);
      others = λ p ne. ⊎_elim
          (λ same.
          put-here before pages' place.page after p puts same
          ∙ ap (option_and_then version_of) (replaced-other slots place.slot x successor.page successor.slot hot t p.slot slot (λ e. ne (same-tid p place same e)))
          ∙ sym (here p same))
          (λ off. put-other before pages' place.page after p puts off ∙ sym (other p off))
          (cases_eq p.page place.page);
    }

-- A root comes.

-- where a new version goes on page n
abbrev pub free_place : HeapView → ℕ → Tid
free_place h n = record { page = n; slot = free_number (page_on h n).slots }

abbrev pub root_version : HeapView → Bool → ℕ → Row → ℕ → Version
root_version h updated x row n = record { header = root_header updated x n (free_number (page_on h n).slots); row = row }

pub root-puts : (h h' : HeapView) (updated : Bool) (x : ℕ) (row : Row) (n : ℕ) → PutsRoot h h' updated x row n
    → Puts (slots_of h) (slots_of h') n (with_root (page_on h n).slots updated x n row)
root-puts h h' updated x row n r = subst (Puts (slots_of h) (slots_of h') n) r.put.slots (puts-from h h' n r.put.page r.put.puts)

pub root-stands : (h h' : HeapView) (updated : Bool) (x : ℕ) (row : Row) (n : ℕ) → PutsRoot h h' updated x row n
    → AddsAt (version_in (slots_of h)) (version_in (slots_of h')) (free_place h n) (root_version h updated x row n)
root-stands h h' updated x row n r = adds-on h (slots_of h') n (root_version h updated x row n) (root-puts h h' updated x row n r)

-- A version is taken away.

pub away-puts : (h h' : HeapView) (place : Tid) (x : ℕ) (successor : Tid) → SetsXmax h h' place x successor
    → Puts (slots_of h) (slots_of h') place.page (with_replaced (page_on h place.page).slots place.slot x successor.page successor.slot false)
away-puts h h' place x successor a = subst (Puts (slots_of h) (slots_of h') place.page) a.put.slots (puts-from h h' place.page a.put.page a.put.puts)

pub away-stands : (h h' : HeapView) (place : Tid) (x : ℕ) (successor : Tid) (t : Version) → SetsXmax h h' place x successor → version_in (slots_of h) place ≡ Some t
    → AltersAt (version_in (slots_of h)) (version_in (slots_of h')) place t (taken_version t x successor false)
away-stands h h' place x successor t a at =
    alters-on (slots_of h) (slots_of h') (page_on h place.page).slots place x successor false t (version_in (slots_of h)) (away-puts h h' place x successor a)
    (sym (version-on h place) ∙ at) (λ p same. version-on h p ∙ ap (λ n. version_at (page_on h n).slots p.slot) same) (λ p off. refl)

-- A version is replaced on its page.

abbrev pub heap_only_version : HeapView → ℕ → Row → ℕ → Version
heap_only_version h x row n = record { header = heap_only_header x n (free_number (page_on h n).slots); row = row }

-- with this version at a place
abbrev pub with_version : (Tid → Option Version) → Tid → Version → Tid → Option Version
with_version store q v p = if p.page == q.page && p.slot == q.slot then Some v else store p

with-here : (store : Tid → Option Version) (q : Tid) (v : Version) (p : Tid) → p ≡ q → with_version store q v p ≡ Some v
with-here store q v p same = rw (eq-eqb p.page q.page (ap (λ (r : Tid). r.page) same), eq-eqb p.slot q.slot (ap (λ (r : Tid). r.slot) same)) refl

unless : {A : Type 0} (a b : Bool) (x y : A) → (a ≡ true → b ≡ true → ⊥) → (if a && b then x else y) ≡ y
unless true true x y not = absurd (not refl refl)
unless true false x y not = refl
unless false b x y not = refl

with-other : (store : Tid → Option Version) (q : Tid) (v : Version) (p : Tid) → p ≢ q → with_version store q v p ≡ store p
with-other store q v p ne = unless (p.page == q.page) (p.slot == q.slot) (Some v) (store p)
    (λ page slot. ne (same-tid p q (eqb-true p.page q.page page) (eqb-true p.slot q.slot slot)))

-- who made the version, of which row, with no deleter yet
pub record IsNewBy (x : ℕ) (row : Row) (v : Version) : Type 0 where
  pub of_row : v.row ≡ row
  pub inserter : v.header.xmin.0 ≡ x
  pub thawed : is_frozen v.header ≡ false
  pub undeleted : v.header.xmax.0 ≡ 0

pub root-new : (h : HeapView) (updated : Bool) (x : ℕ) (row : Row) (n : ℕ) → IsNewBy x row (root_version h updated x row n)
root-new h updated x row n = record { of_row = refl; inserter = refl; thawed = root-thawed updated x n (free_number (page_on h n).slots); undeleted = refl }

-- first x puts a version of the row at a place, and then takes the old one away, whose successor is there
pub record Replaced (store store' : Tid → Option Version) (place : Tid) (t : Version) (x : ℕ) (row : Row) : Type 0 where
  pub to : Tid
  pub new : Version
  pub is_new : IsNewBy x row new
  pub hot : Bool
  pub added : Tid → Option Version
  pub adds : AddsAt store added to new
  pub alters : AltersAt added store' place t (taken_version t x to hot)

pub here-puts : (h h' : HeapView) (place : Tid) (x : ℕ) (row : Row) → HotUpdates h h' place x row
    → Puts (slots_of h) (slots_of h') place.page (with_updated (page_on h place.page).slots place.slot x place.page row)
here-puts h h' place x row a = subst (Puts (slots_of h) (slots_of h') place.page) a.put.slots (puts-from h h' place.page a.put.page a.put.puts)

pub here-stands : (h h' : HeapView) (place : Tid) (x : ℕ) (row : Row) (t : Version) → HotUpdates h h' place x row → version_in (slots_of h) place ≡ Some t
    → Replaced (version_in (slots_of h)) (version_in (slots_of h')) place t x row
here-stands h h' place x row t a at = record {
  to = q;
  new = v;
  is_new = record { of_row = refl; inserter = refl; thawed = refl; undeleted = refl };
  hot = true;
  added = added;
  adds = record {
    here = with-here store q v q refl;
    unused = version-on h q ∙ free_number-not_normal slots;
    others = with-other store q v;
  };
  alters = alters-on (slots_of h) (slots_of h') middle place x q true t added (here-puts h h' place x row a)
      (ap (option_and_then version_of) (slot_at-with_added_other slots place.slot (Normal v) apart) ∙ there)
      (λ p same. ⊎_elim
      (λ slot. with-here store q v p (same-tid p q same slot)
      ∙ sym (ap (version_at middle) slot ∙ ap (option_and_then version_of) (slot_at-with_added slots (Normal v))))
      (λ off. with-other store q v p (λ e. off (ap (λ (r : Tid). r.slot) e))
      ∙ version-on h p ∙ ap (λ n. version_at (page_on h n).slots p.slot) same
      ∙ sym (ap (option_and_then version_of) (slot_at-with_added_other slots p.slot (Normal v) off)))
      (cases_eq p.slot (free_number slots)))
      (λ p off. with-other store q v p (λ e. off (ap (λ (r : Tid). r.page) e)));
}
  where
    slots : List Slot
    slots = (page_on h place.page).slots

    q : Tid
    q = free_place h place.page

    v : Version
    v = heap_only_version h x row place.page

    store : Tid → Option Version
    store = version_in (slots_of h)

    added : Tid → Option Version
    added = with_version store q v

    middle : List Slot
    middle = with_heap_only slots x place.page row

    there : version_at slots place.slot ≡ Some t
    there = sym (version-on h place) ∙ at

    apart : place.slot ≢ free_number slots
    apart same = none-some t (sym (ap (version_at slots) same ∙ free_number-not_normal slots) ∙ there)

-- a root is put on any page, and the old version is then taken away
pub by-root-still : (h : HeapView) (store' : Tid → Option Version) (place : Tid) (q : Tid) (new t : Version) → AddsAt (version_in (slots_of h)) store' q new
    → version_in (slots_of h) place ≡ Some t → store' place ≡ Some t
by-root-still h store' place q new t adds at = adds.others place (λ e. none-some t (sym adds.unused ∙ (ap (version_in (slots_of h)) (sym e) ∙ at))) ∙ at

pub by-root-stands : (h h' : HeapView) (place : Tid) (x : ℕ) (row : Row) (n : ℕ) (t : Version) → ColdUpdates h h' place x row n → version_in (slots_of h) place ≡ Some t
    → Replaced (version_in (slots_of h)) (version_in (slots_of h')) place t x row
by-root-stands h h' place x row n t r at =
    let adds = root-stands h r.middle true x row n r.root in
    record {
      to = free_place h n;
      new = root_version h true x row n;
      is_new = root-new h true x row n;
      hot = false;
      added = version_in (slots_of r.middle);
      adds = adds;
      alters = away-stands r.middle h' place x (free_place h n) t r.away
          (by-root-still h (version_in (slots_of r.middle)) place (free_place h n) (root_version h true x row n) t adds at);
    }

pub replaces-stand : (h h' : HeapView) (place : Tid) (x : ℕ) (row : Row) (t : Version) → Replaces h h' place x row → version_in (slots_of h) place ≡ Some t
    → Replaced (version_in (slots_of h)) (version_in (slots_of h')) place t x row
replaces-stand h h' place x row t (Replaces.on_page room (UpdatesOnPage.heap_only values a)) at = here-stands h h' place x row t a at
replaces-stand h h' place x row t (Replaces.on_page room (UpdatesOnPage.as_root changed r)) at = by-root-stands h h' place x row place.page t r at
replaces-stand h h' place x row t (Replaces.elsewhere room n off goes r) at = by-root-stands h h' place x row n t r at

-- A page is pruned.

-- versions go from one page, and none comes or moves
pub record RemovesOn (store store' : Tid → Option Version) (n : ℕ) (IsGone : ℕ → Type 0) : Type 0 where
  pub kept : (p : Tid) (t : Version) → store' p ≡ Some t → store p ≡ Some t
  pub gone : (p : Tid) (t : Version) → store p ≡ Some t → (store' p ≡ Some t) ⊎ ((p.page ≡ n) × IsGone p.slot)

-- this becomes the page of a number, which is in use
pub record BecomesPage (h h' : HeapView) (n : ℕ) (before after : PageView) : Type 0 where
  pub at : slice_get h.pages.pages n ≡ Some before
  pub is : h' ≡ record h { pages = record h.pages { pages = slice_set h.pages.pages n after } }

pub becomes-on : (h h' : HeapView) (n : ℕ) (before after : PageView) → BecomesPage h h' n before after → slots_on (slots_of h) n ≡ before.slots
becomes-on h h' n before after b = slots-there h.pages.pages n before b.at

pub becomes-puts : (h h' : HeapView) (n : ℕ) (before after : PageView) → BecomesPage h h' n before after → Puts (slots_of h) (slots_of h') n after.slots
becomes-puts h h' n before after b =
    subst (λ (g : HeapView). Puts (slots_of h) (slots_of g) n after.slots) (sym b.is)
    (puts-with_page h.pages n after (slice_get_within h.pages.pages n before b.at))

becomes-stand : (h h' : HeapView) (n horizon : ℕ) (before after : PageView) → BecomesPage h h' n before after → RemovesVersions h.statuses horizon before.slots after.slots
    → RemovesOn (version_in (slots_of h)) (version_in (slots_of h')) n (IsCut h.statuses horizon (slots_on (slots_of h) n))
becomes-stand h h' n horizon before after b r = record {
  kept = λ q t at. ⊎_elim
      (λ same. was q same ∙ removes.kept q.slot t (sym (is q same) ∙ at))
      (λ off. sym (put-other (slots_of h) (slots_of h') n after.slots q puts off) ∙ at)
      (cases_eq q.page n);
  gone = λ q t at. ⊎_elim
      (λ same. ⊎_elim (λ stays. inl (is q same ∙ stays)) (λ cut. inr (same, cut)) (removes.gone q.slot t (sym (was q same) ∙ at)))
      (λ off. inl (put-other (slots_of h) (slots_of h') n after.slots q puts off ∙ at))
      (cases_eq q.page n);
}
  where
    puts : Puts (slots_of h) (slots_of h') n after.slots
    puts = becomes-puts h h' n before after b

    removes : RemovesVersions h.statuses horizon (slots_on (slots_of h) n) after.slots
    removes = subst (λ slots. RemovesVersions h.statuses horizon slots after.slots) (sym (becomes-on h h' n before after b)) r

    was : (q : Tid) → q.page ≡ n → version_in (slots_of h) q ≡ version_at (slots_on (slots_of h) n) q.slot
    was q same = ap (λ k. version_at (slots_on (slots_of h) k) q.slot) same

    is : (q : Tid) → q.page ≡ n → version_in (slots_of h') q ≡ version_at after.slots q.slot
    is q same = put-here (slots_of h) (slots_of h') n after.slots q puts same

pub prunes-becomes : (h h' : HeapView) (n horizon : ℕ) (p : Prunes h h' n horizon) → BecomesPage h h' n p.before p.after
prunes-becomes h h' n horizon p = record { at = p.at; is = p.is }

pub prunes-on : (h h' : HeapView) (n horizon : ℕ) (p : Prunes h h' n horizon) → slots_on (slots_of h) n ≡ p.before.slots
prunes-on h h' n horizon p = becomes-on h h' n p.before p.after (prunes-becomes h h' n horizon p)

pub prunes-puts : (h h' : HeapView) (n horizon : ℕ) (p : Prunes h h' n horizon) → Puts (slots_of h) (slots_of h') n p.after.slots
prunes-puts h h' n horizon p = becomes-puts h h' n p.before p.after (prunes-becomes h h' n horizon p)

pub prunes-stand : (h h' : HeapView) (n horizon : ℕ) → Prunes h h' n horizon
    → RemovesOn (version_in (slots_of h)) (version_in (slots_of h')) n (IsCut h.statuses horizon (slots_on (slots_of h) n))
prunes-stand h h' n horizon p = becomes-stand h h' n horizon p.before p.after (prunes-becomes h h' n horizon p) (pruned-cut h h' n horizon p)

-- A plan is applied to a page.

pub applies-becomes : (h h' : HeapView) (n horizon change : ℕ) (actions : List (ℕ × Action)) (a : Applies h h' n horizon change actions) → BecomesPage h h' n a.before (applied actions a.before)
applies-becomes h h' n horizon change actions a = record {
  at = a.at;
  is = a.is ∙ ap (λ (page : PageView). record h { pages = record h.pages { pages = slice_set h.pages.pages n page } }) a.does.1;
}

pub applies-on : (h h' : HeapView) (n horizon change : ℕ) (actions : List (ℕ × Action)) (a : Applies h h' n horizon change actions) → slots_on (slots_of h) n ≡ a.before.slots
applies-on h h' n horizon change actions a = becomes-on h h' n a.before (applied actions a.before) (applies-becomes h h' n horizon change actions a)

pub applies-puts : (h h' : HeapView) (n horizon change : ℕ) (actions : List (ℕ × Action)) (a : Applies h h' n horizon change actions)
    → Puts (slots_of h) (slots_of h') n (applied actions a.before).slots
applies-puts h h' n horizon change actions a = becomes-puts h h' n a.before (applied actions a.before) (applies-becomes h h' n horizon change actions a)

pub applies-stand : (h h' : HeapView) (n horizon change : ℕ) (actions : List (ℕ × Action)) → Applies h h' n horizon change actions
    → RemovesOn (version_in (slots_of h)) (version_in (slots_of h')) n (IsCut h.statuses horizon (slots_on (slots_of h) n))
applies-stand h h' n horizon change actions a = becomes-stand h h' n horizon a.before (applied actions a.before) (applies-becomes h h' n horizon change actions a)
    (checks-removes h.statuses horizon a.before change actions a.does.0)

pub readies-stand : (h h' : HeapView) (place : Tid) (horizon size : ℕ) → PrunesIfFull h h' place horizon size
    → RemovesOn (version_in (slots_of h)) (version_in (slots_of h')) place.page (IsCut h.statuses horizon (slots_on (slots_of h) place.page))
readies-stand h h' place horizon size (PrunesIfFull.has_room room is) = record {
  kept = λ p t at. ap (λ (g : HeapView). version_in (slots_of g) p) (sym is) ∙ at;
  gone = λ p t at. inl (ap (λ (g : HeapView). version_in (slots_of g) p) is ∙ at);
}
readies-stand h h' place horizon size (PrunesIfFull.is_left full goes keeps) = record {
  kept = λ p t at. ap (λ pages. version_in pages p) (sym (slots-kept h h' keeps)) ∙ at;
  gone = λ p t at. inl (ap (λ pages. version_in pages p) (slots-kept h h' keeps) ∙ at);
}
readies-stand h h' place horizon size (PrunesIfFull.is_pruned full grown keeps prunes) =
    let n = place.page in
    let stands = prunes-stand grown h' n horizon prunes in
    let same = slots-kept h grown keeps in
    record {
      kept = λ p t at. ap (λ pages. version_in pages p) (sym same) ∙ stands.kept p t at;
      gone = λ p t at. ⊎_elim
          (λ stays. inl stays)
          (λ cut. inr (
            cut.0,
            cut-back h.statuses grown.statuses horizon (slots_on (slots_of h) n) p.slot keeps.statuses
                (subst (λ pages. IsCut grown.statuses horizon (slots_on pages n) p.slot) same cut.1),
          ))
          (stands.gone p t (ap (λ pages. version_in pages p) same ∙ at));
    }

-- Writes.

pub inserts-stand : (h h' : HeapView) (own own' : Own) (row : Row) (x : ℕ) (i : Inserts h h' own own' row x)
    → AddsAt (version_in (slots_of h)) (version_in (slots_of h')) (free_place h i.number) (root_version h false x row i.number)
inserts-stand h h' own own' row x i = root-stands h h' false x row i.number i.root

pub deletes-stand : (h h' : HeapView) (own own' : Own) (place : Tid) (x : ℕ) (t : Version) → Deletes h h' own own' place x → version_in (slots_of h) place ≡ Some t
    → AltersAt (version_in (slots_of h)) (version_in (slots_of h')) place t (taken_version t x place false)
deletes-stand h h' own own' place x t d at = away-stands h h' place x place t d.away at

-- whatever the page of the old version was made ready, the old version is still there
pub updates-ready : (h h' : HeapView) (own own' : Own) (place : Tid) (row : Row) (horizon x : ℕ) (t : Version) (u : Updates h h' own own' place row horizon x)
    → version_in (slots_of h) place ≡ Some t → version_in (slots_of u.ready) place ≡ Some t
updates-ready h h' own own' place row horizon x t u at =
    let some = normal_at (page_on u.ready place.page).slots place.slot u.there in
    let there : version_in (slots_of u.ready) place ≡ Some some.0 = version-on u.ready place ∙ version_at-from_slot_at (page_on u.ready place.page).slots place.slot some.0 some.1 in
    let was = (readies-stand h u.ready place horizon (rounded_size_of row) u.readies).kept place some.0 there in
    there ∙ sym was ∙ at

pub updates-stand : (h h' : HeapView) (own own' : Own) (place : Tid) (row : Row) (horizon x : ℕ) (t : Version) (u : Updates h h' own own' place row horizon x)
    → version_in (slots_of h) place ≡ Some t → Replaced (version_in (slots_of u.ready)) (version_in (slots_of h')) place t x row
updates-stand h h' own own' place row horizon x t u at = replaces-stand u.ready h' place x row t u.replaces (updates-ready h h' own own' place row horizon x t u at)
