-- The version in a slot, and whether it is seen.
use Rattle.std.proofs.Common.{◌≡◌, ℕ, ◌==◌, if◌then◌else◌, List, map, Option, Some, None, refl, sym, ap, subst, ◌∙◌, slice_get}
use Rattle.std.specs.Option.{option_map}
use Rattle.tuple_header.specs.Version.{Version}
use Rattle.tuple_header.specs.declared.version.Header.{Header}
use Rattle.tuple_header.specs.declared.version.Row.{Row}
use Rattle.page_sheet.specs.declared.slot.Slot.{Slot}
use Rattle.page_sheet.specs.Slots.{version_at, header_at, row_at}
use Rattle.page_sheet.proofs.SlotLemmas.{version-from_header}
use Rattle.page_slots.specs.View.{PageView}
use Rattle.hot_chain.proofs.SeenWalks.{header-of, headless}
use Rattle.index_lookup.specs.Walking.{NoneSeenFrom, IsSeenRow, SeenRow}
use Rattle.index_lookup.specs.ByPlace.{IsSeenRowOf, IsSeenUndeleted, IsVersionOf}
use Rattle.index_lookup.proofs.PageLists.{slots-there}

pub none-headless : (seen : Header → Type 0) (slots : List Slot) (slot : ℕ) (r : Option Header) → r ≡ header_at slots slot → r ≡ None → NoneSeenFrom seen slots slot
none-headless seen slots slot r value none t is has = headless (version_at slots slot) t (sym value ∙ none) is

pub none-unseen : (seen : Header → Type 0) (slots : List Slot) (slot : ℕ) (r : Option Header) (h : Header) → r ≡ header_at slots slot → r ≡ Some h → ¬ seen h → NoneSeenFrom seen slots slot
none-unseen seen slots slot r h value is not t there has = not (subst seen (sym (header-of (version_at slots slot) h t (sym value ∙ is) there)) has)

pub seen-row : (seen : Header → Type 0) (slots : List Slot) (slot : ℕ) (r : Option Header) (h : Header) (answer : Option Row) → r ≡ header_at slots slot → r ≡ Some h → seen h
    → answer ≡ row_at slots slot → SeenRow seen slots slot answer
seen-row seen slots slot r h answer value is has row =
    let t = version-from_header slots slot h (sym value ∙ is) in
    subst (SeenRow seen slots slot) (sym (row ∙ ap (option_map (λ (t : Version). t.row)) t.1)) (record {
      version = t.0;
      there = t.1;
      shown = subst seen t.2 has;
      is_row = refl;
    })

-- what is seen in a slot of a page is seen at that place of the table
pub seen-of_key : (seen : Header → Type 0) (pages : List PageView) (n slot key : ℕ) (page : PageView) (row : Row) → slice_get pages n ≡ Some page
    → IsSeenRow seen page.slots slot row → row.key ≡ key → IsSeenRowOf seen (map (λ (p : PageView). p.slots) pages) key row
seen-of_key seen pages n slot key page row at is of = record {
  place = record { page = n; slot = slot };
  version = is.version;
  there = ap (λ slots. version_at slots slot) (slots-there pages n page at) ∙ is.there;
  of_key = sym (ap (λ (r : Row). r.key) is.is_row) ∙ of;
  is_seen = is.shown;
  is_row = is.is_row;
}

-- so is a version of the key that is seen
pub seen-of_version : (seen : Header → Type 0) (pages : List PageView) (n slot key : ℕ) (page : PageView) (h : Header) (row : Row) → slice_get pages n ≡ Some page
    → version_at page.slots slot ≡ Some (record { header = h; row = row }) → row.key ≡ key → seen h
    → IsSeenRowOf seen (map (λ (p : PageView). p.slots) pages) key row
seen-of_version seen pages n slot key page h row at is of has = record {
  place = record { page = n; slot = slot };
  version = record { header = h; row = row };
  there = ap (λ slots. version_at slots slot) (slots-there pages n page at) ∙ is;
  of_key = of;
  is_seen = has;
  is_row = refl;
}

-- and it is there undeleted, where nobody deleted it
pub undeleted-of_version : (seen : Header → Type 0) (pages : List PageView) (n slot key : ℕ) (page : PageView) (h : Header) (row : Row) → slice_get pages n ≡ Some page
    → version_at page.slots slot ≡ Some (record { header = h; row = row }) → row.key ≡ key → seen h → h.xmax.0 ≡ 0
    → IsVersionOf (IsSeenUndeleted seen) (map (λ (p : PageView). p.slots) pages) key (record { page = n; slot = slot })
undeleted-of_version seen pages n slot key page h row at is of has none = record {
  version = record { header = h; row = row };
  there = ap (λ slots. version_at slots slot) (slots-there pages n page at) ∙ is;
  of_key = of;
  meets = (has, ap (λ (x : ℕ). if x == 0 then None else Some x) none);
}
