-- Where a new version goes, when one page has changed.
use Rattle.std.proofs.Common.{◌≡◌, ◌≢◌, ◌↔◌, ℕ, ◌*◌, ◌/◌, ◌<◌, ◌≤◌, inl, inr, List, [], length, set, Some, slice_get, sym, ap, subst, ◌∙◌, arith}
use Rattle.std.proofs.lemmas.Bool.{cases_eq}
use Rattle.std.proofs.lemmas.Option.{slice_get-get_or, slice_get_within, same_Some}
use Rattle.std.proofs.lemmas.List.{length-set}
use Rattle.std.proofs.Math.Nat.{min-le_left}
use Rattle.page_slots.specs.View.{PageView}
use Rattle.page_sheet.specs.Slots.{room_of}
use Rattle.heap_pages.specs.Choice.{free_byte_of, Promises, HasRoom, NoPage, IsFirstPage, IsPlaceFor}
use Rattle.heap_pages.specs.Choice.IsPlaceFor.{by_byte, on_new_page, by_room, nowhere}
use Rattle.heap_pages.specs.declared.pages.Placement.{Placement}
use Rattle.heap_pages.specs.declared.pages.Placement.TheVariants.{Page, NewPage, Nowhere}
use Rattle.heap_pages.specs.View.{PagesView}
use Rattle.heap_pages.proofs.PageLemmas.{page-with_page, page-with_page_other}
use Rattle.heap_write.specs.Heap.{unused_page}
use Rattle.heap_write.specs.Growth.{page_in}
use Rattle.heap_write.proofs.PageLemmas.{page-at}

-- What the choice goes by.

-- two pages are alike to a version of this size
pub record Alike (size : ℕ) (p q : PageView) : Type 0 where
  pub room : HasRoom size p ↔ HasRoom size q
  pub byte : Promises size p ↔ Promises size q

byte-le : (size room : ℕ) → size ≤ 32 * free_byte_of room → size ≤ room
byte-le size room promised = let e = min-le_left (room / 32) 255 in grind (arith, e, promised)

promised-room : (size : ℕ) (p : PageView) → Promises size p → HasRoom size p
promised-room size p promised = byte-le size (room_of p.slots) promised

pub alike-full : (size : ℕ) (p q : PageView) → ¬ HasRoom size p → ¬ HasRoom size q → Alike size p q
alike-full size p q no_before no_after = record {
  room = (λ h. absurd (no_before h), λ h. absurd (no_after h));
  byte = (λ h. absurd (no_before (promised-room size p h)), λ h. absurd (no_after (promised-room size q h)));
}

-- One page is changed.

abbrev viewed : List PageView → PagesView
viewed pages = record { pages = pages; marks = []; spare = 0 }

pub at-set : (pages : List PageView) (m : ℕ) (q : PageView) → m < length pages → slice_get (set pages m q) m ≡ Some q
at-set pages m q within = page-with_page (viewed pages) m q within

at-set_other : (pages : List PageView) (m k : ℕ) (q : PageView) → k ≢ m → slice_get (set pages m q) k ≡ slice_get pages k
at-set_other pages m k q other = page-with_page_other (viewed pages) m k q other

-- a page that has P after the change is one that had it, or is the changed one
had : (pages : List PageView) (P : PageView → Type 0) (m k : ℕ) (q page : PageView) → m < length pages → (P q → P (page_in pages m))
    → slice_get (set pages m q) k ≡ Some page → P page → (old : PageView) × (slice_get pages k ≡ Some old) × P old
had pages P m k q page within back at h =
    elim (cases_eq k m) [
      | inl here ↦ (
        page_in pages m,
        ap (slice_get pages) here ∙ slice_get-get_or pages m unused_page within,
        back (subst P (same_Some page q (sym at ∙ ap (slice_get (set pages m q)) here ∙ at-set pages m q within)) h),
      )
      | inr other ↦ (page, sym (at-set_other pages m k q other) ∙ at, h)
    ]

none-set : (pages : List PageView) (P : PageView → Type 0) (m : ℕ) (q : PageView) → m < length pages → (P q → P (page_in pages m))
    → NoPage pages P → NoPage (set pages m q) P
none-set pages P m q within back none k page at h =
    let found = had pages P m k q page within back at h in none k found.0 found.1 found.2

first-set : (pages : List PageView) (P : PageView → Type 0) (m n : ℕ) (q : PageView) → m < length pages → P (page_in pages m) ↔ P q
    → IsFirstPage pages P n → IsFirstPage (set pages m q) P n
first-set pages P m n q within same f =
    elim (cases_eq n m) [
      | inl here ↦ record {
        page = q;
        there = ap (slice_get (set pages m q)) here ∙ at-set pages m q within;
        has = same.0 (subst P (sym (page-at pages m f.page (ap (slice_get pages) (sym here) ∙ f.there))) f.has);
        before = λ k earlier lt at h. let found = had pages P m k q earlier within same.1 at h in f.before k found.0 lt found.1 found.2;
      }
      | inr other ↦ record {
        page = f.page;
        there = at-set_other pages m n q other ∙ f.there;
        has = f.has;
        before = λ k earlier lt at h. let found = had pages P m k q earlier within same.1 at h in f.before k found.0 lt found.1 found.2;
      }
    ]

-- where a page is changed to one that is alike to a version, the version goes to the same place
pub place-set : (pages : List PageView) (limit size m : ℕ) (q : PageView) (place : Placement) → m < length pages → Alike size (page_in pages m) q
    → IsPlaceFor pages limit size place → IsPlaceFor (set pages m q) limit size place
place-set pages limit size m q place within same (by_byte n first is) = by_byte n (first-set pages (Promises size) m n q within same.byte first) is
place-set pages limit size m q place within same (on_new_page none few is) =
    on_new_page (none-set pages (Promises size) m q within same.byte.1 none) (subst (λ (c : ℕ). c < limit) (sym (length-set pages m q)) few) is
place-set pages limit size m q place within same (by_room n none over first is) =
    by_room n (none-set pages (Promises size) m q within same.byte.1 none) (subst (λ (c : ℕ). limit ≤ c) (sym (length-set pages m q)) over)
    (first-set pages (HasRoom size) m n q within same.room first) is
place-set pages limit size m q place within same (nowhere none over full is) =
    nowhere (none-set pages (Promises size) m q within same.byte.1 none) (subst (λ (c : ℕ). limit ≤ c) (sym (length-set pages m q)) over)
    (none-set pages (HasRoom size) m q within same.room.1 full) is

-- What a place says.

same-number : (n k : ℕ) → Page n ≡ Page k → n ≡ k
same-number n k e = cc

first-at : (pages : List PageView) (P : PageView → Type 0) (n k : ℕ) → IsFirstPage pages P k → n ≡ k → (n < length pages) × P (page_in pages n)
first-at pages P n k f same =
    let at = ap (slice_get pages) same ∙ f.there in (slice_get_within pages n f.page at, subst P (sym (page-at pages n f.page at)) f.has)

pub page-place : (pages : List PageView) (limit size n : ℕ) → IsPlaceFor pages limit size (Page n) → (n < length pages) × HasRoom size (page_in pages n)
page-place pages limit size n (by_byte k first is) =
    let at = first-at pages (Promises size) n k first (same-number n k is) in (at.0, promised-room size (page_in pages n) at.1)
page-place pages limit size n (on_new_page none few is) = absurd (let e : Page n ≡ NewPage = is in cc)
page-place pages limit size n (by_room k none over first is) = first-at pages (HasRoom size) n k first (same-number n k is)
page-place pages limit size n (nowhere none over full is) = absurd (let e : Page n ≡ Nowhere = is in cc)

pub new-place : (pages : List PageView) (limit size : ℕ) → IsPlaceFor pages limit size NewPage → length pages < limit
new-place pages limit size (by_byte k first is) = absurd (let e : NewPage ≡ Page k = is in cc)
new-place pages limit size (on_new_page none few is) = few
new-place pages limit size (by_room k none over first is) = absurd (let e : NewPage ≡ Page k = is in cc)
new-place pages limit size (nowhere none over full is) = absurd (let e : NewPage ≡ Nowhere = is in cc)

pub no-place : (pages : List PageView) (limit size : ℕ) → IsPlaceFor pages limit size Nowhere → (limit ≤ length pages) × NoPage pages (HasRoom size)
no-place pages limit size (by_byte k first is) = absurd (let e : Nowhere ≡ Page k = is in cc)
no-place pages limit size (on_new_page none few is) = absurd (let e : Nowhere ≡ NewPage = is in cc)
no-place pages limit size (by_room k none over first is) = absurd (let e : Nowhere ≡ Page k = is in cc)
no-place pages limit size (nowhere none over full is) = (over, full)
