-- The free space map: which pages it lets a search pass.
use Rattle.std.proofs.Common.{◌≡◌, ◌∙◌, ℕ, ◌/◌, ◌<◌, ◌≤◌, min, inl, inr, Bool, List, [], ◌∷◌, ◌++◌, length, set, Option, Some, None, slice_get, get_or, sym, ap, arith}
use Rattle.std.specs.Option.{option_map}
use Rattle.std.proofs.lemmas.Bool.{cases_lt}
use Rattle.std.proofs.Math.Seq.{map-set_same}
use Rattle.std.proofs.lemmas.List.{length-map, map-append, map-set}
use Rattle.std.proofs.lemmas.Option.{slice_get_cases, slice_get-map, slice_get_within, get_or_from_slice_get}
use Rattle.page_slots.specs.View.{PageView}
use Rattle.page_sheet.specs.Slots.{room_of}
use Rattle.space_maps.specs.FreeSpace.{NoByte, FindsRoom}
use Rattle.heap_pages.specs.View.{free_space_bytes}
use Rattle.heap_pages.specs.Choice.{free_byte_of, Promises, HasRoom, FindsFirstPage}
use Rattle.heap_pages.proofs.FirstLemmas.{NoneBefore}

-- the byte of a page, which the map has
pub byte-of : (bytes : List ℕ) (pages : List PageView) (n : ℕ) (page : PageView) → bytes ≡ free_space_bytes pages → slice_get pages n ≡ Some page
    → get_or bytes n 0 ≡ free_byte_of (room_of page.slots)
byte-of bytes pages n page is at =
    let byte : PageView → ℕ = λ page. free_byte_of (room_of page.slots) in
    let there : slice_get (free_space_bytes pages) n ≡ Some (byte page) = slice_get-map byte pages n ∙ ap (option_map byte) at in
    get_or_from_slice_get bytes n (byte page) 0 (ap (λ bytes. slice_get bytes n) is ∙ there)

pub count-of : (bytes : List ℕ) (pages : List PageView) → bytes ≡ free_space_bytes pages → length bytes ≡ length pages
count-of bytes pages is = ap length is ∙ length-map pages (λ page. free_byte_of (room_of page.slots))

-- the first page whose byte promises the room
pub first-found : (bytes : List ℕ) (pages : List PageView) (size : ℕ) (found : Option ℕ) → bytes ≡ free_space_bytes pages → FindsRoom bytes size found → FindsFirstPage pages (Promises size) found
first-found bytes pages size None is none = λ n page at promises.
    none n (omega (arith, slice_get_within pages n page at, count-of bytes pages is)) (omega (arith, promises, byte-of bytes pages n page is at))
first-found bytes pages size (Some n) is first = elim (slice_get_cases pages n).1 [
  | inl there ↦ record {
    page = there.0;
    there = there.2;
    has = omega (arith, first.promises, byte-of bytes pages n there.0 is there.2);
    before = λ k earlier lt at promises. first.before k lt (omega (arith, promises, byte-of bytes pages k earlier is at));
  }
  | inr past ↦ absurd (omega (arith, first.in_use, count-of bytes pages is, past.0))
]

-- a page with a lower byte doesn't have room
room_needs : (size room : ℕ) → min (room / 32) 255 < min (size / 32) 255 → ¬ size ≤ room
room_needs size room low fits = absurd (omega arith)

-- the pages that the map lets a search pass
pub none-passed : (pages : List PageView) (bytes : List ℕ) (size from n least : ℕ) → bytes ≡ free_space_bytes pages → least ≡ min (size / 32) 255
    → NoneBefore pages (HasRoom size) from → NoByte bytes from n least → NoneBefore pages (HasRoom size) n
none-passed pages bytes size from n least is low_is none low k page lt at has =
    elim (cases_lt k from) [
      | inl below ↦ none k page below at has
      | inr le ↦ room_needs size (room_of page.slots) (omega (arith, byte-of bytes pages k page is at, low k le lt, low_is)) has
    ]

-- the bytes once a page is added, and once one is changed

pub pushed : (bytes : List ℕ) (pages : List PageView) (byte : ℕ) (page : PageView) → bytes ≡ free_space_bytes pages → byte ≡ free_byte_of (room_of page.slots)
    → bytes ++ byte ∷ [] ≡ free_space_bytes (pages ++ page ∷ [])
pushed bytes pages byte page is byte_is =
    ap (λ bytes. bytes ++ byte ∷ []) is ∙ ap (λ byte. free_space_bytes pages ++ byte ∷ []) byte_is ∙ sym (map-append (λ (page : PageView). free_byte_of (room_of page.slots)) pages (page ∷ []))

pub noted : (bytes : List ℕ) (pages : List PageView) (n byte : ℕ) (page : PageView) → bytes ≡ free_space_bytes pages → byte ≡ free_byte_of (room_of page.slots)
    → set bytes n byte ≡ free_space_bytes (set pages n page)
noted bytes pages n byte page is byte_is =
    ap (λ bytes. set bytes n byte) is ∙ ap (λ byte. set (free_space_bytes pages) n byte) byte_is ∙ sym (map-set (λ (page : PageView). free_byte_of (room_of page.slots)) pages n page)

-- the flag of a page doesn't change its byte
pub flagged : (bytes : List ℕ) (pages : List PageView) (n : ℕ) (page : PageView) (flag : Bool) → bytes ≡ free_space_bytes pages → slice_get pages n ≡ Some page
    → bytes ≡ free_space_bytes (set pages n (record page { flag = flag }))
flagged bytes pages n page flag is at =
    let byte : PageView → ℕ = λ (page : PageView). free_byte_of (room_of page.slots) in
    is ∙ sym (map-set_same byte pages n (record page { flag = flag }) page (sym (ap byte (get_or_from_slice_get pages n page page at))))
