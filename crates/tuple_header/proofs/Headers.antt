-- A header that is written over that of a version.
use Rattle.std.proofs.Common.{◌≡◌, ℕ, ◌+◌, ◌*◌, ◌/◌, ◌%◌, ◌≤◌, List, [], ◌++◌, length, drop, slice_index, sym, ap, ◌∙◌, refl, arith, ◌-◌, Option, None, Ok, Some, length-append, length-drop}
use Rattle.std.proofs.lemmas.Slice.{drop-append-drop}
use Rattle.std.specs.Int.{cast_signed}
use Rattle.std.proofs.Common.{w64}
use Rattle.byteorder.specs.Endian.{little_number}
use Rattle.tuple_header.specs.declared.version.Header.{Header}
use Rattle.tuple_header.specs.Version.{Version, size_of}
use Rattle.tuple_header.specs.declared.fault.TupleFault.{TupleFault}
use Rattle.tuple_header.specs.Layout.{number_at, decoded_header, decoded_row, decoded_version, widths, values, header_widths, header_values, header_bytes, spelled, encoding}
use Rattle.tuple_header.specs.Faults.{HeaderFits, IsVersion, header_fault, first_fault, body_length, layout_fault, decoding, or_fault}
use Rattle.tuple_header.proofs.Faults.{first_fault-none, first_fault-in_header, laid_out-from_none, none-from_laid_out}
use Rattle.tuple_header.proofs.Fields.{numbers_from, numbers-spelled, total}
use Rattle.tuple_header.proofs.Spelling.{fit-header, fit-values, same_header, joined, byte_at-number, length-spelled, reads-back}

-- the bytes with another header
abbrev pub with_header_bytes : Header → List ℕ → List ℕ
with_header_bytes h old = header_bytes h ++ drop 24 old

pub length-header_bytes : (h : Header) → HeaderFits h → length (header_bytes h) ≡ 24
unfolding header_bytes
length-header_bytes h fits = length-spelled header_widths (header_values h) (fit-header h fits)

header-numbers : (h : Header) (old : List ℕ) → HeaderFits h → numbers_from 0 header_widths (with_header_bytes h old) ≡ header_values h
unfolding header_bytes
header-numbers h old fits = numbers-spelled header_widths (header_values h) [] (drop 24 old) (fit-header h fits)

number-behind : (i n : ℕ) (h : Header) (old : List ℕ) → HeaderFits h → 24 ≤ i → number_at i n (with_header_bytes h old) ≡ number_at i n old
unfolding number_at
number-behind i n h old fits behind = ap (little_number n) (drop-append-drop 24 old (header_bytes h) i behind (length-header_bytes h fits))

pub header-new : (h : Header) (old : List ℕ) → HeaderFits h → decoded_header (with_header_bytes h old) ≡ h
header-new h old fits =
    let new = with_header_bytes h old in
    let numbers = header-numbers h old fits in
    let at : (i : ℕ) → slice_index (numbers_from 0 header_widths new) i ≡ slice_index (header_values h) i = λ i. ap (λ xs. slice_index xs i) numbers in
    let xmin : number_at 0 4 new ≡ h.xmin.0 = at 0 in
    let xmax : number_at 4 4 new ≡ h.xmax.0 = at 1 in
    let page_high : number_at 12 2 new ≡ h.ctid.page / 65536 = at 3 in
    let page_low : number_at 14 2 new ≡ h.ctid.page % 65536 = at 4 in
    let slot : number_at 16 2 new ≡ h.ctid.slot = at 5 in
    let mask2 : number_at 18 2 new ≡ h.mask2 = at 6 in
    let mask : number_at 20 2 new ≡ h.mask = at 7 in
    let page : number_at 12 2 new * 65536 + number_at 14 2 new ≡ h.ctid.page = rw (page_high, page_low) (joined h.ctid.page) in
    same_header (decoded_header new) h xmin xmax page slot mask2 mask

pub row-new : (h : Header) (old : List ℕ) → HeaderFits h → decoded_row (with_header_bytes h old) ≡ decoded_row old
row-new h old fits =
    let key = number-behind 24 8 h old fits (omega arith) in
    let a = number-behind 32 8 h old fits (omega arith) in
    let b = number-behind 40 8 h old fits (omega arith) in
    let c = number-behind 48 8 h old fits (omega arith) in
    let d = number-behind 56 8 h old fits (omega arith) in
    let body : drop 66 (with_header_bytes h old) ≡ drop 66 old = drop-append-drop 24 old (header_bytes h) 66 (omega arith) (length-header_bytes h fits) in
    rw (key, a, b, c, d, body) refl

pub length-new : (h : Header) (old : List ℕ) → HeaderFits h → 24 ≤ length old → length (with_header_bytes h old) ≡ length old
length-new h old fits long =
    let head = length-header_bytes h fits in
    let rest : length (drop 24 old) ≡ length old - 24 = length-drop 24 old in
    length-append (header_bytes h) (drop 24 old) ∙ omega arith

-- where neither the header nor the bytes before had a fault, the bytes have none
pub faultless-new : (h : Header) (old : List ℕ) → HeaderFits h → header_fault h ≡ None → first_fault old ≡ None → first_fault (with_header_bytes h old) ≡ None
faultless-new h old fits good none =
    let new = with_header_bytes h old in
    let laid = laid_out-from_none old (first_fault-none old none).0 in
    let numbers = header-numbers h old fits in
    let at : (i : ℕ) → slice_index (numbers_from 0 header_widths new) i ≡ slice_index (header_values h) i = λ i. ap (λ xs. slice_index xs i) numbers in
    let cid : number_at 8 4 new ≡ 0 = at 2 in
    let hoff : number_at 22 1 new ≡ 24 = at 8 in
    let padding : number_at 23 1 new ≡ 0 = at 9 in
    let long : 24 ≤ length old = omega (arith, laid.length) in
    let whole = length-new h old fits long in
    let body : body_length new ≡ body_length old = number-behind 64 2 h old fits (omega arith) in
    let laid_out = none-from_laid_out new (record {
      length = omega (arith, laid.length);
      small = omega (arith, laid.small);
      hoff = sym (byte_at-number 22 new) ∙ hoff;
      cid = cid;
      padding = sym (byte_at-number 23 new) ∙ padding;
    }) in
    first_fault-in_header new laid_out ∙ ap header_fault (header-new h old fits) ∙ good

-- What is encoded has no fault, and is what was encoded.
encoded-is : (v w : Version) (bytes : List ℕ) → or_fault w (first_fault bytes) ≡ Ok v → (first_fault bytes ≡ None) × (w ≡ v)
encoded-is v w bytes e = by (first_fault bytes) refl e
  where
    by : (o : Option TupleFault) → first_fault bytes ≡ o → or_fault w o ≡ Ok v → (first_fault bytes ≡ None) × (w ≡ v)
    by None none is = (none, cc)
    by (Some fault) some is = absurd (cc)

pub encoded-faultless : (v : Version) → IsVersion v → first_fault (encoding v) ≡ None
encoded-faultless v fits = (encoded-is v (decoded_version (encoding v)) (encoding v) (reads-back v fits)).0

pub encoded-value : (v : Version) → IsVersion v → decoded_version (encoding v) ≡ v
encoded-value v fits = (encoded-is v (decoded_version (encoding v)) (encoding v) (reads-back v fits)).1

pub length-encoding : (v : Version) → IsVersion v → length (encoding v) ≡ size_of v.row
unfolding encoding
length-encoding v fits =
    let head : length (spelled widths (values v)) ≡ 66 = length-spelled widths (values v) (fit-values v fits) in
    length-append (spelled widths (values v)) v.row.body.items ∙ ap (λ (n : ℕ). n + length v.row.body.items) head
