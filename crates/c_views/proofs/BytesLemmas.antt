-- The bytes of a page, written before others.
use Rattle.std.proofs.Common.{◌≡◌, ℕ, ◌+◌, ◌≤◌, None, List, ◌++◌, length, take, drop, ap, ◌∙◌, arith}
use Rattle.std.proofs.lemmas.Slice.{drop-append-drop}
use Rattle.tuple_header.specs.Layout.{with_bytes}
use Rattle.page_layout.proofs.RaiseLemmas.{block-back}
use Rattle.page_slots.specs.Reading.{page_of}
use Rattle.page_slots.specs.Faults.{AreSoundRedirects, page_fault}
use Rattle.page_slots.specs.View.{PageView}
use Rattle.c_views.specs.Bytes.{AreBytesOf}

-- what is behind a block is as it was
rest-kept : (n : ℕ) (block out : List ℕ) → length block ≡ n → drop n (with_bytes 0 block out) ≡ drop n out
unfolding with_bytes
rest-kept n block out size =
    let start : 0 + length block ≡ n = omega arith in
    ap (λ (k : ℕ). drop n (block ++ drop k out)) start ∙ drop-append-drop n out block n (omega arith) size

-- a page's bytes are read back
pub page-written : (page : PageView) (block out new : List ℕ) → page_of block ≡ page → length block ≡ 8192
    → (AreSoundRedirects page.slots → page_fault block ≡ None) → 8192 ≤ length out → new ≡ with_bytes 0 block out
    → AreBytesOf page out new
page-written page block out new reads size faultless room is =
    let first : take 8192 new ≡ block = ap (λ xs. take 8192 xs) is ∙ block-back 8192 block out size room in
    record {
      reads = ap page_of first ∙ reads;
      accepted = λ sound. ap page_fault first ∙ faultless sound;
      rest = ap (λ xs. drop 8192 xs) is ∙ rest-kept 8192 block out size;
    }
