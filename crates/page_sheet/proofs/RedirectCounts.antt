-- Redirects to one slot, counted by their words.
use Rattle.std.proofs.Common.{◌≡◌, ◌∙◌, ◌==◌, Bool, true, false, ℕ, zero, suc, ◌+◌, ◌*◌, ◌<◌, ◌≤◌, inl, inr, List, Some, None, sym, ap, refl, arith}
use Rattle.std.specs.Option.{option_and_then}
use Rattle.std.proofs.lemmas.Bool.{cases_lt, eqb-true, eq-eqb, false_from_ne_true}
use Rattle.tuple_header.specs.Layout.{number_at}
use Rattle.page_layout.specs.declared.pointer.Pointer.{Pointer}
use Rattle.page_layout.specs.Layout.{pointer_in, pointer_of, word_of}
use Rattle.page_layout.specs.Sound.{HasPlainWord}
use Rattle.page_layout.proofs.PointerLemmas.{word-back, pointer-read}
use Rattle.page_sheet.specs.Layout.{SomeRedirects, shown_by, slot_in, slots_in}
use Rattle.page_sheet.specs.Slots.{IsRedirected, redirects_to, target_of, redirect_at}
use Rattle.page_sheet.proofs.Found.{found, missing}
use Rattle.page_sheet.proofs.Shown.{shown}

-- of the first so many slots these many are redirects to the slot of this number
pub record IsCounted (bytes : List ℕ) (number index found : ℕ) : Type 0 where
  pub few : found ≤ index
  pub none : found ≡ 0 → (i : ℕ) → i < index → pointer_in bytes i ≡ Pointer.Redirect number → ⊥
  pub some : 0 < found → SomeRedirects bytes index number

pub counted-start : (bytes : List ℕ) (number : ℕ) → IsCounted bytes number 0 0
counted-start bytes number = record {
  few = omega arith;
  none = λ zero i lt. absurd (omega (arith, lt));
  some = λ lt. absurd (omega (arith, lt));
}

pub counted-one : (bytes : List ℕ) (number index found word : ℕ) → word ≡ number_at (24 + 4 * index) 4 bytes → word ≡ number + 65536 → number < 32768
    → IsCounted bytes number index found → IsCounted bytes number (index + 1) (found + 1)
counted-one bytes number index found word read is small so_far = record {
  few = omega (arith, so_far.few);
  none = λ zero. absurd (omega (arith, zero));
  some = λ lt. record {
    index = index;
    within = omega arith;
    is = pointer-read bytes index ∙ ap pointer_of (sym read ∙ is) ∙ word-back (Pointer.Redirect number) small;
  };
}

pub counted-none : (bytes : List ℕ) (number index found word : ℕ) → word ≡ number_at (24 + 4 * index) 4 bytes → (word ≡ number + 65536 → ⊥) → HasPlainWord bytes index
    → IsCounted bytes number index found → IsCounted bytes number (index + 1) found
counted-none bytes number index found word read other plain so_far = record {
  few = omega (arith, so_far.few);
  none = λ zero i lt is. elim (cases_lt i index) [
    | inl below ↦ so_far.none zero i below is
    | inr le ↦
        let here : i ≡ index = omega (arith, lt, le) in
        other (read ∙ plain ∙ ap word_of (sym (ap (pointer_in bytes) here) ∙ is))
  ];
  some = λ lt. let there = so_far.some lt in record { index = there.index; within = omega (arith, there.within); is = there.is };
}

pub none-beyond : (bytes : List ℕ) (number count : ℕ) → ((i : ℕ) → i < count → pointer_in bytes i ≡ Pointer.Redirect number → number ≤ count) → count < number → SomeRedirects bytes count number → ⊥
none-beyond bytes number count within beyond some = let le = within some.index some.within some.is in omega (arith, le, beyond)

-- So it is of the slots.

leads : (bytes : List ℕ) (p : Pointer) (number : ℕ) → redirects_to number (shown_by bytes p) ≡ true → p ≡ Pointer.Redirect number
leads bytes Pointer.Unused number is = absurd (cc is)
leads bytes (Pointer.Normal e) number is = absurd (cc is)
leads bytes (Pointer.Redirect target) number is = ap Pointer.Redirect (eqb-true target number is)
leads bytes Pointer.Dead number is = absurd (cc is)

same-tests : (a b : Bool) → (a ≡ true → b ≡ true) → (b ≡ true → a ≡ true) → a ≡ b
same-tests true b there back = sym (there refl)
same-tests false b there back = sym (false_from_ne_true b (λ t. let both : false ≡ true = back t in cc both))

pub by-word : (bytes : List ℕ) (i number word : ℕ) → word ≡ number_at (24 + 4 * i) 4 bytes → HasPlainWord bytes i → number < 32768
    → (word == number + 65536) ≡ redirects_to number (slot_in bytes i)
by-word bytes i number word read plain small = same-tests (word == number + 65536) (redirects_to number (slot_in bytes i))
    (λ t.
    let here : pointer_in bytes i ≡ Pointer.Redirect number =
    pointer-read bytes i ∙ ap pointer_of (sym read ∙ eqb-true word (number + 65536) t) ∙ word-back (Pointer.Redirect number) small in
    ap (redirects_to number) (shown bytes i (Pointer.Redirect number) (sym here)) ∙ eq-eqb number number refl)
    (λ t. eq-eqb word (number + 65536) (read ∙ plain ∙ ap word_of (leads bytes (pointer_in bytes i) number (ap (redirects_to number) (sym (shown bytes i (pointer_in bytes i) refl)) ∙ t))))

pub not-beyond : (bytes : List ℕ) (i number count : ℕ) → (pointer_in bytes i ≡ Pointer.Redirect number → number ≤ count) → count < number
    → redirects_to number (slot_in bytes i) ≡ false
not-beyond bytes i number count within beyond = false_from_ne_true (redirects_to number (slot_in bytes i))
    (λ t. let le = within (leads bytes (pointer_in bytes i) number (ap (redirects_to number) (sym (shown bytes i (pointer_in bytes i) refl)) ∙ t)) in omega (arith, le, beyond))

pub redirected-there : (bytes : List ℕ) (count number : ℕ) → SomeRedirects bytes count number → IsRedirected (slots_in count bytes) number
redirected-there bytes count number some = (
  some.index + 1,
  ap (option_and_then target_of) (found count bytes (some.index + 1) some.index refl some.within ∙ ap Some (shown bytes some.index (Pointer.Redirect number) (sym some.is))),
)

pointer-leads : (bytes : List ℕ) (p : Pointer) (number : ℕ) → target_of (shown_by bytes p) ≡ Some number → p ≡ Pointer.Redirect number
pointer-leads bytes Pointer.Unused number leads = absurd (cc leads)
pointer-leads bytes (Pointer.Normal e) number leads = absurd (cc leads)
pointer-leads bytes (Pointer.Redirect target) number leads = let same : target ≡ number = cc leads in ap Pointer.Redirect same
pointer-leads bytes Pointer.Dead number leads = absurd (cc leads)

pub redirected-from : (bytes : List ℕ) (count number n : ℕ) → redirect_at (slots_in count bytes) n ≡ Some number → SomeRedirects bytes count number
redirected-from bytes count number zero leads = absurd (cc leads)
redirected-from bytes count number (suc i) leads = elim (cases_lt i count) [
  | inl within ↦ record {
    index = i;
    within = within;
    is = pointer-leads bytes (pointer_in bytes i) number
        (sym (ap (option_and_then target_of) (found count bytes (suc i) i (omega arith) within ∙ ap Some (shown bytes i (pointer_in bytes i) refl))) ∙ leads);
  }
  | inr past ↦
      let none : redirect_at (slots_in count bytes) (suc i) ≡ None = ap (option_and_then target_of) (missing count bytes (suc i) i (omega arith) past) in
      absurd (let both : None ≡ Some number = sym none ∙ leads in cc both)
]
