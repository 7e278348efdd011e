-- What hints leave as it is, and that they are true.
use Rattle.std.proofs.Common.{◌≡◌, ℕ, ◌↔◌, Bool, true, false, not, ◌&&◌, ◌||◌, nat_eq, List, None, Some, if◌then◌else◌, bit_and, bit_or, arith, inl, inr, ⊎_elim, refl, sym, ap, ◌∙◌}
use Rattle.std.proofs.lemmas.Nat.{and_or_apart, and_assoc, or_comm}
use Rattle.std.specs.Int.Bits.{and_zero_r}
use Rattle.std.proofs.lemmas.Bool.{or_parts, or_from, ne_eqb}
use Rattle.tuple_header.specs.declared.version.Header.{Header}
use Rattle.tuple_header.specs.Faults.{has_mark, header_fault}
use Rattle.commit_status.specs.declared.status.Status.{Status}
use Rattle.commit_status.specs.declared.status.Status.TheVariants.{InProgress, Committed, Aborted}
use Rattle.commit_status.specs.Window.{Window, status_of}
use Rattle.snapshot.specs.Snap.{Snap}
use Rattle.tuple_header.specs.Marks.{is_frozen}
use Rattle.visibility.specs.Seeing.{inserter}
use Rattle.visibility.specs.Visible.{IsVisible}
use Rattle.visibility.specs.Hints.{maker_marks, deleter_marks, hinted, AreTrue}
use Rattle.visibility.proofs.Headers.{no-fault, fault-no}

inserter-apart : (b : Bool) (s : Status) → (bit_and (maker_marks b s) 0x0400 ≡ 0) × (bit_and (maker_marks b s) 0x0800 ≡ 0) × (bit_and (maker_marks b s) 0xd0ff ≡ 0) × (bit_and (maker_marks b s) 0x0300 ≡ maker_marks b s)
inserter-apart true s = (refl, refl, refl, refl)
inserter-apart false InProgress = (refl, refl, refl, refl)
inserter-apart false Committed = (refl, refl, refl, refl)
inserter-apart false Aborted = (refl, refl, refl, refl)

deleter-apart : (b : Bool) (s : Status) → (bit_and (deleter_marks b s) 0x0300 ≡ 0) × (bit_and (deleter_marks b s) 0xd0ff ≡ 0)
deleter-apart true s = (refl, refl)
deleter-apart false InProgress = (refl, refl)
deleter-apart false Committed = (refl, refl)
deleter-apart false Aborted = (refl, refl)

and-zero : (m : ℕ) → bit_and m 0 ≡ 0
and-zero m = and_zero_r m

-- the mark of an update has no part in the others
updated-apart : (m n : ℕ) → bit_and 0x2000 n ≡ 0 → bit_and (bit_and m 0x2000) n ≡ 0
updated-apart m n e = and_assoc n m 0x2000 ∙ ap (bit_and m) e ∙ and-zero m

-- the mask of a header with hints
abbrev mask_of : ℕ → ℕ → ℕ → ℕ
mask_of k d m = bit_or (bit_or k d) (bit_and m 0x2000)

without-updated : (k d m n : ℕ) → bit_and 0x2000 n ≡ 0 → bit_and (mask_of k d m) n ≡ bit_and (bit_or k d) n
without-updated k d m n e = and_or_apart n (bit_or k d) (bit_and m 0x2000) (updated-apart m n e)

inserter-part : (k d m n : ℕ) → bit_and 0x2000 n ≡ 0 → bit_and d n ≡ 0 → bit_and (mask_of k d m) n ≡ bit_and k n
inserter-part k d m n e f = without-updated k d m n e ∙ and_or_apart n k d f

deleter-part : (k d m n : ℕ) → bit_and 0x2000 n ≡ 0 → bit_and k n ≡ 0 → bit_and (mask_of k d m) n ≡ bit_and d n
deleter-part k d m n e f = without-updated k d m n e ∙ ap (λ x. bit_and x n) (or_comm k d) ∙ and_or_apart n d k f

made-by : (b : Bool) (s : Status) (d m : ℕ) → bit_and d 0x0300 ≡ 0 → bit_and (mask_of (maker_marks b s) d m) 0x0300 ≡ maker_marks b s
made-by b s d m e = inserter-part (maker_marks b s) d m 0x0300 refl e ∙ (inserter-apart b s).3

frozen-marks : (b : Bool) (s : Status) → nat_eq (maker_marks b s) 0x0300 ≡ b
frozen-marks true s = refl
frozen-marks false InProgress = refl
frozen-marks false Committed = refl
frozen-marks false Aborted = refl

committed-marks : (b : Bool) (s : Status) → maker_marks b s ≡ 0x0100 → s ≡ Committed
committed-marks true s e = absurd (omega (arith, e))
committed-marks false InProgress e = absurd (omega (arith, e))
committed-marks false Committed e = refl
committed-marks false Aborted e = absurd (omega (arith, e))

aborted-marks : (b : Bool) (s : Status) → maker_marks b s ≡ 0x0200 → s ≡ Aborted
aborted-marks true s e = absurd (omega (arith, e))
aborted-marks false InProgress e = absurd (omega (arith, e))
aborted-marks false Committed e = absurd (omega (arith, e))
aborted-marks false Aborted e = refl

deleter-committed : (b : Bool) (s : Status) → has_mark (deleter_marks b s) 0x0400 ≡ true → s ≡ Committed
deleter-committed true s e = absurd (cc)
deleter-committed false InProgress e = absurd (cc)
deleter-committed false Committed e = refl
deleter-committed false Aborted e = absurd (cc)

deleter-aborted : (b : Bool) (s : Status) → has_mark (deleter_marks b s) 0x0800 ≡ true → b ≡ false → s ≡ Aborted
deleter-aborted true s e f = absurd (cc)
deleter-aborted false InProgress e f = absurd (cc)
deleter-aborted false Committed e f = absurd (cc)
deleter-aborted false Aborted e f = refl

not-both : (b : Bool) (s : Status) → has_mark (deleter_marks b s) 0x0400 && has_mark (deleter_marks b s) 0x0800 ≡ false
not-both true s = refl
not-both false InProgress = refl
not-both false Committed = refl
not-both false Aborted = refl

none-marked : (b : Bool) (s : Status) → b ≡ true → has_mark (deleter_marks b s) 0x0800 ≡ true
none-marked true s e = refl
none-marked false s e = absurd (cc)

-- freezing stays
pub hinted-frozen : (w : Window) (h : Header) → is_frozen (hinted w h) ≡ is_frozen h
hinted-frozen w h =
    let b = is_frozen h in
    let s = status_of w h.xmin.0 in
    let d = deleter_marks (nat_eq h.xmax.0 0) (status_of w h.xmax.0) in
    let e = made-by b s d h.mask (deleter-apart (nat_eq h.xmax.0 0) (status_of w h.xmax.0)).0 in
    ap (λ n. nat_eq n 0x0300) e ∙ frozen-marks b s

-- the hints are true
pub hinted-true : (w : Window) (h : Header) → AreTrue w (hinted w h)
hinted-true w h =
    let b = is_frozen h in
    let s = status_of w h.xmin.0 in
    let z = nat_eq h.xmax.0 0 in
    let t = status_of w h.xmax.0 in
    let k = maker_marks b s in
    let d = deleter_marks z t in
    let made = made-by b s d h.mask (deleter-apart z t).0 in
    let four = deleter-part k d h.mask 0x0400 refl (inserter-apart b s).0 in
    let eight = deleter-part k d h.mask 0x0800 refl (inserter-apart b s).1 in
    record {
      maker_committed = λ e. committed-marks b s (sym made ∙ e);
      maker_aborted = λ e. aborted-marks b s (sym made ∙ e);
      deleter_committed = λ e. deleter-committed z t (ap (λ n. not (nat_eq n 0)) (sym four) ∙ e);
      deleter_aborted = λ e some. deleter-aborted z t (ap (λ n. not (nat_eq n 0)) (sym eight) ∙ e) (ne_eqb h.xmax.0 0 some);
    }

deleter-step : (z old new two : Bool) → z && (not old || two) ≡ false → (z ≡ true → new ≡ true) → z && (not new || two) ≡ false
deleter-step false old new two e f = refl
deleter-step true true new two e f = rw (f refl) e
deleter-step true false new two e f = absurd (cc)

-- a header without a fault has none with hints
pub hinted-faultless : (w : Window) (h : Header) → header_fault h ≡ None → header_fault (hinted w h) ≡ None
hinted-faultless w h e =
    let n = no-fault h e in
    let b = is_frozen h in
    let s = status_of w h.xmin.0 in
    let z = nat_eq h.xmax.0 0 in
    let t = status_of w h.xmax.0 in
    let k = maker_marks b s in
    let d = deleter_marks z t in
    let four = deleter-part k d h.mask 0x0400 refl (inserter-apart b s).0 in
    let eight = deleter-part k d h.mask 0x0800 refl (inserter-apart b s).1 in
    let rest = inserter-part k d h.mask 0xd0ff refl (deleter-apart z t).1 ∙ (inserter-apart b s).2 in
    let has : ℕ → Bool = λ m. not (nat_eq m 0) in
    fault-no (hinted w h) (record {
      attributes = n.attributes;
      masks = or_from _ _ (or_from _ _ (or_parts _ _ (or_parts _ _ n.masks).0).0 (ap has rest))
          (ap (λ m. has m && has (bit_and (mask_of k d h.mask) 0x0800)) four ∙ ap (λ m. has (bit_and d 0x0400) && has m) eight ∙ not-both z t);
      xmin = n.xmin;
      xmax = or_from _ _ (or_parts _ _ n.xmax).0
          (deleter-step z (has_mark h.mask 0x0800) (has_mark (mask_of k d h.mask) 0x0800) (has_mark h.mask2 0x4000) (or_parts _ _ n.xmax).1
          (λ none. ap has eight ∙ none-marked z t none));
      ctid = n.ctid;
    })

-- hints change no verdict
pub hints-nothing : (v w : Window) (s : Snap) (own : List ℕ) (h : Header) → IsVisible w s own (hinted v h) ↔ IsVisible w s own h
hints-nothing v w s own h = (
  λ a. record { made = λ x is. a.made x (same ∙ is); kept = a.kept },
  λ a. record { made = λ x is. a.made x (sym same ∙ is); kept = a.kept },
)
  where
    same : inserter (hinted v h) ≡ inserter h
    same = ap (λ b. if b then None else Some h.xmin.0) (hinted-frozen v h)
