-- A reader sees a version exactly where its verdict says so; and a version has one verdict.
use Rattle.std.proofs.Common.{◌≡◌, ℕ, Bool, true, false, not, ◌&&◌, List, Option, Some, None, refl, sym, ap, ◌∙◌, subst}
use Rattle.std.specs.Prelude.{◌↔◌}
use Rattle.std.proofs.lemmas.Bool.{and_parts, and_from}
use Rattle.std.proofs.lemmas.Option.{same_Some, none-some}
use Rattle.tuple_header.specs.declared.version.Header.{Header}
use Rattle.commit_status.specs.Window.{Window}
use Rattle.snapshot.specs.Snap.{Snap}
use Rattle.visibility.specs.Seeing.{VisibleBy, inserter, deleter}
use Rattle.visibility.specs.Visible.{ReadsIn, IsVisible}
use Rattle.reasons.specs.declared.reason.Reason.{Reason}
use Rattle.reasons.specs.declared.reason.Touch.{Touch}
use Rattle.reasons.specs.declared.reason.Verdict.{Verdict}
use Rattle.reasons.specs.Reasons.{IsReasonIn, IsTouchIn, IsVerdictIn, counts, counts_or, verdict_shows}
use Rattle.reasons.proofs.SightingLemmas.{xid_of}
use Rattle.reasons.proofs.ReasonLemmas.{reason-decides, reason-one}

-- who made the version, if anybody did, counts
made-decides : (w : Window) (s : Snap) (own : List ℕ) (o : Option ℕ) (touch : Option Touch) → IsTouchIn w s own o touch
    → ((x : ℕ) → o ≡ Some x → ReadsIn w s own x) ↔ (counts_or true touch ≡ true)
made-decides w s own None None h = (λ f. refl, λ e x is. absurd (none-some x is))
made-decides w s own None (Some touch) h = absurd h
made-decides w s own (Some x) None h = absurd h
made-decides w s own (Some x) (Some touch) h =
    let d = reason-decides w s own x touch.reason h.1 in
    (λ f. d.0 (f x refl), λ e y is. subst (ReadsIn w s own) (same_Some x y is) (d.1 e))

-- who deleted it, if anybody did, does not
kept-decides : (w : Window) (s : Snap) (own : List ℕ) (o : Option ℕ) (touch : Option Touch) → IsTouchIn w s own o touch
    → ((x : ℕ) → o ≡ Some x → ¬ ReadsIn w s own x) ↔ (not (counts_or false touch) ≡ true)
kept-decides w s own None None h = (λ f. refl, λ e x is. absurd (none-some x is))
kept-decides w s own None (Some touch) h = absurd h
kept-decides w s own (Some x) None h = absurd h
kept-decides w s own (Some x) (Some touch) h = of (counts touch.reason) (reason-decides w s own x touch.reason h.1)
  where
    of : (b : Bool) → (ReadsIn w s own x ↔ (b ≡ true)) → ((y : ℕ) → Some x ≡ Some y → ¬ ReadsIn w s own y) ↔ (not b ≡ true)
    of true d = (λ f. absurd (f x refl (d.1 refl)), λ e. absurd (cc))
    of false d = (λ f. refl, λ e y is reads. absurd (let g = d.0 (subst (ReadsIn w s own) (sym (same_Some x y is)) reads) in cc))

pub verdict-decides : (w : Window) (s : Snap) (own : List ℕ) (h : Header) (verdict : Verdict) → IsVerdictIn w s own h verdict
    → IsVisible w s own h ↔ (verdict_shows verdict ≡ true)
verdict-decides w s own h verdict v =
    let m = made-decides w s own (inserter h) verdict.maker v.maker in
    let k = kept-decides w s own (deleter h) verdict.deleter v.deleter in (
      λ seen. and_from (counts_or true verdict.maker) (not (counts_or false verdict.deleter)) (m.0 seen.made) (k.0 seen.kept),
      λ e. let both = and_parts (counts_or true verdict.maker) (not (counts_or false verdict.deleter)) e in
          record { made = m.1 both.0; kept = k.1 both.1 },
    )

-- There is one.

abbrev pub touch_of : ℕ → Reason → Touch
touch_of n reason = record { id = xid_of n; reason = reason }

abbrev pub verdict_of : Option Touch → Option Touch → Verdict
verdict_of maker deleter = record { maker = maker; deleter = deleter }

touch-one : (w : Window) (s : Snap) (own : List ℕ) (o : Option ℕ) (a b : Option Touch) → IsTouchIn w s own o a → IsTouchIn w s own o b → a ≡ b
touch-one w s own None None None h k = refl
touch-one w s own None None (Some b) h k = absurd k
touch-one w s own None (Some a) b h k = absurd h
touch-one w s own (Some x) None b h k = absurd h
touch-one w s own (Some x) (Some a) None h k = absurd k
touch-one w s own (Some x) (Some a) (Some b) h k =
    ap (λ (n : ℕ). Some (touch_of n a.reason)) (h.0 ∙ sym k.0)
    ∙ ap (λ (r : Reason). Some (touch_of b.id.0 r)) (reason-one w s own x a.reason b.reason h.1 k.1)

pub verdict-one : (w : Window) (s : Snap) (own : List ℕ) (h : Header) (a b : Verdict) → IsVerdictIn w s own h a → IsVerdictIn w s own h b → a ≡ b
verdict-one w s own h a b v u =
    ap (λ (m : Option Touch). verdict_of m a.deleter) (touch-one w s own (inserter h) a.maker b.maker v.maker u.maker)
    ∙ ap (λ (d : Option Touch). verdict_of b.maker d) (touch-one w s own (deleter h) a.deleter b.deleter v.deleter u.deleter)
