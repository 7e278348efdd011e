-- The snapshot that lists nobody, at the next id: who reads by it counts its own ids, and all that has committed.
use Rattle.std.proofs.Common.{◌≡◌, ℕ, ◌<◌, List, Some, length, arith, refl, sym, ◌∙◌, subst}
use Rattle.std.specs.Prelude.{◌↔◌}
use Rattle.xid_circle.specs.Circle.{Precedes}
use Rattle.commit_status.specs.Window.{Window, IsWindow, IsGiven, place, next_id, turns}
use Rattle.commit_status.proofs.Places.{at-from_place, some-from_is, place-lt, upto-next, upto-given, precedes-turns}
use Rattle.commit_status.proofs.Turns.{turns-given}
use Rattle.commit_status.specs.declared.status.Status.TheVariants.{Committed}
use Rattle.snapshot.specs.Snap.{Sees, empty_at}
use Rattle.visibility.specs.Seeing.{HasCommitted, Reads, by_itself, by_others}
use Rattle.visibility.specs.Visible.{state_of, ReadsIn}
use Rattle.visibility.proofs.Makers.{state-some}

-- each id of a window stands before the next
pub given-before : (w : Window) (x : ℕ) → IsWindow w → IsGiven w x → Precedes x (next_id w)
given-before w x is there =
    let i = some-from_is (place w x) there in
    let turn = (at-from_place w.first (length w.entries) x i.0 i.1).turn in
    let within = place-lt w x i.0 i.1 in
    let next : turns w.first (next_id w) ≡ length w.entries = turns-given w.first (length w.entries) is.normal is.fits (let short = is.short in let limit = is.limit in omega arith) in
    (precedes-turns w x (next_id w) is (upto-given w x there) (upto-next w is)).1 (omega (arith, turn, within, next))

pub statement-reads : (w : Window) (own : List ℕ) (x : ℕ) → IsWindow w
    → ReadsIn w (empty_at (next_id w)) own x ↔ Reads (state_of w) (λ x. HasCommitted (state_of w) x) own x
statement-reads w own x is = (to, back)
  where
    to : ReadsIn w (empty_at (next_id w)) own x → Reads (state_of w) (λ x. HasCommitted (state_of w) x) own x
    to (by_itself mine) = by_itself mine
    to (by_others seen done) = by_others done done

    back : Reads (state_of w) (λ x. HasCommitted (state_of w) x) own x → ReadsIn w (empty_at (next_id w)) own x
    back (by_itself mine) = by_itself mine
    back (by_others seen done) = by_others (Sees.early (given-before w x is (state-some w x Committed done).0)) done
