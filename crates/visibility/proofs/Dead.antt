-- Nobody sees what is dead.
use Rattle.std.proofs.Common.{◌≡◌, ◌≢◌, ℕ, ◌≤◌, List, arith, ⊎_elim, sym, ◌∙◌}
use Rattle.std.specs.List.{Contains}
use Rattle.tuple_header.specs.declared.version.Header.{Header}
use Rattle.commit_status.specs.declared.status.Status.TheVariants.{InProgress, Committed, Aborted}
use Rattle.commit_status.specs.Window.{Window, IsWindow, IsActive, IsCommitted, IsAborted, IsUpToNext, turns}
use Rattle.commit_status.proofs.Places.{upto-place}
use Rattle.commit_status.proofs.Giving.{finished-place}
use Rattle.snapshot.specs.Snap.{Snap}
use Rattle.snapshot.specs.Laws.{IsBounded}
use Rattle.snapshot.proofs.Sights.{past-seen}
use Rattle.visibility.specs.Seeing.{Reads}
use Rattle.visibility.specs.Visible.{ReadsIn, IsVisible, IsDead}
use Rattle.visibility.proofs.Makers.{made-of, kept-of, committed-to, committed-from}

pub aborted-unread : (w : Window) (s : Snap) (own : List ℕ) (x : ℕ) → ((y : ℕ) → Contains own y → IsActive w y) → IsAborted w x → ¬ ReadsIn w s own x
aborted-unread w s own x active gone (Reads.by_itself c) = let e : Aborted ≡ InProgress = sym gone ∙ (active x c).unfinished in absurd (cc)
aborted-unread w s own x active gone (Reads.by_others sees done) = let e : Aborted ≡ Committed = sym gone ∙ committed-to w x done in absurd (cc)

pub committed-upto : (w : Window) (x : ℕ) → IsCommitted w x → IsUpToNext w x
committed-upto w x done =
    let found = finished-place w x (λ e. let f : Committed ≡ InProgress = sym done ∙ e in cc) in
    upto-place w x found.0 found.1

pub dead-unseen : (w : Window) (s : Snap) (own : List ℕ) (horizon : ℕ) (h : Header) → IsWindow w → IsBounded w s → IsUpToNext w horizon
    → turns w.first horizon ≤ turns w.first s.xmin → ((x : ℕ) → Contains own x → IsActive w x) → IsDead w horizon h → ¬ IsVisible w s own h
dead-unseen w s own horizon h is within up low active (IsDead.never_was thawed gone) =
    λ v. ⊎_elim (λ f. thawed f) (λ r. aborted-unread w s own h.xmin.0 active gone r) (made-of (ReadsIn w s own) h v)
dead-unseen w s own horizon h is within up low active (IsDead.is_past done before) =
    let ux = committed-upto w h.xmax.0 done in
    let some : h.xmax.0 ≢ 0 = λ e. (let n = ux.normal in omega arith) in
    λ v. kept-of (ReadsIn w s own) h v some (Reads.by_others (past-seen w s horizon h.xmax.0 is within up ux low before) (committed-from w h.xmax.0 done))
