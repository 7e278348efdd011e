-- What a change of the window does to a reader's verdicts.
use Rattle.std.proofs.Common.{◌≡◌, ℕ, List, Option, inl, inr, ⊎_elim, sym, ap, ◌∙◌}
use Rattle.std.specs.List.{Contains}
use Rattle.tuple_header.specs.declared.version.Header.{Header}
use Rattle.commit_status.specs.declared.status.Status.{Status}
use Rattle.commit_status.specs.declared.status.Status.TheVariants.{InProgress, Committed}
use Rattle.commit_status.specs.Window.{Window, IsWindow, IsCommitted, place, status_of, top_of}
use Rattle.commit_status.specs.Changes.{Gives, Finishes}
use Rattle.commit_status.proofs.Finishing.{finishes-top, finishes-given}
use Rattle.commit_status.proofs.Giving.{gives-place_old, gives-status, gives-top_old, next-unfinished}
use Rattle.commit_status.proofs.Places.{some-from_is, is-from_some}
use Rattle.snapshot.specs.Snap.{Snap, Sees}
use Rattle.snapshot.proofs.Sights.{sees-top}
use Rattle.visibility.specs.Seeing.{Reads, VisibleBy, Touches}
use Rattle.visibility.specs.Visible.{ReadsIn}
use Rattle.visibility.specs.Laws.{StaysKnown, KeepsVerdicts}
use Rattle.visibility.proofs.Makers.{committed-to, committed-from}

-- readers that count the same of the ids that a version names see it or not alike
pub VisibleBy-same : {R R' : ℕ → Type 0} {h : Header} → ((x : ℕ) → Touches x h → R x → R' x) → ((x : ℕ) → Touches x h → R' x → R x) → VisibleBy R h → VisibleBy R' h
VisibleBy-same {R} {R'} {h} to back seen = record {
  made = λ x is. to x (Touches.made_by is) (seen.made x is);
  kept = λ x is read. seen.kept x is (back x (Touches.deleted_by is) read);
}

gives-known : (w v : Window) (parent : Option ℕ) (x : ℕ) → Gives w v parent → StaysKnown w v x
gives-known w v parent x g there =
    let at = some-from_is (place w x) there in is-from_some (place v x) at.0 (gives-place_old w v parent x at.0 g at.1)

reads-to : (v w : Window) (s : Snap) (own : List ℕ) (x : ℕ) → (Sees s w x → IsCommitted w x → Sees s v x × IsCommitted v x) → ReadsIn w s own x → ReadsIn v s own x
reads-to v w s own x f (Reads.by_itself c) = Reads.by_itself c
reads-to v w s own x f (Reads.by_others sees done) = let g = f sees (committed-to w x done) in Reads.by_others g.0 (committed-from v x g.1)

same-verdicts : (w v : Window) (s : Snap) (own : List ℕ) → ((x : ℕ) → StaysKnown w v x) → ((x : ℕ) → Sees s w x → IsCommitted w x → Sees s v x × IsCommitted v x)
    → ((x : ℕ) → Sees s v x → IsCommitted v x → Sees s w x × IsCommitted w x) → KeepsVerdicts w v s own
same-verdicts w v s own known to back = (
  known,
  record {
    ids = λ x there. (g x, f x);
    versions = λ h there. (VisibleBy-same (λ x touch. g x) (λ x touch. f x), VisibleBy-same (λ x touch. f x) (λ x touch. g x));
  },
)
  where
    f : (x : ℕ) → ReadsIn w s own x → ReadsIn v s own x
    f x = reads-to v w s own x (to x)

    g : (x : ℕ) → ReadsIn v s own x → ReadsIn w s own x
    g x = reads-to w v s own x (back x)

pub finishing-unseen : (w v : Window) (ids : List ℕ) (status : Status) (s : Snap) (own : List ℕ) → Finishes w v ids status
    → ((x : ℕ) → Contains ids x → ¬ Contains own x) → ((x : ℕ) → Contains ids x → ¬ Sees s w x) → KeepsVerdicts w v s own
finishing-unseen w v ids status s own f apart unseen =
    same-verdicts w v s own
    (λ x. finishes-given w v ids status x f)
    (λ x sees done. (
      sees-top s v w x (finishes-top w v ids status x f) sees,
      ⊎_elim (λ mine. absurd (unseen x mine.0 sees)) (λ other. other.1 ∙ done) (f.each x),
    ))
    (λ x sees done. let before = sees-top s w v x (sym (finishes-top w v ids status x f)) sees in
    (before, ⊎_elim (λ mine. absurd (unseen x mine.0 before)) (λ other. sym other.1 ∙ done) (f.each x)))

pub giving-unseen : (w v : Window) (parent : Option ℕ) (s : Snap) (own : List ℕ) → IsWindow w → IsWindow v → Gives w v parent → KeepsVerdicts w v s own
giving-unseen w v parent s own before after g =
    same-verdicts w v s own
    (λ x. gives-known w v parent x g)
    (λ x sees done. (sees-top s v w x (top x done) sees, gives-status w v parent x before after g ∙ done))
    (λ x sees done. let was : IsCommitted w x = sym (gives-status w v parent x before after g) ∙ done in
    (sees-top s w v x (sym (top x was)) sees, was))
  where
    top : (x : ℕ) → IsCommitted w x → top_of v x ≡ top_of w x
    top x done = gives-top_old w v parent x before after g (λ e. let p : InProgress ≡ Committed = sym (next-unfinished w before) ∙ ap (status_of w) (sym e) ∙ done in cc)
