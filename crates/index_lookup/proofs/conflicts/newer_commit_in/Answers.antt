use Rattle.std.proofs.Common.{ℕ, sym, ◌∙◌, inl, inr}
use Rattle.std.proofs.lemmas.Bool.{iff_false}
use Rattle.visibility.specs.Seeing.{HasCommitted}
use Rattle.visibility.specs.Visible.{state_of}
use Rattle.snapshot.specs.Snap.{Sees}
use Rattle.index_lookup.proofs.Among.{none-touched}
use Rattle.index_lookup.proofs.conflicts.newer_commit_in.Goals as goal
use Rattle.index_lookup.proofs.conflicts.newer_commit_in.Goals.{else-not-is_frozen-via-then-not-is_frozen+else-is_newer_commit, else-not-is_frozen-via-else-not-is_frozen, else-header-ne0-via-then-header-ne0+else-is_newer_commit-2, else-header-ne0-via-else-header-ne0}

pub returns : goal.returns
returns c =
    let P : ℕ → Type 0 = λ x. HasCommitted (state_of c.args.reader.now.statuses.now) x × (Sees c.args.reader.now.snapshot.now c.args.reader.now.statuses.now x → ⊥) in
    λ x newer_commit. none-touched c.args.header.now P
    (elim c.else-not-is_frozen.branch [
      | else-not-is_frozen-via-then-not-is_frozen+else-is_newer_commit w ↦ inr (iff_false w.is_newer_commit.ensures w.if-is_newer_commit.false)
      | else-not-is_frozen-via-else-not-is_frozen w ↦ inl (sym c.is_frozen.ensures ∙ w.if-not-is_frozen.false)
    ])
    (elim c.else-header-ne0.branch [
      | else-header-ne0-via-then-header-ne0+else-is_newer_commit-2 w ↦ inr (iff_false w.is_newer_commit-then-header-ne0.ensures w.if-is_newer_commit-2.false)
      | else-header-ne0-via-else-header-ne0 w ↦ inl w.if-header-ne0.false
    ])
    x newer_commit.0 (newer_commit.1, newer_commit.2)
