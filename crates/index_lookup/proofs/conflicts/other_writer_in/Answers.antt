use Rattle.std.proofs.Common.{ℕ, sym, ◌∙◌, inl, inr}
use Rattle.std.specs.Prelude.{Contains}
use Rattle.std.proofs.lemmas.Bool.{iff_false}
use Rattle.visibility.specs.Seeing.{IsRunning}
use Rattle.visibility.specs.Visible.{state_of}
use Rattle.index_lookup.proofs.Among.{none-touched}
use Rattle.index_lookup.proofs.conflicts.other_writer_in.Goals as goal
use Rattle.index_lookup.proofs.conflicts.other_writer_in.Goals.{else-not-is_frozen-via-then-not-is_frozen+else-is_other_writer, else-not-is_frozen-via-else-not-is_frozen, else-header-ne0-via-then-header-ne0+else-is_other_writer-2, else-header-ne0-via-else-header-ne0}

pub returns : goal.returns
returns c =
    let P : ℕ → Type 0 = λ x. IsRunning (state_of c.args.reader.now.statuses.now) x × (Contains c.args.reader.now.own.now.ids x → ⊥) in
    λ x held. none-touched c.args.header.now P
    (elim c.else-not-is_frozen.branch [
      | else-not-is_frozen-via-then-not-is_frozen+else-is_other_writer w ↦ inr (iff_false w.is_other_writer.ensures w.if-is_other_writer.false)
      | else-not-is_frozen-via-else-not-is_frozen w ↦ inl (sym c.is_frozen.ensures ∙ w.if-not-is_frozen.false)
    ])
    (elim c.else-header-ne0.branch [
      | else-header-ne0-via-then-header-ne0+else-is_other_writer-2 w ↦ inr (iff_false w.is_other_writer-then-header-ne0.ensures w.if-is_other_writer-2.false)
      | else-header-ne0-via-else-header-ne0 w ↦ inl w.if-header-ne0.false
    ])
    x held.touch (held.active, held.foreign)
