use Rattle.sandpiper_c.proofs.vacuum.held_vacuum_step.Goals as goal

pub returns : goal.returns
returns c = (c.held_step-code.new.held.reply, c.held_step-code.ensures, c.put_piece.ensures)
