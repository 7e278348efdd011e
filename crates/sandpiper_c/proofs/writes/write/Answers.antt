use Rattle.std.proofs.Common.{inl, rules}
use Rattle.sandpiper_c.specs.Rows.{text_within}
use Rattle.sandpiper_c.proofs.WritesLemmas.{is-text}
use Rattle.sandpiper_c.proofs.writes.write.Goals as goal

pub returns-in-Some : goal.returns-in-Some
returns-in-Some c = inl (text_within c.args.row.now, is-text c.args.row.now (search rules), search rules)

pub returns-in-None : goal.returns-in-None
returns-in-None c = inl (text_within c.args.row.now, is-text c.args.row.now (search rules), search rules)
