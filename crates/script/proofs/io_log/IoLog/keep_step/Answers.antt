use Rattle.script.proofs.ListLemmas.{put_work}
use Rattle.script.proofs.io_log.IoLog.keep_step.Goals as goal
use Rattle.script.proofs.io_log.IoLog.keep_step.Goals.{in-Ok, in-Err}

pub returns-clause-kept : goal.returns-clause-kept
returns-clause-kept g c = elim c.match-push.branch [
  | in-Ok w ↦
      let at = rw c.from.ensures at c.index_mut.ensures.value in
      rw (w.result-is, c.from.ensures) (put_work c.args.lists.now.items c.args.new c.index_mut.result.now c.push.new.self c.requires at w.in-Ok.ensures.items)
  | in-Err w ↦ rw w.result-is tt
]
