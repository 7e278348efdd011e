use Rattle.judge.proofs.due.answer_making.Goals as goal

pub returns-in-Due : goal.returns-in-Due
returns-in-Due c = (rw c.in-Due.is at c.of_making.ensures).0

pub returns-in-Free : goal.returns-in-Free
returns-in-Free c = rw c.in-Free.is at c.of_making.ensures
