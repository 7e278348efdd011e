use Rattle.transcript.proofs.TextLemmas.{judges_first, judges_all}
use Rattle.transcript.proofs.transcripts.judge_text.Goals as goal

pub returns : goal.returns
returns c =
    let first = c.in-Some.ensures in
    rw c.in-End.is (judges_all c.args.begins c.in-Some.settings _ c.args.text.now c.in-Some.from _ _ _ c.judge_all_exchanges.ensures first.0 first.1 c.in-Ok.ensures first.2 c.requires)

pub returns-in-FirstWrong : goal.returns-in-FirstWrong
returns-in-FirstWrong c =
    let first = c.in-Some.ensures in
    rw c.in-FirstWrong.is (judges_first c.args.begins c.in-Some.settings _ c.args.text.now c.in-Some.from _ _ _ c.judge_exchanges.ensures first.0 first.1 c.in-Ok.ensures first.2 c.requires)
