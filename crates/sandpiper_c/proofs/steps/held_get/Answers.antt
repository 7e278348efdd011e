use Rattle.std.proofs.Common.{◌∙◌, ap}
use Rattle.session_steps.specs.Replies.{found_reply}
use Rattle.c_handles.specs.CallStatus.{number_of_status, status_of_found}
use Rattle.sandpiper_c.proofs.Finding.{found-status, found-shown}
use Rattle.sandpiper_c.proofs.steps.held_get.Goals as goal

pub returns : goal.returns
returns c =
    let gets = c.get.ensures in (
      found_reply gets.found,
      record {
        follows = gets.follows;
        exact = gets.exact;
        status = c.number.ensures ∙ ap number_of_status (c.of_found.ensures ∙ ap status_of_found gets.answers ∙ found-status gets.found);
      },
      found-shown gets.found c.args.row.now c.get.new.place gets.placed,
    )
