-- The replies to steps that hand out at most one row.
use Rattle.std.specs.Prelude.{Result, Ok, Err, Option}
use Rattle.tuple_header.specs.declared.version.Row.{Row}
use Rattle.calls.specs.declared.reply.Reply.{Reply}
use Rattle.calls.specs.declared.reply.Reply.TheVariants as reply
use Rattle.calls.specs.declared.reply.Refusal.{Refusal}
use Rattle.session_steps.specs.declared.outcome.Ack.{Ack}
use Rattle.session_steps.specs.declared.outcome.Ack.TheVariants.{Done, Committed, RolledBack}

abbrev pub reply_to : Result Ack Refusal → Reply
reply_to (Ok Done) = reply.Done
reply_to (Ok Committed) = reply.Committed
reply_to (Ok RolledBack) = reply.RolledBack
reply_to (Err refusal) = reply.Refused refusal

-- where a row was looked for
abbrev pub found_reply : Result (Option Row) Refusal → Reply
found_reply (Ok row) = reply.Found row
found_reply (Err refusal) = reply.Refused refusal
