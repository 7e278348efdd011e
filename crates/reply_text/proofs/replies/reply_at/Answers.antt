use Rattle.reply_text.proofs.ReplyLaws.{spells_read}
use Rattle.reply_text.proofs.replies.reply_at.Goals as goal

pub returns : goal.returns
returns c = spells_read _ _ c.read_reply.ensures
