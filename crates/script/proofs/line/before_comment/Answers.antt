use Rattle.script.proofs.Cutting.{comment_end}
use Rattle.script.proofs.line.before_comment.Goals as goal

pub returns : goal.returns
returns c = rw (c.unwrap_or.ensures, c.hash.ensures) (comment_end c.args.text.now)
