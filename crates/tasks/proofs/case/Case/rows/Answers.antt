use Rattle.std.proofs.Common.{sym, subst}
use Rattle.tasks.specs.Timed.{Sound}
use Rattle.tasks.proofs.Placed.{case_sound}
use Rattle.tasks.proofs.case.Case.rows.Goals as goal

pub returns-clause-sound : goal.returns-clause-sound
returns-clause-sound c = subst Sound (sym c.as_slice.ensures.value) (case_sound c.args.self.now)
