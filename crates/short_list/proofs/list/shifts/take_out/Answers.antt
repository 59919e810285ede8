use Rattle.short_list.proofs.Shifts.{taken_out}
use Rattle.short_list.proofs.list.shifts.take_out.Goals as goal

pub returns : goal.returns
returns g c = taken_out _ _ _ c.requires c.rotate_left.ensures.after
