use Rattle.std.proofs.Common.{sym, ◌∙◌}
use Rattle.tasks.proofs.Faults.{fair_from_none, none_from_fair}
use Rattle.tasks.proofs.task.Task.form.Goals as goal

pub invariant_of-result : goal.invariant_of-result
invariant_of-result c = record { fair = fair_from_none _ (sym c.first_fault.ensures ∙ c.in-None.is) }

pub returns-in-Some-clause-fair : goal.returns-in-Some-clause-fair
returns-in-Some-clause-fair c = (fair_from_none _, none_from_fair _)
