use Rattle.sheets.specs.Sheets.{rows_of}
use Rattle.charts.proofs.Raised.{Raised}
use Rattle.charts.proofs.running.Running.of.Given as goal

abbrev pub invariant-loop-level : goal.invariant-loop-level
invariant-loop-level l = Raised (rows_of l.sheet) l.level l.processor
