-- The figures of tables and cases are fair at every place.
use Rattle.std.proofs.Common.{zero, suc, List, [], ◌∷◌, map, arith}
use Rattle.std.specs.List.{AllByRecursion as All}
use Rattle.tasks.specs.declared.case.Case.{Case}
use Rattle.tasks.specs.declared.figures.Figures.{Figures}
use Rattle.tasks.specs.declared.table.Table.{Table}
use Rattle.tasks.specs.Figures.{Fair}
use Rattle.tasks.specs.Tables.{rows_of, figures_in}
use Rattle.tasks.proofs.Ordered.{fair_from_tidy}
use Rattle.tasks.proofs.Placed.{fair_task}
use Rattle.timeline.specs.Laws.{AllFair}
use Rattle.judges.specs.Meaning.{tasks_of}

pub rows_fair :
    {R : Type 0} (figures : R → Figures) (rows : List R) → All (λ row. Fair (figures row)) rows → AllFair (map figures rows)
rows_fair figures [] fair q below = absurd (omega arith)
rows_fair figures (row ∷ rows) fair zero below = fair.0
rows_fair figures (row ∷ rows) fair (suc q) below = rows_fair figures rows fair.1 q (omega arith)

pub table_fair : (table : Table) → AllFair (figures_in table)
table_fair table = rows_fair (λ row. row.figures) (rows_of table) (fair_from_tidy 1 (rows_of table) table.tidy)

pub case_fair : (case : Case) → AllFair (tasks_of case)
case_fair case q inside = fair_task case q inside _
