-- Rows of a table: what stands under an id, and what the changes leave.
use Rattle.std.specs.Prelude.{ℕ, ◌+◌, ◌-◌, ◌≤◌, Bool, true, cond, not, ◌&&◌, List, [], ◌∷◌, length, is_some, Some, None, Option, ◌==◌, nat_le, nat_lt}
use Rattle.std.specs.Option.{option_map}
use Rattle.refusals.specs.Answers.{or_else, refuse_if}
use Rattle.refusals.specs.declared.Refusal.{Refusal}
use Rattle.refusals.specs.declared.Refusal.TheVariants.{ZeroId, StandingId, UnknownId, Figures as BadFigures, TooManyTasks}
use Rattle.periods.specs.Multiples.{most_tasks}
use Rattle.tasks.specs.declared.figures.Figures.{Figures}
use Rattle.tasks.specs.declared.rows.Row.{Row}
use Rattle.tasks.specs.Figures.{is_fair, first_fault}

abbrev pub row_of : ℕ → Figures → Row
row_of id figures = record { id = id; figures = figures }

-- the ids rise strictly, from a least one on
abbrev pub Rising : ℕ → List Row → Type 0
Rising least [] = Unit {0}
Rising least (row ∷ rows) = (least ≤ row.id) × Rising (row.id + 1) rows

-- a test of both: the ids rise, and every row is fair
abbrev pub tidy : ℕ → List Row → Bool
tidy least [] = true
tidy least (row ∷ rows) = nat_le least row.id && (is_fair row.figures && tidy (row.id + 1) rows)

-- the figures that stand under an id
abbrev pub figures_of : ℕ → List Row → Option Figures
figures_of id [] = None
figures_of id (row ∷ rows) = cond (id == row.id) (Some row.figures) (figures_of id rows)

abbrev pub stands : ℕ → List Row → Bool
stands id rows = is_some (figures_of id rows)

-- the place of an id, counted from 1
abbrev pub place_of : ℕ → List Row → ℕ
place_of id [] = 1
place_of id (row ∷ rows) = cond (id == row.id) 1 (1 + place_of id rows)

-- the id at a place, counted from 1
abbrev pub id_at : ℕ → List Row → Option ℕ
id_at place [] = None
id_at place (row ∷ rows) = cond (place == 1) (Some row.id) (id_at (place - 1) rows)

-- one more row, before the first with a greater id
abbrev pub entered : Row → List Row → List Row
entered new [] = new ∷ []
entered new (row ∷ rows) = cond (nat_lt new.id row.id) (new ∷ row ∷ rows) (row ∷ entered new rows)

-- other figures under an id
abbrev pub amended : Row → List Row → List Row
amended new [] = []
amended new (row ∷ rows) = cond (new.id == row.id) (new ∷ rows) (row ∷ amended new rows)

-- without the row of an id
abbrev pub struck : ℕ → List Row → List Row
struck id [] = []
struck id (row ∷ rows) = cond (id == row.id) rows (row ∷ struck id rows)

-- why a call is refused, in the order in which it is said: the id, the figures, a full table
abbrev pub standing_refusal : ℕ → List Row → Option Refusal
standing_refusal id rows = or_else (refuse_if (id == 0) ZeroId) (refuse_if (stands id rows) StandingId)

abbrev pub unknown_refusal : ℕ → List Row → Option Refusal
unknown_refusal id rows = or_else (refuse_if (id == 0) ZeroId) (refuse_if (not (stands id rows)) UnknownId)

abbrev pub figures_refusal : Figures → Option Refusal
figures_refusal figures = option_map BadFigures (first_fault figures)

abbrev pub enter_refusal : Row → List Row → Option Refusal
enter_refusal new rows =
    or_else (standing_refusal new.id rows)
    (or_else (figures_refusal new.figures) (refuse_if (nat_le most_tasks (length rows)) TooManyTasks))

abbrev pub amend_refusal : Row → List Row → Option Refusal
amend_refusal new rows = or_else (unknown_refusal new.id rows) (figures_refusal new.figures)
