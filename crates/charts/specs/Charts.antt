-- The chart of a sheet: who runs in the ticks of a window, bar by bar.
use Rattle.std.specs.Prelude.{◌≡◌, ℕ, ◌+◌, ◌<◌, ◌≤◌, Bool, cond, ◌||◌, List, [], ◌∷◌, Err, MatchBool, Result, ◌≢◌, nat_lt}
use Rattle.refusals.specs.declared.Refusal.{Refusal}
use Rattle.refusals.specs.declared.Refusal.TheVariants.{WrongWindow}
use Rattle.timeline.specs.Processor.{Demands, runs}
use Rattle.entries.specs.declared.Bar.{Bar}
use Rattle.entries.specs.declared.list.List.{List as EntryList}
use Rattle.sheets.specs.declared.row.SheetRow.{SheetRow}
use Rattle.charts.specs.Listing.{Lists}
use Rattle.charts.specs.Plans.{demands_of, horizon}

-- the id of the row whose level runs in a tick, and 0 where none does
abbrev pub id_running : Demands → ℕ → List SheetRow → ℕ
id_running D tick [] = 0
id_running D tick (row ∷ rows) = cond (runs D tick row.level) row.id (id_running D tick rows)

unfoldable pub shown : List SheetRow → ℕ → ℕ
shown rows tick = id_running (demands_of rows) tick rows

-- a longest run of one id, from a tick on and inside a window that ends before `to`
pub record IsBar (shows : ℕ → ℕ) (from to : ℕ) (bar : Bar) : Type 0 where
  pub first : bar.first ≡ from
  pub some : 0 < bar.length
  pub within : from + bar.length ≤ to
  pub same : (tick : ℕ) → from ≤ tick → tick < from + bar.length → shows tick ≡ bar.id
  pub longest : from + bar.length < to → shows (from + bar.length) ≢ bar.id

-- bars that cover the window one after the other; an empty window has none
abbrev pub IsChart : (ℕ → ℕ) → ℕ → ℕ → List Bar → Type 0
IsChart shows from to [] = from ≡ to
IsChart shows from to (bar ∷ bars) = IsBar shows from to bar × IsChart shows (from + bar.length) to bars

-- a window has one chart at most
abbrev pub OneChart : (ℕ → ℕ) → ℕ → ℕ → Type 0
OneChart shows from to = (bars others : List Bar) → IsChart shows from to bars → IsChart shows from to others → bars ≡ others

-- a window that ends before it begins, or after the horizon
abbrev pub is_wrong_window : List SheetRow → ℕ → ℕ → Bool
is_wrong_window rows from to = nat_lt to from || nat_lt (horizon rows) to

-- the chart is listed, unless the window is wrong
abbrev pub Charted : List SheetRow → ℕ → ℕ → EntryList Bar → Result (Unit {0}) Refusal → EntryList Bar → Type 0
Charted rows from to before r after =
    MatchBool (is_wrong_window rows from to)
    ((r ≡ Err WrongWindow) × (after ≡ before))
    (Lists (IsChart (shown rows) from to) before r after)
