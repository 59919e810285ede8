-- Orders that pass the tick judge, found by computing.
use Rattle.std.proofs.Common.{◌≡◌, ℕ, ◌<◌, Bool, true, eqb, ltb, leb, List, [], ◌∷◌, length, get_or}
use Rattle.std.proofs.lemmas.Bool.{leb-true, eqb-true, eq-eqb}
use Rattle.tasks.specs.declared.figures.Figures.{Figures}
use Rattle.timeline.specs.Timeline.{below_those}
use Rattle.judges.specs.Tick.{InTime}
use Rattle.planner.specs.Orders.{Levels, Passes}
use Rattle.worked.proofs.Tested.{all_below, all_at, all_hold, holds, implies, implied}
use Rattle.worked.proofs.Responses.{is_worst, never_late}

-- levels of n places
module _ (n : ℕ) (levels : ℕ → ℕ) where
  abbrev differs : ℕ → ℕ → Bool
  differs place other = implies (eqb (levels place) (levels other)) (eqb place other)

  abbrev level_tests : ℕ → List Bool
  level_tests place = leb 1 (levels place) ∷ leb (levels place) n ∷ all_below (differs place) n ∷ []

  abbrev pub are_levels : Bool
  are_levels = all_below (λ place. all_hold (level_tests place)) n

  pub are_levels_lem : are_levels ≡ true → Levels n levels
  are_levels_lem test =
      record {
        least = λ place inside. leb-true 1 (levels place) (holds (level_tests place) (at place inside) 0);
        most = λ place inside. leb-true (levels place) n (holds (level_tests place) (at place inside) 1);
        apart = λ place other inside inside' same.
            eqb-true place other
            (implied (eqb (levels place) (levels other)) (eqb place other)
            (all_at (differs place) n (holds (level_tests place) (at place inside) 2) other inside') (eq-eqb (levels place) (levels other) same));
      }
    where
      at : (place : ℕ) → place < n → all_hold (level_tests place) ≡ true
      at place inside = all_at (λ place. all_hold (level_tests place)) n test place inside

-- All comes round after P ticks, none starts after m, and the first n requests of each place decide; the first takes longest.
module _ (tasks : List Figures) (starts levels : ℕ → ℕ) (P m n : ℕ) (responses : List ℕ) where
  abbrev below : ℕ → ℕ → ℕ
  below place = below_those place (λ other. ltb (levels other) (levels place))

  abbrev in_time : ℕ → Bool
  in_time place = is_worst tasks starts (below place) place P m (get_or responses place 0) n 1

  abbrev pub all_in_time : Bool
  all_in_time = all_below in_time (length tasks)

  pub all_in_time_lem : all_in_time ≡ true → Passes InTime tasks starts levels
  all_in_time_lem test place inside =
      (inside, never_late tasks starts (below place) place P m (get_or responses place 0) n 1 (all_at in_time (length tasks) test place inside))
