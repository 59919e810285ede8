-- The common period of tasks: the least common multiple of their periods.
use Rattle.std.specs.Prelude.{ℕ, ◌*◌, ◌/◌, ◌<◌, ◌≤◌, cond, List, [], ◌∷◌, length, Some, None, Option, ◌==◌, nat_lt, slice_index}
use Rattle.refusals.specs.declared.Refusal.{Refusal}
use Rattle.refusals.specs.declared.Refusal.TheVariants.{NoTask, LongCommonPeriod}
use Rattle.periods.specs.Divisors.{Divides, gcd}

-- the limits of the shop: tasks on one controller, ticks of a period, ticks of a common period
abbrev pub most_tasks : ℕ
most_tasks = 8

abbrev pub longest_period : ℕ
longest_period = 2000

abbrev pub longest_common_period : ℕ
longest_common_period = 10000

-- each period is from 1 to the longest
abbrev pub Proper : List ℕ → Type 0
Proper ts = (q : ℕ) → q < length ts → (1 ≤ slice_index ts q) × (slice_index ts q ≤ longest_period)

unfoldable pub lcm : ℕ → ℕ → ℕ
lcm a b = a * (b / gcd a b)

-- the least common multiple of m and of each period of a list
abbrev pub multiple : ℕ → List ℕ → ℕ
multiple m [] = m
multiple m (t ∷ ts) = multiple (lcm m t) ts

abbrev pub common_period : List ℕ → ℕ
common_period ts = multiple 1 ts

-- n is a multiple of each period
abbrev pub CommonMultiple : List ℕ → ℕ → Type 0
CommonMultiple ts n = (q : ℕ) → q < length ts → Divides (slice_index ts q) n

-- p is a common multiple, and divides every other
pub record LeastCommonMultiple (ts : List ℕ) (p : ℕ) : Type 0 where
  pub common : CommonMultiple ts p
  pub least : (n : ℕ) → CommonMultiple ts n → Divides p n

-- why there is no common period to work with: no task, or one that is too long
abbrev pub period_refusal : List ℕ → Option Refusal
period_refusal ts =
    cond (length ts == 0) (Some NoTask) (cond (nat_lt longest_common_period (common_period ts)) (Some LongCommonPeriod) None)
