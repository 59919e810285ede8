-- Starts, which of them are related, and the list of choices that stands for all of them.
use Rattle.std.specs.Prelude.{◌≡◌, ℕ, ◌+◌, ◌*◌, ◌/◌, ◌%◌, ◌<◌, cond, ◌⊎◌, List, [], ◌∷◌, length, Some, None, Option, nat_lt, slice_index}
use Rattle.refusals.specs.Answers.{or_else}
use Rattle.refusals.specs.declared.Refusal.{Refusal}
use Rattle.refusals.specs.declared.Refusal.TheVariants.{TooManyChoices}
use Rattle.periods.specs.Divisors.{gcd}
use Rattle.periods.specs.Multiples.{lcm, common_period, period_refusal}

abbrev pub most_choices : ℕ
most_choices = 10000

-- Starts s and s', by place, are related: s differs from s' by a multiple of its period for each task, and by
-- one number for all, where both may be negative. That number is behind - ahead, and the multiple is
-- fewer - more; on both sides of the equation all of them are natural numbers.
pub record Related (ts : List ℕ) (s s' : ℕ → ℕ) : Type 0 where
  pub ahead : ℕ
  pub behind : ℕ
  pub more : ℕ → ℕ
  pub fewer : ℕ → ℕ
  pub same :
      (q : ℕ) → q < length ts → s q + ahead + more q * slice_index ts q ≡ s' q + behind + fewer q * slice_index ts q

-- the radix of each place: the gcd of its period and the least common multiple m of the earlier ones
abbrev pub radices : ℕ → List ℕ → List ℕ
radices m [] = []
radices m (t ∷ ts) = gcd t m ∷ radices (lcm m t) ts

-- a start for each place, below its radix
abbrev pub Below : List ℕ → List ℕ → Type 0
Below [] [] = Unit {0}
Below [] (s ∷ ss) = ⊥
Below (g ∷ gs) [] = ⊥
Below (g ∷ gs) (s ∷ ss) = (s < g) × Below gs ss

-- a listed choice of starts for tasks with periods ts; place 1 has radix 1, so its start is 0
abbrev pub Listed : List ℕ → List ℕ → Type 0
Listed ts ss = Below (radices 1 ts) ss

abbrev pub product : List ℕ → ℕ
product [] = 1
product (n ∷ ns) = n * product ns

abbrev pub number_of_choices : List ℕ → ℕ
number_of_choices ts = product (radices 1 ts)

-- the choice of a rank, counted from 0: the digits of the rank in these radices, the last place fastest
abbrev pub digits : List ℕ → ℕ → List ℕ
digits [] rank = []
digits (g ∷ gs) rank = rank / product gs ∷ digits gs (rank % product gs)

abbrev pub choice_of : List ℕ → ℕ → List ℕ
choice_of ts rank = digits (radices 1 ts) rank

-- in the order of a dictionary: smaller at the first place where they differ
abbrev pub Before : List ℕ → List ℕ → Type 0
Before [] ys = ⊥
Before (x ∷ xs) [] = ⊥
Before (x ∷ xs) (y ∷ ys) = (x < y) ⊎ ((x ≡ y) × Before xs ys)

-- the start of a place
abbrev pub start_of : List ℕ → ℕ → ℕ
start_of ss q = slice_index ss q

-- every choice of starts, however large, is related to exactly one listed choice
abbrev pub OneListedChoice : List ℕ → Type 0
OneListedChoice ts =
    (s : ℕ → ℕ) →
    (ss : List ℕ) × Listed ts ss × Related ts s (start_of ss)
    × ((other : List ℕ) → Listed ts other → Related ts s (start_of other) → other ≡ ss)

-- ranks below the number of choices and listed choices correspond one to one, in the order of a dictionary
pub record RanksListTheChoices (ts : List ℕ) : Type 0 where
  pub listed : (rank : ℕ) → rank < number_of_choices ts → Listed ts (choice_of ts rank)
  pub reached :
      (ss : List ℕ) → Listed ts ss → (rank : ℕ) × (rank < number_of_choices ts) × (choice_of ts rank ≡ ss)
  pub rising :
      (rank later : ℕ) → rank < later → later < number_of_choices ts → Before (choice_of ts rank) (choice_of ts later)

-- the number of choices times the common period is the product of the periods
abbrev pub ChoicesTimesPeriod : List ℕ → Type 0
ChoicesTimesPeriod ts = number_of_choices ts * common_period ts ≡ product ts

-- why the choices are not listed: no common period to work with, or too many choices
abbrev pub choices_refusal : List ℕ → Option Refusal
choices_refusal ts = or_else (period_refusal ts) (cond (nat_lt most_choices (number_of_choices ts)) (Some TooManyChoices) None)
