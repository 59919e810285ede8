-- What a list of choices holds.
use Rattle.std.specs.Prelude.{◌≡◌, ℕ, ◌-◌, cond, List, ◌++◌, length, replicate, Some, None, Ok, Err, Option, Result, nat_lt}
use Rattle.refusals.specs.declared.Refusal.{Refusal}
use Rattle.periods.specs.declared.list.Choices.{Choices}
use Rattle.periods.specs.Listed.{choice_of, number_of_choices, choices_refusal}
use Rattle.periods.specs.Multiples.{most_tasks}
use Rattle.periods.specs.Rows.{periods_of}

abbrev pub listed_periods : Choices → List ℕ
listed_periods choices = periods_of choices.periods

-- the choices of these periods are listed, or why they are not
abbrev pub ListsChoices : List ℕ → Result Choices Refusal → Type 0
ListsChoices ts (Ok choices) = (choices_refusal ts ≡ None) × (listed_periods choices ≡ ts)
ListsChoices ts (Err refusal) = choices_refusal ts ≡ Some refusal

-- starts by place, with 0 in the places without a task
abbrev pub in_places : List ℕ → List ℕ
in_places ss = ss ++ replicate (most_tasks - length ss) 0

-- the starts of a rank, counted from 0, or none past the last choice
abbrev pub starts_of : List ℕ → ℕ → Option (List ℕ)
starts_of ts rank = cond (nat_lt rank (number_of_choices ts)) (Some (in_places (choice_of ts rank))) None
