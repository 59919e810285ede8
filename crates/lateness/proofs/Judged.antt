-- A judged task with those above it: what decides is what all requests come to.
use Rattle.std.proofs.Common.{◌≡◌, ℕ, ◌+◌, ◌-◌, ◌*◌, ◌<◌, ◌≤◌, max, true, length, Some, None, Option, ap, arith}
use Rattle.periods.specs.Multiples.{longest_period}
use Rattle.tasks.proofs.Placed.{start_short}
use Rattle.timeline.specs.Timeline.{task_at, Late, NeverLate, WorstResponse}
use Rattle.timeline.specs.Laws.{Spans, through, load_through}
use Rattle.timeline.proofs.Laws.{overloaded_law}
use Rattle.runner.specs.Processor.{left_on}
use Rattle.runner.specs.declared.processor.Processor.{Processor}
use Rattle.lateness.specs.declared.members.Members.{Members}
use Rattle.lateness.specs.Members.{tasks_in, starts_in, levels_in, is_member, CommonPeriod, StartsBy}
use Rattle.lateness.specs.Below.{RespondsIn}
use Rattle.lateness.specs.Running.{RanOn}
use Rattle.lateness.proofs.Checked.{Checking, never_late, worst_response, found_late, found_unrun, after_request, checks_on}
use Rattle.lateness.proofs.Gathered.{fair_in}
use Rattle.lateness.proofs.Hosted.{judged_alone}

module _ (m : Members) (P : ℕ) (common : CommonPeriod m P) where
  spans : (latest : ℕ) → ((q : ℕ) → q < length (tasks_in m) → is_member m q ≡ true → starts_in m q ≤ latest) → Spans (tasks_in m) (starts_in m) (through (levels_in m) (levels_in m m.judged.place)) P latest
  spans latest started = record { positive = common.positive; common = common.common; started = started }

  pub overloaded_late :
      P < load_through (tasks_in m) (levels_in m) (levels_in m m.judged.place) P → (k : ℕ) × Late (tasks_in m) (starts_in m) (levels_in m) m.judged.place k
  overloaded_late full =
      overloaded_law (tasks_in m) (fair_in m) (starts_in m) (levels_in m) m.judged.place P longest_period m.held (judged_alone (tasks_in m) m.judged.place _)
      (spans longest_period (λ q l e. start_short m.judged.case.now q l)) full

  module _ (latest : ℕ) (Starts-by : StartsBy m latest) (room : load_through (tasks_in m) (levels_in m) (levels_in m m.judged.place) P ≤ P)
      (level : ℕ) (p : Processor) (next worst : ℕ) (checking : Checking (tasks_in m) (starts_in m) (levels_in m) m.judged.place level p next worst)
      (enough : latest + 2 * P ≤ next) where
    pub never_late_below : NeverLate (tasks_in m) (starts_in m) (levels_in m) m.judged.place
    never_late_below =
        never_late (tasks_in m) (fair_in m) (starts_in m) (levels_in m) m.judged.place m.held checking.D level checking.served P latest
        (judged_alone (tasks_in m) m.judged.place _) (spans latest Starts-by.started) room checking.k p.tick worst checking.checked (omega (arith, checking.at))

    pub worst_response_below : WorstResponse (tasks_in m) (starts_in m) (levels_in m) m.judged.place worst
    worst_response_below =
        worst_response (tasks_in m) (fair_in m) (starts_in m) (levels_in m) m.judged.place m.held checking.D level checking.served P latest
        (judged_alone (tasks_in m) m.judged.place _) (spans latest Starts-by.started) room checking.k p.tick worst checking.checked (omega (arith, checking.at))

-- the requests before `next` are checked, for the judged task of some members
abbrev pub CheckingBelow : Members → ℕ → Processor → ℕ → ℕ → Type 0
CheckingBelow m level p next worst = Checking (tasks_in m) (starts_in m) (levels_in m) m.judged.place level p next worst

-- all requests that count are checked
pub all_checked :
    (m : Members) (P : ℕ) → CommonPeriod m P → (latest : ℕ) → StartsBy m latest →
    load_through (tasks_in m) (levels_in m) (levels_in m m.judged.place) P ≤ P → (level : ℕ) (p : Processor) (next worst : ℕ) →
    CheckingBelow m level p next worst → latest + 2 * P ≤ next → RespondsIn m (Some worst)
all_checked m P common latest started room level p next worst checking enough = (
  never_late_below m P common latest started room level p next worst checking enough,
  worst_response_below m P common latest started room level p next worst checking enough,
)

-- The processor ran to the deadline of the next request of the judged task, and the level last ran up to `last`.
pub record Due (m : Members) (level : ℕ) (p : Processor) (next worst : ℕ) (last : Option ℕ) (p' : Processor) : Type 0 where
  pub checking : CheckingBelow m level p next worst
  pub ran : RanOn p level last p'
  pub there : p'.tick ≡ next + (task_at (tasks_in m) m.judged.place).deadline

module _ (m : Members) (level : ℕ) (p : Processor) (next worst : ℕ) (last : Option ℕ) (p' : Processor) (due : Due m level p next worst last p') where
  pub late_unrun : last ≡ None → (k : ℕ) × Late (tasks_in m) (starts_in m) (levels_in m) m.judged.place k
  late_unrun =
      found_unrun (tasks_in m) (fair_in m) (starts_in m) (levels_in m) m.judged.place m.held level p next worst due.checking last p' due.ran due.there

  pub late_below : 0 < left_on p' level → (k : ℕ) × Late (tasks_in m) (starts_in m) (levels_in m) m.judged.place k
  late_below =
      found_late (tasks_in m) (fair_in m) (starts_in m) (levels_in m) m.judged.place m.held level p next worst due.checking last p' due.ran due.there

  module _ (none : left_on p' level ≡ 0) (stop : ℕ) (is : last ≡ Some stop) where
    pub stops_after : next ≤ stop
    stops_after =
        after_request (tasks_in m) (fair_in m) (starts_in m) (levels_in m) m.judged.place m.held level p next worst due.checking last p' due.ran due.there
        none stop is

    pub next_checking :
        (period longest : ℕ) → period ≡ (task_at (tasks_in m) m.judged.place).period → longest ≡ max worst (stop - next) →
        CheckingBelow m level p' (next + period) longest
    next_checking period longest after most =
        checks_on (tasks_in m) (fair_in m) (starts_in m) (levels_in m) m.judged.place m.held level p next worst due.checking last p' due.ran due.there
        none stop is _ longest (ap (λ t. next + t) after) most
