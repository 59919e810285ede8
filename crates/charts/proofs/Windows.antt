-- A walk along a window, and the bars that it gives.
use Rattle.std.proofs.Common.{◌≡◌, ℕ, ◌+◌, ◌<◌, ◌≤◌, ◌⊎◌, List, [], ◌∷◌, Option, Some, None, sym, refl, ap, ◌∙◌, subst, inl, inr, arith}
use mathlib.Core.HLevel.{is_prop→PathP}
use Rattle.std.proofs.lemmas.Bool.{cases_lt}
use Rattle.std.proofs.Props.{props}
use Rattle.runner.specs.Levels.{last_tick}
use Rattle.entries.specs.declared.Bar.{Bar}
use Rattle.sheets.specs.Sheets.{rows_of}
use Rattle.sheets.specs.declared.sheet.Sheet.{Sheet}
use Rattle.charts.specs.declared.bars.Bars.{Bars}
use Rattle.charts.specs.declared.running.Run.{Run}
use Rattle.charts.specs.Charts.{shown, IsBar, IsChart, OneChart}
use Rattle.charts.specs.Runs.{NextTicks}
use Rattle.charts.specs.Walks.{Gave}
use Rattle.charts.specs.Windows.{ChartAhead, Went, NextRun}

-- a walk whose processor stayed is the walk that it was
stayed : (w w' : Bars) → w'.running ≡ w.running → w'.to ≡ w.to → w' ≡ w
stayed w w' running to =
    λ i. record {
      running = running i;
      to = to i;
      before = is_prop→PathP (λ j. (running j).processor.tick ≤ to j) (λ j. Prim.hlevel props) w'.before w.before i;
      near = is_prop→PathP (λ j. to j ≤ last_tick) (λ j. Prim.hlevel props) w'.near w.near i;
    }

-- the next ticks of the window
pub next_run : (w w' : Bars) (r : Option Run) → NextTicks w.running w.to r w'.running → w'.to ≡ w.to → NextRun w r w'
next_run w w' (Some run) next to = (next.0, record { ran = next.2; to = to })
next_run w w' None next to = let before = w.before in let near = w.near in (omega (arith, next.0), stayed w w' next.1 to)

-- two runs of one id, one after the other
pub went_on : (w w' w'' : Bars) (id n m : ℕ) → Went w id n w' → Went w' id m w'' → Went w id (n + m) w''
went_on w w' w'' id n m first then =
    let t₁ = first.ran.tick in
    let t₂ = then.ran.tick in
    record {
      ran = record {
        sheet = then.ran.sheet ∙ first.ran.sheet;
        tick = omega arith;
        same = λ tick after l. elim (cases_lt tick w'.running.processor.tick) [
          | inl before ↦ first.ran.same tick after before
          | inr late ↦ ap (λ (sheet : Sheet). shown (rows_of sheet) tick) (sym first.ran.sheet) ∙ then.ran.same tick late l
        ];
      };
      to = then.to ∙ first.to;
    }

-- a longest run is unique
one_bar : (shows : ℕ → ℕ) (from to : ℕ) (a b : Bar) → IsBar shows from to a → IsBar shows from to b → a ≡ b
one_bar shows from to a b is-a is_b =
    let first : a.first ≡ b.first = is-a.first ∙ sym is_b.first in
    let length : a.length ≡ b.length = go (cases_lt a.length b.length) (cases_lt b.length a.length) in
    λ i. record { first = first i; length = length i; id = same i }
  where
    same : a.id ≡ b.id
    same = sym (is-a.same from (omega arith) (omega (arith, is-a.some))) ∙ is_b.same from (omega arith) (omega (arith, is_b.some))

    go : (a.length < b.length) ⊎ (b.length ≤ a.length) → (b.length < a.length) ⊎ (a.length ≤ b.length) → a.length ≡ b.length
    go (inl shorter) _ =
        let w = is_b.within in
        absurd (is-a.longest (omega arith) (is_b.same (from + a.length) (omega arith) (omega arith) ∙ sym same))
    go (inr _) (inl shorter) =
        let w = is-a.within in
        absurd (is_b.longest (omega arith) (is-a.same (from + b.length) (omega arith) (omega arith) ∙ same))
    go (inr ge) (inr le) = omega arith

pub one_chart : (shows : ℕ → ℕ) (from to : ℕ) → OneChart shows from to
one_chart shows from to [] [] chart other = refl
one_chart shows from to [] (bar ∷ bars) chart other = let is = other.0 in absurd (omega arith)
one_chart shows from to (bar ∷ bars) [] chart other = let is = chart.0 in absurd (omega arith)
one_chart shows from to (bar ∷ bars) (bar' ∷ bars') chart other =
    let this : bar ≡ bar' = one_bar shows from to bar bar' chart.0 other.0 in
    ap (λ rest. bar ∷ rest)
    (one_chart shows (from + bar.length) to bars bars' chart.1 (subst (λ b. IsChart shows (from + b.length) to bars') (sym this) other.1))
    ∙ ap (λ b. b ∷ bars') this

-- a run that does not go on is a bar
module _ (w w' : Bars) (bar : Bar) (first : bar.first ≡ w.running.processor.tick) (some : 0 < bar.length) (run : Went w bar.id bar.length w')
    (ends : w'.running.processor.tick < w'.to → shown (rows_of w'.running.sheet.now) w'.running.processor.tick ≡ bar.id → ⊥) where
  is_bar : IsBar (shown (rows_of w.running.sheet.now)) w.running.processor.tick w.to bar
  is_bar =
      let t = run.ran.tick in
      let e = run.to in
      let b = w'.before in
      record {
        first = first;
        some = some;
        within = omega arith;
        same = λ tick after l. run.ran.same tick after (omega arith);
        longest = λ l shows.
            ends (omega arith) (ap (λ (sheet : Sheet). shown (rows_of sheet) w'.running.processor.tick) run.ran.sheet ∙ ap (shown (rows_of w.running.sheet.now)) t ∙ shows);
      }

  -- what lies ahead after the bar
  after : (bars : List Bar) → ChartAhead w' bars ≡ IsChart (shown (rows_of w.running.sheet.now)) (w.running.processor.tick + bar.length) w.to bars
  after bars =
      ap (λ (sheet : Sheet). IsChart (shown (rows_of sheet)) w'.running.processor.tick w'.to bars) run.ran.sheet
      ∙ ap (λ tick. IsChart (shown (rows_of w.running.sheet.now)) tick w'.to bars) run.ran.tick
      ∙ ap (λ to. IsChart (shown (rows_of w.running.sheet.now)) (w.running.processor.tick + bar.length) to bars) run.to

  only_bar : (bars : List Bar) → ChartAhead w bars → (rest : List Bar) × (bars ≡ bar ∷ rest) × ChartAhead w' rest
  only_bar [] end =
      let t = run.ran.tick in
      let e = run.to in
      let b = w'.before in
      absurd (omega arith)
  only_bar (other ∷ rest) chart =
      let this : other ≡ bar = one_bar _ _ _ other bar chart.0 is_bar in (
        rest,
        ap (λ b. b ∷ rest) this,
        subst (λ X. X) (sym (after rest))
            (subst (λ b. IsChart (shown (rows_of w.running.sheet.now)) (w.running.processor.tick + b.length) w.to rest) this chart.1),
      )

  pub gave_bar : Gave ChartAhead w bar w'
  gave_bar = record { ahead = λ bars chart. (is_bar, subst (λ X. X) (after bars) chart); only = only_bar }

-- at the end of the window nothing lies ahead
pub none_ahead : (w : Bars) → w.running.processor.tick ≡ w.to → (bars : List Bar) → ChartAhead w bars → bars ≡ []
none_ahead w end [] chart = refl
none_ahead w end (bar ∷ bars) chart = let is = chart.0 in absurd (omega arith)
