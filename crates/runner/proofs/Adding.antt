-- One more task on a processor that has not run yet.
use Rattle.std.proofs.Common.{◌≡◌, ℕ, ◌≤◌, Bool, true, false, cond, eqb, [], ◌∷◌, ◌++◌, length, get_or, sym, refl, ap, ◌∙◌, subst, inl, inr, ◌⊎◌, Ok, Err, Result, arith, length-append}
use mathlib.Core.HLevel.{is_prop→PathP}
use Rattle.std.proofs.Props.{props}
use Rattle.std.specs.List.{All}
use Rattle.short_list.specs.Items.{items_of}
use Rattle.std.specs.Result.{is_ok, OnOk, OnErr, MatchResult}
use Rattle.std.proofs.lemmas.List.{get_or_past}
use Rattle.std.proofs.lemmas.Bool.{cases_eq, cond-true, cond-false, eq-eqb, ne_eqb}
use Rattle.timeline.specs.Processor.{Demands, owing}
use Rattle.timeline.specs.Requests.{requested}
use Rattle.tasks.specs.declared.figures.Figures.{Figures}
use Rattle.runner.specs.declared.level.Level.{Level}
use Rattle.runner.specs.declared.processor.Processor.{Processor}
use Rattle.runner.specs.Levels.{last_tick, Kept, starting}
use Rattle.runner.specs.Processor.{levels_of, count_of, level_on, left_on, no_task}
use Rattle.runner.specs.Running.{Stands, Added, with_level}
use Rattle.runner.proofs.Cells.{get_d_push}

-- what a level demands, by a test on the level
either_requests :
    (b : Bool) (new old : Level) (d τ : ℕ) → d ≡ requested old.work old.period old.next τ →
    cond b (requested new.work new.period new.next τ) d
    ≡ requested (cond b new old).work (cond b new old).period (cond b new old).next τ
either_requests true new old d τ e = refl
either_requests false new old d τ e = e

-- p and q have the same tick, 0, and q has one task more
module _ (p q : Processor) (figures : Figures) (start : ℕ) (at_zero : p.tick ≡ 0) (same-tick : q.tick ≡ p.tick)
    (push : levels_of q ≡ levels_of p ++ starting figures start ∷ []) where
  level_is : (l : ℕ) → level_on q l ≡ cond (eqb l (count_of p)) (starting figures start) (level_on p l)
  level_is l = ap (λ xs. get_or xs l no_task) push ∙ get_d_push (levels_of p) (starting figures start) l no_task

  same_left : (l : ℕ) → left_on p l ≡ left_on q l
  same_left l = go (cases_eq l (count_of p))
    where
      go : (l ≡ count_of p) ⊎ (l ≡ count_of p → ⊥) → left_on p l ≡ left_on q l
      go (inl e) =
          ap (λ x. x.left) (get_or_past (levels_of p) l no_task (omega arith))
          ∙ sym (ap (λ x. x.left) (level_is l ∙ cond-true (eqb l (count_of p)) _ _ (eq-eqb l (count_of p) e)))
      go (inr ne) = sym (ap (λ x. x.left) (level_is l ∙ cond-false (eqb l (count_of p)) _ _ (ne_eqb l (count_of p) ne)))

  stands_added :
      (D : Demands) → Stands D p → Stands (with_level D (count_of p) (requested figures.work figures.period start)) q
  stands_added D s =
      record {
        owes = λ l.
            ap (λ τ. owing D' τ l) (same-tick ∙ at_zero) ∙ sym (ap (λ τ. owing D τ l) at_zero) ∙ s.owes l ∙ same_left l;
        coming = λ l tick h.
            subst (λ level. D' l tick ≡ requested level.work level.period level.next tick) (sym (level_is l))
            (either_requests (eqb l (count_of p)) (starting figures start) (level_on p l) _ tick (s.coming l tick (omega arith)));
      }
    where
      D' : Demands
      D' = with_level D (count_of p) (requested figures.work figures.period start)

  pub added : Added p figures start q
  added =
      record {
        tick = same-tick;
        count = ap length push ∙ length-append (levels_of p) (starting figures start ∷ []);
        stands = stands_added;
      }

-- an answer whose error is told by another name
pub told_as :
    {T E F : Type 0} {P Q P' Q' : Type 0} (a : Result T E) (b : Result T F) → is_ok b ≡ is_ok a → OnOk a P → OnErr a Q → (P → P') →
    (Q → Q') → MatchResult b (λ _. P') (λ _. Q')
told_as (Ok x) (Ok y) same ok err p q = p ok
told_as (Ok x) (Err y) same ok err p q = absurd (cc)
told_as (Err x) (Ok y) same ok err p q = absurd (cc)
told_as (Err x) (Err y) same ok err p q = q err

-- two processors at one tick, with the same levels
pub same_levels : (p q : Processor) → q.tick ≡ p.tick → q.levels ≡ p.levels → q ≡ p
same_levels p q tick levels =
    λ i. record {
      tick = tick i;
      levels = levels i;
      bounded = is_prop→PathP (λ j. tick j ≤ last_tick) (λ j. Prim.hlevel props) q.bounded p.bounded i;
      kept = is_prop→PathP (λ j. All (Kept (tick j)) (items_of (levels j))) (λ j. Prim.hlevel props) q.kept p.kept i;
    }
