-- An id that stands at an index, or that belongs there.
use Rattle.std.proofs.Common.{◌≡◌, ℕ, suc, ◌+◌, ◌<◌, ◌≤◌, ◌==◌, true, false, List, [], ◌∷◌, ◌++◌, get_or, take, drop, set, is_some, Some, None, Ok, Err, MatchResult, OnOk, OnErr, Result, sym, refl, ap, ◌∙◌, arith, drop-cons}
use Rattle.std.specs.List.{insert, remove, AllByRecursion as All}
use Rattle.std.proofs.lemmas.List.{take-append-drop, set_split, length-take-le}
use Rattle.std.proofs.lemmas.Bool.Decides.{nat_tests}
use Rattle.std.specs.Result.{IsErrAnd}
use Rattle.refusals.specs.Answers.{AnswersWith, refuse_if}
use Rattle.refusals.specs.declared.Refusal.{Refusal}
use Rattle.refusals.specs.declared.Refusal.TheVariants.{ZeroId, StandingId, UnknownId}
use Rattle.short_list.specs.Items.{items_of}
use Rattle.short_list.specs.declared.list.ShortList.{ShortList}
use Rattle.tasks.specs.declared.rows.Row.{Row}
use Rattle.tasks.specs.Figures.{is_fair}
use Rattle.tasks.specs.Rows.{tidy, figures_of, stands, place_of, entered, amended, struck, standing_refusal, unknown_refusal}
use Rattle.tasks.specs.Seeking.{StandsAt, BelongsAt, Sought}
use Rattle.tasks.proofs.Changes.{tidy-entered, none_below, figures_of_past, place_of_past, struck_past, entered_past, amended_past}

-- what an index past the end reads
abbrev pub blank : Row
blank = record { id = 0; figures = record { work = 0; period = 0; deadline = 0 } }

module _ (id : ℕ) (rows : List Row) (at : ℕ) (found : StandsAt id rows at) where
  split : rows ≡ take at rows ++ get_or rows at blank ∷ drop (suc at) rows
  split = sym (take-append-drop at rows) ∙ ap (λ rest. take at rows ++ rest) (drop-cons rows at blank found.inside)

  pub figures_of_here : figures_of id rows ≡ Some (get_or rows at blank).figures
  figures_of_here =
      let here = found.here blank in
      ap (figures_of id) split ∙ figures_of_past id _ (take at rows) found.smaller ∙ grind (arith, nat_tests)

  pub stands_here : stands id rows ≡ true
  stands_here = ap is_some figures_of_here

  pub known : refuse_if (id == 0) ZeroId ≡ None → unknown_refusal id rows ≡ None
  known nonzero = rw (nonzero, stands_here) refl

  pub standing : refuse_if (id == 0) ZeroId ≡ None → standing_refusal id rows ≡ Some StandingId
  standing nonzero = rw (nonzero, stands_here) refl

  pub place_of_here : place_of id rows ≡ at + 1
  place_of_here =
      let here = found.here blank in
      let long = length-take-le at rows (omega (arith, found.inside)) in
      ap (place_of id) split ∙ place_of_past id _ (take at rows) found.smaller ∙ grind (arith, nat_tests)

  pub struck_here : struck id rows ≡ remove rows at
  struck_here =
      let here = found.here blank in
      ap (struck id) split ∙ struck_past id _ (take at rows) found.smaller ∙ grind (arith, nat_tests)

  pub amended_here : (new : Row) → new.id ≡ id → amended new rows ≡ set rows at new
  amended_here new is =
      let here = found.here blank in
      ap (amended new) split ∙ amended_past new _ (take at rows) (rw is found.smaller) ∙ grind (arith, nat_tests) ∙ sym (set_split rows at new found.inside)

entered_first : (new : Row) (rows : List Row) → All (λ row. new.id < row.id) rows → entered new rows ≡ new ∷ rows
entered_first new [] great = refl
entered_first new (row ∷ rows) great = grind (arith, nat_tests)

pub positive : (id : ℕ) (rows : List Row) → standing_refusal id rows ≡ None → 1 ≤ id
positive id rows free = grind (arith, nat_tests)

module _ (id : ℕ) (rows : List Row) (at : ℕ) (gap : BelongsAt id rows at) where
  pub figures_of_absent : figures_of id rows ≡ None
  figures_of_absent =
      ap (figures_of id) (sym (take-append-drop at rows))
      ∙ figures_of_past id (drop at rows) (take at rows) gap.smaller
      ∙ none_below id (drop at rows) gap.greater

  pub stands_not : stands id rows ≡ false
  stands_not = ap is_some figures_of_absent

  pub unknown : refuse_if (id == 0) ZeroId ≡ None → unknown_refusal id rows ≡ Some UnknownId
  unknown nonzero = rw (nonzero, stands_not) refl

  pub free : refuse_if (id == 0) ZeroId ≡ None → standing_refusal id rows ≡ None
  free nonzero = rw (nonzero, stands_not) refl

  pub entered_here : (new : Row) → new.id ≡ id → entered new rows ≡ insert rows at new
  entered_here new is =
      ap (entered new) (sym (take-append-drop at rows))
      ∙ entered_past new (drop at rows) (take at rows) (rw is gap.smaller)
      ∙ ap (λ rest. take at rows ++ rest) (entered_first new (drop at rows) (rw is gap.greater))

-- the answer of a search, with an id that does not stand refused
pub known_or_unknown :
    (id : ℕ) (rows : List Row) {Q : ℕ → Refusal → Type 0} (r : Result ℕ ℕ) (s : Result ℕ Refusal) →
    refuse_if (id == 0) ZeroId ≡ None → Sought id rows r → MatchResult r (λ at. s ≡ Ok at) (λ at. IsErrAnd s (Q at)) →
    ((at : ℕ) (why : Refusal) → Q at why → why ≡ UnknownId) → AnswersWith (unknown_refusal id rows) (StandsAt id rows) s
known_or_unknown id rows (Ok at) s nonzero found same why = rw same (known id rows at found nonzero, found)
known_or_unknown id rows (Err at) (Ok n) nonzero gap said why = absurd said
known_or_unknown id rows (Err at) (Err other) nonzero gap said why =
    unknown id rows at gap nonzero ∙ ap Some (sym (why at other said))

-- the rows after a row was put in where it belongs, or not for want of room
pub tidy_after :
    {N : ℕ} {E : Type 0} (new : Row) (before after : ShortList Row N) (at : ℕ) (r : Result (Unit {0}) E) →
    BelongsAt new.id (items_of before) at → 1 ≤ new.id → is_fair new.figures ≡ true → tidy 1 (items_of before) ≡ true →
    OnOk r (items_of after ≡ insert (items_of before) at new) → OnErr r (after ≡ before) → tidy 1 (items_of after) ≡ true
tidy_after new before after at (Ok done) gap positive fair ordered put same =
    ap (tidy 1) (put ∙ sym (entered_here _ (items_of before) at gap new refl))
    ∙ tidy-entered new 1 (items_of before) positive fair (stands_not _ _ _ gap) ordered
tidy_after new before after at (Err full) gap positive fair ordered put same =
    ap (λ list. tidy 1 (items_of list)) same ∙ ordered
