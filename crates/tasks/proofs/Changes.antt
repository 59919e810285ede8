-- What the changes of rows leave: their order, and what stands under each id.
use Rattle.std.proofs.Common.{◌≡◌, ℕ, ◌+◌, ◌<◌, ◌≤◌, true, false, cond, eqb, List, [], ◌∷◌, ◌++◌, length, Some, None, refl, arith}
use Rattle.std.specs.List.{AllByRecursion as All}
use Rattle.std.proofs.lemmas.Bool.Decides.{nat_tests}
use Rattle.tasks.specs.declared.rows.Row.{Row}
use Rattle.tasks.specs.Figures.{is_fair}
use Rattle.tasks.proofs.Ordered.{all_greater}
use Rattle.tasks.specs.Rows.{tidy, figures_of, stands, place_of, entered, amended, struck}

-- the changes keep rows tidy
tidy_under : (least less : ℕ) (rows : List Row) → less ≤ least → tidy least rows ≡ true → tidy less rows ≡ true
tidy_under least less [] small ordered = refl
tidy_under least less (row ∷ rows) small ordered = grind (arith, nat_tests)

pub tidy-entered :
    (new : Row) (least : ℕ) (rows : List Row) → least ≤ new.id → is_fair new.figures ≡ true → stands new.id rows ≡ false →
    tidy least rows ≡ true → tidy least (entered new rows) ≡ true
tidy-entered new least [] large good absent ordered = grind (arith, nat_tests)
tidy-entered new least (row ∷ rows) large good absent ordered =
    let ih = tidy-entered new (row.id + 1) rows in grind (arith, nat_tests)

pub tidy-amended :
    (new : Row) (least : ℕ) (rows : List Row) → is_fair new.figures ≡ true →
    tidy least rows ≡ true → tidy least (amended new rows) ≡ true
tidy-amended new least [] good ordered = refl
tidy-amended new least (row ∷ rows) good ordered =
    let ih = tidy-amended new (row.id + 1) rows good in grind (arith, nat_tests)

pub tidy-struck : (id least : ℕ) (rows : List Row) → tidy least rows ≡ true → tidy least (struck id rows) ≡ true
tidy-struck id least [] ordered = refl
tidy-struck id least (row ∷ rows) ordered =
    let ih = tidy-struck id (row.id + 1) rows in
    let under = tidy_under (row.id + 1) least rows in grind (arith, nat_tests)

-- under each id stands what stood there, but for the id of the change
pub figures_of-entered :
    (new : Row) (rows : List Row) (other : ℕ) → stands new.id rows ≡ false →
    figures_of other (entered new rows) ≡ cond (eqb other new.id) (Some new.figures) (figures_of other rows)
figures_of-entered new [] other absent = refl
figures_of-entered new (row ∷ rows) other absent =
    let ih = figures_of-entered new rows other in grind (arith, nat_tests)

pub figures_of-amended :
    (new : Row) (rows : List Row) (other : ℕ) → stands new.id rows ≡ true →
    figures_of other (amended new rows) ≡ cond (eqb other new.id) (Some new.figures) (figures_of other rows)
figures_of-amended new [] other present = grind (arith, nat_tests)
figures_of-amended new (row ∷ rows) other present =
    let ih = figures_of-amended new rows other in grind (arith, nat_tests)

-- nothing stands under an id below all
pub none_below : (id : ℕ) (rows : List Row) → All (λ row. id < row.id) rows → figures_of id rows ≡ None
none_below id [] great = refl
none_below id (row ∷ rows) great = let ih = none_below id rows great.1 in grind (arith, nat_tests)

pub figures_of-struck :
    (id least : ℕ) (rows : List Row) (other : ℕ) → tidy least rows ≡ true →
    figures_of other (struck id rows) ≡ cond (eqb other id) None (figures_of other rows)
figures_of-struck id least [] other ordered = grind (arith, nat_tests)
figures_of-struck id least (row ∷ rows) other ordered =
    let ih = figures_of-struck id (row.id + 1) rows other in
    let gone : id < row.id + 1 → figures_of id rows ≡ None =
    λ small. none_below id rows (all_greater id (row.id + 1) rows (grind (arith, nat_tests)) small) in
    grind (arith, nat_tests)

-- past smaller ids all goes on as if they were not there
module _ (id : ℕ) (rest : List Row) where
  pub figures_of_past :
      (rows : List Row) → All (λ row. row.id < id) rows → figures_of id (rows ++ rest) ≡ figures_of id rest
  figures_of_past [] small = refl
  figures_of_past (row ∷ rows) small = let ih = figures_of_past rows small.1 in grind (arith, nat_tests)

  pub place_of_past :
      (rows : List Row) → All (λ row. row.id < id) rows → place_of id (rows ++ rest) ≡ length rows + place_of id rest
  place_of_past [] small = omega arith
  place_of_past (row ∷ rows) small = let ih = place_of_past rows small.1 in grind (arith, nat_tests)

  pub struck_past :
      (rows : List Row) → All (λ row. row.id < id) rows → struck id (rows ++ rest) ≡ rows ++ struck id rest
  struck_past [] small = refl
  struck_past (row ∷ rows) small = let ih = struck_past rows small.1 in grind (arith, nat_tests)

module _ (new : Row) (rest : List Row) where
  pub entered_past :
      (rows : List Row) → All (λ row. row.id < new.id) rows → entered new (rows ++ rest) ≡ rows ++ entered new rest
  entered_past [] small = refl
  entered_past (row ∷ rows) small = let ih = entered_past rows small.1 in grind (arith, nat_tests)

  pub amended_past :
      (rows : List Row) → All (λ row. row.id < new.id) rows → amended new (rows ++ rest) ≡ rows ++ amended new rest
  amended_past [] small = refl
  amended_past (row ∷ rows) small = let ih = amended_past rows small.1 in grind (arith, nat_tests)
