-- Rows in rising order of their ids.
use Rattle.std.proofs.Common.{◌≡◌, ℕ, zero, suc, ◌+◌, ◌-◌, ◌<◌, ◌≤◌, true, ◌⊎◌, List, [], ◌∷◌, length, get_or, Some, None, sym, refl, ap, subst, arith}
use Rattle.std.proofs.Math.Bool.{Bool-set}
use Rattle.std.specs.List.{AllByRecursion as All}
use Rattle.std.proofs.lemmas.Bool.Decides.{nat_tests}
use Rattle.short_list.specs.Items.{items_of}
use Rattle.short_list.specs.declared.list.ShortList.{ShortList}
use Rattle.tasks.specs.declared.rows.Row.{Row}
use Rattle.tasks.specs.Figures.{Fair}
use Rattle.periods.specs.Multiples.{most_tasks}
use Rattle.tasks.specs.declared.table.Table.{Table}
use Rattle.tasks.specs.Rows.{Rising, tidy, id_at}
use Rattle.tasks.specs.Tables.{rows_of}
use Rattle.tasks.proofs.Faults.{fair_from_test}
use Rattle.tasks.proofs.Lists.{few_items}

pub rising_from_tidy : (least : ℕ) (rows : List Row) → tidy least rows ≡ true → Rising least rows
rising_from_tidy least [] ordered = tt
rising_from_tidy least (row ∷ rows) ordered =
    (grind (arith, nat_tests), rising_from_tidy (row.id + 1) rows (grind (arith, nat_tests)))

pub fair_from_tidy : (least : ℕ) (rows : List Row) → tidy least rows ≡ true → All (λ row. Fair row.figures) rows
fair_from_tidy least [] ordered = tt
fair_from_tidy least (row ∷ rows) ordered =
    (fair_from_test row.figures (grind (arith, nat_tests)), fair_from_tidy (row.id + 1) rows (grind (arith, nat_tests)))

pub id_at_none : (place : ℕ) (rows : List Row) → (place ≡ 0) ⊎ (length rows < place) → id_at place rows ≡ None
id_at_none place [] outside = refl
id_at_none place (row ∷ rows) outside = let ih = id_at_none (place - 1) rows in grind (arith, nat_tests)

pub id_at_inside :
    (place : ℕ) (rows : List Row) (d : Row) → 0 < place → place ≤ length rows →
    id_at place rows ≡ Some (get_or rows (place - 1) d).id
id_at_inside place [] d low high = absurd (omega arith)
id_at_inside zero (row ∷ rows) d low high = absurd (omega arith)
id_at_inside (suc zero) (row ∷ rows) d low high = refl
id_at_inside (suc (suc place)) (row ∷ rows) d low high =
    let ih = id_at_inside (suc place) rows d in grind (arith, nat_tests)

-- what is below the least id is below all
pub all_greater : (id least : ℕ) (rows : List Row) → tidy least rows ≡ true → id < least → All (λ row. id < row.id) rows
all_greater id least [] ordered small = tt
all_greater id least (row ∷ rows) ordered small =
    (grind (arith, nat_tests), all_greater id (row.id + 1) rows (grind (arith, nat_tests)) (grind (arith, nat_tests)))

-- a table has no more rows than tasks on a controller
pub few_rows : (table : Table) → length (rows_of table) ≤ most_tasks
few_rows table = few_items table.rows

-- a table is its rows
pub same_table : (a b : Table) → a.rows ≡ b.rows → a ≡ b
same_table a b same =
    subst (λ (rows : ShortList Row most_tasks). (t : tidy 1 (items_of rows) ≡ true) → ◌≡◌ {A = Table} (record { rows = rows; tidy = t }) b) (sym same)
    (λ t. ap (λ u. record { rows = b.rows; tidy = u }) (Bool-set _ _ t b.tidy)) a.tidy
