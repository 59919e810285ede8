-- A sheet written out: three tasks, planned at 0, 0 and 10 in the order of their ids.
use Rattle.std.specs.Prelude.{ℕ, List, [], ◌∷◌}
use Rattle.sheets.specs.declared.row.SheetRow.{SheetRow}

abbrev example_row : ℕ → ℕ → ℕ → ℕ → SheetRow
example_row id work period start = record {
  id = id;
  figures = record { work = work; period = period; deadline = period };
  start = start;
  level = id;
}

abbrev pub example_rows : List SheetRow
example_rows = example_row 1 3 8 0 ∷ example_row 2 6 12 0 ∷ example_row 3 1 12 10 ∷ []

abbrev pub example_bytes : List ℕ
example_bytes =
    0x00 ∷ 0x03 ∷ 0x00 ∷ 0x22
    ∷ 0x01 ∷ 0x00 ∷ 0x03 ∷ 0x00 ∷ 0x08 ∷ 0x00 ∷ 0x08
    ∷ 0x02 ∷ 0x00 ∷ 0x06 ∷ 0x00 ∷ 0x0c ∷ 0x00 ∷ 0x0c
    ∷ 0x03 ∷ 0x00 ∷ 0x01 ∷ 0x00 ∷ 0x0c ∷ 0x00 ∷ 0x0c
    ∷ 0x00 ∷ 0x00 ∷ 0x01 ∷ 0x00 ∷ 0x00 ∷ 0x02 ∷ 0x00 ∷ 0x0a ∷ 0x03 ∷ []
