-- The two sheets that a text of scores gives, by what stands for each side: matchpoints or percentages. Assumes nothing.
use Rattle.std.specs.Prelude.{ℕ, ◌+◌, List, eqb, ℤ, if◌then◌else◌}
use Rattle.laws.specs.CellSheet.{hundredths, two_decimals, alone_word, cell_header, cell_row, cell_table, cell_sheet}
use Rattle.laws.specs.Decimal.{decimal, signed_decimal}
use Rattle.laws.specs.Sheet.{fields, header, row, table, sheet}
use Rattle.sheet_text.specs.declared.columns.Columns.{Columns}
use Rattle.sheet_text.specs.declared.columns.Columns.TheVariants.{Matchpoints, Percentages}

-- so many points of so many, as a percentage; `ALONE` where there are none to be had
unfoldable pub share_text : ℕ → ℕ → List ℕ
share_text points most = if eqb most 0 then alone_word else two_decimals (hundredths points most)

-- what stands for a side with so many matchpoints where the other side has so many
abbrev pub side_text : Columns → ℕ → ℕ → List ℕ
side_text Matchpoints points other = decimal points
side_text Percentages points other = share_text points (points + other)

-- a row by its numbers
abbrev pub row_text : Columns → ℤ → ℕ → ℕ → ℕ → List ℕ
row_text columns score count ns ew = fields (signed_decimal score) (decimal count) (side_text columns ns ew) (side_text columns ew ns)

-- the header, the row of a score in a list of results, the table of that list, and the sheet of a text
abbrev pub header_as : Columns → List ℕ
header_as Matchpoints = header
header_as Percentages = cell_header

abbrev pub row_as : Columns → List ℤ → ℤ → List ℕ
row_as Matchpoints = row
row_as Percentages = cell_row

abbrev pub table_as : Columns → List ℤ → List ℕ
table_as Matchpoints = table
table_as Percentages = cell_table

abbrev pub sheet_as : Columns → List ℕ → List ℕ
sheet_as Matchpoints = sheet
sheet_as Percentages = cell_sheet

-- as many bytes as are enough for every sheet
abbrev pub room_as : Columns → ℕ
room_as Matchpoints = 2331
room_as Percentages = 3097
