-- `sheet_text::columns::put_header` meets its contract. Assumes nothing.
use Rattle.laws.specs.CellSheet.{cell_header}
use Rattle.laws.specs.Sheet.{header}
use Rattle.sheet_text.proofs.columns.put_header.Goals as goal

pub returns-in-Matchpoints : goal.returns-in-Matchpoints
unfolding header
returns-in-Matchpoints c = rw c.in-Matchpoints.is c.put_bytes.ensures

pub returns-in-Percentages : goal.returns-in-Percentages
unfolding cell_header
returns-in-Percentages c = rw c.in-Percentages.is c.put_bytes-in-Percentages.ensures
