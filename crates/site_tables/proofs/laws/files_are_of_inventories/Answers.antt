use Rattle.site_tables.proofs.FileLaws.{files_are_of_inventories, inventory_lines_are_told}
use Rattle.site_tables.proofs.laws.files_are_of_inventories.Goals as goal

pub returns : goal.returns
returns c = record { files = files_are_of_inventories; lines = inventory_lines_are_told }
