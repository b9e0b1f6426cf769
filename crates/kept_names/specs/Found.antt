-- Words of private contracts: the files that a search tree by path finds.
use Rattle.std.specs.Prelude.{◌≡◌, ℕ, List, option_copied}
use Rattle.std.specs.Borrow.{Bor}
use Rattle.std.specs.Cmp.Lexicographic.{slice_cmp}
use Rattle.std.specs.Map.{lookup}
use Rattle.std.specs.Ordering.{nat_cmp, is_eq}
use Rattle.mtree_inv.specs.declared.entry.Entry.{Entry}
use Rattle.mtree_inv.specs.Inventory.{file_at}

abbrev pub Rows : Type 0
Rows = List (Bor (List ℕ) × Bor Entry)

-- what the rows find at a path is the file that has it
abbrev pub FindsFiles : Rows → List Entry → Type 0
FindsFiles rows files =
    (path : List ℕ) → option_copied (lookup (λ key. is_eq (slice_cmp nat_cmp path key.now)) rows)
    ≡ file_at files path
