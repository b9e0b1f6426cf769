-- Which files a host has: all those of its inventory, or none; and which lines are told of it.
-- Source: mtree(5); passwd(5) and group(5) (a file's owner); that no file is passed over is this
-- project's own rule.
use Rattle.std.specs.Prelude.{◌≡◌, ◌↔◌, ℕ, List, Result, Ok, Err, All}
use Rattle.idtext.specs.declared.faults.ReadError.TheVariants as read
use Rattle.idtext.specs.declared.faults.TextCode.{TextCode}
use Rattle.idtext.specs.declared.faults.TextFault.{TextFault}
use Rattle.mtree_inv.specs.Inventory.{inventory, inventory_of_lines}
use Rattle.mtree_inv.specs.Logical.{whole_lines}
use Rattle.mtree_inv.specs.declared.entry.Entry.{Entry}
use Rattle.hosts_join.specs.declared.host.Host.{Host}
use Rattle.unify_texts.specs.declared.bundle_line.FileName.{FileName}
use Rattle.unify_texts.specs.declared.bundle_line.FileName.TheVariants as file
use Rattle.unify_texts.specs.declared.fault.Fault.{Fault}
use Rattle.unify_texts.specs.declared.fault.Fault.TheVariants.{Line, Memory, UnownedUid, UnownedGid}
use Rattle.site_tables.specs.declared.host.Loaded.{Loaded}
use Rattle.site_tables.specs.FaultLaws.{MayHaveGid, MayHaveUid}
use Rattle.unify_texts.specs.Limits.{most_files}
use Rattle.site_tables.specs.Hosts.{files_of, lines_of, read_told}
use Rattle.site_tables.specs.Survey.{inventory_of}

-- the inventory is read as these files, and each has a uid and a gid that it may have
pub record AreItsFiles (loaded : Loaded) (files : List Entry) : Type 0 where
  pub read : inventory most_files loaded.mtree ≡ Ok files
  pub allowed : All (λ f. MayHaveUid loaded.host f.uid × MayHaveGid loaded.host f.gid) files

-- a host has exactly these files
abbrev pub FilesAreOfInventories : Type 0
FilesAreOfInventories = (loaded : Loaded) (files : List Entry)
    → (files_of loaded ≡ Ok files) ↔ AreItsFiles loaded files

-- ---- lines

-- A line is told exactly where it is one of the inventory of the host, and the reader refuses the
-- text so.
-- read: what the reader answers; told: what is told
abbrev pub TellsItsLines : {A : Type 0} → Host → Result A TextFault → Result A Fault → Type 0
TellsItsLines host read told = (name : List ℕ) (which : FileName) (code : TextCode) (line : ℕ)
    → (told ≡ Err (Line name which code line))
    ↔ ((name ≡ host.name) × (which ≡ file.Mtree)
    × (read ≡ Err (record { code = code; line = line })))

-- what is told of an inventory: a line, or the uid or the gid of a file
abbrev pub IsOfInventory : Fault → Type 0
IsOfInventory (Line host name code line) = Unit {0}
IsOfInventory (UnownedUid host uid path) = Unit {0}
IsOfInventory (UnownedGid host gid path) = Unit {0}
IsOfInventory _ = ⊥

-- What the reader gives is given, whoever owns the files; and where it refuses the text, its line
-- is told. Nothing else is told.
pub record GivesWhatIsRead {A : Type 0} (host : Host) (read : Result A TextFault)
    (told : Result A Fault) : Type 0 where
  pub given : (x : A) → (told ≡ Ok x) ↔ (read ≡ Ok x)
  pub lines : TellsItsLines host read told

-- So it is of an inventory as a survey reads it, without its owners, and of the lines that have
-- come so far. With its owners, an inventory tells such a line, or an unowned file. A fault that
-- the reader tells is told as the definition tells it, and want of memory as itself.
pub record InventoriesTellTheirLines (host : Host) (text : List ℕ) : Type 0 where
  pub with_owners : TellsItsLines host (inventory most_files text)
      (files_of (record { host = host; mtree = text }))
  pub nothing_else : (f : Fault) → files_of (record { host = host; mtree = text }) ≡ Err f
      → IsOfInventory f
  pub without_owners : GivesWhatIsRead host (inventory most_files text) (inventory_of host text)
  pub so_far : GivesWhatIsRead host (inventory_of_lines most_files (whole_lines text))
      (lines_of host text)
  pub by_the_reader : (f : TextFault) → inventory most_files text ≡ Err f
      → inventory_of host text ≡ Err (read_told host (read.Fault f))
  pub for_memory : read_told host read.Memory ≡ Memory

abbrev pub InventoryLinesAreTold : Type 0
InventoryLinesAreTold = (host : Host) (text : List ℕ) → InventoriesTellTheirLines host text
