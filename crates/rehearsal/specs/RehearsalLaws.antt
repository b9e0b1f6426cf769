-- Which file a rehearsal tells: of which record, and what the inventory says of it; and what it
-- answers for a text that is refused.
-- Source: chown(2): an owner is a uid with a gid; which files are told is this project's own rule.
use Rattle.std.specs.Prelude.{◌≡◌, ◌≢◌, ◌⊎◌, ℕ, List, ◌∷◌, ◌++◌, length, Ok, Err, All}
use Rattle.std.specs.Prelude.{Contains}
use Rattle.idtext.specs.declared.faults.TextFault.{TextFault}
use Rattle.mtree_inv.specs.declared.entry.Entry.{Entry}
use Rattle.mtree_inv.specs.Inventory.{inventory}
use Rattle.reown_plan.specs.declared.plan.Owner.{Owner}
use Rattle.reown_plan.specs.PlanData.{PlanData, PlanRecord}
use Rattle.unify_texts.specs.declared.bundle_line.FileName.TheVariants.{Mtree}
use Rattle.unify_texts.specs.declared.fault.Fault.TheVariants.{BadPlan, Line, Missing, Foreign}
use Rattle.unify_texts.specs.Limits.{most_files}
use Rattle.rehearsal.specs.Rehearsing.{rehearsed}

-- the file has both numbers of the owner
pub record IsAt (file : Entry) (owner : Owner) : Type 0 where
  pub uid : file.uid ≡ owner.uid
  pub gid : file.gid ≡ owner.gid

-- one of the files has the record's path, and its old owner or its new
pub record IsFound (files : List Entry) (planned : PlanRecord) : Type 0 where
  pub file : Entry
  pub there : Contains files file
  pub path : file.path ≡ planned.path
  pub owner : IsAt file planned.before ⊎ IsAt file planned.after

-- the first record that is not found has the path, and this holds of it
pub record FirstNotFound (files : List Entry) (records : List PlanRecord) (path : List ℕ)
    (Holds : PlanRecord → Type 0) : Type 0 where
  pub earlier : List PlanRecord
  pub planned : PlanRecord
  pub later : List PlanRecord
  pub split : records ≡ earlier ++ planned ∷ later
  pub found : All (IsFound files) earlier
  pub named : planned.path ≡ path
  pub holds : Holds planned

-- one of the files has the path, and neither of the record's owners
pub record IsForeign (files : List Entry) (path : List ℕ) (planned : PlanRecord) : Type 0 where
  pub file : Entry
  pub there : Contains files file
  pub named : file.path ≡ path
  pub not_before : IsAt file planned.before → ⊥
  pub not_after : IsAt file planned.after → ⊥

-- It answers how many records there are, where each is found, and else a path as missing or as
-- foreign; an absent file is that of the first record that is not found, and so is one at another
-- owner.
pub record TellsFiles (plan : PlanData) (mtree : List ℕ) (files : List Entry) : Type 0 where
  pub number : (n : ℕ) → rehearsed (Ok plan) mtree ≡ Ok n
      → All (IsFound files) plan.records × (n ≡ length plan.records)
  pub all_found : All (IsFound files) plan.records
      → rehearsed (Ok plan) mtree ≡ Ok (length plan.records)
  pub not_all : (All (IsFound files) plan.records → ⊥)
      → (path : List ℕ) × ((rehearsed (Ok plan) mtree ≡ Err (Missing path))
      ⊎ (rehearsed (Ok plan) mtree ≡ Err (Foreign path)))
  pub missing : (path : List ℕ) → rehearsed (Ok plan) mtree ≡ Err (Missing path)
      → FirstNotFound files plan.records path (λ planned. All (λ file. file.path ≢ path) files)
  pub foreign : (path : List ℕ) → rehearsed (Ok plan) mtree ≡ Err (Foreign path)
      → FirstNotFound files plan.records path (IsForeign files path)

-- a rehearsal on an inventory that is read tells its files
abbrev pub RehearsalsTellFiles : Type 0
RehearsalsTellFiles =
    (plan : PlanData) (mtree : List ℕ) (files : List Entry) → inventory most_files mtree ≡ Ok files
    → TellsFiles plan mtree files

-- A plan that is refused is told at its byte, whatever the inventory is. Of a plan that is read, an
-- inventory that is refused is told at its line of the host's mtree, whatever records there are.
pub record RefusalsAreTold : Type 0 where
  pub plan : (offset : ℕ) (mtree : List ℕ) → rehearsed (Err offset) mtree ≡ Err (BadPlan offset)
  pub mtree : (plan : PlanData) (mtree : List ℕ) (fault : TextFault)
      → inventory most_files mtree ≡ Err fault
      → rehearsed (Ok plan) mtree ≡ Err (Line plan.host Mtree fault.code fault.line)
