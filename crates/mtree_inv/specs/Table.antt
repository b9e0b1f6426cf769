-- Words of private contracts: the files that a table has, whose paths are cut.
use Rattle.std.specs.Prelude.{◌≡◌, ℕ, List, [], ◌∷◌, length}
use Rattle.mtree_inv.specs.declared.entry.Entry.{Entry}
use Rattle.mtree_inv.specs.declared.table.Owner.{Owner}
use Rattle.mtree_inv.specs.Cuts.{Cut, AreDistinct}
use Rattle.mtree_inv.specs.Fronts.{path_of_cut, IsCut, AreFronts}

abbrev pub file : List ℕ → Owner → Entry
file path owner = record { path = path; uid = owner.uid; gid = owner.gid }

-- the files of these paths and owners, in their order
abbrev pub files_in : List (List ℕ) → List Cut → List Owner → List Entry
files_in fronts [] owners = []
files_in fronts (cut ∷ cuts) [] = []
files_in fronts (cut ∷ cuts) (owner ∷ owners) =
    file (path_of_cut fronts cut) owner ∷ files_in fronts cuts owners

-- the paths are cut after these fronts
abbrev pub AreCut : List (List ℕ) → List Cut → Type 0
AreCut fronts [] = Unit {0}
AreCut fronts (cut ∷ cuts) = IsCut fronts cut × AreCut fronts cuts

-- what contracts see of a table: the fronts, some of which no file may have, and the files
pub record TableValue : Type 0 where
  pub fronts : List (List ℕ)
  pub files : List Entry

abbrev pub listed : TableValue → List Entry
listed table = table.files

pub record IsTable (fronts : List (List ℕ)) (cuts : List Cut) (owners : List Owner) : Type 0 where
  pub fronts_are : AreFronts fronts
  pub cut : AreCut fronts cuts
  -- no two files have one path
  pub distinct : AreDistinct cuts
  -- each has an owner
  pub owned : length owners ≡ length cuts
