-- Which files a host has, and which lines are told of its inventory.
use Rattle.std.proofs.Common.{◌≡◌, ℕ, Bool, true, false, cond, List, [], None, Some, Result, Ok, Err, refl, sym, ap, ap₂, ◌∙◌, subst, inl, inr}
use Rattle.std.specs.Prelude.{◌⊎◌, ◌↔◌}
use Rattle.idtext.specs.First.{◌>>=◌, first_fault, unless}
use Rattle.idtext.specs.declared.faults.TextCode.{TextCode}
use Rattle.idtext.specs.declared.faults.TextFault.{TextFault}
use Rattle.mtree_inv.specs.Inventory.{inventory, inventory_of_lines}
use Rattle.mtree_inv.specs.Logical.{whole_lines}
use Rattle.mtree_inv.specs.declared.entry.Entry.{Entry}
use Rattle.hosts_join.specs.Hosts.{allows_gid, allows_uid}
use Rattle.hosts_join.specs.declared.host.Host.{Host}
use Rattle.unify_texts.specs.declared.bundle_line.FileName.{FileName}
use Rattle.unify_texts.specs.declared.bundle_line.FileName.TheVariants as file
use Rattle.unify_texts.specs.declared.fault.Fault.{Fault}
use Rattle.unify_texts.specs.declared.fault.Fault.TheVariants.{Line, UnownedUid, UnownedGid}
use Rattle.site_tables.proofs.FaultLaws.{all_allowed, bind_err, err_same, file_err, never_err, none_judged}
use Rattle.unify_texts.proofs.FirstFaults.{FirstFault, all_pass, first_fails, unless_err}
use Rattle.site_tables.proofs.Owners.{file_ok, files_read}
use Rattle.site_tables.specs.FileLaws.{AreItsFiles, FilesAreOfInventories, GivesWhatIsRead, InventoryLinesAreTold, IsOfInventory, TellsItsLines}
use Rattle.site_tables.specs.Hosts.{files_of, owner_fault}
use Rattle.unify_texts.specs.Told.{in_file}
use Rattle.site_tables.specs.declared.host.Loaded.{Loaded}

-- ---- files

-- the files, where each has its owners
abbrev owners : Loaded → List Entry → Result (List Entry) Fault
owners loaded files = unless (first_fault (owner_fault loaded.host) [] files) (tt {0}) >>= λ owned. Ok files

module _ (loaded : Loaded) (files : List Entry) where
  its_files : AreItsFiles loaded files → files_of loaded ≡ Ok files
  unfolding files_of
  its_files are =
      ap (λ r. in_file loaded.host.name file.Mtree r >>= owners loaded) are.read
      ∙ ap (λ o. unless o (tt {0}) >>= λ owned. Ok files) (all_pass (owner_fault loaded.host []) [] files (none_judged loaded files are.allowed))

pub files_are_of_inventories : FilesAreOfInventories
files_are_of_inventories loaded files = (
  λ h. let read = files_read loaded files h in record { read = read.0; allowed = all_allowed loaded files read.1 },
  its_files loaded files,
)

-- ---- lines

module _ {A : Type 0} (host : Host) where
  in_file_tells : (r : Result A TextFault) → TellsItsLines host r (in_file host.name file.Mtree r)
  in_file_tells r name which code line = (file_err host.name file.Mtree r name which code line, λ is. back is.0 is.1 is.2)
    where
      back : name ≡ host.name → which ≡ file.Mtree → r ≡ Err (record { code = code; line = line }) → in_file host.name file.Mtree r ≡ Err (Line name which code line)
      back is_host is_file is = ap (in_file host.name file.Mtree) is ∙ ap₂ (λ h n. Err (Line h n code line)) (sym is_host) (sym is_file)

  in_file_gives : (r : Result A TextFault) (x : A) → (in_file host.name file.Mtree r ≡ Ok x) ↔ (r ≡ Ok x)
  in_file_gives r x = (file_ok host.name file.Mtree r x, ap (in_file host.name file.Mtree))

  given_as_read : (r : Result A TextFault) → GivesWhatIsRead host r (in_file host.name file.Mtree r)
  given_as_read r = record { given = in_file_gives r; lines = in_file_tells r }

owner_no_line : {Q : Type 0} (user group : Bool) (h : List ℕ) (u v : ℕ) (p q name : List ℕ) (which : FileName) (code : TextCode) (line : ℕ) → cond user (cond group None (Some (UnownedGid h v q))) (Some (UnownedUid h u p)) ≡ Some (Line name which code line) → Q
owner_no_line true true h u v p q name which code line e = absurd (cc)
owner_no_line true false h u v p q name which code line e = absurd (cc)
owner_no_line false group h u v p q name which code line e = absurd (cc)

is_told : (a b : Fault) → Some a ≡ Some b → IsOfInventory a → IsOfInventory b
is_told a b same is = let it : a ≡ b = cc in subst IsOfInventory it is

of_owner : (user group : Bool) (h : List ℕ) (u v : ℕ) (p q : List ℕ) (f : Fault) → cond user (cond group None (Some (UnownedGid h v q))) (Some (UnownedUid h u p)) ≡ Some f → IsOfInventory f
of_owner true true h u v p q f e = absurd (cc)
of_owner true false h u v p q f e = is_told (UnownedGid h v q) f e tt
of_owner false group h u v p q f e = is_told (UnownedUid h u p) f e tt

line_told : {A : Type 0} (host : List ℕ) (r : Result A TextFault) (f : Fault) → in_file host file.Mtree r ≡ Err f → IsOfInventory f
line_told host (Ok x) f e = never_err x f e
line_told {A = A} host (Err t) f e = subst IsOfInventory (err_same {A = A} (Line host file.Mtree t.code t.line) f e) tt

module _ (loaded : Loaded) where
  abbrev reads : Result (List Entry) TextFault
  reads = inventory 16777216 loaded.mtree

  abbrev Step : Fault → Type 0
  Step f = (in_file loaded.host.name file.Mtree reads ≡ Err f) ⊎ ((files : List Entry) × (in_file loaded.host.name file.Mtree reads ≡ Ok files) × (owners loaded files ≡ Err f))

  step : (f : Fault) → files_of loaded ≡ Err f → Step f
  unfolding files_of
  step f e = bind_err (in_file loaded.host.name file.Mtree reads) (owners loaded) f e

  abbrev Judged : Fault → List Entry → Type 0
  Judged f files = FirstFault (owner_fault loaded.host []) files f

  judged : (f : Fault) (files : List Entry) → owners loaded files ≡ Err f → Judged f files
  judged f files e = by (bind_err (unless (first_fault (owner_fault loaded.host) [] files) (tt {0})) (λ owned. Ok files) f e)
    where
      by : (unless (first_fault (owner_fault loaded.host) [] files) (tt {0}) ≡ Err f) ⊎ ((u : Unit {0}) × (unless (first_fault (owner_fault loaded.host) [] files) (tt {0}) ≡ Ok u) × (◌≡◌ {A = Result (List Entry) Fault} (Ok files) (Err f))) → Judged f files
      by (inl told) = first_fails (owner_fault loaded.host []) [] files f (unless_err (first_fault (owner_fault loaded.host) [] files) (tt {0}) f told)
      by (inr passed) = never_err files f passed.2

  owner_told : (f : Fault) (files : List Entry) → owners loaded files ≡ Err f → IsOfInventory f
  owner_told f files e =
      let first = judged f files e in
      let it = first.item in
      of_owner (allows_uid loaded.host it.uid) (allows_gid loaded.host it.gid) loaded.host.name it.uid it.gid it.path it.path f first.told

  kind_told : (f : Fault) → Step f → IsOfInventory f
  kind_told f (inl told) = line_told loaded.host.name reads f told
  kind_told f (inr passed) = owner_told f passed.0 passed.2

  line_there : (name : List ℕ) (which : FileName) (code : TextCode) (line : ℕ) → Step (Line name which code line) → in_file loaded.host.name file.Mtree reads ≡ Err (Line name which code line)
  line_there name which code line (inl told) = told
  line_there name which code line (inr passed) =
      let first = judged (Line name which code line) passed.0 passed.2 in
      let it = first.item in
      owner_no_line (allows_uid loaded.host it.uid) (allows_gid loaded.host it.gid) loaded.host.name it.uid it.gid it.path it.path name which code line first.told

  line_back : (f : Fault) → in_file loaded.host.name file.Mtree reads ≡ Err f → files_of loaded ≡ Err f
  unfolding files_of
  line_back f e = ap (λ r. r >>= owners loaded) e

pub inventory_lines_are_told : InventoryLinesAreTold
inventory_lines_are_told host text =
    let loaded : Loaded = record { host = host; mtree = text } in
    record {
      with_owners = λ name which code line. (
        λ e. (in_file_tells host (inventory 16777216 text) name which code line).0 (line_there loaded name which code line (step loaded (Line name which code line) e)),
        λ is. line_back loaded (Line name which code line) ((in_file_tells host (inventory 16777216 text) name which code line).1 is),
      );
      nothing_else = λ f e. kind_told loaded f (step loaded f e);
      without_owners = given_as_read host (inventory 16777216 text);
      so_far = given_as_read host (inventory_of_lines 16777216 (whole_lines text));
      by_the_reader = λ f e. ap (in_file host.name file.Mtree) e;
      for_memory = refl;
    }
