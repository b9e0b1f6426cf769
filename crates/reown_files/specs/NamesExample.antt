-- What looks tell of a file, and what follows for the names of one that has several, by example.
-- Sources: inode(7) for the bits of a mode: 2541, 1517, 3565 and 493 are 4755, 2755, 6755 and 755
-- to the base 8, 1005 and 448 are 1755 and 700; stat(2): a file is told by its device and its
-- number there; chown(2) for the bits that a change of the owner clears.
use Rattle.std.specs.Prelude.{◌≡◌, ℕ, Bool, true, false, List, [], ◌∷◌, None, Some, codes}
use Rattle.reown_plan.specs.declared.plan.Owner.{Owner}
use Rattle.reown_files.specs.declared.answers.Seen.{Seen}
use Rattle.reown_files.specs.declared.walk.Found.{Found}
use Rattle.reown_files.specs.declared.walk.Kind.{Kind}
use Rattle.reown_files.specs.declared.walk.Kind.TheVariants.{Regular, Directory, Other}
use Rattle.reown_files.specs.Asked.{Asked, Told, Counted, Awaited, Synced, met, line_of}
use Rattle.reown_files.specs.Asked.{names_of, is_counted, waits, HasAllNames, HasOneOwner}
use Rattle.reown_files.specs.Looks.{seen_of}
use Rattle.reown_files.specs.OneFile.{AreOneFile, HasLost}
use Rattle.reown_files.specs.Runs.{old, new, foreign}

-- a file at this owner, of this kind and mode, with so many names
abbrev pub file_at : Owner → Kind → ℕ → ℕ → Found
file_at owner kind mode links =
    record { owner = owner; kind = kind; mode = mode; device = 3; inode = 5; links = links }

abbrev pub at_old : Bool → Bool → Seen
at_old set_id linked =
    record { owner = old; has_set_id = set_id; has_several_names = linked }

-- only of a regular file are the set-ID bits told, and of a directory no other names
pub record ExampleOfLooks : Type 0 where
  pub set_user : seen_of (file_at old Regular 2541 1) ≡ at_old true false
  pub set_group : seen_of (file_at old Regular 1517 2) ≡ at_old true true
  pub plain : seen_of (file_at old Regular 493 2) ≡ at_old false true
  pub directory : seen_of (file_at old Directory 1517 2) ≡ at_old false false
  pub link : seen_of (file_at old Other 493 2) ≡ at_old false true

abbrev pub path : List ℕ
path = codes "bin/su"

abbrev pub told : Found → List Asked
told found = Counted path found new ∷ Told path found ∷ []

-- what is met at its new owner is synced, but where one journal keeps all; the mode of what is to
-- lose bits of it is written down
pub record ExampleOfMeeting : Type 0 where
  pub before :
      met false path new (file_at old Regular 2541 1) [] ≡ told (file_at old Regular 2541 1)
  pub after :
      met false path new (file_at new Regular 2541 1) []
      ≡ Synced path ∷ told (file_at new Regular 2541 1)
  pub journal :
      met true path new (file_at new Regular 2541 1) [] ≡ told (file_at new Regular 2541 1)
  pub link : met false path new (file_at new Other 493 1) [] ≡ told (file_at new Other 493 1)
  pub line : line_of path new (file_at old Regular 2541 1) ≡ codes "4755 bin/su\n"
  pub no_bits : line_of path new (file_at old Regular 493 1) ≡ []
  pub no_change : line_of path new (file_at new Regular 2541 1) ≡ []

-- a file with two names, and both were met
abbrev pub twice : Found
twice = file_at old Regular 493 2

abbrev pub both_met : List Asked
both_met = Counted (codes "b") twice new ∷ Counted (codes "a") twice new ∷ []

-- it waits for the second of its names, and no other file does
pub record ExampleOfNames : Type 0 where
  pub both : names_of (3, 5) both_met ≡ Some (record { met = 2; left = 2; after = new })
  pub one :
      names_of (3, 5) (Counted (codes "a") twice new ∷ [])
      ≡ Some (record { met = 1; left = 1; after = new })
  pub done :
      names_of (3, 5) (Awaited twice ∷ both_met)
      ≡ Some (record { met = 2; left = 1; after = new })
  pub other_device : names_of (4, 5) both_met ≡ None
  pub other_inode : names_of (3, 6) both_met ≡ None
  pub first : waits twice both_met ≡ true
  pub last : waits twice (Awaited twice ∷ both_met) ≡ false
  pub single : waits (file_at old Regular 493 1) both_met ≡ false
  pub first_path : is_counted (codes "a") both_met ≡ true
  pub no_path : is_counted (codes "c") both_met ≡ false

-- with one of two names met some are missing, and with three of two; both have one new user and one
-- new group
pub record ExampleOfAllNames : Type 0 where
  pub both : HasAllNames twice both_met
  pub one : ¬ HasAllNames twice (Counted (codes "a") twice new ∷ [])
  pub three : ¬ HasAllNames twice (Counted (codes "c") twice new ∷ both_met)
  pub single : HasAllNames (file_at old Regular 493 1) []
  pub same : HasOneOwner new twice both_met
  pub other_group : ¬ HasOneOwner foreign twice both_met
  pub other_user : ¬ HasOneOwner (record new { uid = 100 }) twice both_met

-- a program that is run as its owner
abbrev pub program : Found
program = file_at old Regular 2541 1

-- a file stays one with another owner, mode and number of names; on another device, with another
-- number there or of another kind it is another
pub record ExampleOfOneFile : Type 0 where
  pub changed : AreOneFile (file_at new Regular 493 2) program
  pub device : ¬ AreOneFile (record program { device = 4 }) program
  pub inode : ¬ AreOneFile (record program { inode = 6 }) program
  pub kind : ¬ AreOneFile (record program { kind = Other }) program

-- a regular file of mode 755 has lost either set-ID bit, or both; not where it has all bits, lacks
-- another bit than these or has one more than the mode
pub record ExampleOfLostModes : Type 0 where
  pub set_user : HasLost (file_at new Regular 493 1) 2541
  pub set_group : HasLost (file_at new Regular 493 1) 1517
  pub both : HasLost (file_at new Regular 493 1) 3565
  pub one_left : HasLost (file_at new Regular 2541 1) 3565
  pub none : ¬ HasLost (file_at new Regular 2541 1) 2541
  pub other_bits : ¬ HasLost (file_at new Regular 448 1) 2541
  pub sticky_bit : ¬ HasLost (file_at new Regular 493 1) 1005
  pub more : ¬ HasLost (file_at new Regular 1517 1) 2541
  pub directory : (mode : ℕ) → ¬ HasLost (file_at new Directory 493 1) mode
  pub link : (mode : ℕ) → ¬ HasLost (file_at new Other 493 1) mode
