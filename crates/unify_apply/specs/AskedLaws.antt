-- What it means that `apply` goes on, in the words of what is asked.
-- Source: proc(5): of /proc/PID/status the line `Uid:` has the real user and then the effective
-- one, the lines `Uid:`, `Gid:` and `Groups:` have numbers after that word, and the line `State:`
-- has one letter and what it means;
-- user_namespaces(7): the maps of /proc/PID; sysfs, journal_task; makedev(3). Which file systems
-- have one journal, and how a machine may be called, are this project's own rules.
use Rattle.std.specs.Prelude.{◌≡◌, ◌≢◌, ◌↔◌, ◌⊎◌, ℕ, ◌≤◌, ◌<◌, ◌+◌, true, false}
use Rattle.std.specs.Prelude.{List, [], ◌∷◌, ◌++◌, map}
use Rattle.std.specs.Prelude.{Option, Some, None, Contains, codes, decimal, nat_le}
use Rattle.std.specs.Char.{digit_value}
use Rattle.std.specs.List.{list_any}
use Rattle.idtext.specs.Numbers.{greatest_id, id_of}
use Rattle.idtext.specs.Pieces.{lines}
use Rattle.idtext.specs.Words.{words}
use Rattle.reown_plan.specs.declared.plan.Owner.{Owner}
use Rattle.reown_plan.specs.declared.plan.Record.{Record}
use Rattle.unify_apply.specs.Journal.{major_of, minor_of, tells_process}
use Rattle.unify_apply.specs.Machine.{fit_of, is_of_root, name_in}
use Rattle.unify_apply.specs.Mounts.{MountText, mount_of, mounts_in, one_journal, path_from}
use Rattle.unify_apply.specs.Sought.{has_ended, is_found, is_sought_group, is_sought_user}
use Rattle.unify_apply.specs.Sought.{maps_one}
use Rattle.unify_apply.specs.declared.machine.HostFit.TheVariants.{Same, Named, Other}

-- ---- the file system

-- the kind is one of three
abbrev pub IsOfThree : List ℕ → Type 0
IsOfThree kind = ((kind ≡ codes "ext3") ⊎ (kind ≡ codes "ext4")) ⊎ (kind ≡ codes "xfs")

-- a directory is in a file system of a kind with one journal exactly where the mount that it is in
-- is of one of three kinds
abbrev pub OneJournalIsOfThree : Type 0
OneJournalIsOfThree = (text path : List ℕ) → (one_journal text path ≡ true)
    ↔ ((mount : MountText) × (mount_of (mounts_in text) (path_from path) ≡ Some mount)
    × IsOfThree mount.kind)

-- the number of a process and a newline tell a journal; a text with a byte that is no digit does
-- not, as `<none>`
pub record JournalIsANumber : Type 0 where
  pub number : (process : ℕ) → process ≤ greatest_id
      → tells_process (decimal process ++ codes "\n") ≡ true
  pub others : (text : List ℕ) → list_any (λ b. nat_le 10 (digit_value b)) text ≡ true
      → tells_process (text ++ codes "\n") ≡ false

-- The numbers of five devices: one as disks have them; one with a major number of more than 12 bits
-- and a minor one of more than 8; those that have each bit of the one number and none of the other;
-- and the greatest.
pub record DevicesByExample : Type 0 where
  pub majors : map major_of
      (2049 ∷ 17592187093265 ∷ 18446726481524555520 ∷ 17592184996095 ∷ 18446744073709551615 ∷ [])
      ≡ (8 ∷ 4097 ∷ 4294967295 ∷ 0 ∷ 4294967295 ∷ [])
  pub minors : map minor_of
      (2049 ∷ 17592187093265 ∷ 18446726481524555520 ∷ 17592184996095 ∷ 18446744073709551615 ∷ [])
      ≡ (1 ∷ 273 ∷ 0 ∷ 4294967295 ∷ 4294967295 ∷ [])

-- ---- the machine

-- A name that is followed by a newline is told without that, and one that is not is told as it is.
-- One newline is taken away and nothing else: the machine web1 is not taken for the host web.
pub record NamesAreTold : Type 0 where
  pub line : (name : List ℕ) → name_in (name ++ codes "\n") ≡ name
  pub bare : (name : List ℕ) (b : ℕ) → b ≢ 10 → name_in (name ++ b ∷ []) ≡ name ++ b ∷ []
  pub none : name_in [] ≡ []

-- a machine is called as a host: its name is the host's, or that, a dot and whatever is after it
abbrev pub IsCalled : List ℕ → List ℕ → Type 0
IsCalled host machine = (machine ≡ host)
    ⊎ ((domain : List ℕ) × (machine ≡ host ++ codes "." ++ domain))

-- no word names a host, or one names this
abbrev pub MayBe : List ℕ → Option (List ℕ) → Type 0
MayBe host word = (word ≡ None) ⊎ (word ≡ Some host)

-- The machine is the host of a plan exactly where it is called so and no other host is named; it
-- is only named so exactly where it is called otherwise and that host is named; and it is another
-- exactly where another host is named, or none is and it is called otherwise.
pub record FitTellsTheHost (host machine : List ℕ) (word : Option (List ℕ)) : Type 0 where
  pub same : (fit_of host word machine ≡ Same) ↔ (IsCalled host machine × MayBe host word)
  pub named : (fit_of host word machine ≡ Named) ↔ ((¬ IsCalled host machine) × (word ≡ Some host))
  pub other : (fit_of host word machine ≡ Other)
      ↔ ((¬ MayBe host word) ⊎ ((¬ IsCalled host machine) × (word ≡ None)))

abbrev pub FitsTellTheHost : Type 0
FitsTellTheHost = (host machine : List ℕ) (word : Option (List ℕ))
    → FitTellsTheHost host machine word

-- ---- who calls

-- the words of a line are `Uid:`, some real user, the effective user 0, and others
abbrev pub TellsRoot : List ℕ → Type 0
TellsRoot line = (real : List ℕ) × (others : List (List ℕ))
    × (words line ≡ codes "Uid:" ∷ real ∷ codes "0" ∷ others)

-- a status is that of root exactly where one of its lines tells so
abbrev pub RootIsEffective : Type 0
RootIsEffective = (status : List ℕ) → (is_of_root status ≡ true)
    ↔ ((line : List ℕ) × Contains (lines status) line × TellsRoot line)

-- ---- the processes

-- a file with one number gets another
abbrev pub Moves : (Owner → ℕ) → List Record → ℕ → ℕ → Type 0
Moves number records from to =
    (r : Record) × Contains records r × (number r.before ≡ from) × (number r.after ≡ to)

-- a number is looked for exactly where a file with it gets another, or one with another gets it
abbrev pub IsLeftOrTaken : (Owner → ℕ) → List Record → ℕ → Type 0
IsLeftOrTaken number records v =
    (other : ℕ) × (other ≢ v) × (Moves number records v other ⊎ Moves number records other v)

abbrev pub SoughtUsersMove : Type 0
SoughtUsersMove = (records : List Record) (uid : ℕ) → (is_sought_user records uid ≡ true)
    ↔ IsLeftOrTaken (λ owner. owner.uid) records uid

abbrev pub SoughtGroupsMove : Type 0
SoughtGroupsMove = (records : List Record) (gid : ℕ) → (is_sought_group records gid ≡ true)
    ↔ IsLeftOrTaken (λ owner. owner.gid) records gid

-- a line begins with a word, and one of the words after it writes one of the numbers
abbrev pub TellsOne : List ℕ → List ℕ → List ℕ → Type 0
TellsOne numbers head line =
    (others : List (List ℕ)) × (words line ≡ head ∷ others)
    × ((word : List ℕ) × Contains others word
    × ((number : ℕ) × (id_of word ≡ Some number) × Contains numbers number))

-- a line of a status tells one of a user, of a group, or of another group
abbrev pub TellsAny : List ℕ → List ℕ → List ℕ → Type 0
TellsAny users groups line =
    (TellsOne users (codes "Uid:") line ⊎ TellsOne groups (codes "Gid:") line)
    ⊎ TellsOne groups (codes "Groups:") line

-- the words of a line of a map: one of the numbers is the first outside, or comes after it and
-- before the end of so many
pub record TellRange (numbers : List ℕ) (ws : List (List ℕ)) : Type 0 where
  pub inside : List ℕ
  pub outside : List ℕ
  pub count : List ℕ
  pub more : List (List ℕ)
  pub first : ℕ
  pub many : ℕ
  pub number : ℕ
  pub told : ws ≡ inside ∷ outside ∷ count ∷ more
  pub begins : id_of outside ≡ Some first
  pub counts : id_of count ≡ Some many
  pub sought : Contains numbers number
  pub from : first ≤ number
  pub before : number < first + many

-- a line of a map tells such a range
abbrev pub TellsRange : List ℕ → List ℕ → Type 0
TellsRange numbers text =
    (line : List ℕ) × Contains (lines text) line × TellRange numbers (words line)

-- A process is found exactly where a line of its status, which is that of all its threads, tells
-- one of the numbers, or a line of one of its maps a range that has one.
abbrev pub ProcessesAreFound : Type 0
ProcessesAreFound = (users groups status uid_map gid_map : List ℕ)
    → (is_found users groups status uid_map gid_map ≡ true)
    ↔ ((((line : List ℕ) × Contains (lines status) line × TellsAny users groups line)
    ⊎ TellsRange users uid_map) ⊎ TellsRange groups gid_map)

-- of threads in the states of proc(5) a zombie and a dead one have ended, whatever they are called
abbrev pub EndsByExample : Type 0
EndsByExample =
    map has_ended
    (codes "Name:\tZ\nState:\tR (running)\nTgid:\t7\n"
    ∷ codes "Name:\tX\nState:\tS (sleeping)\nTgid:\t7\n"
    ∷ codes "Name:\tsh\nState:\tD (disk sleep)\nTgid:\t7\n"
    ∷ codes "Name:\tsh\nState:\tT (stopped)\nTgid:\t7\n"
    ∷ codes "Name:\tsh\nState:\tt (tracing stop)\nTgid:\t7\n"
    ∷ codes "Name:\tsh\nState:\tZ (zombie)\nTgid:\t7\n"
    ∷ codes "Name:\tsh\nState:\tX (dead)\nTgid:\t7\n" ∷ [])
    ≡ (false ∷ false ∷ false ∷ false ∷ false ∷ true ∷ true ∷ [])

-- The map of the initial namespace tells of no number. That of a namespace of the user 1001, who
-- is the user 0 there and has the users from 100000 to 165535 besides, tells of these; and of the
-- numbers that these have inside, it tells of none.
pub record MapsByExample : Type 0 where
  pub initial : (numbers : List ℕ)
      → maps_one numbers (codes "         0          0 4294967295\n") ≡ false
  pub own : map (λ v. maps_one (v ∷ []) (codes "   0   1001     1\n   1 100000 65536\n"))
      (0 ∷ 1 ∷ 1000 ∷ 1001 ∷ 1002 ∷ 65536 ∷ 99999 ∷ 100000 ∷ 165535 ∷ 165536 ∷ [])
      ≡ (false ∷ false ∷ false ∷ true ∷ false ∷ false ∷ false ∷ true ∷ true ∷ false ∷ [])
