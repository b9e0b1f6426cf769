-- What holds of the numbers that files have without an account.
-- Source: this project's own rule.
use Rattle.std.specs.Prelude.{◌≡◌, ◌≤◌, ◌⊎◌, ◌↔◌, ℕ, Bool, true, List, Any, Contains}
use Rattle.accounts.specs.Laws.{AreDistinct}
use Rattle.mtree_inv.specs.declared.entry.Entry.{Entry}
use Rattle.hosts_join.specs.declared.host.Host.{Host}
use Rattle.kept_accounts.specs.Reserving.{UnownedNumbers}
use Rattle.kept_accounts.specs.declared.reserving.UnownedNumber.{UnownedNumber}
use Rattle.survey.specs.Unowned.{is_unowned_uid, is_unowned_gid, unowned_uids, unowned_gids}
use Rattle.survey.specs.Unowned.{unowned_with}

-- A number is among them exactly where some file has it, and it is unowned on the host.
-- number_of: that of a file; numbers: those of files
abbrev pub AreThoseOfFiles : (Entry → ℕ) → (Host → ℕ → Bool) → (Host → List Entry → List ℕ)
    → Type 0
AreThoseOfFiles number_of is_unowned numbers = (host : Host) (files : List Entry) (number : ℕ)
    → Contains (numbers host files) number
    ↔ (Any (λ file. number_of file ≡ number) files × (is_unowned host number ≡ true))

-- no number stands twice among them
abbrev pub StandOnce : (Host → List Entry → List ℕ) → Type 0
StandOnce numbers = (host : Host) (files : List Entry) → AreDistinct (numbers host files)

-- ---- of both kinds

abbrev pub UidsAreOfFiles : Type 0
UidsAreOfFiles = AreThoseOfFiles (λ file. file.uid) is_unowned_uid unowned_uids

abbrev pub GidsAreOfFiles : Type 0
GidsAreOfFiles = AreThoseOfFiles (λ file. file.gid) is_unowned_gid unowned_gids

-- ---- what is found of one host more

-- The number is this host's: some file of it has the number, no account of it has, and it lies in
-- no range that the host spares.
-- owned: a file has it; had: an account has it; spared: it lies in such a range
pub record IsUnownedOn (host : Host) (found : UnownedNumber) (owned had spared : Type 0)
    : Type 0 where
  pub on_host : found.host ≡ host.name
  pub owns_files : owned
  pub has_no_account : had → ⊥
  pub is_not_spared : spared → ⊥

-- A number is found exactly where it was found before, or it is one of this host: some file of the
-- host has it, no account of the host has, and the host does not spare it.
abbrev pub OnlyUnownedAreFound : Type 0
OnlyUnownedAreFound = (before : UnownedNumbers) (host : Host) (files : List Entry)
    (found : UnownedNumber)
    → (Contains (unowned_with before host files).users found
    ↔ (Contains before.users found
    ⊎ IsUnownedOn host found (Any (λ file. file.uid ≡ found.number) files)
    (Any (λ row. row.uid ≡ found.number) host.users)
    (Any (λ range. (range.low ≤ found.number) × (found.number ≤ range.high)) host.spared_users)))
    × (Contains (unowned_with before host files).groups found
    ↔ (Contains before.groups found
    ⊎ IsUnownedOn host found (Any (λ file. file.gid ≡ found.number) files)
    (Any (λ row. row.gid ≡ found.number) host.groups)
    (Any (λ range. (range.low ≤ found.number) × (found.number ≤ range.high))
    host.spared_groups)))
