-- Which numbers a survey finds, in words of the texts, and in which order; and which fault is told
-- where it finds none: the first.
-- Sources: mtree(5), passwd(5) and group(5); which numbers stay is this project's own rule.
use Rattle.std.specs.Prelude.{◌≡◌, ◌⊎◌, ◌↔◌, ℕ, true, false, List, Some, Ok, Err, Any, map}
use Rattle.std.specs.Prelude.{flat_map, slice_get}
use Rattle.std.specs.List.{Contains}
use Rattle.idtext.specs.First.{each}
use Rattle.accounts.specs.Rows.{Passwd, Group}
use Rattle.accounts.specs.Tables.{passwd_table, group_table}
use Rattle.mtree_inv.specs.Inventory.{inventory}
use Rattle.mtree_inv.specs.declared.entry.Entry.{Entry}
use Rattle.hosts_join.specs.Checks.{hosts_checked}
use Rattle.hosts_join.specs.declared.host.Host.{Host}
use Rattle.hosts_join.specs.declared.texts.HostText.{HostText}
use Rattle.keep_text.specs.KeepTexts.{keep_of}
use Rattle.keep_text.specs.declared.keep_text.KeepText.{KeepText}
use Rattle.kept_accounts.specs.Reserving.{UnownedNumbers, no_numbers}
use Rattle.kept_accounts.specs.declared.reserving.UnownedNumber.{UnownedNumber}
use Rattle.survey.specs.Unowned.{on_host, unowned_gids, unowned_uids}
use Rattle.site_tables.specs.FaultLaws.{LiesInOne}
use Rattle.site_tables.specs.Hosts.{host_of}
use Rattle.site_tables.specs.Others.{keep_read}
use Rattle.site_tables.specs.SiteLaws.{IsRefusedOr}
use Rattle.site_tables.specs.Survey.{found_on, inventory_of, surveyed, surveyed_hosts}
use Rattle.site_tables.specs.Told.{in_site}
use Rattle.site_tables.specs.declared.host.Loaded.{Loaded}
use Rattle.unify_texts.specs.Limits.{most_files}
use Rattle.unify_texts.specs.declared.fault.Fault.{Fault}

-- some file of the inventory of the host has the uid, no user of its passwd has, and no range that
-- is listed for users
pub record IsUnownedUid (keep : KeepText) (text : HostText) (mtree : List ℕ)
    (found : UnownedNumber) : Type 0 where
  pub on_host : found.host ≡ text.name
  pub files : List Entry
  pub read : inventory most_files mtree ≡ Ok files
  pub of_a_file : Any (λ file. file.uid ≡ found.number) files
  pub users : List Passwd
  pub told : passwd_table text.passwd ≡ Ok users
  pub of_no_user : Any (λ row. row.uid ≡ found.number) users → ⊥
  pub not_listed : LiesInOne keep.users.ranges found.number → ⊥

-- and the same of a gid
pub record IsUnownedGid (keep : KeepText) (text : HostText) (mtree : List ℕ)
    (found : UnownedNumber) : Type 0 where
  pub on_host : found.host ≡ text.name
  pub files : List Entry
  pub read : inventory most_files mtree ≡ Ok files
  pub of_a_file : Any (λ file. file.gid ≡ found.number) files
  pub groups : List Group
  pub told : group_table text.group ≡ Ok groups
  pub of_no_group : Any (λ row. row.gid ≡ found.number) groups → ⊥
  pub not_listed : LiesInOne keep.groups.ranges found.number → ⊥

-- so it is on some host, with its inventory, which stands at the same index
abbrev pub IsOnSome : (HostText → List ℕ → Type 0) → List HostText → List (List ℕ) → Type 0
IsOnSome Is texts mtrees =
    (h : ℕ) × (text : HostText) × (mtree : List ℕ)
    × (slice_get texts h ≡ Some text) × (slice_get mtrees h ≡ Some mtree) × Is text mtree

-- exactly these numbers are found
pub record AreUnowned (keep : KeepText) (texts : List HostText) (mtrees : List (List ℕ))
    (found : UnownedNumbers) : Type 0 where
  pub users : (u : UnownedNumber) → Contains found.users u
      ↔ IsOnSome (λ text mtree. IsUnownedUid keep text mtree u) texts mtrees
  pub groups : (u : UnownedNumber) → Contains found.groups u
      ↔ IsOnSome (λ text mtree. IsUnownedGid keep text mtree u) texts mtrees

-- So it is where the keep text says `unowned` of either kind; where it does not, none is found.
pub record FindsUnowned (keep : KeepText) (texts : List HostText) (mtrees : List (List ℕ))
    (found : UnownedNumbers) : Type 0 where
  pub said : (keep.users.unowned ≡ true) ⊎ (keep.groups.unowned ≡ true)
      → AreUnowned keep texts mtrees found
  pub not_said : keep.users.unowned ≡ false → keep.groups.unowned ≡ false → found ≡ no_numbers

abbrev pub SurveysFindUnowned : Type 0
SurveysFindUnowned =
    (texts : List HostText) (keep_text : List ℕ) (keep : KeepText) (hosts : List Host)
    (mtrees : List (List ℕ)) (found : UnownedNumbers) → keep_of keep_text ≡ Ok keep
    → surveyed_hosts texts (keep_read keep_text) ≡ Ok hosts → found_on hosts mtrees ≡ Ok found
    → FindsUnowned keep texts mtrees found

-- And so it is of what is found in the inventories of the texts themselves.
abbrev pub SurveyedTextsFindUnowned : Type 0
SurveyedTextsFindUnowned =
    (texts : List HostText) (keep_text : List ℕ) (keep : KeepText) (found : UnownedNumbers)
    → keep_of keep_text ≡ Ok keep → surveyed texts keep_text ≡ Ok found
    → FindsUnowned keep texts (map (λ t. t.mtree) texts) found

-- ---- in which order

-- the host at an index, with the files of the inventory at the same index
pub record IsListedAt (hosts : List Host) (mtrees : List (List ℕ)) (h : ℕ)
    (here : Host × List Entry) : Type 0 where
  pub host_is : slice_get hosts h ≡ Some here.0
  pub mtree : List ℕ
  pub mtree_is : slice_get mtrees h ≡ Some mtree
  pub read : inventory most_files mtree ≡ Ok here.1

-- The numbers stand host by host, and those of each host as the survey of its files gives them:
-- each once, in the order in which files have them first.
pub record StandHostByHost (hosts : List Host) (mtrees : List (List ℕ)) (found : UnownedNumbers)
    : Type 0 where
  pub listed : List (Host × List Entry)
  pub listed_are : (h : ℕ) (here : Host × List Entry)
      → (slice_get listed h ≡ Some here) ↔ IsListedAt hosts mtrees h here
  pub users : found.users ≡ flat_map (λ here. on_host here.0 (unowned_uids here.0 here.1)) listed
  pub groups : found.groups
      ≡ flat_map (λ here. on_host here.0 (unowned_gids here.0 here.1)) listed

abbrev pub FoundNumbersStandInOrder : Type 0
FoundNumbersStandInOrder =
    (hosts : List Host) (mtrees : List (List ℕ)) (found : UnownedNumbers)
    → found_on hosts mtrees ≡ Ok found → StandHostByHost hosts mtrees found

-- ---- the first fault

-- The keep text is taken and says `unowned`, and it is the fault of the host list; or of the first
-- host that has one; or of the first inventory that has one.
abbrev pub IsFirstOfSurvey : List HostText → List ℕ → Fault → Type 0
IsFirstOfSurvey texts keep_text fault =
    (keep : KeepText) × (keep_of keep_text ≡ Ok keep)
    × ((keep.users.unowned ≡ true) ⊎ (keep.groups.unowned ≡ true))
    × IsRefusedOr (in_site (hosts_checked texts)) fault (λ listed.
    IsRefusedOr (each host_of texts) fault (λ loaded.
    each (λ (l : Loaded). inventory_of l.host l.mtree) loaded ≡ Err fault))

abbrev pub FirstFaultsOfSurveys : Type 0
FirstFaultsOfSurveys = (texts : List HostText) (keep_text : List ℕ) (fault : Fault)
    → (surveyed texts keep_text ≡ Err fault) ↔ IsFirstOfSurvey texts keep_text fault
