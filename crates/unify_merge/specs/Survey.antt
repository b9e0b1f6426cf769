-- The inventories as they are read for the numbers that their files have and no account of their
-- host has.
-- Source: this project's own rule.
use Rattle.std.specs.Prelude.{◌≡◌, ℕ, ◌⊎◌, List, ◌++◌, length, Some, Ok, Err}
use Rattle.std.specs.Prelude.{slice_get}
use Rattle.idtext.specs.First.{each}
use Rattle.mtree_inv.specs.declared.entry.Entry.{Entry}
use Rattle.hosts_join.specs.declared.host.Host.{Host}
use Rattle.kept_accounts.specs.Reserving.{UnownedNumbers, no_numbers}
use Rattle.survey.specs.Surveying.{HasNumbersOf}
use Rattle.survey.specs.Unowned.{unowned_with}
use Rattle.survey.specs.declared.host_survey.HostSurvey.{HostSurvey}
use Rattle.unify_texts.specs.declared.fault.Fault.{Fault}
use Rattle.site_tables.specs.Loading.{loaded_from}
use Rattle.site_tables.specs.Hosts.{lines_of}
use Rattle.unify.specs.Passes.{is_read}
use Rattle.site_tables.specs.Survey.{inventory_of, listed_of, unowned_over}
use Rattle.unify_merge.specs.FirstReading.{AreWithinLimit, HasRead, IsReading, StopsFor}
use Rattle.unify_merge.specs.FirstReading.{readings_from}
use Rattle.unify_merge.specs.Ledger.{Ledger, Reading}
use Rattle.unify_merge.specs.declared.fault.MergeFault.{MergeFault}

-- ---- the inventory of one host

-- the text was read, and the survey has the numbers of its files
abbrev pub IsSurveyOf : Host → List ℕ → HostSurvey → Type 0
IsSurveyOf host text survey =
    (files : List Entry) × (inventory_of host text ≡ Ok files) × HasNumbersOf host files survey

-- the text was read, and the numbers of its files stand after those before
abbrev pub AddsNumbers : Host → List ℕ → UnownedNumbers → UnownedNumbers → Type 0
AddsNumbers host text old new =
    (files : List Entry) × (inventory_of host text ≡ Ok files)
    × (new ≡ unowned_with old host files)

-- The first fault of the inventory: of its whole lines so far, where its reading ends early; or of
-- the whole of it.
-- index: that of the host
abbrev pub IsReadFault : Host → ℕ → List Reading → Ledger → Fault → Type 0
IsReadFault host index before l f = (text : List ℕ)
    × ((IsReading before index text l × (is_read (lines_of host text) ≡ Err f))
    ⊎ (HasRead before index text l × (is_read (inventory_of host text) ≡ Err f)))

-- why its reading ended early
abbrev pub StopsReading : Host → ℕ → List Reading → Ledger → MergeFault → Type 0
StopsReading host index before l = StopsFor (IsReadFault host index before l) l

-- ---- those of all hosts

-- the inventory of each host was read once, in order, as these texts; and the numbers of their
-- files stand after those before
pub record HasAdded (hosts : List Host) (old new : Ledger) (before after : UnownedNumbers) : Type 0
  where
    pub texts : List (List ℕ)
    pub one_each : length texts ≡ length hosts
    pub within : AreWithinLimit texts
    pub readings : new.read ≡ old.read ++ readings_from 0 texts
    pub listed : List (Host × List Entry)
    pub are_listed : each listed_of (loaded_from hosts texts) ≡ Ok listed
    pub numbers : after ≡ unowned_over before listed

-- these are the numbers of all inventories
abbrev pub HasSurveyed : List Host → Ledger → Ledger → UnownedNumbers → Type 0
HasSurveyed hosts old new found = HasAdded hosts old new no_numbers found

-- the inventories of the first hosts were read as these texts, each of which lists files, and that
-- of the next has this fault
pub record IsSurveyFault (hosts : List Host) (old new : Ledger) (f : Fault) : Type 0 where
  pub texts : List (List ℕ)
  pub listed : List (Host × List Entry)
  pub are_listed : each listed_of (loaded_from hosts texts) ≡ Ok listed
  pub host : Host
  pub here : slice_get hosts (length texts) ≡ Some host
  pub fault : IsReadFault host (length texts) (old.read ++ readings_from 0 texts) new f

-- why a survey ended early
abbrev pub StopsSurvey : List Host → Ledger → Ledger → MergeFault → Type 0
StopsSurvey hosts old new = StopsFor (IsSurveyFault hosts old new) new
