-- A check, a count and a merge go by the inventories that they read.
-- Source: this project's own rule.
use Rattle.std.specs.Prelude.{◌≡◌, ◌≢◌, ◌<◌, ◌≤◌, ◌++◌, ℕ, List, Ok, Err, Some, length, map}
use Rattle.std.specs.Prelude.{slice_get}
use Rattle.certcheck.specs.Reading.{certificate_in}
use Rattle.mtree_inv.specs.declared.entry.Entry.{Entry}
use Rattle.hosts_join.specs.declared.host.Host.{Host}
use Rattle.hosts_join.specs.declared.texts.HostText.{HostText}
use Rattle.unify_texts.specs.declared.fault.Fault.{Fault}
use Rattle.unify_texts.specs.declared.fault.Fault.TheVariants.{Memory}
use Rattle.unify.specs.Checking.{checked}
use Rattle.site_tables.specs.Mapped.{BegunCost, cost_begun}
use Rattle.unify.specs.CountLaws.{ChangesGroup, ChangesSoMany, ChangesUser}
use Rattle.site_tables.specs.FileLaws.{AreItsFiles}
use Rattle.unify.specs.Outcomes.{hosts_in}
use Rattle.site_tables.specs.Begun.{site_begun}
use Rattle.unify.specs.Reading.{WholeSite}
use Rattle.unify.specs.Told.{in_certificate}
use Rattle.unify.specs.declared.counting.Cost.{Cost}
use Rattle.site_tables.specs.declared.rules.KeepRules.{KeepRules}
use Rattle.site_tables.specs.declared.rules.SiteRules.{SiteRules}
use Rattle.unify_merge.specs.Check.{HasChecked, StopsCheck}
use Rattle.unify_merge.specs.Count.{HasCounted}
use Rattle.unify_merge.specs.Ledger.{Ledger, Reading}
use Rattle.unify_merge.specs.Merge.{HasMerged, MergeBrokeOff}
use Rattle.unify_merge.specs.declared.fault.MergeFault.TheVariants.{Refused}

-- of readings, one of each host in order, the host with the index has exactly the files of the text
-- that was read as its own
abbrev pub HasFilesIn : List Reading → ℕ → Host → List Entry → Type 0
HasFilesIn readings h host files = (text : List ℕ)
    × (slice_get readings h ≡ Some (record { host = h; text = text }))
    × AreItsFiles (record { host = host; mtree = text }) files

-- After some readings that came to their ends, the inventory of each host was read to its end once,
-- in order, and no other.
-- texts: what was given of each host; before, after: the readings before that, and with that
pub record HaveReadFiles (texts : List HostText) (hosts : List (Host × List Entry))
    (before after : List Reading) : Type 0 where
  pub readings : List Reading
  pub no_other : after ≡ before ++ readings
  pub one_each : length readings ≡ length texts
  pub all_hosts : length hosts ≡ length texts
  pub files : (h : ℕ) (host : Host) (files : List Entry)
      → slice_get hosts h ≡ Some (host, files) → HasFilesIn readings h host files

-- the hosts of a site and the accounts over them are those of the texts that were given
abbrev pub IsOfGiven : List HostText → SiteRules → WholeSite → Type 0
IsOfGiven texts rules site =
    site_begun texts rules ≡ Ok (record { hosts = hosts_in site; joined = site.joined })

-- the certificate was checked for the files that were read
abbrev pub ChecksGoByRead : Type 0
ChecksGoByRead = (texts : List HostText) (rules : SiteRules) (certificate : List ℕ)
    (old new : Ledger) (cost : ℕ) (c : HasChecked texts rules certificate old new cost)
    → IsOfGiven texts rules c.means.site
    × HaveReadFiles texts c.means.site.hosts old.read new.read

-- A fault that a check tells, where all inventories were read and are accepted, is what is answered
-- of the certificate for these files.
abbrev pub RefusedChecksGoByRead : Type 0
RefusedChecksGoByRead = (texts : List HostText) (rules : SiteRules) (certificate : List ℕ)
    (old new : Ledger) (f : Fault) (site : WholeSite) → f ≢ Memory
    → StopsCheck texts rules certificate old new (Refused f) → IsOfGiven texts rules site
    → HaveReadFiles texts site.hosts old.read new.read
    → checked site (in_certificate (certificate_in certificate)) ≡ Err f

-- the cost is how many of the files that were read are changed by the map that was given
pub record IsCostOfRead (texts : List HostText) (keep : KeepRules) (map_text : List ℕ)
    (old new : Ledger) (cost : Cost) : Type 0 where
  pub begun : BegunCost
  pub begun_is : cost_begun texts keep map_text ≡ Ok begun
  pub hosts : List (Host × List Entry)
  pub hosts_are : map (λ h. h.0) hosts ≡ begun.hosts
  pub were_read : HaveReadFiles texts hosts old.read new.read
  pub users : ChangesSoMany (ChangesUser begun.names) hosts cost.users
  pub groups : ChangesSoMany (ChangesGroup begun.names) hosts cost.groups

abbrev pub CountsGoByRead : Type 0
CountsGoByRead = (texts : List HostText) (keep : KeepRules) (map_text : List ℕ)
    (old new : Ledger) (cost : Cost) → HasCounted texts keep map_text old new cost
    → IsCostOfRead texts keep map_text old new cost

-- A merge reads so twice. What it merges is said of the files that were read the second time.
pub record IsMergeOfRead (texts : List HostText) (rules : SiteRules) (old new : Ledger)
    (cost : Cost) (m : HasMerged texts rules old new cost) : Type 0 where
  pub given : IsOfGiven texts rules (record { hosts = m.are; joined = m.begun.joined })
  pub middle : List Reading
  pub first : HaveReadFiles texts m.were old.read middle
  pub second : HaveReadFiles texts m.are middle new.read

abbrev pub MergesGoByRead : Type 0
MergesGoByRead = (texts : List HostText) (rules : SiteRules) (old new : Ledger) (cost : Cost)
    (m : HasMerged texts rules old new cost) → IsMergeOfRead texts rules old new cost m

-- One that broke off had read the inventory of each host once, and then those of the first hosts
-- once more; at most one reading besides came to its end. What it leaves is said of the files that
-- were read last.
pub record IsBrokenOfRead (texts : List HostText) (rules : SiteRules) (old new : Ledger)
    (b : MergeBrokeOff texts rules old new) : Type 0 where
  pub given : IsOfGiven texts rules (record { hosts = b.last; joined = b.begun.joined })
  pub middle : List Reading
  pub once : HaveReadFiles texts b.were old.read middle
  pub again : List Reading
  pub as_many : length again ≡ length b.again
  pub besides : List Reading
  pub one_at_most : length besides ≤ 1
  pub no_other : new.read ≡ (middle ++ again) ++ besides
  pub first : (h : ℕ) (host : Host) (files : List Entry)
      → slice_get b.last h ≡ Some (host, files) → h < length again
      → HasFilesIn again h host files
  pub others : (h : ℕ) (host : Host) (files : List Entry)
      → slice_get b.last h ≡ Some (host, files) → length again ≤ h
      → HasFilesIn once.readings h host files

abbrev pub BrokenMergesGoByRead : Type 0
BrokenMergesGoByRead = (texts : List HostText) (rules : SiteRules) (old new : Ledger)
    (b : MergeBrokeOff texts rules old new) → IsBrokenOfRead texts rules old new b
