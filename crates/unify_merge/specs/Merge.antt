-- What a merge does, from the bytes that it reads to the bytes of each file.
-- Source: this project's own rule.
use Rattle.std.specs.Prelude.{◌≡◌, ◌<◌, ◌≤◌, ◌+◌, ◌⊎◌, ℕ, false}
use Rattle.std.specs.Prelude.{List, [], ◌∷◌, ◌++◌}
use Rattle.std.specs.Prelude.{length, map, drop, if◌then◌else◌, codes, Ok, Err}
use Rattle.idtext.specs.First.{each}
use Rattle.mtree_inv.specs.declared.entry.Entry.{Entry}
use Rattle.hosts_join.specs.declared.host.Host.{Host}
use Rattle.hosts_join.specs.declared.texts.HostText.{HostText}
use Rattle.ownership.specs.declared.mapping.Mappings.{Mappings}
use Rattle.unify_texts.specs.ReservedLines.{keeps_a_name}
use Rattle.unify_texts.specs.declared.fault.Fault.{Fault}
use Rattle.unify.specs.declared.counting.Cost.{Cost}
use Rattle.unify.specs.declared.outcome.Outcome.{Outcome}
use Rattle.site_tables.specs.declared.rules.SiteRules.{SiteRules}
use Rattle.unify.specs.declared.site_files.NamedText.{NamedText}
use Rattle.unify.specs.Count.{site_of}
use Rattle.unify.specs.Whole.{IsWhole}
use Rattle.site_tables.specs.Loading.{loaded_from}
use Rattle.unify.specs.Merging.{IsMerged}
use Rattle.unify.specs.Outcomes.{IsOutcome}
use Rattle.site_tables.specs.Begun.{BegunSite, site_begun}
use Rattle.unify.specs.SecondPass.{IsFresh, SolvedValue, ended_in}
use Rattle.unify_laws.specs.Headline.{Headline}
use Rattle.unify_laws.specs.HostTexts.{AreJoinedInFull, EachKeepsOwnFiles, host_files}
use Rattle.unify_laws.specs.TwoPasses.{AreReadAgain}
use Rattle.unify_merge.specs.Ledger.{BrokeOff, Ledger, after_files, all_settled, cleared}
use Rattle.unify_merge.specs.FirstReading.{AreWithinLimit, IsInventoryFault, ReadsOnly, StopsFor}
use Rattle.unify_merge.specs.FirstReading.{readings_from}
use Rattle.unify_merge.specs.SecondReading.{ArePlannedFirst, IsPlannedAgain, IsSiteChange}
use Rattle.unify_merge.specs.SecondReading.{HasReadOneAtMost, WereRead, plan_files, plans_from}
use Rattle.unify_merge.specs.declared.fault.MergeFault.{MergeFault}

-- ---- the files of a merge

-- the one passwd and the one group, where no name is kept
abbrev pub account_files : Outcome → List NamedText
account_files outcome =
    if outcome.keeps_names then []
    else record { name = codes "passwd"; text = outcome.passwd }
    ∷ record { name = codes "group"; text = outcome.group } ∷ []

-- those of the whole site that are written before those of the hosts
abbrev pub first_files : Outcome → List NamedText
first_files outcome =
    account_files outcome
    ++ record { name = codes "map"; text = outcome.map }
    ∷ record { name = codes "certificate"; text = outcome.certificate } ∷ []

abbrev pub report_file : Outcome → NamedText
report_file outcome = record { name = codes "report"; text = outcome.report }

-- all of them, in the order in which they are written, where the hosts were read from the texts and
-- have these numbers
abbrev pub merged_files : List HostText → BegunSite → Mappings → Outcome → List NamedText
merged_files texts begun m outcome =
    first_files outcome
    ++ (plan_files texts outcome.plans
    ++ (host_files begun.joined m texts begun.hosts ++ report_file outcome ∷ []))

-- ---- a merge that succeeds

-- the inventories of a site, as they were read
pub record AreInventories (hosts : List Host) (texts : List (List ℕ))
    (read : List (Host × List Entry)) : Type 0 where
  pub one_each : length texts ≡ length hosts
  pub within : AreWithinLimit texts
  pub accepted : each site_of (loaded_from hosts texts) ≡ Ok read

-- the tables and the rules were read, and the inventory of each host once; what was merged is right
-- for that reading
pub record HasSolved (texts : List HostText) (rules : SiteRules) (old new : Ledger)
    (s : SolvedValue) : Type 0 where
  pub begun : BegunSite
  pub begun_is : site_begun texts rules ≡ Ok begun
  pub first : List (List ℕ)
  pub were : List (Host × List Entry)
  pub first_read : AreInventories begun.hosts first were
  pub readings : new.read ≡ old.read ++ readings_from 0 first
  pub hosts : s.hosts ≡ begun.hosts
  pub joined : s.joined ≡ begun.joined
  pub each_text : length texts ≡ length s.hosts
  pub was_read : WereRead s were
  pub whole : IsWhole (record { hosts = were; joined = s.joined })
  pub merged : IsMerged (record { hosts = were; joined = s.joined }) s.merged
  pub none_ended : ended_in s ≡ 0
  pub fresh : IsFresh s

-- the inventories were read again, and what was merged stands in its files, with plans for that
-- reading, and all of them are settled
pub record HasWritten (names : List HostText) (s : SolvedValue) (read : List (Host × List Entry))
    (old new : Ledger) (cost : Cost) : Type 0 where
  pub site : IsPlannedAgain s read
  pub readings : new.read ≡ old.read ++ readings_from 0 site.texts
  pub files : new
      ≡ record (all_settled
      (after_files
      (merged_files names (record { hosts = s.hosts; joined = s.joined }) s.merged.mappings
      (record s.merged.outcome { plans = site.plans })) (cleared old))) {
        read = new.read;
        reading = new.reading;
        writing = new.writing;
      }
  pub cost_is : cost ≡ s.merged.outcome.cost

-- The tables and the rules were read; the inventory of each host was read twice, and is accepted
-- both times, and each user and each group of each host owns as many of its files the second time
-- as the first. What was merged is right for the second reading, and has the headline of it; and
-- each host's own passwd and group with their new numbers keep the names of its files as well.
-- Where no name is kept, as with an empty keep text, all rows of each host were joined. What was
-- merged stands in its files, which are all that stands there, and all of them are settled.
pub record HasMerged (texts : List HostText) (rules : SiteRules) (old new : Ledger)
    (cost : Cost) : Type 0 where
  pub begun : BegunSite
  pub begun_is : site_begun texts rules ≡ Ok begun
  pub first : List (List ℕ)
  pub were : List (Host × List Entry)
  pub first_read : AreInventories begun.hosts first were
  pub second : List (List ℕ)
  pub are : List (Host × List Entry)
  pub second_read : AreInventories begun.hosts second are
  pub same : AreReadAgain (record { hosts = were; joined = begun.joined }) are
  pub readings : new.read ≡ (old.read ++ readings_from 0 first) ++ readings_from 0 second
  pub outcome : Outcome
  pub is_right : IsOutcome (record { hosts = are; joined = begun.joined }) outcome
  pub is_correct : Headline (record { hosts = are; joined = begun.joined }) outcome
  pub own_files : EachKeepsOwnFiles (record { hosts = are; joined = begun.joined }) outcome
      is_correct texts
  pub in_full : keeps_a_name begun.joined ≡ false → AreJoinedInFull (map (λ h. h.0) are) texts
  pub none_kept : rules.keep.text ≡ [] → keeps_a_name begun.joined ≡ false
  pub files : new
      ≡ record (all_settled
      (after_files (merged_files texts begun is_correct.mappings outcome) (cleared old))) {
        read = new.read;
        reading = new.reading;
        writing = new.writing;
      }
  pub cost_is : cost ≡ outcome.cost

-- what was merged so, but without its plans, which are among the files
pub record HasMade (texts : List HostText) (rules : SiteRules) (old new : Ledger) (made : Outcome)
    : Type 0 where
  pub merged : HasMerged texts rules old new made.cost
  pub no_plans : made.plans ≡ []
  pub outcome_is : merged.outcome ≡ record made { plans = merged.outcome.plans }

-- ---- a merge that is refused

-- every inventory was read once and accepted, and one of them has changed when it is read again
pub record IsSecondFault (texts : List HostText) (rules : SiteRules) (old new : Ledger) (f : Fault)
    : Type 0 where
  pub begun : BegunSite
  pub begun_is : site_begun texts rules ≡ Ok begun
  pub first : List (List ℕ)
  pub were : List (Host × List Entry)
  pub first_read : AreInventories begun.hosts first were
  pub change : IsSiteChange were (record old { read = old.read ++ readings_from 0 first }) new f

-- The first fault of what was read: of the tables or the rules, before an inventory is read, or of
-- an inventory, and then nothing was written; or a change of an inventory between its readings.
abbrev pub IsMergeFault : List HostText → SiteRules → Ledger → Ledger → Fault → Type 0
IsMergeFault texts rules old new f =
    ((site_begun texts rules ≡ Err f) × (new ≡ old))
    ⊎ (((begun : BegunSite) × (site_begun texts rules ≡ Ok begun)
    × IsInventoryFault begun.hosts old new f × ReadsOnly old new)
    ⊎ IsSecondFault texts rules old new f)

-- why a merge ended early
abbrev pub StopsMerge : List HostText → SiteRules → Ledger → Ledger → MergeFault → Type 0
StopsMerge texts rules old new = StopsFor (IsMergeFault texts rules old new) new

-- ---- what an early end leaves

-- What was merged was being written after a clearing away, and that broke off. The inventories of
-- the first hosts were read again, and the plans of these are for the files that they have now;
-- those of the others would be for the files that they had.
-- index: how many hosts
pub record WritingBrokeOff (names : List HostText) (s : SolvedValue)
    (read : List (Host × List Entry)) (old new : Ledger) : Type 0 where
  pub index : ℕ
  pub within : index ≤ length names
  pub site : ArePlannedFirst s read index
  pub reads : HasReadOneAtMost (old.read ++ readings_from 0 site.texts) new
  pub files : BrokeOff
      (merged_files names (record { hosts = s.hosts; joined = s.joined })
      s.merged.mappings
      (record s.merged.outcome { plans = site.plans ++ plans_from s index (drop index read) }))
      (record (cleared old) { read = new.read; reading = new.reading }) new
  pub in_turn : index < length names
      → length files.whole ≤ length (first_files s.merged.outcome) + index

-- The tables and the rules were read, and the inventory of each host, all of which are accepted;
-- the inventories of the first hosts were read again, and are accepted again. After a clearing
-- away, which may have stopped midway, the files of an outcome were being written that is right,
-- with the headline, for the inventories as they were read last, and that broke off: which of them
-- are whole is known, with their bytes, the report last of all; none is told to be settled. No plan
-- is whole of a host whose inventory was not read again, and no host's own file before all were.
pub record MergeBrokeOff (texts : List HostText) (rules : SiteRules) (old new : Ledger) : Type 0
  where
    pub begun : BegunSite
    pub begun_is : site_begun texts rules ≡ Ok begun
    pub first : List (List ℕ)
    pub were : List (Host × List Entry)
    pub first_read : AreInventories begun.hosts first were
    pub again : List (List ℕ)
    pub last : List (Host × List Entry)
    pub last_read : AreInventories begun.hosts (again ++ drop (length again) first) last
    pub reads : HasReadOneAtMost ((old.read ++ readings_from 0 first) ++ readings_from 0 again) new
    pub outcome : Outcome
    pub is_right : IsOutcome (record { hosts = last; joined = begun.joined }) outcome
    pub is_correct : Headline (record { hosts = last; joined = begun.joined }) outcome
    pub files : BrokeOff (merged_files texts begun is_correct.mappings outcome)
        (record (cleared old) { read = new.read; reading = new.reading }) new
    pub in_turn : length again < length texts
        → length files.whole ≤ length (first_files outcome) + length again

-- nothing was written or cleared away; or all inventories were accepted, and the writing broke off
abbrev pub Leaves : List HostText → SiteRules → Ledger → Ledger → Type 0
Leaves texts rules old new = ReadsOnly old new ⊎ MergeBrokeOff texts rules old new
