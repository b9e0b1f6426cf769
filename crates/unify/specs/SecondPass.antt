-- Inventories that come a second time in pieces, host by host, while plans are appended.
-- Source: this project's own rule.
use Rattle.std.specs.Prelude.{◌≡◌, ◌⊎◌, ℕ, List, [], ◌++◌, length, Option}
use Rattle.std.specs.Prelude.{Some, None, Result, Ok, Err, slice_get}
use Rattle.idtext.specs.First.{◌>>=◌, each, first_fault, unless}
use Rattle.mtree_inv.specs.declared.entry.Entry.{Entry}
use Rattle.mtree_inv.specs.Files.{AreFiles}
use Rattle.mtree_inv.specs.Standing as reader
use Rattle.hosts_join.specs.Site.{Joined}
use Rattle.hosts_join.specs.declared.host.Host.{Host}
use Rattle.reown_plan.specs.Spelling.{head, lines, spelling}
use Rattle.reown_plan.specs.Target.{plan_of}
use Rattle.unify_texts.specs.declared.fault.Fault.{Fault}
use Rattle.unify_texts.specs.declared.fault.Fault.TheVariants.{InventoryChanged}
use Rattle.unify.specs.declared.merging.Merged.{Merged}
use Rattle.unify.specs.Count.{site_of}
use Rattle.unify_texts.specs.Limits.{most_files}
use Rattle.site_tables.specs.Hosts.{owner_fault, files_of, lines_of}
use Rattle.site_tables.specs.Loading.{loaded_from}
use Rattle.unify.specs.Merging.{IsMerged}
use Rattle.unify.specs.Passes.{InventoriesValue, read_in}
use Rattle.unify.specs.RowFiles.{row_files}

-- ---- what the second text of an inventory says

-- any fault of it is a change
abbrev pub or_changed : {A : Type 0} → Host → Result A Fault → Result A Fault
or_changed host (Ok x) = Ok x
or_changed host (Err f) = Err (InventoryChanged host.name)

-- the files of its whole lines so far, each of them allowed
unfoldable pub owned_lines : Host → List ℕ → Result (List Entry) Fault
owned_lines host text = do
  files ← lines_of host text
  owned ← unless (first_fault (owner_fault host) [] files) (tt {0})
  Ok files

abbrev pub second_lines : Host → List ℕ → Result (List Entry) Fault
second_lines host text = or_changed host (owned_lines host text)

-- the files of the whole text, each of them allowed
abbrev pub second_files : Host → List ℕ → Result (List Entry) Fault
second_files host text = or_changed host (files_of (record { host = host; mtree = text }))

-- each user and each group of the host owns as many files of the one inventory as of the other
abbrev pub HaveSameCounts : Host → List Entry → List Entry → Type 0
HaveSameCounts host files others = row_files host files ≡ row_files host others

-- ---- the plan of a host, as far as it goes

-- the plan of a host for these of its files, without the `end` line
abbrev pub plan_before_end : Host → Joined → Merged → ℕ → List Entry → List ℕ
plan_before_end host joined merged index files =
    head host.name ++ lines (plan_of joined merged.mappings index files)

-- a prefix of a plan without its `end` line: nothing as yet, or the plan for the first of the files
-- that the text has before its first fault
abbrev pub IsUnfinished : Host → Joined → Merged → ℕ → List ℕ → List ℕ → Type 0
IsUnfinished host joined merged index text planned =
    (planned ≡ [])
    ⊎ ((files : List Entry) × (rest : List Entry)
    × (reader.files_before_fault most_files text ≡ files ++ rest) × AreFiles files
    × (planned ≡ plan_before_end host joined merged index files))

-- the whole plan of a host for these files
abbrev pub whole_plan : Host → Joined → Merged → ℕ → List Entry → List ℕ
whole_plan host joined merged index files =
    spelling (record {
      host = host.name;
      records = plan_of joined merged.mappings index files;
    })

-- ---- the second pass

-- what contracts see of a second pass: the hosts, their accounts together, what was merged, and the
-- texts of the first pass; the texts that were ended a second time, in their order; the text that
-- has come of the next, and what was appended to a plan for it; and the fault that was met
pub record SolvedValue : Type 0 where
  pub hosts : List Host
  pub joined : Joined
  pub merged : Merged
  pub first : List (List ℕ)
  pub ended : List (List ℕ)
  pub text : List ℕ
  pub planned : List ℕ
  pub met : Option Fault

-- how many inventories were ended; it is as well the index of the next host
abbrev pub ended_in : SolvedValue → ℕ
ended_in s = length s.ended

-- the second inventory of this host comes next, and no fault was met
abbrev pub IsNext : SolvedValue → Host → Type 0
IsNext s host = (slice_get s.hosts (ended_in s) ≡ Some host) × (s.met ≡ None)

-- nothing of the next inventory has come, and no fault was met
pub record IsFresh (s : SolvedValue) : Type 0 where
  pub none : s.text ≡ []
  pub unplanned : s.planned ≡ []
  pub unmet : s.met ≡ None

-- the hosts, and what was merged, stay
abbrev pub IsOfSameSite : SolvedValue → SolvedValue → Type 0
IsOfSameSite old new =
    new
    ≡ record old { ended = new.ended; text = new.text; planned = new.planned; met = new.met }

-- the hosts with their files of the first pass
abbrev pub first_in : SolvedValue → Result (List (Host × List Entry)) Fault
first_in s = each site_of (loaded_from s.hosts s.first)

-- these are those of the next host
abbrev pub WereFirst : SolvedValue → Host → List Entry → Type 0
WereFirst s host were = (read : List (Host × List Entry)) × (first_in s ≡ Ok read)
    × (slice_get read (ended_in s) ≡ Some (host, were))

-- the plan that was appended is that for the files of the whole lines so far, which has no `end`
-- line
abbrev pub IsPlannedSoFar : SolvedValue → Host → Type 0
IsPlannedSoFar s host = (files : List Entry) × (second_lines host s.text ≡ Ok files)
    × (s.planned ≡ plan_before_end host s.joined s.merged (ended_in s) files)

-- a second pass of which no inventory has come, after a first pass of which each was ended
abbrev pub at_start : InventoriesValue → Joined → Merged → SolvedValue
at_start c joined merged =
    record {
      hosts = c.hosts;
      joined = joined;
      merged = merged;
      first = c.ended;
      ended = [];
      text = [];
      planned = [];
      met = None;
    }

-- it is that, and what was merged is right for the files of the first pass
pub record IsSolvedFrom (c : InventoriesValue) (joined : Joined) (s : SolvedValue) : Type 0 where
  pub start : s ≡ at_start c joined s.merged
  pub merged : (read : List (Host × List Entry)) → read_in c ≡ Ok read
      → IsMerged (record { hosts = read; joined = joined }) s.merged
