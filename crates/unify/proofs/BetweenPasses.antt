-- From the end of a first pass to counters of all hosts, and to a second pass.
use Rattle.std.proofs.Common.{◌≡◌, ℕ, zero, suc, length-append, length-take, ◌+◌, ◌*◌, ◌≤◌, ◌==◌, List, [], ◌∷◌, ◌++◌, length, map, take, Some, Result, Ok, Err, refl, sym, ap, ◌∙◌, arith}
use Rattle.std.specs.Prelude.{IfOk}
use Rattle.std.specs.declared.alloc.AllocError.{AllocError}
use Rattle.std.specs.List.{All, slice_get}
use Rattle.std.proofs.lemmas.List.{length-map, take_more}
use Rattle.std.proofs.lemmas.List.Elements.{All-head, All-map, All-tail}
use Rattle.hosts_join.specs.Site.{Joined}
use Rattle.hosts_join.specs.declared.host.Host.{Host}
use Rattle.hosts_join.proofs.Refusals.{count_by-of-map}
use Rattle.mtree_inv.specs.declared.entry.Entry.{Entry}
use Rattle.ownership.specs.Counts as counts
use Rattle.ownership.specs.Counts.{Counted}
use Rattle.ownership.specs.Files.{Added}
use Rattle.unify.specs.declared.merging.Merged.{Merged}
use Rattle.unify.specs.declared.plan_turn.PlanTurn.{PlanTurn}
use Rattle.unify.specs.Whole.{IsWhole}
use Rattle.site_tables.specs.Loading.{loaded_from}
use Rattle.unify.specs.Merging.{HoldsCounted, IsMerged}
use Rattle.site_tables.specs.Begun.{AreTogether}
use Rattle.unify.specs.Passes.{InventoriesValue, read_in}
use Rattle.unify.specs.Reading.{WholeSite, added_from, added_on}
use Rattle.unify.specs.RowFiles.{RowFiles, row_files}
use Rattle.unify.specs.Turns.{AreCounting, Pass, seen}
use Rattle.unify.specs.PlanTurns as second
use Rattle.unify.specs.PlanTurns.{IsFreshTurn, IsSolving}
use Rattle.unify.specs.SecondPass.{IsSolvedFrom, at_start}
use Rattle.unify.specs.Taken.{nothing}
use Rattle.ownership.specs.HostFiles.{AreOfHost, AreRowCounts}
use Rattle.ownership.proofs.HostFiles.{owned_few}
use Rattle.unify.proofs.Adding.{added_from-push}
use Rattle.unify.proofs.Ended.{AreFilesAt, IsOver, all_few, read_length}
use Rattle.unify.proofs.Reading.{whole-read}
use Rattle.unify.proofs.SecondPasses.{fresh_turn, unstopped_met}
use Rattle.unify.proofs.Whole.{hosts_held}

-- ---- hosts whose inventories were ended

-- the site that was read is whole
pub over_whole : (c : InventoriesValue) (joined : Joined) (read : List (Host × List Entry)) → AreTogether c.hosts joined → IsOver c → read_in c ≡ Ok read → IsWhole (record { hosts = read; joined = joined })
over_whole c joined read whole over are = whole-read c.hosts joined c.ended read whole over are

-- ---- counters of all hosts

-- the files of the first hosts
abbrev pub files_before : List (Host × List Entry) → ℕ → List Added
files_before read index = added_from 0 (take index read)

-- there are few
few_before : (start : ℕ) (read : List (Host × List Entry)) (index : ℕ) → All (λ here. length here.1 ≤ 16777216) read → length (added_from start (take index read)) ≤ length read * 16777216
few_before start [] zero few = omega arith
few_before start [] (suc index) few = omega arith
few_before start (here ∷ read) zero few = omega arith
few_before start (here ∷ read) (suc index) few = omega (
  arith,
  length-append (map (added_on start) here.1) (added_from (start + 1) (take index read)),
  length-map here.1 (added_on start),
  All-head (λ (h : Host × List Entry). length h.1 ≤ 16777216) here read few,
  few_before (start + 1) read index (All-tail (λ (h : Host × List Entry). length h.1 ≤ 16777216) here read few),
)

pub room_before : (c : InventoriesValue) (joined : Joined) (counted : Counted) (read : List (Host × List Entry)) (index : ℕ) → IsOver c → read_in c ≡ Ok read → length c.hosts ≤ 64 → counts.StandsFor joined counted (files_before read index)
    → (counted.user_files ≤ 1073741824) × (counted.group_files ≤ 1073741824)
room_before c joined counted read index over are few stands =
    let files = files_before read index in
    let all : length files ≤ 1073741824 = omega (arith, few_before 0 read index (all_few (loaded_from c.hosts c.ended) read are), read_length c read over are, few) in (
      omega (arith, stands.user_files, owned_few joined.users.names (λ f. f.uid) files, all),
      omega (arith, stands.group_files, owned_few joined.groups.names (λ f. f.gid) files, all),
    )

module _ (index : ℕ) (host : Host) (rows : RowFiles) (read : List (Host × List Entry)) (at : AreFilesAt read index host rows) where
  abbrev pub files_here : List Added
  files_here = map (added_on index) at.files

  pub of_host : AreOfHost index files_here
  of_host = All-map (λ (f : Added). f.host ≡ index) (added_on index) at.files (λ k d l. refl)

  pub row_counts : (by_users by_groups : List ℕ) → by_users ≡ rows.users → by_groups ≡ rows.groups → AreRowCounts host files_here by_users by_groups
  row_counts by_users by_groups users groups = record {
    users = users ∙ ap (λ (r : RowFiles). r.users) at.rows_are ∙ (λ i. map (λ r. sym (count_by-of-map (λ (f : Added). f.uid == r.uid) (added_on index) at.files) i) host.users);
    groups = groups ∙ ap (λ (r : RowFiles). r.groups) at.rows_are ∙ (λ i. map (λ r. sym (count_by-of-map (λ (f : Added). f.gid == r.gid) (added_on index) at.files) i) host.groups);
  }

  pub few_here : length files_here ≤ 16777216
  few_here = omega (arith, length-map at.files (added_on index), at.few)

  pub more_files : files_before read (index + 1) ≡ files_before read index ++ files_here
  more_files = ap (added_from 0) (take_more read index (host, []) at.within ∙ ap (λ (p : Host × List Entry). take index read ++ p ∷ []) at.here)
      ∙ added_from-push 0 index (take index read) host at.files (omega (arith, length-take index read, at.within))

-- ---- what is held

pub over_holds : (c : InventoriesValue) (joined : Joined) (counted : Counted) (read : List (Host × List Entry)) → AreTogether c.hosts joined → IsOver c → counts.IsMadeFor joined counted → read_in c ≡ Ok read → counts.StandsFor joined counted (added_from 0 read)
    → HoldsCounted (record { hosts = read; joined = joined }) c.hosts joined counted
over_holds c joined counted read whole over made are stands = record {
  hosts_are = (hosts_held c.hosts c.ended read over are).0;
  joined_is = refl;
  together = whole.together;
  made = made;
  counted_are = stands;
  few = whole.few;
  lawful = whole.lawful;
}

-- counters that are right for the files that were read
abbrev pub AreCountersOf : InventoriesValue → Joined → Counted → Type 0
AreCountersOf c joined counted = (read : List (Host × List Entry)) → read_in c ≡ Ok read → counts.StandsFor joined counted (added_from 0 read)

-- what is merged is right for them
abbrev pub IsMergedOf : InventoriesValue → Joined → Merged → Type 0
IsMergedOf c joined merged = (read : List (Host × List Entry)) → read_in c ≡ Ok read → IsMerged (record { hosts = read; joined = joined }) merged

-- so it is if it is right for what is held
pub merged_of : (c : InventoriesValue) (joined : Joined) (counted : Counted) (result : Result (Merged × PlanTurn) AllocError) → AreTogether c.hosts joined → IsOver c → counts.IsMadeFor joined counted → AreCountersOf c joined counted
    → IfOk result (λ solved. (whole : WholeSite) → HoldsCounted whole c.hosts joined counted → IsMerged whole solved.0) → IfOk result (λ solved. IsMergedOf c joined solved.0)
merged_of c joined counted (Ok solved) whole over made counts_are merged = λ read are. merged (record { hosts = read; joined = joined }) (over_holds c joined counted read whole over made are (counts_are read are))
merged_of c joined counted (Err e) whole over made counts_are merged = tt

-- the site that the first pass read
pub whole_of : (p : Pass) (joined : Joined) (counted : Counted) → AreCounting p.hosts p.taken.ended p.passed → AreTogether p.hosts joined → IsOver (seen p) → counts.IsMadeFor joined counted → AreCountersOf (seen p) joined counted → (whole : WholeSite) × IsWhole whole × HoldsCounted whole p.hosts joined counted
whole_of p joined counted inv whole over made are =
    (record { hosts = inv.read; joined = joined }, over_whole (seen p) joined inv.read whole over inv.accepted, over_holds (seen p) joined counted inv.read whole over made inv.accepted (are inv.read inv.accepted))

-- ---- the second pass

-- after a first pass of which no host is left
abbrev pub solved_pass : Pass → Joined → Merged → PlanTurn → second.Pass
solved_pass p joined merged turn = record { hosts = p.hosts; joined = joined; passed = p.passed; merged = merged; ended = 0; turn = turn; first = p.taken.ended; taken = nothing }

-- the turn of its first host
abbrev pub AreFirstRows : List Host → PlanTurn → Type 0
AreFirstRows hosts turn = (host : Host) → slice_get hosts 0 ≡ Some host → turn.rows ≡ row_files host []

pub solving_from : (p : Pass) (joined : Joined) (merged : Merged) (turn : PlanTurn) → AreCounting p.hosts p.taken.ended p.passed → AreTogether p.hosts joined → IsOver (seen p) → IsMergedOf (seen p) joined merged → IsFreshTurn turn × AreFirstRows p.hosts turn → IsSolving (solved_pass p joined merged turn)
solving_from p joined merged turn inv whole over are first =
    let is = are inv.read inv.accepted in
    record {
      behind = record {
        whole = whole;
        for_site = record { users = is.answered.least.admissible.users.len; groups = is.answered.least.admissible.groups.len };
        one_each = omega (arith, inv.ended_are, over);
        counting = inv;
      };
      ended_are = refl;
      within = omega arith;
      turns = λ host here goes. fresh_turn host joined merged 0 turn first.0 (first.1 host here);
    }

pub solved_from : (p : Pass) (joined : Joined) (merged : Merged) (turn : PlanTurn) → IsMergedOf (seen p) joined merged → IsFreshTurn turn → IsSolvedFrom (seen p) joined (second.seen (solved_pass p joined merged turn))
solved_from p joined merged turn are fresh = record {
  start = ap (λ o. record (at_start (seen p) joined merged) { met = o }) (unstopped_met (slice_get p.hosts 0) turn.stop fresh.goes);
  merged = are;
}
