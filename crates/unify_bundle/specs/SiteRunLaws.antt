-- With which trees a rehearsal of a whole site begins, and which hosts it tells as done, by the
-- events alone.
-- Source: this project's own rule.
use Rattle.std.specs.Prelude.{◌≡◌, ◌↔◌, ◌≤◌, ◌+◌, ℕ, true, false, List, [], ◌∷◌, ◌++◌, Some, length}
use Rattle.std.specs.Prelude.{All, replicate, slice_get}
use Rattle.mtree_inv.specs.declared.entry.Entry.{Entry}
use Rattle.hosts_join.specs.declared.host.Host.{Host}
use Rattle.reown_plan.specs.Target.{host_plan}
use Rattle.reown_runner.specs.declared.campaign.Event.{Event}
use Rattle.reown_runner.specs.declared.memory.Keep.{Keep}
use Rattle.reown_runner.specs.Campaign.{own}
use Rattle.reown_runner.specs.Memory.{Mem, known_mem, owner_in}
use Rattle.reown_runner.specs.Run.{HostEvent, Advances, Stops}
use Rattle.unify.specs.Outcomes.{hosts_in}
use Rattle.unify.specs.Reading.{WholeSite}
use Rattle.unify_bundle.specs.declared.rehearsing_site.SiteRun.{SiteRun}
use Rattle.unify_bundle.specs.SiteRuns.{IsSiteRun}

-- A host without any event stands as its inventory says: each file has its owner there, and would
-- have it after a stop.
-- h: its index
abbrev pub BeginAsInventories : Type 0
BeginAsInventories =
    (keep : Keep) (events : List Event) (site : WholeSite) (run : SiteRun)
    → IsSiteRun keep events site run
    → (h : ℕ) (host : Host) (files : List Entry) → slice_get site.hosts h ≡ Some (host, files)
    → own h events ≡ []
    → (tree : Mem) → slice_get run.trees.items h ≡ Some tree → (path : List ℕ)
    → ((known_mem tree).owner path ≡ owner_in files path)
    × All (λ left. left ≡ owner_in files path) ((known_mem tree).owners_left path)

-- A host that advances and never stops is done exactly where its advances are at least four more
-- than the records of its plan.
-- h: its index; n: how many they are
abbrev pub SiteRunsFinish : Type 0
SiteRunsFinish =
    (keep : Keep) (events : List Event) (site : WholeSite) (run : SiteRun)
    → (is : IsSiteRun keep events site run)
    → (h n : ℕ) (host : Host) (files : List Entry) → slice_get site.hosts h ≡ Some (host, files)
    → own h events ≡ replicate n Advances
    → (slice_get run.done.items h ≡ Some true)
    ↔ (length (host_plan (hosts_in site) site.joined is.merged.mappings h files).records + 4 ≤ n)

-- After so many advances it is done whatever came before them, stops too.
-- n: how many came last
abbrev pub LastAdvancesFinish : Type 0
LastAdvancesFinish =
    (keep : Keep) (events : List Event) (site : WholeSite) (run : SiteRun)
    → (is : IsSiteRun keep events site run)
    → (h n : ℕ) (host : Host) (files : List Entry) → slice_get site.hosts h ≡ Some (host, files)
    → (before : List HostEvent) → own h events ≡ before ++ replicate n Advances
    → length (host_plan (hosts_in site) site.joined is.merged.mappings h files).records + 4 ≤ n
    → slice_get run.done.items h ≡ Some true

-- A host whose last event is a stop is not done: its runner is at its start again.
abbrev pub LastStopsUndo : Type 0
LastStopsUndo =
    (keep : Keep) (events : List Event) (site : WholeSite) (run : SiteRun)
    → IsSiteRun keep events site run
    → (h : ℕ) (host : Host) (files : List Entry) → slice_get site.hosts h ≡ Some (host, files)
    → (before : List HostEvent) → own h events ≡ before ++ Stops ∷ []
    → slice_get run.done.items h ≡ Some false
