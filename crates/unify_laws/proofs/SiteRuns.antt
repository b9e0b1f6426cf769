-- The files of a host in a rehearsal have their old owners or keep their names.
use Rattle.std.proofs.Common.{◌≡◌, ◌⊎◌, ℕ, zero, suc, ◌+◌, true, List, [], ◌∷◌, map, Option, Some, Ok, refl, sym, ap, subst, ◌∙◌, arith}
use Rattle.std.specs.List.{All, slice_get}
use Rattle.std.specs.Option.{option_map}
use Rattle.std.proofs.lemmas.Bool.{false≢true}
use Rattle.std.proofs.lemmas.List.Elements.{All-weaker}
use Rattle.std.proofs.lemmas.Option.{same_Some, slice_get-map}
use Rattle.idtext.proofs.OkLemmas.{ok_same}
use Rattle.mtree_inv.specs.declared.entry.Entry.{Entry}
use Rattle.hosts_join.specs.declared.host.Host.{Host}
use Rattle.ownership.specs.declared.mapping.Mappings.{Mappings}
use Rattle.reown_plan.specs.Owners.{owner_of}
use Rattle.reown_plan.specs.declared.mark.PlanMark.{PlanMark}
use Rattle.reown_plan.specs.Target.{plan_of, host_plan}
use Rattle.reown_runner.specs.declared.campaign.Event.{Event}
use Rattle.reown_runner.specs.declared.runner.Place.{Place}
use Rattle.reown_runner.specs.declared.runner.Place.TheVariants.{Start, Record, SyncOwners, Mark, SyncMark, Done}
use Rattle.reown_runner.specs.declared.runner.RunFault.{RunFault}
use Rattle.reown_runner.specs.declared.memory.Keep.{Keep}
use Rattle.reown_runner.specs.Campaign.{EachGoes, is_done}
use Rattle.reown_runner.specs.Memory.{Mem, known_mem, new_mem, owner_in}
use Rattle.reown_runner.specs.MemoryReads.{readable_mem}
use Rattle.reown_runner.specs.RunnerData.{RunnerData, starting}
use Rattle.reown_runner.specs.Safe.{IsSafeInStep}
use Rattle.reown_runner.specs.Tree.{Image, IsImage, TreeData, cells_of}
use Rattle.reown_runner.specs.World.{Hosted, IsHostOf}
use Rattle.reown_runner.proofs.Finishing.{fresh_safe, done_image}
use Rattle.reown_runner.proofs.Memories.{new_fresh}
use Rattle.reown_runner.proofs.Moments.{old_or_new}
use Rattle.unify_texts.specs.WrittenMap.{SayMapping}
use Rattle.unify_texts.specs.declared.map_text.MapText.{MapText}
use Rattle.unify_texts.specs.Maps.{map_of}
use Rattle.unify.specs.declared.outcome.Outcome.{Outcome}
use Rattle.unify.specs.Whole.{IsWhole}
use Rattle.unify.specs.Outcomes.{IsOutcome, hosts_in}
use Rattle.unify.specs.Reading.{WholeSite}
use Rattle.unify_laws.specs.Correct.{DoneKeepsPrintedNames, RunsKeepNames}
use Rattle.unify_laws.specs.Headline.{IsNamedAsBefore, IsOldOrNamed, KeepsItsNames}
use Rattle.unify_laws.specs.Installed.{AreInstalled}
use Rattle.unify_laws.specs.SiteRuns.{DoneKeepsNames, EachIsOldOrNamed, runners_from, new_world}
use Rattle.unify_laws.proofs.Installed.{are_installed, named_as_before, old_or_named}
use Rattle.unify_laws.proofs.Keeping.{ArePairsOf, map_says_mappings, plan_is_old, keeps_names, old_or_kept}

abbrev start_of : WholeSite → Mappings → ℕ → List Entry → RunnerData
start_of site m h files = starting (host_plan (hosts_in site) site.joined m h files)

runner_at : (site : WholeSite) (m : Mappings) (hosts : List (Host × List Entry)) (start k : ℕ) (host : Host) (files : List Entry) → slice_get hosts k ≡ Some (host, files) → slice_get (runners_from site m start hosts) k ≡ Some (start_of site m (start + k) files)
runner_at site m [] start k host files here = absurd (cc)
runner_at site m (h ∷ hs) start zero host files here =
    let same : h ≡ (host, files) = same_Some h (host, files) here in
    let index : start ≡ start + 0 = omega arith in
    ap (λ (x : Host × List Entry). Some (start_of site m start x.1)) same ∙ ap (λ i. Some (start_of site m i files)) index
runner_at site m (h ∷ hs) start (suc k) host files here =
    let index : (start + 1) + k ≡ start + suc k = omega arith in
    runner_at site m hs (start + 1) k host files here ∙ ap (λ i. Some (start_of site m i files)) index

pub is_at_done : (p : Place) → is_done p ≡ true → p ≡ Done
is_at_done Start h = absurd (false≢true h)
is_at_done (Record i) h = absurd (false≢true h)
is_at_done SyncOwners h = absurd (false≢true h)
is_at_done Mark h = absurd (false≢true h)
is_at_done SyncMark h = absurd (false≢true h)
is_at_done Done h = refl

-- what one plan sees of a stop, another sees with the mark as it reads it
abbrev seen_by : PlanMark → Mem → Image → Image
seen_by mark tree image = record { owner = image.owner; mark = (cells_of mark (known_mem tree)).mark }

is_seen : (plan mark : PlanMark) (tree : Mem) (image : Image) → IsImage (cells_of plan (known_mem tree)) image → IsImage (cells_of mark (known_mem tree)) (seen_by mark tree image)
is_seen plan mark tree image is = record { owner = is.owner; mark = (readable_mem tree mark).mark }

abbrev tree_of : Keep → Host × List Entry → Mem
tree_of keep here = record (new_mem here.1) { keep = keep }

-- a host of a rehearsal where it begins
abbrev pub first_of : Keep → WholeSite → Mappings → ℕ → List Entry → Hosted Mem
first_of keep site m h files = record { runner = starting (host_plan (hosts_in site) site.joined m h files); tree = record (new_mem files) { keep = keep } }

pub first_there : (keep : Keep) (site : WholeSite) (m : Mappings) (h : ℕ) (host : Host) (files : List Entry) → slice_get site.hosts h ≡ Some (host, files) → IsHostOf (new_world keep site m) h (first_of keep site m h files)
first_there keep site m h host files here =
    let from_zero : 0 + h ≡ h = omega arith in
    record {
      runner = runner_at site m site.hosts 0 h host files here ∙ ap (λ i. Some (start_of site m i files)) from_zero;
      tree = slice_get-map (tree_of keep) site.hosts h ∙ ap (option_map (tree_of keep)) here;
    }

-- a map that is read from the printed one says the mappings
says : (site : WholeSite) (outcome : Outcome) → IsWhole site → (merged : IsOutcome site outcome) (printed : MapText) → map_of outcome.map ≡ Ok printed
    → ArePairsOf site.joined merged.mappings printed
says site outcome whole merged printed read =
    let m = merged.mappings in
    let back = map_says_mappings site outcome whole merged in
    let same_map : back.pairs ≡ printed = ok_same back.pairs printed (sym back.read ∙ read) in
    record {
      users = subst (λ (p : MapText). SayMapping site.joined.users m.users p.users) same_map back.users;
      groups = subst (λ (p : MapText). SayMapping site.joined.groups m.groups p.groups) same_map back.groups;
      admissible = merged.answered.least.admissible;
      leaves = whole.leaves;
    }

installed_by : (site : WholeSite) (outcome : Outcome) → IsWhole site → (merged : IsOutcome site outcome) (printed : MapText) → map_of outcome.map ≡ Ok printed → AreInstalled site outcome merged.mappings printed
installed_by site outcome whole merged printed read = let say = says site outcome whole merged printed read in are_installed site outcome whole merged printed say.users say.groups

module _ (site : WholeSite) (outcome : Outcome) (whole : IsWhole site) (merged : IsOutcome site outcome) (printed : MapText) (read : map_of outcome.map ≡ Ok printed) (mappings : Mappings) (installed : AreInstalled site outcome mappings printed) where
  done_keeps : (h : ℕ) (host : Host) (files : List Entry) → slice_get site.hosts h ≡ Some (host, files)
      → (plan : PlanMark) (tree : TreeData) → IsSafeInStep (owner_in files) (plan_of site.joined merged.mappings h files) Done (cells_of plan tree)
      → (image : Image) → IsImage (cells_of plan tree) image → All (IsNamedAsBefore printed installed.passwd.rows installed.group.rows host host image.owner) files
  done_keeps h host files here plan tree finished image is_image =
      let say = says site outcome whole merged printed read in
      let after = (done_image (owner_in files) (plan_of site.joined merged.mappings h files) (cells_of plan tree) finished image is_image).1 in
      All-weaker (KeepsItsNames printed host image.owner) (IsNamedAsBefore printed installed.passwd.rows installed.group.rows host host image.owner) (named_as_before site outcome mappings printed installed host image.owner) files
      (keeps_names site.joined merged.mappings printed say h host files (whole.each_host h host files here) image.owner after)

  -- a host's runner and tree, as far as the events lead: safe and in step
  host_went : (keep : Keep) (events : List Event) (refused : ℕ → Option RunFault) (runners : List RunnerData) (trees : List Mem) → EachGoes known_mem (new_world keep site merged.mappings) events refused (record { runners = runners; trees = trees })
      → (h : ℕ) (host : Host) (files : List Entry) (tree : Mem) → slice_get site.hosts h ≡ Some (host, files) → slice_get trees h ≡ Some tree
      → (runner : RunnerData) × (slice_get runners h ≡ Some runner) × IsSafeInStep (owner_in files) (plan_of site.joined merged.mappings h files) runner.place (cells_of (start_of site merged.mappings h files).mark (known_mem tree))
  host_went keep events refused runners trees goes h host files tree here at =
      let m = merged.mappings in
      let is = whole.each_host h host files here in
      let records = plan_of site.joined m h files in
      let went = goes h (first_of keep site m h files) (first_there keep site m h host files here) in
      let last = went.0 in
      let mark = (start_of site m h files).mark in
      let start = fresh_safe (owner_in files) records (cells_of mark (known_mem (tree_of keep (host, files)))) (new_fresh files mark) (plan_is_old site.joined m h files is.files_are.distinct) in
      let safe = went.2.safe (owner_in files) start in
      let same_tree : last.tree ≡ tree = same_Some last.tree tree (sym went.1.tree ∙ at) in
      (last.runner, went.1.runner, subst (λ t. IsSafeInStep (owner_in files) records last.runner.place (cells_of mark (known_mem t))) same_tree safe)

  pub runs_stay : (keep : Keep) (events : List Event) (refused : ℕ → Option RunFault) (runners : List RunnerData) (trees : List Mem) → EachGoes known_mem (new_world keep site merged.mappings) events refused (record { runners = runners; trees = trees })
      → EachIsOldOrNamed site printed installed.passwd.rows installed.group.rows trees
  runs_stay keep events refused runners trees goes h host files tree here at plan image is_image =
      let m = merged.mappings in
      let is = whole.each_host h host files here in
      let records = plan_of site.joined m h files in
      let say = says site outcome whole merged printed read in
      let mark = (start_of site m h files).mark in
      let went = host_went keep events refused runners trees goes h host files tree here at in
      All-weaker (λ f. (image.owner f.path ≡ Some (owner_of f)) ⊎ KeepsItsNames printed host image.owner f) (IsOldOrNamed printed installed.passwd.rows installed.group.rows host host image.owner) (old_or_named site outcome mappings printed installed host image.owner) files
      (old_or_kept site.joined m printed say h host files is (seen_by mark tree image) (old_or_new (owner_in files) records (seen_by mark tree image) (plan_is_old site.joined m h files is.files_are.distinct) (went.2.safe (seen_by mark tree image) (is_seen plan mark tree image is_image))))

  pub runs_keep : (keep : Keep) (events : List Event) (refused : ℕ → Option RunFault) (runners : List RunnerData) (trees : List Mem) → EachGoes known_mem (new_world keep site merged.mappings) events refused (record { runners = runners; trees = trees })
      → DoneKeepsNames site printed installed.passwd.rows installed.group.rows (map (λ runner. is_done runner.place) runners) trees
  runs_keep keep events refused runners trees goes h host files tree here done at plan image is_image =
      let m = merged.mappings in
      let records = plan_of site.joined m h files in
      let went = host_went keep events refused runners trees goes h host files tree here at in
      let told : Some (is_done went.0.place) ≡ Some true = sym (slice_get-map (λ (r : RunnerData). is_done r.place) runners h ∙ ap (option_map (λ (r : RunnerData). is_done r.place)) went.1) ∙ done in
      let at_done : went.0.place ≡ Done = is_at_done went.0.place (same_Some (is_done went.0.place) true told) in
      let mark = (start_of site m h files).mark in
      done_keeps h host files here mark (known_mem tree) (subst (λ p. IsSafeInStep (owner_in files) records p (cells_of mark (known_mem tree))) at_done went.2) (seen_by mark tree image) (is_seen plan mark tree image is_image)

pub done_keeps_printed_names : DoneKeepsPrintedNames
done_keeps_printed_names site outcome whole merged printed read h host files here plan tree finished image is_image =
    let installed = installed_by site outcome whole merged printed read in
    (installed, done_keeps site outcome whole merged printed read merged.mappings installed h host files here plan tree finished image is_image)

pub runs_keep_names : RunsKeepNames
runs_keep_names keep events site outcome whole merged printed read refused runners trees goes =
    let installed = installed_by site outcome whole merged printed read in
    (installed, runs_stay site outcome whole merged printed read merged.mappings installed keep events refused runners trees goes, runs_keep site outcome whole merged printed read merged.mappings installed keep events refused runners trees goes)
