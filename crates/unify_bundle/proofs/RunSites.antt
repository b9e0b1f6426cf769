-- A site whose plans were carried out, from its parts.
use Rattle.std.proofs.Common.{◌≡◌, ℕ, zero, suc, ◌+◌, List, [], ◌∷◌, length, map, Some, None, Result, Ok, Err, refl, sym, ap, subst, ◌∙◌, arith}
use Rattle.std.specs.Prelude.{MatchResult}
use Rattle.std.specs.List.{All, slice_get}
use Rattle.std.proofs.lemmas.List.{length-map}
use Rattle.std.proofs.lemmas.List.Elements.{All-nil, All-cons}
use Rattle.std.proofs.lemmas.Option.{same_Some}
use Rattle.idtext.specs.First.{Yields, each}
use Rattle.mtree_inv.specs.Inventory.{inventory}
use Rattle.mtree_inv.specs.Files.{AreFiles, HaveDistinctFiles}
use Rattle.mtree_inv.specs.declared.entry.Entry.{Entry}
use Rattle.hosts_join.specs.Site.{Joined}
use Rattle.hosts_join.specs.declared.host.Host.{Host}
use Rattle.hosts_join.specs.declared.texts.HostText.{HostText}
use Rattle.ownership.specs.Mappings.{IsMapping}
use Rattle.ownership.specs.declared.mapping.Mappings.{Mappings}
use Rattle.reown_plan.specs.PlanData.{PlanData}
use Rattle.reown_plan.specs.Spelling.{spelling, IsHostName, IsLawful}
use Rattle.reown_plan.specs.Target.{host_plan, name_at}
use Rattle.reown_plan.proofs.Lawful.{plan-lawful}
use Rattle.reown_runner.specs.declared.campaign.Event.{Event}
use Rattle.reown_runner.specs.declared.memory.Keep.{Keep}
use Rattle.reown_runner.specs.Campaign.{EachGoes}
use Rattle.reown_runner.specs.Memory.{Mem, known_mem, owner_in}
use Rattle.reown_runner.specs.RunnerData.{RunnerData, starting}
use Rattle.reown_runner.specs.World.{World}
use Rattle.reown_runner.proofs.Memories.{new_fresh}
use Rattle.unify_texts.specs.Told.{told}
use Rattle.unify_texts.specs.declared.fault.Fault.{Fault}
use Rattle.unify.specs.declared.outcome.Outcome.{Outcome}
use Rattle.unify_bundle.specs.declared.rehearsing_site.SiteRun.{SiteRun}
use Rattle.site_tables.specs.declared.rules.SiteRules.{SiteRules}
use Rattle.unify_bundle.specs.Carrying.{AreInventoriesOf, AreReady, AreCarriedOut, AreSpelledFor, IsReady, at_start, new_tree_of}
use Rattle.unify.specs.Whole.{IsWhole}
use Rattle.unify.specs.Outcomes.{IsOutcome, hosts_in, plan_texts_from}
use Rattle.unify.specs.Reading.{WholeSite, site_read}
use Rattle.unify_bundle.specs.SiteRuns.{IsSiteRun}
use Rattle.unify.proofs.Whole.{hosts_held}
use Rattle.unify_laws.specs.Headline.{Headline}
use Rattle.unify_laws.specs.SiteRuns.{DoneKeepsNames, new_trees, new_world, runners_from}
use Rattle.unify_laws.proofs.Correct.{name_is, outcomes_are_correct}
use Rattle.unify_laws.proofs.Keeping.{is_mapping, plan_is_old}
use Rattle.unify_laws.proofs.WholeSites.{paired, steps}
use Rattle.unify_laws.proofs.SiteRuns.{runs_keep, runs_stay}

from_zero : (k : ℕ) → k ≡ 0 + k
from_zero k = omega arith

no_more : (start : ℕ) → start + 0 ≡ start
no_more start = omega arith

one_further : (start k : ℕ) → start + suc k ≡ (start + 1) + k
one_further start k = omega arith

-- the plans of hosts, where the first stands at the index
abbrev pub plans_from : List Host → Joined → Mappings → ℕ → List (List Entry) → List PlanData
plans_from hosts site m index [] = []
plans_from hosts site m index (files ∷ more) = host_plan hosts site m index files ∷ plans_from hosts site m (index + 1) more

texts_spell : (hosts : List Host) (site : Joined) (m : Mappings) (index : ℕ) (files : List (List Entry)) → plan_texts_from hosts site m index files ≡ map spelling (plans_from hosts site m index files)
texts_spell hosts site m index [] = refl
texts_spell hosts site m index (files ∷ more) = ap (λ (ts : List (List ℕ)). spelling (host_plan hosts site m index files) ∷ ts) (texts_spell hosts site m (index + 1) more)

runners_start : (site : WholeSite) (m : Mappings) (start : ℕ) (all : List (Host × List Entry)) → at_start (plans_from (hosts_in site) site.joined m start (map (λ h. h.1) all)) ≡ runners_from site m start all
runners_start site m start [] = refl
runners_start site m start (here ∷ more) =
    let first : PlanData = host_plan (hosts_in site) site.joined m start here.1 in
    ap (λ (rs : List RunnerData). starting first ∷ rs) (runners_start site m (start + 1) more)

trees_start : (keep : Keep) (all : List (Host × List Entry)) → map (new_tree_of keep) (map (λ h. h.1) all) ≡ map (λ here. new_tree_of keep here.1) all
trees_start keep [] = refl
trees_start keep (here ∷ more) = ap (λ (ts : List Mem). new_tree_of keep here.1 ∷ ts) (trees_start keep more)

length-plans : (hosts : List Host) (site : Joined) (m : Mappings) (start : ℕ) (all : List (List Entry)) → length (plans_from hosts site m start all) ≡ length all
length-plans hosts site m start [] = refl
length-plans hosts site m start (files ∷ more) = ap suc (length-plans hosts site m (start + 1) more)

-- what the plan of the host at an index stands on
abbrev IsNamed : List Host → ℕ → List Entry → Type 0
IsNamed hosts h files = IsHostName (name_at hosts h) × AreFiles files

module _ (hosts : List Host) (site : Joined) (m : Mappings) where
  plans_lawful : IsMapping m.users → IsMapping m.groups → (start : ℕ) (all : List (Host × List Entry)) → ((k : ℕ) (host : Host) (files : List Entry) → slice_get all k ≡ Some (host, files) → IsNamed hosts (start + k) files)
      → All IsLawful (plans_from hosts site m start (map (λ h. h.1) all))
  plans_lawful users groups start [] are = All-nil IsLawful
  plans_lawful users groups start (here ∷ more) are =
      let first : IsNamed hosts start here.1 = subst (λ n. IsNamed hosts n here.1) (no_more start) (are 0 here.0 here.1 refl) in
      All-cons IsLawful (host_plan hosts site m start here.1) (plans_from hosts site m (start + 1) (map (λ h. h.1) more)) (plan-lawful hosts site m start here.1 first.0 users groups first.1)
      (plans_lawful users groups (start + 1) more (λ k host files at. subst (λ n. IsNamed hosts n files) (one_further start k) (are (suc k) host files at)))

  plan_ready : (keep : Keep) (start : ℕ) (files : List Entry) → HaveDistinctFiles files → IsReady (host_plan hosts site m start files) (new_tree_of keep files)
  plan_ready keep start files distinct = record { inventory = owner_in files; fresh = new_fresh files; old = plan_is_old site m start files distinct }

  plans_ready : (keep : Keep) (start : ℕ) (all : List (Host × List Entry)) → ((k : ℕ) (host : Host) (files : List Entry) → slice_get all k ≡ Some (host, files) → HaveDistinctFiles files)
      → (h : ℕ) (plan : PlanData) (tree : Mem) → slice_get (plans_from hosts site m start (map (λ h. h.1) all)) h ≡ Some plan → slice_get (map (new_tree_of keep) (map (λ h. h.1) all)) h ≡ Some tree → IsReady plan tree
  plans_ready keep start [] distinct h plan tree plan_at tree_at = absurd (cc)
  plans_ready keep start (here ∷ more) distinct zero plan tree plan_at tree_at =
      subst (IsReady plan) (same_Some (new_tree_of keep here.1) tree tree_at)
      (subst (λ p. IsReady p (new_tree_of keep here.1)) (same_Some (host_plan hosts site m start here.1) plan plan_at) (plan_ready keep start here.1 (distinct 0 here.0 here.1 refl)))
  plans_ready keep start (here ∷ more) distinct (suc h) plan tree plan_at tree_at = plans_ready keep (start + 1) more (λ k host files at. distinct (suc k) host files at) h plan tree plan_at tree_at

-- the plans of a site
abbrev pub plans_in : WholeSite → Mappings → List PlanData
plans_in site m = plans_from (hosts_in site) site.joined m 0 (map (λ h. h.1) site.hosts)

pub printed_plans : (site : WholeSite) (m : Mappings) (texts : List (List ℕ)) → texts ≡ plan_texts_from (hosts_in site) site.joined m 0 (map (λ h. h.1) site.hosts) → texts ≡ map spelling (plans_in site m)
printed_plans site m texts printed = printed ∙ texts_spell (hosts_in site) site.joined m 0 (map (λ h. h.1) site.hosts)

module _ (site : WholeSite) (whole : IsWhole site) where
  module _ (outcome : Outcome) (merged : IsOutcome site outcome) where
    pub lawful_plans : All IsLawful (plans_in site merged.mappings)
    lawful_plans =
        let m = merged.mappings in
        let ok = merged.answered.least.admissible in
        plans_lawful (hosts_in site) site.joined m (is_mapping site.joined.users m.users whole.lawful.users ok.users).numbers (is_mapping site.joined.groups m.groups whole.lawful.groups ok.groups).numbers 0 site.hosts
        (λ k host files at.
        let is = whole.each_host k host files at in
        let index : k ≡ 0 + k = omega arith in
        subst (λ n. IsNamed (hosts_in site) n files) (from_zero k) (subst IsHostName (sym (name_is site k host files at)) is.named, is.files_are))

    pub ready_plans : (keep : Keep) (trees : List Mem) → trees ≡ map (new_tree_of keep) (map (λ h. h.1) site.hosts) → AreReady (plans_in site merged.mappings) trees
    ready_plans keep trees are =
        let m = merged.mappings in
        let all = map (λ (h : Host × List Entry). h.1) site.hosts in
        subst (AreReady (plans_in site m)) (sym are)
        (record {
          paired = length-plans (hosts_in site) site.joined m 0 all ∙ sym (length-map all (new_tree_of keep));
          ready = plans_ready (hosts_in site) site.joined m keep 0 site.hosts (λ k host files at. (whole.each_host k host files at).files_are.distinct);
        })

-- the inventories of a site that was read
pub inventories_there : (texts : List HostText) (rules : SiteRules) (site : WholeSite) → site_read texts rules ≡ Ok site → AreInventoriesOf texts site
inventories_there texts rules site read =
    let s = steps texts rules site read in
    (hosts_held s.others.hosts (map (λ (t : HostText). t.mtree) texts) site.hosts (paired texts rules site s) s.files_are).1

-- the texts of the inventories of a site and of a right outcome for it
pub spelled_for : (site : WholeSite) → IsWhole site → (texts : List HostText) → AreInventoriesOf texts site → (outcome : Outcome) → (merged : IsOutcome site outcome) → (mtrees : List (List ℕ)) → mtrees ≡ map (λ t. t.mtree) texts
    → (keep : Keep) → AreSpelledFor keep mtrees outcome.plans (map (λ h. h.1) site.hosts) (plans_in site merged.mappings)
spelled_for site whole texts there outcome merged mtrees same keep =
    let all = map (λ (h : Host × List Entry). h.1) site.hosts in
    record {
      read = subst (λ (ts : List (List ℕ)). each (inventory 16777216) ts ≡ Ok all) (sym same) there;
      lawful = lawful_plans site whole outcome merged;
      spelled = printed_plans site merged.mappings outcome.plans merged.printed.plans;
      ready = ready_plans site whole outcome merged keep (map (new_tree_of keep) all) refl;
    }

pub site_runs : (keep : Keep) (events : List Event) (site : WholeSite) → IsWhole site → (run : SiteRun) → (merged : IsOutcome site run.outcome) → (trees : List Mem) → trees ≡ map (new_tree_of keep) (map (λ h. h.1) site.hosts)
    → AreCarriedOut (plans_in site merged.mappings) trees events run.done.items run.trees.items → IsSiteRun keep events site run
site_runs keep events site whole run merged trees are carried =
    let m = merged.mappings in
    let all = map (λ (h : Host × List Entry). h.1) site.hosts in
    let correct : Headline site run.outcome = outcomes_are_correct site run.outcome whole merged in
    let runners_are = runners_start site m 0 site.hosts in
    let trees_are : trees ≡ new_trees keep site = are ∙ trees_start keep site.hosts in
    let first : World Mem = record { runners = at_start (plans_in site m); trees = trees } in
    let begun : first ≡ new_world keep site m = λ i. record { runners = runners_are i; trees = trees_are i } in
    let last : World Mem = record { runners = carried.runners; trees = run.trees.items } in
    let went : EachGoes known_mem (new_world keep site m) events (λ host. None) last = subst (λ (w : World Mem). EachGoes known_mem w events (λ host. None) last) begun carried.went in
    record {
      merged = merged;
      correct = correct;
      runners = carried.runners;
      a_runner_each = carried.a_runner_each ∙ length-plans (hosts_in site) site.joined m 0 all ∙ length-map site.hosts (λ (h : Host × List Entry). h.1);
      a_tree_each = carried.a_tree_each ∙ ap length are ∙ length-map all (new_tree_of keep) ∙ length-map site.hosts (λ (h : Host × List Entry). h.1);
      went = went;
      done = carried.done_are;
      at_this_moment = runs_stay site run.outcome whole merged correct.map correct.map_read correct.mappings correct.installed keep events (λ host. None) carried.runners run.trees.items went;
      names_kept = subst (λ told. DoneKeepsNames site correct.map correct.installed.passwd.rows correct.installed.group.rows told run.trees.items) (sym carried.done_are)
          (runs_keep site run.outcome whole merged correct.map correct.map_read correct.mappings correct.installed keep events (λ host. None) carried.runners run.trees.items went);
    }

pub texts_run : (keep : Keep) (events : List Event) (site : WholeSite) → IsWhole site → (texts : List HostText) → AreInventoriesOf texts site → (run : SiteRun) → IsOutcome site run.outcome → (mtrees : List (List ℕ)) → mtrees ≡ map (λ t. t.mtree) texts
    → ((files : List (List Entry)) (plans : List PlanData) → AreSpelledFor keep mtrees run.outcome.plans files plans → AreCarriedOut plans (map (new_tree_of keep) files) events run.done.items run.trees.items) → IsSiteRun keep events site run
texts_run keep events site whole texts there run merged mtrees same carried =
    let all = map (λ (h : Host × List Entry). h.1) site.hosts in
    site_runs keep events site whole run merged (map (new_tree_of keep) all) refl
    (carried all (plans_in site merged.mappings) (spelled_for site whole texts there run.outcome merged mtrees same keep))

-- what is right for the site that was read, or want of memory
pub yielded : {A : Type 0} (IsRight : WholeSite → A → Type 0) (site : WholeSite) (given : Result WholeSite Fault) (result : Result A Fault) → given ≡ Ok site → MatchResult result (IsRight site) (λ e. told e ≡ None) → Yields IsRight told result given
yielded IsRight site given (Ok x) read right = (site, read, right)
yielded IsRight site given (Err e) read none = rw none tt
