-- What a merge may answer is what it is correct for.
use Rattle.std.proofs.Common.{◌≡◌, ◌⊎◌, ℕ, zero, suc, ◌+◌, ◌≤◌, ◌↔◌, true, false, List, [], ◌∷◌, map, Option, Some, None, Ok, refl, sym, ap, subst, ◌∙◌, arith}
use Rattle.std.specs.List.{slice_get}
use Rattle.std.specs.Option.{is_some, option_map}
use Rattle.std.proofs.lemmas.List.Elements.{All-weaker}
use Rattle.std.proofs.lemmas.Option.{get_or_from_slice_get, same_Some, slice_get-map}
use Rattle.hosts_join.specs.Accounts.{Accounts, Pair}
use Rattle.hosts_join.specs.Kinds.{user_at, group_at}
use Rattle.hosts_join.specs.Pairs.{number_of}
use Rattle.hosts_join.specs.Rules.{account}
use Rattle.hosts_join.specs.Site.{Joined}
use Rattle.hosts_join.specs.declared.host.Host.{Host}
use Rattle.mtree_inv.specs.declared.entry.Entry.{Entry}
use Rattle.ownership.specs.Mappings.{IsAdmissible}
use Rattle.ownership.specs.declared.mapping.Mappings.{Mappings}
use Rattle.certcheck.specs.Reading.{certificate_in}
use Rattle.certcheck.proofs.Spelled.{spelled_is_read}
use Rattle.reown_plan.specs.Owners.{owner_of}
use Rattle.reown_plan.specs.PlanData.{PlanData}
use Rattle.reown_plan.specs.Reading.{ReadsAs}
use Rattle.reown_plan.specs.Spelling as plan
use Rattle.reown_plan.specs.Target.{plan_of, host_plan, name_at}
use Rattle.reown_plan.proofs.Lawful.{plan-lawful}
use Rattle.reown_runner.specs.declared.runner.Place.TheVariants.{Done}
use Rattle.reown_runner.specs.Memory.{owner_in}
use Rattle.reown_runner.specs.Safe.{IsSafeInStep}
use Rattle.reown_runner.specs.State.{fresh, cells_at}
use Rattle.reown_runner.specs.Tree.{Image}
use Rattle.reown_runner.proofs.Finishing.{fresh_safe, fresh_history, done_image}
use Rattle.reown_runner.proofs.Moments.{device_alone, old_or_new}
use Rattle.reown_runner.proofs.Runs.{runs_sound}
use Rattle.unify_texts.specs.WrittenMap.{SayMapping}
use Rattle.unify_texts.specs.declared.map_text.MapText.{MapText}
use Rattle.unify.specs.declared.outcome.Outcome.{Outcome}
use Rattle.unify.specs.Cost.{cost_of}
use Rattle.unify.specs.Whole.{IsWhole}
use Rattle.unify.specs.Outcomes.{IsOutcome, cost_in, hosts_in, plan_texts_from}
use Rattle.unify.specs.Reading.{WholeSite}
use Rattle.unify.specs.Rewritten.{files_at}
use Rattle.unify.proofs.Rewritten.{plans_rewrite_the_cost}
use Rattle.unify_laws.specs.Agreeing.{PrintedPlansRewriteTheCost}
use Rattle.unify_laws.specs.Correct.{OutcomesAreCorrect, NamedFilesHaveTheirNames, NumbersTellNames, WereOne}
use Rattle.unify_laws.specs.Headline.{HaveOneNumberEach, PlanKeepsNames, IsNamedAsBefore, IsNewNumber, IsOldOrNamed, KeepsItsNames, fields, untouched}
use Rattle.unify_laws.specs.Installed.{AreInstalled}
use Rattle.unify_laws.proofs.Costs.{costs_agree}
use Rattle.unify_laws.proofs.Installed.{are_installed, named_as_before, old_or_named}
use Rattle.unify_laws.proofs.Keeping.{ArePairsOf, is_mapping, map_says_mappings, plan_is_old, keeps_names, old_or_kept}
use Rattle.unify_laws.proofs.Sparing.{numbered_at}

-- ---- one number each

one_number_each : (a : Accounts) (m : List ℕ) (pairs : List Pair) → IsAdmissible a m → SayMapping a m pairs → HaveOneNumberEach a m pairs
one_number_each a m pairs ok say = record {
  admissible = ok;
  say = say;
  distinct = λ name other v one two.
      let i = numbered_at a m pairs say name v one in
      let j = numbered_at a m pairs say other v two in
      let same : i.0 ≡ j.0 = ok.distinct i.0 j.0 (omega (arith, i.1, ok.len)) (omega (arith, j.1, ok.len)) (i.3 ∙ sym j.3) in
      i.2 ∙ ap (λ k. (account a k).name) same ∙ sym j.2;
}

-- ---- plans

-- the text at an index is that of the plan of the host there
text_at : (hosts : List Host) (site : Joined) (m : Mappings) (all : List (Host × List Entry)) (start k : ℕ) (host : Host) (files : List Entry) → slice_get all k ≡ Some (host, files)
    → slice_get (plan_texts_from hosts site m start (map (λ h. h.1) all)) k ≡ Some (plan.spelling (host_plan hosts site m (start + k) files))
text_at hosts site m [] start k host files here = absurd (cc)
text_at hosts site m (h ∷ hs) start zero host files here =
    let same : h ≡ (host, files) = same_Some h (host, files) here in
    let index : start ≡ start + 0 = omega arith in
    ap (λ (x : Host × List Entry). Some (plan.spelling (host_plan hosts site m start x.1))) same ∙ ap (λ i. Some (plan.spelling (host_plan hosts site m i files))) index
text_at hosts site m (h ∷ hs) start (suc k) host files here =
    let index : (start + 1) + k ≡ start + suc k = omega arith in
    text_at hosts site m hs (start + 1) k host files here ∙ ap (λ i. Some (plan.spelling (host_plan hosts site m i files))) index

-- the name at an index is that of the host there
pub name_is : (site : WholeSite) (h : ℕ) (host : Host) (files : List Entry) → slice_get site.hosts h ≡ Some (host, files) → name_at (hosts_in site) h ≡ host.name
name_is site h host files here =
    let there : slice_get (hosts_in site) h ≡ Some host = slice_get-map (λ (x : Host × List Entry). x.0) site.hosts h ∙ ap (option_map (λ (x : Host × List Entry). x.0)) here in
    get_or_from_slice_get (map (λ (x : Host). x.name) (hosts_in site)) h host.name [] (slice_get-map (λ (x : Host). x.name) (hosts_in site) h ∙ ap (option_map (λ (x : Host). x.name)) there)

-- the plan that is printed for a host is read as its records
pub printed_plan : (site : WholeSite) (outcome : Outcome) → IsWhole site → (o : IsOutcome site outcome) → (h : ℕ) (host : Host) (files : List Entry) → slice_get site.hosts h ≡ Some (host, files)
    → (text : List ℕ) × (slice_get outcome.plans h ≡ Some text) × ReadsAs text (Ok (record { host = host.name; records = plan_of site.joined o.mappings h files }))
printed_plan site outcome whole o h host files here =
    let m = o.mappings in
    let is = whole.each_host h host files here in
    let records = plan_of site.joined m h files in
    let made : PlanData = record { host = host.name; records = records } in
    let from_zero : 0 + h ≡ h = omega arith in
    let name = name_is site h host files here in
    let same : host_plan (hosts_in site) site.joined m h files ≡ made = ap (λ (n : List ℕ). record { host = n; records = records }) name in
    let ok = o.answered.least.admissible in
    let lawful = plan-lawful (hosts_in site) site.joined m h files (subst plan.IsHostName (sym name) is.named) (is_mapping site.joined.users m.users whole.lawful.users ok.users).numbers (is_mapping site.joined.groups m.groups whole.lawful.groups ok.groups).numbers is.files_are in (
      plan.spelling made,
      ap (λ texts. slice_get texts h) o.printed.plans ∙ text_at (hosts_in site) site.joined m site.hosts 0 h host files here ∙ ap (λ i. Some (plan.spelling (host_plan (hosts_in site) site.joined m i files))) from_zero ∙ ap (λ p. Some (plan.spelling p)) same,
      (subst plan.IsLawful same lawful, refl),
    )

plan_keeps : (site : WholeSite) (outcome : Outcome) → IsWhole site → (o : IsOutcome site outcome) (printed : MapText) → ArePairsOf site.joined o.mappings printed
    → (installed : AreInstalled site outcome o.mappings printed) → (h : ℕ) (host : Host) (files : List Entry) → slice_get site.hosts h ≡ Some (host, files) → PlanKeepsNames printed installed.passwd.rows installed.group.rows outcome.plans h host host files
plan_keeps site outcome whole o printed are_pairs installed h host files here =
    let m = o.mappings in
    let is = whole.each_host h host files here in
    let records = plan_of site.joined m h files in
    let text = printed_plan site outcome whole o h host files here in
    let lawful = text.2.0 in
    let old = plan_is_old site.joined m h files is.files_are.distinct in
    let at_first : Image = record { owner = owner_in files; mark = false } in
    let start = fresh_safe (owner_in files) records (cells_at (fresh at_first)) (fresh_history (owner_in files) at_first (λ path. refl) refl) old in
    record {
      plan = text.0;
      printed = text.1;
      records = records;
      read = text.2;
      begins = old;
      only_the_device_refuses = λ asked runs there are events refused end run.
          device_alone (owner_in files) records lawful.distinct there events refused end run (runs_sound (owner_in files) records lawful.distinct (untouched asked files) runs there start are);
      at_every_moment = λ asked runs end are image is_image.
          let safe = runs_sound (owner_in files) records lawful.distinct (untouched asked files) runs end start are in
          All-weaker (λ f. (image.owner f.path ≡ Some (owner_of f)) ⊎ KeepsItsNames printed host image.owner f) (IsOldOrNamed printed installed.passwd.rows installed.group.rows host host image.owner) (old_or_named site outcome m printed installed host image.owner) files
          (old_or_kept site.joined m printed are_pairs h host files is image (old_or_new (owner_in files) records image old (safe.safe image is_image)));
      kept = λ asked runs end are done image is_image.
          let safe = runs_sound (owner_in files) records lawful.distinct (untouched asked files) runs end start are in
          let at_done : IsSafeInStep (owner_in files) records Done (cells_at end.state) = subst (λ p. IsSafeInStep (owner_in files) records p (cells_at end.state)) done safe in
          All-weaker (KeepsItsNames printed host image.owner) (IsNamedAsBefore printed installed.passwd.rows installed.group.rows host host image.owner) (named_as_before site outcome m printed installed host image.owner) files
          (keeps_names site.joined m printed are_pairs h host files is image.owner (done_image (owner_in files) records (cells_at end.state) at_done image is_image).1);
    }

-- no other map changes fewer fields of files
none_fewer : (site : WholeSite) (outcome : Outcome) → IsWhole site → (o : IsOutcome site outcome) (printed : MapText) → SayMapping site.joined.users o.mappings.users printed.users → SayMapping site.joined.groups o.mappings.groups printed.groups
    → (other : MapText) (m : Mappings) → HaveOneNumberEach site.joined.users m.users other.users → HaveOneNumberEach site.joined.groups m.groups other.groups → fields (cost_of printed site.hosts) ≤ fields (cost_of other site.hosts)
none_fewer site outcome whole o printed says_users says_groups other m users groups =
    let least = o.answered.least.least m (record { users = users.admissible; groups = groups.admissible }) in
    subst (λ c. fields c ≤ fields (cost_of other site.hosts)) (sym (costs_agree site o.mappings printed whole says_users says_groups))
    (subst (λ c. fields (cost_in site o.mappings) ≤ fields c) (sym (costs_agree site m other whole users.say groups.say)) least)

pub outcomes_are_correct : OutcomesAreCorrect
outcomes_are_correct site outcome whole o =
    let back = map_says_mappings site outcome whole o in
    let ok = o.answered.least.admissible in
    let installed = are_installed site outcome whole o back.pairs back.users back.groups in
    let are_pairs : ArePairsOf site.joined o.mappings back.pairs = record { users = back.users; groups = back.groups; admissible = ok; leaves = whole.leaves } in
    record {
      map = back.pairs;
      map_read = back.read;
      certificate = o.certificate;
      certificate_read = ap certificate_in o.printed.certificate ∙ spelled_is_read o.certificate (record { users = o.answered.user_side; groups = o.answered.group_side });
      mappings = o.mappings;
      users_have_one_number_each = one_number_each site.joined.users o.mappings.users back.pairs.users ok.users back.users;
      groups_have_one_number_each = one_number_each site.joined.groups o.mappings.groups back.pairs.groups ok.groups back.groups;
      installed = installed;
      no_other_rewrites_fewer = o.answered.least;
      potentials_are_of_these = o.answered.certificate_has;
      potentials_prove_it = o.answered.certified;
      cost_is_told = o.printed.cost ∙ sym (costs_agree site o.mappings back.pairs whole back.users back.groups);
      no_other_map_rewrites_fewer = none_fewer site outcome whole o back.pairs back.users back.groups;
      a_plan_keeps_names = plan_keeps site outcome whole o back.pairs are_pairs installed;
    }

-- what the printed plans rewrite is told as the cost
pub printed_plans_rewrite_the_cost : PrintedPlansRewriteTheCost
printed_plans_rewrite_the_cost site outcome whole o =
    let m = o.mappings in
    record {
      records = λ h. plan_of site.joined m h (files_at site h);
      read = λ h host files here.
          let text = printed_plan site outcome whole o h host files here in
          let mine : files_at site h ≡ files = get_or_from_slice_get (map (λ (x : Host × List Entry). x.1) site.hosts) h files [] (slice_get-map (λ (x : Host × List Entry). x.1) site.hosts h ∙ ap (option_map (λ (x : Host × List Entry). x.1)) here) in
          (text.0, text.1, subst (λ fs. ReadsAs text.0 (Ok (record { host = host.name; records = plan_of site.joined m h fs }))) (sym mine) text.2);
      cost = o.printed.cost ∙ plans_rewrite_the_cost site m;
    }

-- ---- numbers and names

same_names : (a : Accounts) (m : List ℕ) (pairs : List Pair) → HaveOneNumberEach a m pairs → (name other : List ℕ) (v w : ℕ) → number_of pairs name ≡ Some v → number_of pairs other ≡ Some w → (v ≡ w) ↔ (name ≡ other)
same_names a m pairs have name other v w one two = (
  (λ e. have.distinct name other v one (two ∙ ap (λ (n : ℕ). Some n) (sym e))),
  (λ e. same_Some v w (sym one ∙ ap (number_of pairs) e ∙ two)),
)

-- new numbers are one exactly where the old ones were one
were_one : (a : Accounts) (m : List ℕ) (pairs : List Pair) → HaveOneNumberEach a m pairs → (told also : Option (List ℕ)) (number another v w : ℕ) → IsNewNumber told pairs number v → IsNewNumber also pairs another w
    → (v ≡ w) ↔ WereOne told number also another
were_one a m pairs have (Some name) (Some other) number another v w one two = same_names a m pairs have name other v w one two
were_one a m pairs have (Some name) None number another v w one two = ((λ e. two.1 name (one ∙ ap (λ (n : ℕ). Some n) e)), (λ bad. absurd bad))
were_one a m pairs have None (Some other) number another v w one two = ((λ e. one.1 other (two ∙ ap (λ (n : ℕ). Some n) (sym e))), (λ bad. absurd bad))
were_one a m pairs have None None number another v w one two = ((λ e. sym one.0 ∙ e ∙ two.0), (λ e. one.0 ∙ e ∙ sym two.0))

pub numbers_tell_names : NumbersTellNames
numbers_tell_names users groups m n printed by_user by_group host other tree other_tree file other_file one two = (
  were_one users m printed.users by_user (user_at host.users file.uid) (user_at other.users other_file.uid) file.uid other_file.uid one.now.uid two.now.uid one.user two.user,
  were_one groups n printed.groups by_group (group_at host.groups file.gid) (group_at other.groups other_file.gid) file.gid other_file.gid one.now.gid two.now.gid one.group two.group,
)

named_before : (told : Option (List ℕ)) (pairs : List Pair) (number v : ℕ) → IsNewNumber told pairs number v → is_some told ≡ true → (name : List ℕ) × (told ≡ Some name) × (number_of pairs name ≡ Some v)
named_before (Some name) pairs number v is there = (name, refl, is)
named_before None pairs number v is there = absurd (cc)

pub named_files_have_their_names : NamedFilesHaveTheirNames
named_files_have_their_names printed host tree file kept has =
    let user = named_before (user_at host.users file.uid) printed.users file.uid kept.now.uid kept.user has.user in
    let group = named_before (group_at host.groups file.gid) printed.groups file.gid kept.now.gid kept.group has.group in
    record {
      now = kept.now;
      here = kept.here;
      user = user.0;
      had_user = user.1;
      has_user = user.2;
      group = group.0;
      had_group = group.1;
      has_group = group.2;
    }
