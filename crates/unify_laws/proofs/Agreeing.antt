-- What one command prints, and what another answers to it.
use Rattle.std.proofs.Common.{◌≡◌, ◌<◌, ◌≤◌, ℕ, zero, suc, List, [], ◌∷◌, ◌++◌, length, map, Some, None, Ok, refl, sym, ap, subst, ◌∙◌, arith}
use Rattle.std.specs.List.{slice_get}
use Rattle.std.specs.Option.{option_map}
use Rattle.std.proofs.lemmas.Bool.{eq-eqb}
use Rattle.std.proofs.lemmas.List.Elements.{All-head, All-tail}
use Rattle.std.proofs.lemmas.Option.{same_Some, slice_get-map, slice_get_within}
use Rattle.idtext.specs.First.{first_fault, or_else, unless}
use Rattle.mtree_inv.specs.declared.entry.Entry.{Entry}
use Rattle.hosts_join.specs.declared.texts.HostText.{HostText}
use Rattle.ownership.specs.Costs.{site_cost}
use Rattle.certcheck.specs.Check.{answer, mappings_of}
use Rattle.certcheck.specs.Reading.{certificate_in}
use Rattle.certcheck.proofs.Spelled.{spelled_is_read}
use Rattle.certcheck.proofs.Yes.{certified_is_accepted}
use Rattle.reown_plan.specs.PlanData.{PlanData, PlanRecord}
use Rattle.reown_plan.specs.Reading.{ReadsAs}
use Rattle.reown_runner.specs.Finished.{AreOld}
use Rattle.reown_runner.specs.Memory.{owner_in}
use Rattle.unify_texts.specs.declared.bundle_line.FileName.TheVariants as file
use Rattle.unify.specs.Checking.{check_of}
use Rattle.unify.specs.Cost.{cost_of}
use Rattle.unify.specs.Reading.{files_of_site}
use Rattle.rehearsal.specs.Rehearsing.{found_fault, record_fault}
use Rattle.unify_texts.specs.Told.{in_file}
use Rattle.site_tables.proofs.Owners.{files_read}
use Rattle.site_tables.proofs.ReadSites.{as-many-others}
use Rattle.rehearsal.proofs.Rehearsed.{carried_out}
use Rattle.unify_laws.specs.Agreeing.{PrintedCertificatesAreAccepted, NoMapRewritesFewer, PrintedPlansAreRehearsed}
use Rattle.unify_laws.specs.Headline.{fields}
use Rattle.unify_laws.proofs.Correct.{outcomes_are_correct}
use Rattle.unify_laws.proofs.Costs.{costs_agree}
use Rattle.unify_laws.proofs.OnePiece.{accepted_at}
use Rattle.unify_laws.proofs.WholeSites.{read_sites_are_whole, steps}

pub printed_certificates_are_accepted : PrintedCertificatesAreAccepted
unfolding check_of
printed_certificates_are_accepted texts rules site outcome read o =
    let whole = read_sites_are_whole texts rules site read in
    let files = files_of_site site in
    let c = o.certificate in
    let said : certificate_in outcome.certificate ≡ Ok c = ap certificate_in o.printed.certificate ∙ spelled_is_read c (record { users = o.answered.user_side; groups = o.answered.group_side }) in
    let yes : answer site.joined files c ≡ Ok (site_cost site.joined files (mappings_of site.joined c)) = certified_is_accepted site.joined files c whole.lawful.users whole.lawful.groups o.answered.user_side o.answered.group_side o.answered.certified in
    let cost : site_cost site.joined files (mappings_of site.joined c) ≡ fields outcome.cost = ap (site_cost site.joined files) o.answered.certificate_has ∙ ap fields (sym o.printed.cost) in
    rw (read, said, yes, cost) refl

pub no_map_rewrites_fewer : NoMapRewritesFewer
no_map_rewrites_fewer texts rules text cost is other m users groups =
    let site = is.site in
    let whole = read_sites_are_whole texts rules site is.read in
    let least = is.accepted.best.least.least m (record { users = users.admissible; groups = groups.admissible }) in
    subst (λ c. c ≤ fields (cost_of other site.hosts)) (sym is.accepted.cost)
    (subst (λ c. site_cost site.joined (files_of_site site) (mappings_of site.joined is.certificate) ≤ fields c) (sym (costs_agree site m other whole users.say groups.say)) least)

-- ---- plans

-- an index that is within has an item
pub item_at : {X : Type 0} (xs : List X) (k : ℕ) → k < length xs → (x : X) × (slice_get xs k ≡ Some x)
item_at [] k within = absurd (omega (arith, within))
item_at (x ∷ xs) zero within = (x, refl)
item_at (x ∷ xs) (suc k) within = item_at xs k (omega (arith, within))

old_is_right : (r : PlanRecord) → found_fault r (Some r.before) ≡ None
old_is_right r = rw (eq-eqb r.before.uid r.before.uid refl, eq-eqb r.before.gid r.before.gid refl) refl

-- no record has a fault where its file is there at its old owner
none_faulty : (files : List Entry) (before records : List PlanRecord) → AreOld (owner_in files) records → first_fault (record_fault files) before records ≡ None
unfolding first_fault
none_faulty files before [] old = refl
none_faulty files before (r ∷ records) old =
    let is_old = λ (x : PlanRecord). owner_in files x.path ≡ Some x.before in
    let here : record_fault files before r ≡ None = ap (found_fault r) (All-head is_old r records old) ∙ old_is_right r in
    ap (λ o. or_else o (first_fault (record_fault files) (before ++ r ∷ []) records)) here ∙ none_faulty files (before ++ r ∷ []) records (All-tail is_old r records old)

pub printed_plans_are_rehearsed : PrintedPlansAreRehearsed
printed_plans_are_rehearsed texts rules site outcome read o h text plan text_at plan_at =
    let s = steps texts rules site read in
    let mtrees = map (λ (t : HostText). t.mtree) texts in
    let at = item_at s.others.hosts h (omega (arith, slice_get_within texts h text text_at, as-many-others texts rules.keep s.others s.others_are)) in
    let host = at.0 in
    let mtree_at = slice_get-map (λ (t : HostText). t.mtree) texts h ∙ ap (option_map (λ (t : HostText). t.mtree)) text_at in
    let here = accepted_at s.others.hosts mtrees site.hosts h host text.mtree s.files_are at.1 mtree_at in
    let files = here.0 in
    let listed = (files_read (record { host = host; mtree = text.mtree }) files here.1).0 in
    let found = (outcomes_are_correct site outcome (read_sites_are_whole texts rules site read) o).a_plan_keeps_names h host files here.2 in
    let told : PlanData = record { host = host.name; records = found.records } in
    let reads : ReadsAs plan (Ok told) = subst (λ p. ReadsAs p (Ok told)) (same_Some found.plan plan (sym found.printed ∙ plan_at)) found.read in
    let none = none_faulty files [] found.records found.begins in
    let answered = carried_out text.mtree told told.host refl files (ap (in_file told.host file.Mtree) listed) (Ok (length found.records)) (ap (λ f. unless f (length found.records)) none) in
    (told, reads, record { plan = Ok told; reads = reads; answered = answered })
