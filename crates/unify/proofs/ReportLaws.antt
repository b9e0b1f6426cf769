-- What the report of a merge tells.
use Rattle.std.proofs.Common.{◌≡◌, ◌≤◌, ◌<◌, ◌^◌, ℕ, suc, ◌+◌, ◌*◌, List, [], ◌∷◌, length, map, Some, refl, sym, subst, arith}
use Rattle.std.specs.Prelude.{slice_get}
use Rattle.std.proofs.lemmas.List.{length-append, length-map}
use Rattle.mtree_inv.specs.declared.entry.Entry.{Entry}
use Rattle.hosts_join.specs.declared.host.Host.{Host}
use Rattle.ownership.specs.Files.{Added, by_group, by_user}
use Rattle.ownership.proofs.HostFiles.{owned_few}
use Rattle.unify_texts.specs.ReportBack.{AreCountable, TellsFigures}
use Rattle.unify_texts.specs.WholeReport.{TellsAll}
use Rattle.unify_texts.proofs.ReportBack.{reports_read_back}
use Rattle.unify_texts.proofs.WholeReport.{reports_tell_all}
use Rattle.unify.specs.Outcomes.{hosts_in}
use Rattle.unify.specs.Reading.{WholeSite, added_from, added_on, files_of_site}
use Rattle.unify.specs.ReportLaws.{OutcomesAreReported}
use Rattle.unify.specs.Whole.{IsWhole}

few_from : (start : ℕ) (hosts : List (Host × List Entry)) → ((h : ℕ) (host : Host) (files : List Entry) → slice_get hosts h ≡ Some (host, files) → length files ≤ 16777216) → length (added_from start hosts) ≤ length hosts * 16777216
few_from start [] few = omega arith
few_from start (here ∷ more) few = omega (
  arith,
  length-append (map (added_on start) here.1) (added_from (start + 1) more),
  length-map here.1 (added_on start),
  few 0 here.0 here.1 refl,
  few_from (start + 1) more (λ h host files at. few (suc h) host files at),
)

module _ (site : WholeSite) (whole : IsWhole site) where
  few_files : length (files_of_site site) ≤ 1073741824
  few_files = omega (arith, few_from 0 site.hosts (λ h host files at. (whole.each_host h host files at).few), whole.few_hosts)

  few_hosts : length (hosts_in site) < 2 ^ 64
  few_hosts = omega (arith, length-map site.hosts (λ (h : Host × List Entry). h.0), whole.few_hosts)

  countable_users : AreCountable site.joined.users (by_user (files_of_site site))
  countable_users = record {
    names = omega (arith, whole.lawful.users.few_names);
    owned = omega (arith, owned_few site.joined.users.names (λ (f : Added). f.uid) (files_of_site site), few_files);
    rows = omega (arith, whole.lawful.users.few_rows);
  }

  countable_groups : AreCountable site.joined.groups (by_group (files_of_site site))
  countable_groups = record {
    names = omega (arith, whole.lawful.groups.few_names);
    owned = omega (arith, owned_few site.joined.groups.names (λ (f : Added). f.gid) (files_of_site site), few_files);
    rows = omega (arith, whole.lawful.groups.few_rows);
  }

pub outcomes_are_reported : OutcomesAreReported
outcomes_are_reported site outcome whole tellable is =
    let hosts = hosts_in site in
    let files = files_of_site site in
    let few = few_hosts site whole in
    let users = countable_users site whole in
    let groups = countable_groups site whole in
    record {
      cost = is.printed.cost;
      figures = subst (λ text. TellsFigures text hosts site.joined files is.mappings) (sym is.printed.report) (reports_read_back hosts site.joined files is.mappings few users groups);
      all = subst (λ text. TellsAll text hosts site.joined) (sym is.printed.report) (reports_tell_all hosts site.joined files is.mappings few users groups tellable);
    }
