-- What a merge may answer for a site. Several mappings may cost the least, so it is a relation.
-- Source: the assignment problem (least cost); what is written is this project's own rule.
use Rattle.std.specs.Prelude.{◌≡◌, ℕ, ◌+◌, List, [], ◌∷◌, map}
use Rattle.mtree_inv.specs.declared.entry.Entry.{Entry}
use Rattle.hosts_join.specs.Site.{Joined}
use Rattle.hosts_join.specs.declared.host.Host.{Host}
use Rattle.ownership.specs.Costs.{AreLeast, ChangesFewestRows, cost_of}
use Rattle.ownership.specs.Files.{File, by_user, by_group}
use Rattle.ownership.specs.declared.mapping.Mappings.{Mappings}
use Rattle.ownership.specs.Weights.{IsFilled, IsFresh}
use Rattle.certcheck.specs.Certificate.{IsSide}
use Rattle.certcheck.specs.Certified.{AreCertified}
use Rattle.certcheck.specs.Check.{mappings_of}
use Rattle.certcheck.specs.Spelling as certificates
use Rattle.certcheck.specs.declared.certificate.Certificate.{Certificate}
use Rattle.mergedfiles.specs.Texts.{merged_users, merged_groups}
use Rattle.reown_plan.specs.Spelling as plan
use Rattle.reown_plan.specs.Target.{host_plan}
use Rattle.unify_texts.specs.Report.{report_of}
use Rattle.unify_texts.specs.ReservedLines.{keeps_a_name}
use Rattle.unify_texts.specs.WrittenMap.{map_text}
use Rattle.unify.specs.declared.counting.Cost.{Cost}
use Rattle.unify.specs.declared.outcome.Outcome.{Outcome}
use Rattle.unify.specs.Reading.{WholeSite, files_of_site}

abbrev pub hosts_in : WholeSite → List Host
hosts_in site = map (λ h. h.0) site.hosts

-- the files as users own them, and as groups do
abbrev pub user_files : WholeSite → List File
user_files site = by_user (files_of_site site)

abbrev pub group_files : WholeSite → List File
group_files site = by_group (files_of_site site)

-- how many user fields and how many group fields the mappings change, over every file of every
-- host
abbrev pub cost_in : WholeSite → Mappings → Cost
cost_in site m =
    record {
      users = cost_of site.joined.users (user_files site) m.users;
      groups = cost_of site.joined.groups (group_files site) m.groups;
    }

-- the plan texts of hosts, where the first stands at the index
abbrev pub plan_texts_from : List Host → Joined → Mappings → ℕ → List (List Entry) → List (List ℕ)
plan_texts_from hosts site m index [] = []
plan_texts_from hosts site m index (files ∷ more) =
    plan.spelling (host_plan hosts site m index files)
    ∷ plan_texts_from hosts site m (index + 1) more

abbrev pub plan_texts : WholeSite → Mappings → List (List ℕ)
plan_texts site m = plan_texts_from (hosts_in site) site.joined m 0 (map (λ h. h.1) site.hosts)

-- Mappings that cost the least, and among those change the fewest account rows; names whose numbers
-- weigh nothing have, in byte order, the smallest that are left; and the certificate certifies
-- them.
pub record AreAnswered (site : WholeSite) (m : Mappings) (c : Certificate) : Type 0 where
  pub least : AreLeast site.joined (files_of_site site) m
  pub fewest_user_rows : ChangesFewestRows site.joined.users (user_files site) m.users
  pub fewest_group_rows : ChangesFewestRows site.joined.groups (group_files site) m.groups
  pub filled_users : IsFilled site.joined.users
      (IsFresh site.joined.users (user_files site) m.users) m.users
  pub filled_groups : IsFilled site.joined.groups
      (IsFresh site.joined.groups (group_files site) m.groups) m.groups
  pub certified : AreCertified site.joined (files_of_site site) c
  pub certificate_has : mappings_of site.joined c ≡ m
  pub user_side : IsSide c.users
  pub group_side : IsSide c.groups

-- The texts tell the mappings and the certificate. Where a name is kept on a host, passwd and group
-- stand for the other names alone.
pub record IsPrinted (site : WholeSite) (m : Mappings) (c : Certificate) (outcome : Outcome) : Type
    0 where
  pub passwd : outcome.passwd ≡ merged_users (hosts_in site) site.joined m
  pub group : outcome.group ≡ merged_groups (hosts_in site) site.joined m.groups
  pub keeps : outcome.keeps_names ≡ keeps_a_name site.joined
  pub map_is : outcome.map ≡ map_text site.joined m
  pub certificate : outcome.certificate ≡ certificates.spelling c
  pub report : outcome.report ≡ report_of (hosts_in site) site.joined (files_of_site site) m
  pub plans : outcome.plans ≡ plan_texts site m
  pub cost : outcome.cost ≡ cost_in site m

-- what a merge may answer: the texts of some such mappings and certificate
pub record IsOutcome (site : WholeSite) (outcome : Outcome) : Type 0 where
  pub mappings : Mappings
  pub certificate : Certificate
  pub answered : AreAnswered site mappings certificate
  pub printed : IsPrinted site mappings certificate outcome
