-- The figures of the files that counters stand for.
use Rattle.std.proofs.Common.{◌≡◌, List, length, ap, ◌∙◌}
use Rattle.hosts_join.specs.Site.{Joined}
use Rattle.hosts_join.specs.declared.host.Host.{Host}
use Rattle.mergedfiles.specs.declared.Difference.{Difference}
use Rattle.mergedfiles.specs.Differences.{site_differences}
use Rattle.ownership.specs.Counts.{Counted, StandsFor, CountFiles}
use Rattle.ownership.specs.Files.{File, Added, by_user, by_group, owned_files}
use Rattle.ownership.specs.declared.mapping.Mappings.{Mappings}
use Rattle.unify_texts.specs.Figures.{figures_of}
use Rattle.unify_texts.specs.Report.{report_lines, report_of}
use Rattle.unify_texts.specs.declared.figures.Figures.{Figures}

module _ (hosts : List Host) (site : Joined) (c : Counted) (m : Mappings) (users groups : Figures) (told : List Difference) where
  abbrev UsersHold : Type 0
  UsersHold = (added : List File) → CountFiles site.users.names c.users added → c.user_files ≡ owned_files site.users.names added → users ≡ figures_of site.users added m.users

  abbrev GroupsHold : Type 0
  GroupsHold = (added : List File) → CountFiles site.groups.names c.groups added → c.group_files ≡ owned_files site.groups.names added → groups ≡ figures_of site.groups added m.groups

  pub reported : UsersHold → GroupsHold → told ≡ site_differences hosts site → (files : List Added) → StandsFor site c files → report_lines site (length hosts) users groups told ≡ report_of hosts site files m
  reported users_hold groups_hold differ files stands =
      let u : users ≡ figures_of site.users (by_user files) m.users = users_hold (by_user files) stands.users stands.user_files in
      let g : groups ≡ figures_of site.groups (by_group files) m.groups = groups_hold (by_group files) stands.groups stands.group_files in
      ap (λ f. report_lines site (length hosts) f groups told) u ∙ ap (λ f. report_lines site (length hosts) (figures_of site.users (by_user files) m.users) f told) g
      ∙ ap (report_lines site (length hosts) (figures_of site.users (by_user files) m.users) (figures_of site.groups (by_group files) m.groups)) differ
