use Rattle.std.proofs.Common.{ap, ◌∙◌}
use Rattle.ownership.specs.Files.{by_user, by_group}
use Rattle.unify_texts.specs.Figures.{figures_of}
use Rattle.unify_texts.specs.declared.figures.Figures.{Figures}
use Rattle.unify.specs.declared.counting.Cost.{Cost}
use Rattle.unify.proofs.merging.cost_under.Goals as goal

abbrev cost_by : Figures → Figures → Cost
cost_by users groups = record { users = users.changed_files; groups = groups.changed_files }

pub returns : goal.returns
returns c = λ files stands.
    let site = c.args.site.now in
    let users = (rw (c.users.ensures, c.users-2.ensures.users, c.user_files.ensures.files) at c.figures_under-user_figures.ensures) (by_user files) stands.users stands.user_files in
    let groups = (rw (c.groups.ensures, c.groups-2.ensures.groups, c.group_files.ensures.files) at c.figures_under-group_figures.ensures) (by_group files) stands.groups stands.group_files in
    ap (λ f. cost_by f c.figures_under-group_figures.result) users ∙ ap (λ f. cost_by (figures_of site.users (by_user files) c.args.mappings.now.users) f) groups
