use Rattle.std.proofs.Common.{◌∙◌, ap, subst, sym}
use Rattle.std.specs.List.{All}
use Rattle.hosts_join.specs.Accounts.{Accounts}
use Rattle.mergedfiles.specs.Coming.{IsPlaced}
use Rattle.mergedfiles.specs.HostFiles.{new_primary}
use Rattle.mergedfiles.proofs.host_files.next_numbers.Goals as goal

pub next_user-user-requires-clause-placed : goal.next_user-user-requires-clause-placed
next_user-user-requires-clause-placed c =
    subst (λ (a : Accounts). All (IsPlaced a c.args.coming.now.index) c.args.coming.now.users.rows.now) (sym c.users.ensures) c.requires.coming.placed

pub returns-clause-coming : goal.returns-clause-coming
returns-clause-coming c =
    let primary = c.next_primary-primary in record {
      primary =
          primary.ensures.number
          ∙ ap (λ (a : Accounts). new_primary c.args.host.now a c.args.mappings.now.groups c.args.fields.now.gid.now) c.groups.ensures
          ∙ ap (new_primary c.args.host.now c.args.site.now.groups c.args.mappings.now.groups) (sym primary.ensures.gid);
      placed = subst (λ (a : Accounts). All (IsPlaced a c.args.coming.now.index) c.next_user-user.result.coming.rows.now) c.users.ensures c.next_user-user.ensures.placed;
    }
