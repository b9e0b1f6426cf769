use Rattle.std.proofs.Common.{◌<◌, List, length, ◌∙◌, arith, subst}
use Rattle.std.proofs.lemmas.List.{take_all}
use Rattle.hosts_join.specs.Accounts.{Accounts}
use Rattle.hosts_join.specs.declared.host.Host.{Host}
use Rattle.mergedfiles.specs.Alike.{CoversHost, CoversHosts}
use Rattle.mergedfiles.proofs.SameRows.{hosts-more}
use Rattle.mergedfiles.proofs.SameUsers.{as-many-hosts}
use Rattle.mergedfiles.proofs.alike.all_seen.Goals as goal

pub bounds-hosts-index : goal.bounds-hosts-index
bounds-hosts-index c =
    let many = as-many-hosts c.args.hosts.now c.args.site.now c.requires in
    omega (arith, many, c.hosts-index-end.ensures.hosts, c.hosts-index-end.ensures.same, c.loop-index-test.true)

pub loop-index-preserved : goal.loop-index-preserved
loop-index-preserved c =
    let names = c.args.site.now.users.names in
    let hosts = c.args.hosts.now in
    let k = c.loop-index.index in
    let many = as-many-hosts hosts c.args.site.now c.requires in
    let within : k < length hosts = omega (arith, many, c.hosts-index-end.ensures.hosts, c.hosts-index-end.ensures.same, c.loop-index-test.true) in
    let covered = subst (λ (a : Accounts). CoversHost a.names c.note_host.new.seen.items k c.index-hosts-index.result) c.users-users.ensures c.note_host.ensures.covered in
    record {
      len = c.note_host.ensures.len ∙ c.loop-index.invariant.len;
      covered = hosts-more names c.loop-index.seen.items c.note_host.new.seen.items hosts k c.index-hosts-index.result within c.index-hosts-index.is c.note_host.ensures.kept covered c.loop-index.invariant.covered;
    }

pub returns-clause-covered : goal.returns-clause-covered
returns-clause-covered c =
    let many = as-many-hosts c.args.hosts.now c.args.site.now c.requires in
    subst (λ (hosts : List Host). CoversHosts c.args.site.now.users.names c.loop-index.seen.items hosts)
    (take_all c.loop-index.index c.args.hosts.now (omega (arith, many, c.hosts-index-end.ensures.hosts, c.hosts-index-end.ensures.same, c.loop-index-test.false))) c.loop-index.invariant.covered
