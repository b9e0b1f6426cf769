use Rattle.std.proofs.Common.{◌≡◌, map, ◌∙◌}
use Rattle.hosts_join.specs.declared.host.Host.{Host}
use Rattle.kept_accounts.specs.Others.{without_kept}
use Rattle.kept_accounts.proofs.ReservedLemmas.{keeping_decides}
use Rattle.site_tables.proofs.others.without_these.Goals as goal

pub returns : goal.returns
returns c =
    let keep = c.args.keep.now in
    let unowned = c.args.unowned.now in
    let all = c.args.hosts.now in
    let decided = keeping_decides keep all c.args.kept.now.users c.args.kept.now.groups c.requires.users c.requires.groups in
    let left : c.in_ok-hosts.hosts.items ≡ map (without_kept keep all unowned) all = c.in_ok-hosts.ensures ∙ (λ j. map (λ (h : Host). decided.others unowned h j) all) in
    λ j. record { hosts = left j; reserved_users = c.in_ok-reserved.ensures.users j; reserved_groups = c.in_ok-reserved.ensures.groups j }
