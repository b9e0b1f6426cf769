use Rattle.std.proofs.Common.{◌∙◌, ap}
use Rattle.kept_accounts.specs.Keeping.{keeps}
use Rattle.kept_accounts.specs.Reserving.{UnownedNumbers}
use Rattle.kept_accounts.proofs.SparedLemmas.{host-left}
use Rattle.kept_accounts.proofs.kept_accounts.KeptAccounts.without_kept.Goals as goal

pub returns : goal.returns
returns c =
    host-left c.args.keep.now (keeps c.args.self.now.users) (keeps c.args.self.now.groups) c.args.unowned.now c.args.host.now _ _ _ _ _ _ _
    (c.new.ensures ∙ c.bytes.ensures) c.in_ok-users.ensures c.in_ok-groups.ensures
    (c.deref.ensures.value ∙ ap (λ (u : UnownedNumbers). u.users) c.unowned.view_is) (c.deref-2.ensures.value ∙ ap (λ (u : UnownedNumbers). u.groups) c.unowned.view_is)
    c.in_ok-spared_users.ensures c.in_ok-spared_groups.ensures
