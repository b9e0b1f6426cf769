use Rattle.std.proofs.Common.{ℕ, ◌<◌, refl, get_or, length}
use Rattle.hosts_join.specs.Rules.{account}
use Rattle.mergedfiles.specs.Texts.{merged_user}
use Rattle.mergedfiles.proofs.Steps.{rows_more}
use Rattle.mergedfiles.proofs.passwd.passwd_text.Goals as goal

pub push_user-requires-clause-within : goal.push_user-requires-clause-within
push_user-requires-clause-within c =
    let below = c.in_ok-order.ensures.within c.loop-account.account-index (0, 0) (rw (← c.deref-account-items.ensures.value) c.loop-account-test.true) in
    rw (c.deref-account-items.ensures.value, ← c.requires.for_site.users) below

pub loop-account-preserved : goal.loop-account-preserved
loop-account-preserved c =
    let site = c.args.site.now in
    rows_more (λ (q : ℕ × ℕ). merged_user site.groups c.args.mappings.now.groups c.args.hosts.now (account site.users q.0).name q.1) c.deref-account-items.result.now c.loop-account.account-index (0, 0) c.loop-account.text.items _ _ c.loop-account-test.true c.loop-account.invariant c.in_ok-push_user.ensures refl
