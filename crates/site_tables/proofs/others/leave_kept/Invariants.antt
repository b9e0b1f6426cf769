use Rattle.std.proofs.Common.{◌≡◌, take, map}
use Rattle.kept_accounts.specs.Keeping.{keeps}
use Rattle.kept_accounts.specs.Others.{without}
use Rattle.site_tables.proofs.others.leave_kept.Given as goal

abbrev pub invariant-loop-host : goal.invariant-loop-host
invariant-loop-host l = l.others.items ≡ map (without l.keep (keeps l.kept.users) (keeps l.kept.groups) l.unowned) (take l.host-index l.hosts)
