use Rattle.std.proofs.Common.{◌≡◌, ◌++◌, take}
use Rattle.kept_accounts.specs.Keeping.{keeps}
use Rattle.kept_accounts.specs.Others.{kept_numbers}
use Rattle.kept_accounts.proofs.sparing.ranges_and_kept.Given as goal

abbrev pub invariant-loop-place : goal.invariant-loop-place
invariant-loop-place g l =
    l.ranges.items ≡ l.keep.ranges ++ kept_numbers (keeps l.kept) (take l.place (g.K.Kind.listed l.host))
