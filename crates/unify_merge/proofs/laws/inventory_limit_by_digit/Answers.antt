use Rattle.unify_merge.proofs.EarlyEnds.{too_large_is_too_large}
use Rattle.unify_merge.proofs.ReadingsNoted.{inventory-limit}
use Rattle.unify_merge.proofs.WithinLimit.{within_limit}
use Rattle.unify_merge.proofs.laws.inventory_limit_by_digit.Goals as goal

pub returns : goal.returns
returns c = record { limit = inventory-limit; kept = within_limit; told = too_large_is_too_large }
