use Rattle.std.proofs.Common.{◌≡◌, ℕ, take}
use Rattle.std.specs.HashSet.{contains}
use Rattle.std.specs.Prelude.{nat_eq}
use Rattle.unify_apply.specs.Sought.{is_sought_user}
use Rattle.unify_apply.proofs.sought.sought_users.Given as goal

abbrev pub invariant-loop-planned : goal.invariant-loop-planned
invariant-loop-planned l = (v : ℕ)
    → contains nat_eq l.users v ≡ is_sought_user (take l.planned-index l.records) v
