use Rattle.std.proofs.Common.{◌≡◌, ℕ, take}
use Rattle.std.specs.HashSet.{contains}
use Rattle.std.specs.Prelude.{nat_eq}
use Rattle.unify_apply.specs.Sought.{is_sought_group}
use Rattle.unify_apply.proofs.sought.sought_groups.Given as goal

abbrev pub invariant-loop-planned : goal.invariant-loop-planned
invariant-loop-planned l = (v : ℕ)
    → contains nat_eq l.groups v ≡ is_sought_group (take l.planned-index l.records) v
