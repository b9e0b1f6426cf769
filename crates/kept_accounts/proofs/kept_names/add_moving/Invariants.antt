use Rattle.std.proofs.Common.{ℕ, List, ◌++◌, not, take}
use Rattle.kept_accounts.specs.Picked.{ArePicked, lets_stay}
use Rattle.kept_accounts.proofs.kept_names.add_moving.Given as goal

abbrev pub invariant-loop-place : goal.invariant-loop-place
invariant-loop-place g l = (rows : List (List ℕ × ℕ)) → ArePicked (λ row. not (lets_stay l.keep row)) rows l.initial.moving
    → ArePicked (λ row. not (lets_stay l.keep row)) (rows ++ take l.place (g.K.Kind.listed l.host)) l.moving
