use Rattle.std.proofs.Common.{ℕ, List, ◌++◌, not, take}
use Rattle.kept_accounts.specs.Keeping.{is_among}
use Rattle.kept_accounts.specs.Picked.{ArePicked}
use Rattle.kept_accounts.proofs.kept_names.add_kept.Given as goal

abbrev pub invariant-loop-place : goal.invariant-loop-place
invariant-loop-place g l = (rows : List (List ℕ × ℕ)) → ArePicked (λ row. not (is_among l.moving row.0)) rows l.initial.kept
    → ArePicked (λ row. not (is_among l.moving row.0)) (rows ++ take l.place (g.K.Kind.listed l.host)) l.kept
