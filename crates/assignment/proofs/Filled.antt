-- The fill, and the numbers of an admissible mapping.
use Rattle.std.proofs.Common.{◌≡◌, ℕ, ◌<◌, ◌≤◌, List, length, refl, arith}
use Rattle.hosts_join.specs.declared.Class.{Class}
use Rattle.hosts_join.specs.declared.Class.TheVariants.{Pinned, Regular, System}
use Rattle.hosts_join.specs.Accounts.{Accounts}
use Rattle.hosts_join.specs.Lawful.{AreLawfulAccounts}
use Rattle.hosts_join.specs.Rules.{class_at}
use Rattle.ownership.specs.Mappings.{number_at, MayHave, IsAdmissible}
use Rattle.ownership.specs.Weights.{IsFilled}
use Rattle.candidates.proofs.Pigeons.{pool-id}

-- what is filled stays so where fewer names count as waiting
pub filled_fewer : (a : Accounts) (W V : ℕ → Type 0) (m : List ℕ) → ((i : ℕ) → V i → W i) → IsFilled a W m → IsFilled a V m
filled_fewer a W V m fewer f i v l waits pooled below =
    let had = f i v l (fewer i waits) pooled below in
    record { by = had.by; within = had.within; other = had.other; has = had.has; earlier = λ w. had.earlier (fewer had.by w) }

number_by : (a : Accounts) (c : Class) (i v : ℕ) → AreLawfulAccounts a → class_at a i ≡ c → MayHave a c v → v ≤ 4294967294
number_by a (Pinned p) i v lawful e may = omega (arith, may, lawful.pin_ids i p e)
number_by a Regular i v lawful e may = pool-id a Regular v may
number_by a System i v lawful e may = pool-id a System v may

-- an admissible number is one that an account may have
pub number_is_id : (a : Accounts) (m : List ℕ) (i : ℕ) → AreLawfulAccounts a → IsAdmissible a m → i < length a.names → number_at m i ≤ 4294967294
number_is_id a m i lawful ok l = number_by a (class_at a i) i (number_at m i) lawful refl (ok.lawful i l)
