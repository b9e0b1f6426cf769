-- Which of its two kinds a site tells a fault of, and the order of names that are given a number.
use Rattle.std.proofs.Common.{◌≡◌, ◌⊎◌, Result, Ok, Err, refl, ap, inl, inr}
use Rattle.idtext.specs.First.{◌>>=◌}
use Rattle.hosts_join.specs.ClaimsExample.{ExampleOfClaims}
use Rattle.hosts_join.specs.FaultOrder.{UsersAreToldFirst}
use Rattle.hosts_join.specs.Rules.{joined}
use Rattle.hosts_join.specs.Site.{Joined, groups_of, users_of}
use Rattle.hosts_join.specs.declared.Which.TheVariants.{User, Group}
use Rattle.hosts_join.specs.declared.fault.SiteFault.{SiteFault}

-- a first step was refused, or it was Ok, and the step after it was refused
bind_err : {A B F : Type 0} (r : Result A F) (f : A → Result B F) (e : F) → (r >>= f) ≡ Err e → (r ≡ Err e) ⊎ ((x : A) × (r ≡ Ok x) × (f x ≡ Err e))
bind_err (Ok x) f e h = inr (x, refl, h)
bind_err {A} {B} {F} (Err d) f e h = let same : d ≡ e = cc in inl (ap (λ (g : F). Err g) same)

pub users_are_told_first : UsersAreToldFirst
users_are_told_first hosts pins fault h = elim (bind_err (joined User (users_of hosts pins)) _ fault h) [
  | inl users ↦ inl users
  | inr later ↦ elim (bind_err (joined Group (groups_of hosts pins)) _ fault later.2) [
    | inl groups ↦ inr (later.0, later.1, groups)
    | inr none ↦ absurd (never _ fault none.2)
  ]
]
  where
    never : (site : Joined) (fault : SiteFault) → ◌≡◌ {A = Result Joined SiteFault} (Ok site) (Err fault) → ⊥
    never site fault e = cc

pub claims_by_example : ExampleOfClaims
claims_by_example = refl
