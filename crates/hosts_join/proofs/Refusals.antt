-- Which refusal comes first.
use Rattle.std.proofs.Common.{◌≡◌, ℕ, ◌+◌, cond, ◌^◌, ◌≤◌, Bool, true, false, List, map, Option, None, Some, IfSome, Ok, Err, refl, sym, ◌∙◌, ap}
use Rattle.std.specs.List.{count_by}
use Rattle.std.proofs.lemmas.Bool.{ltb-false}
use Rattle.logindefs.specs.declared.ranges.IdRange.{IdRange}
use Rattle.std.proofs.lemmas.List.Folds.{fold-map}
use Rattle.hosts_join.proofs.Counting.{count_below-same}
use Rattle.hosts_join.proofs.Sources.{none-mapped}
use Rattle.hosts_join.specs.declared.reserving.Reserved.{Reserved}
use Rattle.hosts_join.specs.Count.{count_below}
use Rattle.hosts_join.specs.Accounts.{Accounts, Pair}
use Rattle.hosts_join.specs.declared.fault.PoolClass.TheVariants as pool
use Rattle.hosts_join.specs.declared.fault.PoolClass.{PoolClass}
use Rattle.hosts_join.specs.declared.fault.SiteFault.{SiteFault}
use Rattle.hosts_join.specs.declared.fault.SiteFault.TheVariants.{BadHostName, HostTwice, HostCount, NoPrimaryGroup, PinDisagrees, PinReserved, PinClash, PoolTooSmall, Memory}
use Rattle.hosts_join.specs.Told.{told}
use Rattle.hosts_join.specs.declared.names.PoolPair.{PoolPair}
use Rattle.hosts_join.specs.Settled.{ArePools, small_among}
use Rattle.idtext.specs.First.{or_else}
use Rattle.idtext.proofs.FirstLemmas.{none_of_both}
use Rattle.hosts_join.specs.Pool.{run_size}
use Rattle.hosts_join.specs.RangeLists.{lies_in_some}
use Rattle.hosts_join.specs.Rules.{Clash, joined, first_some, disagrees, pin_reserved, clash, clash_of, claim_fault, claims, too_small, names_in, pool_size, in_pool, same_class, class_of, class_served}
use Rattle.hosts_join.specs.declared.Class.{Class}
use Rattle.hosts_join.specs.declared.Class.TheVariants.{Regular, System}
use Rattle.hosts_join.specs.declared.Which.{Which}

pub count_by-of-map : {X Y : Type 0} (p : Y → Bool) (f : X → Y) (xs : List X) → count_by p (map f xs) ≡ count_by (λ x. p (f x)) xs
count_by-of-map p f xs = fold-map (λ n y. n + cond (p y) 1 0) f 0 xs

pub names-size : (a : Accounts) (c : Class) (classes : List Class) (n : ℕ) → classes ≡ map (class_of a.pins) a.names → n ≡ count_by (same_class c) classes → names_in a c ≡ n
names-size a c classes n e h = sym (h ∙ ap (count_by (same_class c)) e ∙ count_by-of-map (same_class c) (class_of a.pins) a.names)

pub pool-size : (a : Accounts) (c : Class) (runs : List IdRange) (n : ℕ) → ((v : ℕ) → lies_in_some runs v ≡ in_pool a c v) → n ≡ count_below (lies_in_some runs) (2 ^ 32) → pool_size a c ≡ n
pool-size a c runs n e h = sym (h ∙ count_below-same (lies_in_some runs) (in_pool a c) (2 ^ 32) (λ v _. e v))

-- claims with which nothing is wrong do not clash
pub not-clashing : (kind : Which) (reserved : List Reserved) (given : List Pair) → claim_fault kind reserved given ≡ None → clash_of given ≡ None
not-clashing kind reserved given e = none-mapped (λ (d : Clash). PinClash kind d.number d.first d.second) (clash_of given) (none_of_both (first_some (pin_reserved kind reserved) given) (clash kind given) e).1

-- a fault, or want of memory, of which nothing is said
pub of-told : (Is : SiteFault → Type 0) (fault : SiteFault) → Is fault → IfSome (told fault) Is
of-told Is (BadHostName name) h = h
of-told Is (HostTwice name) h = h
of-told Is (HostCount count) h = h
of-told Is (NoPrimaryGroup host user) h = h
of-told Is (PinDisagrees kind name first second) h = h
of-told Is (PinReserved kind number name by) h = h
of-told Is (PinClash kind number first second) h = h
of-told Is (PoolTooSmall kind class names numbers) h = h
of-told Is Memory h = tt

not-some : {X : Type 0} (b : Bool) (x : X) → cond b (Some x) None ≡ None → b ≡ false
not-some true x e = cc
not-some false x e = refl

-- a pool that is not too small
pub is-enough : (kind : Which) (a : Accounts) (c : PoolClass) → too_small kind a c ≡ None → names_in a (class_served c) ≤ pool_size a (class_served c)
is-enough kind a c e =
    ltb-false (pool_size a (class_served c)) (names_in a (class_served c))
    (not-some _ (PoolTooSmall kind c (names_in a (class_served c)) (pool_size a (class_served c))) e)

-- the pool that is too small, by the classes and the pools that were made
pub small-same : (kind : Which) (a : Accounts) (classes : List Class) (p : PoolPair) → classes ≡ map (class_of a.pins) a.names → ArePools a p → small_among kind classes p ≡ or_else (too_small kind a pool.Regular) (too_small kind a pool.System)
small-same kind a classes p e pools =
    let rn = names-size a Regular classes (count_by (same_class Regular) classes) e refl in
    let sn = names-size a System classes (count_by (same_class System) classes) e refl in
    let rm = pool-size a Regular p.regular (run_size p.regular) pools.regular refl in
    let sm = pool-size a System p.system (run_size p.system) pools.system refl in
    rw (rn, rm, sn, sm) refl

module _ (kind : Which) (a : Accounts) (agreed : first_some (disagrees kind a.hosts a.pins) a.names ≡ None) where
  pub joined-claim : (told : Option SiteFault) → IfSome told (λ f. claim_fault kind a.reserved (claims a) ≡ Some f) → IfSome told (λ f. joined kind a ≡ Err f)
  joined-claim None h = tt
  joined-claim (Some f) h = rw (agreed, h) refl

  module _ (good : claim_fault kind a.reserved (claims a) ≡ None) where
    pub joined-small : (fault : SiteFault) → or_else (too_small kind a pool.Regular) (too_small kind a pool.System) ≡ Some fault → IfSome (told fault) (λ f. joined kind a ≡ Err f)
    joined-small fault h = of-told (λ f. joined kind a ≡ Err f) fault (rw (agreed, good, h) refl)

    pub accepted : or_else (too_small kind a pool.Regular) (too_small kind a pool.System) ≡ None → joined kind a ≡ Ok a
    accepted h = rw (agreed, good, h) refl
