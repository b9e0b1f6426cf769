-- What holds where no fault of pins is told.
use Rattle.std.proofs.Common.{◌≡◌, ℕ, zero, suc, true, false, List, [], ◌∷◌, Option, Some, None, Contains, sym, ap, ◌∙◌}
use Rattle.std.specs.Prelude.{slice_get, nat_le}
use Rattle.std.proofs.lemmas.Bool.{and_from, and_parts, le-leb, leb-true, true≢false}
use Rattle.std.proofs.lemmas.Option.{get_or_from_slice_get, same_Some, slice_get_within}
use Rattle.idtext.proofs.FirstLemmas.{none_of_both}
use Rattle.logindefs.specs.Ranges.{in_range}
use Rattle.hosts_join.specs.Accounts.{Account, Accounts, Pair}
use Rattle.hosts_join.specs.Pairs.{number_of}
use Rattle.hosts_join.specs.PinFaults.{ArePinsApart, LiesIn, NoneApart, NoneReserved, PinsAt}
use Rattle.hosts_join.specs.Rules.{claims, class_of, disagreement, disagrees, first_some, host_name, is_pinning, pin_reserved, reserver, sources}
use Rattle.hosts_join.specs.declared.Class.TheVariants.{Pinned}
use Rattle.hosts_join.specs.declared.Source.{Source}
use Rattle.hosts_join.specs.declared.Standing.{Standing}
use Rattle.hosts_join.specs.declared.Standing.TheVariants as on
use Rattle.hosts_join.specs.declared.Which.{Which}
use Rattle.hosts_join.specs.declared.fault.SiteFault.TheVariants.{PinDisagrees, PinReserved}
use Rattle.hosts_join.specs.declared.reserving.Reserved.{Reserved}
use Rattle.hosts_join.proofs.PinnedBy.{find-none, pin-class, pinning-class}
use Rattle.hosts_join.proofs.Sources.{none-mapped}

-- ---- items of which nothing is told

none-told : {X Y : Type 0} (f : X → Option Y) (xs : List X) (j : ℕ) (x : X) → first_some f xs ≡ None → slice_get xs j ≡ Some x → f x ≡ None
none-told f [] j x none at = absurd (cc)
none-told f (y ∷ xs) zero x none at = ap f (sym (same_Some y x at)) ∙ (none_of_both (f y) (first_some f xs) none).0
none-told f (y ∷ xs) (suc j) x none at = none-told f xs j x (none_of_both (f y) (first_some f xs) none).1 at

there-at : {X : Type 0} (xs : List X) (i : ℕ) (x : X) → slice_get xs i ≡ Some x → Contains xs x
there-at xs i x at = (i, slice_get_within xs i x at, get_or_from_slice_get xs i x x at)

-- ---- a reserved number

pub lies : (r : Reserved) (v : ℕ) → in_range r.numbers v ≡ true → LiesIn r v
lies r v h =
    let both = and_parts (nat_le r.numbers.low v) (nat_le v r.numbers.high) h in
    (leb-true r.numbers.low v both.0, leb-true v r.numbers.high both.1)

within : (r : Reserved) (v : ℕ) → LiesIn r v → in_range r.numbers v ≡ true
within r v h = and_from (nat_le r.numbers.low v) (nat_le v r.numbers.high) (le-leb r.numbers.low v h.0) (le-leb v r.numbers.high h.1)

pub lies-not : (r : Reserved) (v : ℕ) → in_range r.numbers v ≡ false → ¬ LiesIn r v
lies-not r v fails h = true≢false (sym (within r v h) ∙ fails)

-- a name with a number of which nothing is told
pub unreserved : (kind : Which) (reserved : List Reserved) (p : Pair) (j : ℕ) (r : Reserved) → pin_reserved kind reserved p ≡ None → slice_get reserved j ≡ Some r → ¬ LiesIn r p.number
unreserved kind reserved p j r none at =
    let found = none-mapped (λ (s : Reserved). PinReserved kind p.number p.name s) (reserver reserved p.number) none in
    lies-not r p.number (find-none (λ (s : Reserved). in_range s.numbers p.number) reserved r found (there-at reserved j r at))

-- ---- two pins

pub is-pinning : (s : Standing) → s ≡ on.Pinning → is_pinning s ≡ true
is-pinning s e = ap is_pinning e

same-pin : (v w : ℕ) → Pinned v ≡ Pinned w → v ≡ w
same-pin v w e = cc

-- where no sources disagree, each place that pins an account pins it to its class
pin-at : (a : Accounts) (n : Account) (place : ℕ) (told : Option (List ℕ)) (v : ℕ) → disagreement (sources a.pins n) ≡ None → PinsAt a n place told v → class_of a.pins n ≡ Pinned v
pin-at a n zero told v none pins = pin-class (number_of a.pins n.name) v n.spots pins.1
pin-at a n (suc i) told v none pins =
    pinning-class (number_of a.pins n.name) n.spots pins.0 none (there-at n.spots i pins.0 pins.1) (is-pinning pins.0.standing pins.2)
    ∙ ap Pinned pins.3

-- an account of which nothing is told
pub not-apart : (kind : Which) (a : Accounts) (n : Account) (first second : Option (List ℕ)) → disagrees kind a.hosts a.pins n ≡ None → ¬ ArePinsApart a n first second
not-apart kind a n first second none apart =
    let agreed = none-mapped (λ (d : Source × Source). PinDisagrees kind n.name (host_name a.hosts d.0) (host_name a.hosts d.1)) (disagreement (sources a.pins n)) none in
    let one = pin-at a n apart.one first apart.number agreed apart.first_pins in
    let other = pin-at a n apart.other second apart.another agreed apart.second_pins in
    apart.differ (same-pin apart.number apart.another (sym one ∙ other))

-- ---- all of them

module _ (kind : Which) (a : Accounts) where
  pub none-apart : first_some (disagrees kind a.hosts a.pins) a.names ≡ None → NoneApart a
  none-apart none i n first second lt at = not-apart kind a n first second (none-told (disagrees kind a.hosts a.pins) a.names i n none at)

  pub none-reserved : first_some (pin_reserved kind a.reserved) (claims a) ≡ None → NoneReserved a
  none-reserved none i j v n r lt stands at =
      let p : Pair = record { name = n; number = v } in
      unreserved kind a.reserved p j r (none-told (pin_reserved kind a.reserved) (claims a) i p none stands) at
