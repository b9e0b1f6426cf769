-- What the two faults of pins say.
use Rattle.std.proofs.Common.{◌≡◌, ℕ, zero, suc, ◌<◌, ◌≤◌, ◌==◌, Bool, true, false, cond, not, List, [], ◌∷◌, map, Option, Some, None, refl, sym, ap, ◌∙◌, subst, arith, inl, inr}
use Rattle.std.specs.Prelude.{◌≢◌, slice_get}
use Rattle.std.specs.List.{filter, find}
use Rattle.std.specs.Option.{option_map}
use Rattle.std.proofs.lemmas.Bool.{cases_Bool, cases_eq, cases_lt, eq-eqb, eqb-true, false≢true, not-true, true≢false}
use Rattle.std.proofs.lemmas.Option.{same_Some}
use Rattle.idtext.specs.First.{or_else}
use Rattle.logindefs.specs.Ranges.{in_range}
use Rattle.hosts_join.specs.Accounts.{Account, Accounts, Pair}
use Rattle.hosts_join.specs.Pairs.{number_of}
use Rattle.hosts_join.specs.PinFaults.{ArePinsApart, DisagreeingPinsAreThere, IsReservedPin, NoneApart, NoneApartBefore, PinsAt, ReservedPinsAreThere}
use Rattle.hosts_join.specs.Rules.{claim_fault, claims, clash, clash_of, disagreement, disagrees, first_some, host_name, is_pinning, pin_reserved, refusal, reserver, sources, sources_among, too_small, Clash}
use Rattle.hosts_join.specs.declared.Source.{Source}
use Rattle.hosts_join.specs.declared.Spot.{Spot}
use Rattle.hosts_join.specs.declared.Standing.{Standing}
use Rattle.hosts_join.specs.declared.Standing.TheVariants as on
use Rattle.hosts_join.specs.declared.Which.{Which}
use Rattle.hosts_join.specs.declared.fault.PoolClass.{PoolClass}
use Rattle.hosts_join.specs.declared.fault.PoolClass.TheVariants as pool
use Rattle.hosts_join.specs.declared.fault.SiteFault.{SiteFault}
use Rattle.hosts_join.specs.declared.fault.SiteFault.TheVariants.{PinClash, PinDisagrees, PinReserved}
use Rattle.hosts_join.specs.declared.reserving.Reserved.{Reserved}
use Rattle.hosts_join.proofs.BadLines.{faulty}
use Rattle.hosts_join.proofs.NoPinFaults.{is-pinning, lies, lies-not, none-apart, not-apart, unreserved}
use Rattle.hosts_join.proofs.NumberFaults.{of_either, of_mapped, of_test}
use Rattle.hosts_join.proofs.Sources.{source_of}

-- ---- the first item that passes

record IsFirst {X : Type 0} (P : X → Bool) (xs : List X) (x : X) : Type 0 where
  pub place : ℕ
  pub there : slice_get xs place ≡ Some x
  pub passes : P x ≡ true
  pub before : (j : ℕ) (y : X) → j < place → slice_get xs j ≡ Some y → P y ≡ false

first-more : {X : Type 0} (P : X → Bool) (y : X) (xs : List X) (x : X) → P y ≡ false → IsFirst P xs x → IsFirst P (y ∷ xs) x
first-more {X} P y xs x fails rest = record { place = suc rest.place; there = rest.there; passes = rest.passes; before = before }
  where
    before : (j : ℕ) (z : X) → j < suc rest.place → slice_get (y ∷ xs) j ≡ Some z → P z ≡ false
    before zero z lt e = ap P (sym (same_Some y z e)) ∙ fails
    before (suc j) z lt e = rest.before j z (omega (arith, lt)) e

first-found : {X : Type 0} (P : X → Bool) (xs : List X) (x : X) → find P xs ≡ Some x → IsFirst P xs x
first-found {X} P [] x h = absurd (cc)
first-found {X} P (y ∷ xs) x h = elim (cases_Bool (P y)) [
  | inl it ↦
      let h' = rw it at h in
      let same = same_Some y x h' in
      record { place = 0; there = ap (λ (z : X). Some z) same; passes = ap P (sym same) ∙ it; before = λ j z lt e. absurd (omega (arith, lt)) }
  | inr fails ↦ first-more P y xs x fails (first-found P xs x (rw fails at h))
]

-- the first item of which something is told
record IsFirstTold {X Y : Type 0} (f : X → Option Y) (xs : List X) (told : Y) : Type 0 where
  pub item : X
  pub place : ℕ
  pub there : slice_get xs place ≡ Some item
  pub tells : f item ≡ Some told
  pub before : (j : ℕ) (y : X) → j < place → slice_get xs j ≡ Some y → f y ≡ None

told-more : {X Y : Type 0} (f : X → Option Y) (y : X) (xs : List X) (told : Y) → f y ≡ None → IsFirstTold f xs told → IsFirstTold f (y ∷ xs) told
told-more {X} f y xs told none rest = record { item = rest.item; place = suc rest.place; there = rest.there; tells = rest.tells; before = before }
  where
    before : (j : ℕ) (z : X) → j < suc rest.place → slice_get (y ∷ xs) j ≡ Some z → f z ≡ None
    before zero z lt e = ap f (sym (same_Some y z e)) ∙ none
    before (suc j) z lt e = rest.before j z (omega (arith, lt)) e

told-by : {X Y : Type 0} (f : X → Option Y) (y : X) (xs : List X) (told : Y) (o : Option Y) → f y ≡ o → (first_some f xs ≡ Some told → IsFirstTold f xs told) → or_else o (first_some f xs) ≡ Some told → IsFirstTold f (y ∷ xs) told
told-by f y xs told None e rest h = told-more f y xs told e (rest h)
told-by f y xs told (Some z) e rest h = record { item = y; place = 0; there = refl; tells = e ∙ h; before = λ j z lt e. absurd (omega (arith, lt)) }

first-told : {X Y : Type 0} (f : X → Option Y) (xs : List X) (told : Y) → first_some f xs ≡ Some told → IsFirstTold f xs told
first-told f [] told h = absurd (cc)
first-told f (y ∷ xs) told h = told-by f y xs told (f y) refl (λ e. first-told f xs told e) h

-- ---- the spots that pin

pinning-is : (s : Standing) → is_pinning s ≡ true → s ≡ on.Pinning
pinning-is on.Pinning h = refl
pinning-is on.Regular h = absurd (false≢true h)
pinning-is on.System h = absurd (false≢true h)

abbrev pinning_among : List Spot → List Source
pinning_among spots = map source_of (filter (λ s. is_pinning s.standing) spots)

-- the first of them whose number passes
record IsFirstSpot (P : ℕ → Bool) (spots : List Spot) (q : Source) : Type 0 where
  pub spot : Spot
  pub place : ℕ
  pub there : slice_get spots place ≡ Some spot
  pub pins : is_pinning spot.standing ≡ true
  pub source : source_of spot ≡ q
  pub passes : P spot.number ≡ true
  pub before : (j : ℕ) (s : Spot) → j < place → slice_get spots j ≡ Some s → is_pinning s.standing ≡ true → P s.number ≡ false

spot-more : (P : ℕ → Bool) (s : Spot) (spots : List Spot) (q : Source) → (is_pinning s.standing ≡ true → P s.number ≡ false) → IsFirstSpot P spots q → IsFirstSpot P (s ∷ spots) q
spot-more P s spots q fails rest = record { spot = rest.spot; place = suc rest.place; there = rest.there; pins = rest.pins; source = rest.source; passes = rest.passes; before = before }
  where
    before : (j : ℕ) (t : Spot) → j < suc rest.place → slice_get (s ∷ spots) j ≡ Some t → is_pinning t.standing ≡ true → P t.number ≡ false
    before zero t lt e pins =
        let same = same_Some s t e in
        ap (λ (u : Spot). P u.number) (sym same) ∙ fails (ap (λ (u : Spot). is_pinning u.standing) same ∙ pins)
    before (suc j) t lt e pins = rest.before j t (omega (arith, lt)) e pins

first-spot : (P : ℕ → Bool) (spots : List Spot) (q : Source) → find (λ (p : Source). P p.number) (pinning_among spots) ≡ Some q → IsFirstSpot P spots q
first-spot P [] q h = absurd (cc)
first-spot P (s ∷ spots) q h = elim (cases_Bool (is_pinning s.standing)) [
  | inr away ↦ spot-more P s spots q (λ pins. absurd (true≢false (sym pins ∙ away))) (first-spot P spots q (rw away at h))
  | inl it ↦
      let h' = rw it at h in
      elim (cases_Bool (P s.number)) [
        | inl passes ↦
            let h'' = rw passes at h' in
            record { spot = s; place = 0; there = refl; pins = it; source = same_Some (source_of s) q h''; passes = passes; before = λ j t lt e pins. absurd (omega (arith, lt)) }
        | inr fails ↦ spot-more P s spots q (λ pins. fails) (first-spot P spots q (rw fails at h'))
      ]
]

-- ---- two pins

abbrev paired : Source → Source → Source × Source
paired p q = (p, q)

-- the first source and the first with another number
first-two : (ps : List Source) (p q : Source) → disagreement ps ≡ Some (p, q) → (find (λ (s : Source). true) ps ≡ Some p) × (find (λ (s : Source). not (s.number == p.number)) ps ≡ Some q)
first-two [] p q h = absurd (cc)
first-two (x ∷ ps) p q h = by (find (λ (s : Source). not (s.number == x.number)) ps) refl h
  where
    by : (o : Option Source) → find (λ (s : Source). not (s.number == x.number)) ps ≡ o → ◌≡◌ {A = Option (Source × Source)} (option_map (paired x) o) (Some (paired p q)) → (find (λ (s : Source). true) (x ∷ ps) ≡ Some p) × (find (λ (s : Source). not (s.number == p.number)) (x ∷ ps) ≡ Some q)
    by None e h = absurd (cc)
    by (Some s) e h =
        let same : paired x s ≡ paired p q = same_Some (paired x s) (paired p q) h in
        let one : x ≡ p = ap (λ (both : Source × Source). both.0) same in
        let other : s ≡ q = ap (λ (both : Source × Source). both.1) same in (
          ap (λ (z : Source). Some z) one,
          subst (λ (z : Source). find (λ (s : Source). not (s.number == z.number)) (x ∷ ps) ≡ Some q) one
              (ap (λ b. cond (not b) (Some x) (find (λ (s : Source). not (s.number == x.number)) ps)) (eq-eqb x.number x.number refl) ∙ e ∙ ap (λ (z : Source). Some z) other),
        )

differs : (v w : ℕ) → not (w == v) ≡ true → v ≢ w
differs v w h same = true≢false (sym (eq-eqb w v (sym same)) ∙ not-true (w == v) h)

same-number : (v w : ℕ) → not (w == v) ≡ false → w ≡ v
same-number v w h = elim (cases_Bool (w == v)) [
  | inl it ↦ eqb-true w v it
  | inr other ↦ let h' = rw other at h in absurd (true≢false h')
]

module _ (a : Accounts) (n : Account) where
  abbrev Others : ℕ → ℕ → Bool
  Others v w = not (w == v)

  spot-pins : (i : ℕ) (spot : Spot) (p : Source) → slice_get n.spots i ≡ Some spot → is_pinning spot.standing ≡ true → source_of spot ≡ p → PinsAt a n (suc i) (host_name a.hosts p) p.number
  spot-pins i spot p there pins is = subst (λ (s : Source). PinsAt a n (suc i) (host_name a.hosts s) s.number) is (spot, there, pinning-is spot.standing pins, refl, refl)

  -- by the pins text first
  by-text : (w : ℕ) (q : Source) → number_of a.pins n.name ≡ Some w → find (λ (s : Source). Others w s.number) (pinning_among n.spots) ≡ Some q → ArePinsApart a n None (host_name a.hosts q)
  by-text w q pin found =
      let f = first-spot (Others w) n.spots q found in
      record {
        one = 0;
        other = suc f.place;
        in_order = omega arith;
        number = w;
        another = q.number;
        first_pins = (refl, pin);
        second_pins = spot-pins f.place f.spot q f.there f.pins f.source;
        differ = differs w q.number (ap (Others w) (sym (ap (λ (s : Source). s.number) f.source)) ∙ f.passes);
        none_before = λ place told v pins. omega arith;
        agree_before = agree f;
      }
    where
      agree : (f : IsFirstSpot (Others w) n.spots q) (place : ℕ) (told : Option (List ℕ)) (v : ℕ) → place < suc f.place → PinsAt a n place told v → v ≡ w
      agree f zero told v lt pins = same_Some v w (sym pins.1 ∙ pin)
      agree f (suc i) told v lt pins =
          sym pins.3 ∙ same-number w pins.0.number (f.before i pins.0 (omega (arith, lt)) pins.1 (is-pinning pins.0.standing pins.2))

  -- by a host first
  by-host : (p q : Source) → number_of a.pins n.name ≡ None → find (λ (s : Source). true) (pinning_among n.spots) ≡ Some p → find (λ (s : Source). Others p.number s.number) (pinning_among n.spots) ≡ Some q → ArePinsApart a n (host_name a.hosts p) (host_name a.hosts q)
  by-host p q unpinned first found =
      let e = first-spot (λ v. true) n.spots p first in
      let f = first-spot (Others p.number) n.spots q found in
      record {
        one = suc e.place;
        other = suc f.place;
        in_order = order e f;
        number = p.number;
        another = q.number;
        first_pins = spot-pins e.place e.spot p e.there e.pins e.source;
        second_pins = spot-pins f.place f.spot q f.there f.pins f.source;
        differ = apart f;
        none_before = least e;
        agree_before = agree f;
      }
    where
      apart : IsFirstSpot (Others p.number) n.spots q → p.number ≢ q.number
      apart f = differs p.number q.number (ap (Others p.number) (sym (ap (λ (s : Source). s.number) f.source)) ∙ f.passes)

      least : (e : IsFirstSpot (λ v. true) n.spots p) (place : ℕ) (told : Option (List ℕ)) (v : ℕ) → PinsAt a n place told v → suc e.place ≤ place
      least e zero told v pins = let none : ◌≡◌ {A = Option ℕ} None (Some v) = sym unpinned ∙ pins.1 in absurd (cc)
      least e (suc i) told v pins = elim (cases_lt i e.place) [
        | inl less ↦ absurd (true≢false (e.before i pins.0 less pins.1 (is-pinning pins.0.standing pins.2)))
        | inr more ↦ omega (arith, more)
      ]

      agree : (f : IsFirstSpot (Others p.number) n.spots q) (place : ℕ) (told : Option (List ℕ)) (v : ℕ) → place < suc f.place → PinsAt a n place told v → v ≡ p.number
      agree f zero told v lt pins = let none : ◌≡◌ {A = Option ℕ} None (Some v) = sym unpinned ∙ pins.1 in absurd (cc)
      agree f (suc i) told v lt pins =
          sym pins.3 ∙ same-number p.number pins.0.number (f.before i pins.0 (omega (arith, lt)) pins.1 (is-pinning pins.0.standing pins.2))

      same : (e : IsFirstSpot (λ v. true) n.spots p) (f : IsFirstSpot (Others p.number) n.spots q) → e.place ≡ f.place → p.number ≡ q.number
      same e f is =
          let spots : e.spot ≡ f.spot = same_Some e.spot f.spot (sym e.there ∙ ap (slice_get n.spots) is ∙ f.there) in
          sym (ap (λ (s : Source). s.number) e.source) ∙ ap (λ (s : Spot). s.number) spots ∙ ap (λ (s : Source). s.number) f.source

      order : (e : IsFirstSpot (λ v. true) n.spots p) (f : IsFirstSpot (Others p.number) n.spots q) → suc e.place < suc f.place
      order e f = elim (cases_lt f.place e.place) [
        | inl less ↦ absurd (true≢false (e.before f.place f.spot less f.there f.pins))
        | inr more ↦ elim (cases_eq e.place f.place) [
          | inl is ↦ absurd (apart f (same e f is))
          | inr other ↦ omega (arith, more, other)
        ]
      ]

  apart-told : (pin : Option ℕ) (p q : Source) → number_of a.pins n.name ≡ pin → disagreement (sources_among pin n.spots) ≡ Some (p, q) → ArePinsApart a n (host_name a.hosts p) (host_name a.hosts q)
  apart-told None p q pin h = let two = first-two (pinning_among n.spots) p q h in by-host p q pin two.0 two.1
  apart-told (Some w) p q pin h = text p q w pin (first-two (record { host = None; number = w } ∷ pinning_among n.spots) p q h)
    where
      text : (p q : Source) (w : ℕ) → number_of a.pins n.name ≡ Some w → (find (λ (s : Source). true) (record { host = None; number = w } ∷ pinning_among n.spots) ≡ Some p) × (find (λ (s : Source). not (s.number == p.number)) (record { host = None; number = w } ∷ pinning_among n.spots) ≡ Some q) → ArePinsApart a n (host_name a.hosts p) (host_name a.hosts q)
      text p q w pin two =
          let t : Source = record { host = None; number = w } in
          let is : t ≡ p = same_Some t p two.0 in
          let found = subst (λ (s : Source). find (λ (r : Source). not (r.number == s.number)) (t ∷ pinning_among n.spots) ≡ Some q) (sym is) two.1 in
          let same : (w == w) ≡ true = eq-eqb w w refl in
          let rest : find (λ (r : Source). not (r.number == w)) (pinning_among n.spots) ≡ Some q = rw same at found in
          subst (λ (s : Source). ArePinsApart a n (host_name a.hosts s) (host_name a.hosts q)) is (by-text w q pin rest)

-- ---- the faults of a join

-- what a fault of pins says
abbrev Says : Which → Accounts → SiteFault → Type 0
Says kind a (PinDisagrees k name first second) =
    (k ≡ kind) × (i : ℕ) × (account : Account) × (slice_get a.names i ≡ Some account) × (account.name ≡ name) × ArePinsApart a account first second × NoneApartBefore a i
Says kind a (PinReserved k number name by) = (k ≡ kind) × IsReservedPin a number name by × NoneApart a
Says kind a other = Unit {0}

module _ (kind : Which) (a : Accounts) where
  disagreeing : (f : SiteFault) → first_some (disagrees kind a.hosts a.pins) a.names ≡ Some f → Says kind a f
  disagreeing f h =
      let it = first-told (disagrees kind a.hosts a.pins) a.names f h in
      let n = it.item in
      of_mapped (λ (d : Source × Source). PinDisagrees kind n.name (host_name a.hosts d.0) (host_name a.hosts d.1)) (disagreement (sources a.pins n)) f (Says kind a)
      (λ d e. (refl, it.place, n, it.there, refl, apart-told a n (number_of a.pins n.name) d.0 d.1 refl e, before it)) it.tells
    where
      before : (it : IsFirstTold (disagrees kind a.hosts a.pins) a.names f) → NoneApartBefore a it.place
      before it j other first second lt at = not-apart kind a other first second (it.before j other lt at)

  reserved-pin : (f : SiteFault) → (it : IsFirstTold (pin_reserved kind a.reserved) (claims a) f) → (r : Reserved) → reserver a.reserved it.item.number ≡ Some r → IsReservedPin a it.item.number it.item.name r
  reserved-pin f it r e =
      let found = first-found (λ (r : Reserved). in_range r.numbers it.item.number) a.reserved r e in
      record {
        place = it.place;
        given = it.there;
        reserver = found.place;
        there = found.there;
        has = lies r it.item.number found.passes;
        first = λ j s lt at. lies-not s it.item.number (found.before j s lt at);
        free_before = λ i j v n s lt stands at.
            let p : Pair = record { name = n; number = v } in
            unreserved kind a.reserved p j s (it.before i p lt stands) at;
      }

  reserved : (f : SiteFault) → NoneApart a → first_some (pin_reserved kind a.reserved) (claims a) ≡ Some f → Says kind a f
  reserved f agreed h =
      let it = first-told (pin_reserved kind a.reserved) (claims a) f h in
      of_mapped (λ (r : Reserved). PinReserved kind it.item.number it.item.name r) (reserver a.reserved it.item.number) f (Says kind a) (λ r e. (refl, reserved-pin f it r e, agreed)) it.tells

  small : (c : PoolClass) (f : SiteFault) → too_small kind a c ≡ Some f → Says kind a f
  small c f h = of_test (Says kind a) _ _ f (λ less. tt) h

  said : (f : SiteFault) → refusal kind a ≡ Some f → Says kind a f
  said f =
      of_either (Says kind a) (first_some (disagrees kind a.hosts a.pins) a.names) _ f (disagreeing f)
      (λ none. of_either (Says kind a) (claim_fault kind a.reserved (claims a)) _ f
      (of_either (Says kind a) (first_some (pin_reserved kind a.reserved) (claims a)) (clash kind (claims a)) f (reserved f (none-apart kind a none))
      (λ other. of_mapped (λ (d : Clash). PinClash kind d.number d.first d.second) (clash_of (claims a)) f (Says kind a) (λ d e. tt)))
      (λ other. of_either (Says kind a) (too_small kind a pool.Regular) (too_small kind a pool.System) f (small pool.Regular f) (λ enough. small pool.System f)))

pub disagreeing_pins_are_there : DisagreeingPinsAreThere
disagreeing_pins_are_there kind k a name first second h = said kind a (PinDisagrees k name first second) (faulty (refusal kind a) a _ h)

pub reserved_pins_are_there : ReservedPinsAreThere
reserved_pins_are_there kind k a number name by h = said kind a (PinReserved k number name by) (faulty (refusal kind a) a _ h)
