-- The class of a name, where the places that pin it agree.
use Rattle.std.proofs.Common.{◌≡◌, ℕ, zero, suc, ◌==◌, Bool, true, false, not, List, [], ◌∷◌, map, Option, Some, None, refl, sym, ap, ◌∙◌, arith, inl, inr}
use Rattle.std.specs.List.{Contains, filter, find}
use Rattle.std.specs.Option.{option_to_list}
use Rattle.std.proofs.lemmas.Bool.{cases_Bool, eqb-true, true≢false}
use Rattle.std.proofs.lemmas.List.Elements.{Contains-append_right}
use Rattle.hosts_join.specs.Rules.{class_by, disagreement, is_pinning, sources_among}
use Rattle.hosts_join.specs.declared.Class.TheVariants.{Pinned}
use Rattle.hosts_join.specs.declared.Source.{Source}
use Rattle.hosts_join.specs.declared.Spot.{Spot}
use Rattle.hosts_join.proofs.Sources.{none-mapped, source_of}
use Rattle.hosts_join.proofs.StandingRows.{contains-filter, contains-map}

pub some-none : {X : Type 0} (x : X) → Some x ≡ None → ⊥
some-none x e = cc

pub find-none : {X : Type 0} (p : X → Bool) (xs : List X) (x : X) → find p xs ≡ None → Contains xs x → p x ≡ false
find-none p [] x e c = let lt = c.1 in absurd (omega (arith, lt))
find-none p (y ∷ xs) x e (zero, lt, same) = elim (cases_Bool (p y)) [
  | inl it ↦ let e' = rw it at e in absurd (some-none y e')
  | inr away ↦ ap p (sym same) ∙ away
]
find-none p (y ∷ xs) x e (suc i, lt, same) = elim (cases_Bool (p y)) [
  | inl it ↦ let e' = rw it at e in absurd (some-none y e')
  | inr away ↦ find-none p xs x (rw away at e) (i, omega arith, same)
]

from-not : (b : Bool) → not b ≡ false → b ≡ true
from-not true e = refl
from-not false e = absurd (true≢false e)

-- where no sources disagree, a name is pinned by each
source-class : (ps : List Source) (spots : List Spot) (q : Source) → disagreement ps ≡ None → Contains ps q → class_by ps spots ≡ Pinned q.number
source-class [] spots q d c = let lt = c.1 in absurd (omega (arith, lt))
source-class (p ∷ ps) spots q d (zero, lt, e) = ap (λ (p : Source). Pinned p.number) e
source-class (p ∷ ps) spots q d (suc i, lt, e) =
    let others = λ (q : Source). not (q.number == p.number) in
    let none = none-mapped (λ (q : Source). (p, q)) (find others ps) d in
    let same : not (q.number == p.number) ≡ false = find-none others ps q none (i, omega arith, e) in
    ap Pinned (sym (eqb-true q.number p.number (from-not (q.number == p.number) same)))

abbrev text_source : ℕ → Source
text_source v = record { host = None; number = v }

pub pinning-class : (pin : Option ℕ) (spots : List Spot) (s : Spot) → disagreement (sources_among pin spots) ≡ None → Contains spots s → is_pinning s.standing ≡ true → class_by (sources_among pin spots) spots ≡ Pinned s.number
pinning-class pin spots s d c t =
    let pinning = filter (λ (s : Spot). is_pinning s.standing) spots in
    source-class (sources_among pin spots) spots (source_of s) d
    (Contains-append_right (map text_source (option_to_list pin)) (map source_of pinning) (source_of s)
    (contains-map source_of pinning s (contains-filter (λ (s : Spot). is_pinning s.standing) spots s t c)))

pub pin-class : (pin : Option ℕ) (w : ℕ) (spots : List Spot) → pin ≡ Some w → class_by (sources_among pin spots) spots ≡ Pinned w
pin-class pin w spots e = ap (λ pin. class_by (sources_among pin spots) spots) e
