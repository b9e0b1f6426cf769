-- Which lines a pins text may have, and which pins they give.
use Rattle.std.proofs.Common.{◌≡◌, ◌⊎◌, ℕ, zero, suc, ◌+◌, ◌==◌, Bool, true, false, cond, not, List, [], ◌∷◌, ◌++◌, length, Option, Some, None, is_some, refl, sym, ap, ◌∙◌, subst, arith, inl, inr, take, drop}
use Rattle.std.specs.Prelude.{◌&&◌, ◌≤◌, ◌↔◌, nat_lt, codes, if◌then◌else◌, slice_get}
use Rattle.std.specs.List.{Contains, flat_map, list_any}
use Rattle.std.specs.Str.{bytes_eq}
use Rattle.std.proofs.lemmas.Bool.{and_from, and_parts, cases_Bool, eq-eqb, eqb-true, false≢true, lt-ltb, ltb-true, not-true, true≢false}
use Rattle.std.proofs.lemmas.List.{take-append-drop}
use Rattle.std.proofs.lemmas.List.Folds.{Any-from_list_any, list_any-from_Any}
use Rattle.std.proofs.lemmas.Option.{same_Some}
use Rattle.std.proofs.lemmas.Slice.Eq.{bytes_eq-Decides}
use Rattle.idtext.specs.Faults.{line_number}
use Rattle.idtext.specs.First.{first_fault}
use Rattle.idtext.specs.Names.{is_lawful_name, is_skipped}
use Rattle.idtext.specs.Numbers.{id_of}
use Rattle.idtext.specs.Pieces.{begins_with, lines}
use Rattle.idtext.specs.Spaces.{cut_at_last_space}
use Rattle.idtext.proofs.OkLemmas.{unless_ok}
use Rattle.hosts_join.specs.Accounts.{Pair}
use Rattle.hosts_join.specs.PairLines.{cut_pair, group_pair, named, pair_line_of, user_pair}
use Rattle.hosts_join.specs.Pairs.{number_of}
use Rattle.hosts_join.specs.PinLines.{AcceptedPinsMayStand, FirstBadPinIsTold, GivesPair, IsListed, IsNewPin, MayStand, PinsAreListed}
use Rattle.hosts_join.specs.PinPairs.{PinPairs}
use Rattle.hosts_join.specs.PinsText.{is_new_pin, may_stand, pins_fault, pins_of, pins_on}
use Rattle.hosts_join.specs.declared.Which.{Which}
use Rattle.hosts_join.specs.declared.Which.TheVariants.{User, Group}
use Rattle.hosts_join.specs.declared.fault.PinsFault.{PinsFault}
use Rattle.hosts_join.specs.declared.fault.PinsFault.TheVariants.{BadPins}
use Rattle.hosts_join.specs.declared.pair_lines.PairLine.{PairLine}
use Rattle.hosts_join.specs.declared.pair_lines.PairLine.TheVariants.{Skipped, Wrong, Given}
use Rattle.hosts_join.specs.BadLines.{AllMayStand, IsFirstBad, SaysNothing}
use Rattle.hosts_join.proofs.BadLines.{faulty, first-bad, front-size, no-bad, nothing-said, says-nothing}
use Rattle.hosts_join.proofs.LastSpace.{cut_before_id, cut_says}
use Rattle.hosts_join.proofs.MadeLists.{from-flat_map, in-flat_map}

-- ---- a line, by what it is read as

abbrev pub word_of : Which → List ℕ
word_of User = codes "user "
word_of Group = codes "group "

abbrev pub IsToldBy : List ℕ → PairLine → Type 0
IsToldBy line Skipped = is_skipped line ≡ true
IsToldBy line Wrong = Unit {0}
IsToldBy line (Given which name number) = GivesPair (word_of which) line name number

chosen : (line : List ℕ) (b : Bool) (x y : PairLine) → (b ≡ true → IsToldBy line x) → IsToldBy line y → IsToldBy line (if b then x else y)
chosen line true x y p q = p refl
chosen line false x y p q = q

pub word-and-rest : (word line : List ℕ) → begins_with word line ≡ true → line ≡ word ++ drop (length word) line
word-and-rest word line h = sym (take-append-drop (length word) line) ∙ ap (λ w. w ++ drop (length word) line) ((bytes_eq-Decides (take (length word) line) word).0 h)

named-told : (line : List ℕ) (which : Which) (name digits : List ℕ) → line ≡ word_of which ++ (name ++ 32 ∷ digits) → (value : Option ℕ) → id_of digits ≡ value → IsToldBy line (named which name value)
named-told line which name digits whole None value = tt
named-told line which name digits whole (Some n) value =
    chosen line (is_lawful_name name) (Given which name n) Wrong (λ lawful. record { lawful = lawful; digits = digits; whole = whole; value = value }) tt

cut-told : (line : List ℕ) (which : Which) (text : List ℕ) → line ≡ word_of which ++ text → (parts : Option (List ℕ × List ℕ)) → cut_at_last_space text ≡ parts → IsToldBy line (cut_pair which parts)
cut-told line which text whole None cut = tt
cut-told line which text whole (Some parts) cut =
    named-told line which parts.0 parts.1 (whole ∙ ap (λ t. word_of which ++ t) (cut_says text parts cut)) (id_of parts.1) refl

pub line-told : (line : List ℕ) → IsToldBy line (pair_line_of line)
unfolding pair_line_of
line-told line =
    chosen line (is_skipped line) Skipped _ (λ b. b)
    (chosen line (begins_with (codes "user ") line) _ _ (λ b. cut-told line User (drop 5 line) (word-and-rest (codes "user ") line b) (cut_at_last_space (drop 5 line)) refl)
    (chosen line (begins_with (codes "group ") line) _ Wrong (λ b. cut-told line Group (drop 6 line) (word-and-rest (codes "group ") line b) (cut_at_last_space (drop 6 line)) refl) tt))

-- ---- how lines are read

pair-read : (which : Which) (text : List ℕ) → pair_line_of (word_of which ++ text) ≡ cut_pair which (cut_at_last_space text)
unfolding pair_line_of
pair-read User text = refl
pair-read Group text = refl

pub given-read : (which : Which) (line name : List ℕ) (number : ℕ) → GivesPair (word_of which) line name number → pair_line_of line ≡ Given which name number
given-read which line name number gives =
    ap pair_line_of gives.whole
    ∙ pair-read which (name ++ 32 ∷ gives.digits)
    ∙ ap (cut_pair which) (cut_before_id name gives.digits number gives.value)
    ∙ ap (named which name) gives.value
    ∙ ap (λ b. cond b (Given which name number) Wrong) gives.lawful

pub skipped-read : (line : List ℕ) → is_skipped line ≡ true → pair_line_of line ≡ Skipped
unfolding pair_line_of
skipped-read line h = rw h refl

-- ---- the pairs of one kind

abbrev pub pair_given : List ℕ → ℕ → Pair
pair_given name number = record { name = name; number = number }

pub other_than_users : (line : PairLine) → (user_pair line ≡ []) ⊎ ((name : List ℕ) × (number : ℕ) × (line ≡ Given User name number))
other_than_users Skipped = inl refl
other_than_users Wrong = inl refl
other_than_users (Given User name number) = inr (name, number, refl)
other_than_users (Given Group name number) = inl refl

pub other_than_groups : (line : PairLine) → (group_pair line ≡ []) ⊎ ((name : List ℕ) × (number : ℕ) × (line ≡ Given Group name number))
other_than_groups Skipped = inl refl
other_than_groups Wrong = inl refl
other_than_groups (Given User name number) = inl refl
other_than_groups (Given Group name number) = inr (name, number, refl)

-- the number that a list of pairs gives a name is that of one of the pairs
pub numbered : (pairs : List Pair) (name : List ℕ) → is_some (number_of pairs name) ≡ true → (number : ℕ) × Contains pairs (pair_given name number)
numbered [] name h = absurd (false≢true h)
numbered (p ∷ pairs) name h = elim (cases_Bool (bytes_eq name p.name)) [
  | inl it ↦ (p.number, (0, omega arith, λ i. pair_given (sym ((bytes_eq-Decides name p.name).0 it) i) p.number))
  | inr other ↦ let rest = numbered pairs name (rw other at h) in (rest.0, (suc rest.1.0, omega (arith, rest.1.1), rest.1.2))
]

pub has-number : (pairs : List Pair) (name : List ℕ) (number : ℕ) → Contains pairs (pair_given name number) → is_some (number_of pairs name) ≡ true
has-number [] name number there = absurd (omega (arith, there.1))
has-number (p ∷ pairs) name number (zero, lt, e) =
    let same : bytes_eq name p.name ≡ true = (bytes_eq-Decides name p.name).1 (sym (ap (λ (q : Pair). q.name) e)) in
    rw same refl
has-number (p ∷ pairs) name number (suc k, lt, e) = elim (cases_Bool (bytes_eq name p.name)) [
  | inl it ↦ rw it refl
  | inr other ↦ rw other (has-number pairs name number (k, omega (arith, lt), e))
]

module _ (which : Which) (of : PairLine → List Pair) (gives : (name : List ℕ) (number : ℕ) → of (Given which name number) ≡ pair_given name number ∷ []) (others : (line : PairLine) → (of line ≡ []) ⊎ ((name : List ℕ) × (number : ℕ) × (line ≡ Given which name number))) where
  abbrev on : List ℕ → List Pair
  on line = of (pair_line_of line)

  only : (pair other : Pair) → Contains (other ∷ []) pair → other ≡ pair
  only pair other (zero, lt, e) = e
  only pair other (suc k, lt, e) = absurd (omega (arith, lt))

  given_by : (line : List ℕ) (pair : Pair) → Contains (on line) pair → pair_line_of line ≡ Given which pair.name pair.number
  given_by line pair there = by (others (pair_line_of line))
    where
      within : (all : List Pair) → on line ≡ all → Contains all pair
      within all is = subst (λ (xs : List Pair). Contains xs pair) is there

      nowhere : Contains [] pair → ⊥
      nowhere c = absurd (omega (arith, c.1))

      by : (on line ≡ []) ⊎ ((name : List ℕ) × (number : ℕ) × (pair_line_of line ≡ Given which name number)) → pair_line_of line ≡ Given which pair.name pair.number
      by (inl none) = absurd (nowhere (within [] none))
      by (inr s) = s.2 ∙ ap (λ (p : Pair). Given which p.name p.number) (only pair (pair_given s.0 s.1) (within (pair_given s.0 s.1 ∷ []) (ap of s.2 ∙ gives s.0 s.1)))

  pub from-pair : (ls : List (List ℕ)) (pair : Pair) → Contains (flat_map on ls) pair → IsListed (word_of which) ls pair
  from-pair ls pair there =
      let from = from-flat_map on ls pair there in
      (from.item, from.among, subst (λ (l : PairLine). IsToldBy from.item l) (given_by from.item pair from.gives) (line-told from.item))

  pub to-pair : (ls : List (List ℕ)) (pair : Pair) → IsListed (word_of which) ls pair → Contains (flat_map on ls) pair
  to-pair ls pair listed =
      let is = ap of (given-read which listed.0 pair.name pair.number listed.2) ∙ gives pair.name pair.number in
      in-flat_map on ls listed.0 pair listed.1 (subst (λ (xs : List Pair). Contains xs pair) (sym is) (zero, omega arith, refl))

  -- a new pin, in the words of the lines before it
  pub is-new : (before : List (List ℕ)) (line name : List ℕ) (number : ℕ) → GivesPair (word_of which) line name number → is_new_pin (flat_map on before) name number ≡ true → IsNewPin (word_of which) before line
  is-new before line name number told new =
      let pairs = flat_map on before in
      let both = and_parts (not (list_any (λ (p : Pair). number == p.number) pairs)) (not (is_some (number_of pairs name))) new in
      record {
        name = name;
        number = number;
        gives = told;
        new_name = λ earlier other there named.
            true≢false (sym (has-number pairs name other (to-pair before (pair_given name other) (earlier, there, named))) ∙ not-true (is_some (number_of pairs name)) both.1);
        new_number = λ earlier other there named.
            let it = to-pair before (pair_given other number) (earlier, there, named) in
            true≢false (sym (list_any-from_Any (λ (p : Pair). number == p.number) pairs (it.0, pair_given other number, it.1, it.2, eq-eqb number number refl)) ∙ not-true (list_any (λ (p : Pair). number == p.number) pairs) both.0);
      }

  free-number : (before : List (List ℕ)) (line : List ℕ) → (new : IsNewPin (word_of which) before line) → not (list_any (λ (p : Pair). new.number == p.number) (flat_map on before)) ≡ true
  free-number before line new = elim (cases_Bool (list_any (λ (p : Pair). new.number == p.number) (flat_map on before))) [
    | inl it ↦
        let any = Any-from_list_any (λ (p : Pair). new.number == p.number) (flat_map on before) it in
        let listed = from-pair before any.1 (any.0, any.2, any.3) in
        absurd (new.new_number listed.0 any.1.name listed.1 (subst (λ (v : ℕ). GivesPair (word_of which) listed.0 any.1.name v) (sym (eqb-true new.number any.1.number any.4)) listed.2))
    | inr none ↦ ap not none
  ]

  free-name : (before : List (List ℕ)) (line : List ℕ) → (new : IsNewPin (word_of which) before line) → not (is_some (number_of (flat_map on before) new.name)) ≡ true
  free-name before line new = elim (cases_Bool (is_some (number_of (flat_map on before) new.name))) [
    | inl it ↦
        let had = numbered (flat_map on before) new.name it in
        let listed = from-pair before (pair_given new.name had.0) had.1 in
        absurd (new.new_name listed.0 had.0 listed.1 listed.2)
    | inr none ↦ ap not none
  ]

  pub new-is : (before : List (List ℕ)) (line : List ℕ) → (new : IsNewPin (word_of which) before line) → is_new_pin (flat_map on before) new.name new.number ≡ true
  new-is before line new =
      and_from (not (list_any (λ (p : Pair). new.number == p.number) (flat_map on before))) (not (is_some (number_of (flat_map on before) new.name))) (free-number before line new) (free-name before line new)

-- ---- which line may stand

passes : (before : List (List ℕ)) (line : List ℕ) → pins_fault before line ≡ None → MayStand before line
passes before line h = elim (cases_Bool (nat_lt (length before) 1048576)) [
  | inl few ↦ elim (cases_Bool (may_stand (pins_on before) (pair_line_of line))) [
    | inl good ↦ (ltb-true (length before) 1048576 few, by (pair_line_of line) (line-told line) good)
    | inr bad ↦ let h' = rw (few, bad) at h in absurd (cc)
  ]
  | inr many ↦ let h' = rw many at h in absurd (cc)
]
  where
    by : (l : PairLine) → IsToldBy line l → may_stand (pins_on before) l ≡ true → SaysNothing line ⊎ IsNewPin (codes "user ") before line ⊎ IsNewPin (codes "group ") before line
    by Skipped told good = inl (says-nothing line told)
    by Wrong told good = absurd (false≢true good)
    by (Given User name number) told good = inr (inl (is-new User user_pair (λ n v. refl) other_than_users before line name number told good))
    by (Given Group name number) told good = inr (inr (is-new Group group_pair (λ n v. refl) other_than_groups before line name number told good))

stands : (before : List (List ℕ)) (line : List ℕ) → MayStand before line → may_stand (pins_on before) (pair_line_of line) ≡ true
stands before line (few, inl nothing) = ap (may_stand (pins_on before)) (skipped-read line (nothing-said line nothing))
stands before line (few, inr (inl new)) =
    ap (may_stand (pins_on before)) (given-read User line new.name new.number new.gives) ∙ new-is User user_pair (λ n v. refl) other_than_users before line new
stands before line (few, inr (inr new)) =
    ap (may_stand (pins_on before)) (given-read Group line new.name new.number new.gives) ∙ new-is Group group_pair (λ n v. refl) other_than_groups before line new

abbrev IsAt : PinsFault → List (List ℕ) → List ℕ → Type 0
IsAt f before line = f ≡ BadPins (line_number (length before))

fails : (before : List (List ℕ)) (line : List ℕ) (f : PinsFault) → pins_fault before line ≡ Some f → IsAt f before line × (¬ MayStand before line)
fails before line f h = elim (cases_Bool (nat_lt (length before) 1048576 && may_stand (pins_on before) (pair_line_of line))) [
  | inl good ↦ let h' = rw good at h in absurd (cc)
  | inr bad ↦
      let h' = rw bad at h in (
        sym (same_Some (BadPins (line_number (length before))) f h'),
        λ may. true≢false (sym (and_from _ _ (lt-ltb (length before) 1048576 may.0) (stands before line may)) ∙ bad),
      )
]

-- ---- the laws

pub accepted_pins_may_stand : AcceptedPinsMayStand
unfolding pins_of
accepted_pins_may_stand text pins is =
    let ok = unless_ok (first_fault pins_fault [] (lines text)) (pins_on (lines text)) pins is in
    no-bad MayStand pins_fault IsAt passes fails (lines text) ok.0

-- the lines before a line that is there
one-before : (ls : List (List ℕ)) (k : ℕ) (line : List ℕ) → slice_get ls (suc k) ≡ Some line → (l : List ℕ) × (slice_get ls k ≡ Some l)
one-before [] k line e = absurd (cc)
one-before (l ∷ ls) zero line e = (l, refl)
one-before (l ∷ ls) (suc k) line e = one-before ls k line e

few-before : (ls : List (List ℕ)) (before : ℕ) (line : List ℕ) → slice_get ls before ≡ Some line → AllMayStand MayStand ls before → before ≤ 1048576
few-before ls zero line e good = omega arith
few-before ls (suc k) line e good =
    let one = one-before ls k line e in
    let few = (good k one.0 (omega arith) one.1).0 in
    let size = front-size ls k one.0 one.1 in
    omega (arith, few, size)

counted : (ls : List (List ℕ)) (fault : PinsFault) → (before : ℕ) × (bad : IsFirstBad MayStand ls before) × IsAt fault (take before ls) bad.item → (before : ℕ) × (fault ≡ BadPins (before + 1)) × IsFirstBad MayStand ls before
counted ls fault (before, bad, told) =
    let few = few-before ls before bad.item bad.there bad.good in
    let size = front-size ls before bad.item bad.there in
    (before, told ∙ ap BadPins (omega (arith, few, size)), bad)

pub first_bad_pin_is_told : FirstBadPinIsTold
unfolding pins_of
first_bad_pin_is_told text fault is =
    counted (lines text) fault (first-bad MayStand pins_fault IsAt passes fails (lines text) fault (faulty (first_fault pins_fault [] (lines text)) (pins_on (lines text)) fault is))

pub pins_are_listed : PinsAreListed
unfolding pins_of
pins_are_listed text pins pair is =
    let ls = lines text in
    let ok = unless_ok (first_fault pins_fault [] ls) (pins_on ls) pins is in
    subst (λ (p : PinPairs). (Contains p.users pair ↔ IsListed (codes "user ") ls pair) × (Contains p.groups pair ↔ IsListed (codes "group ") ls pair)) ok.1 (
      (from-pair User user_pair (λ n v. refl) other_than_users ls pair, to-pair User user_pair (λ n v. refl) other_than_users ls pair),
      (from-pair Group group_pair (λ n v. refl) other_than_groups ls pair, to-pair Group group_pair (λ n v. refl) other_than_groups ls pair),
    )
