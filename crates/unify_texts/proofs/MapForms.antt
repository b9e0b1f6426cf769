-- Which lines a map may have, and which numbers they give.
use Rattle.std.proofs.Common.{◌≡◌, ◌⊎◌, ℕ, true, not, List, [], ◌∷◌, length, Some, None, is_some, refl, sym, ap, ◌∙◌, subst, inl, inr}
use Rattle.std.specs.Prelude.{◌↔◌, codes}
use Rattle.std.specs.List.{Contains, flat_map}
use Rattle.std.proofs.lemmas.Bool.{cases_Bool, false≢true, not-true, true≢false}
use Rattle.std.proofs.lemmas.Option.{same_Some}
use Rattle.idtext.specs.Faults.{line_number}
use Rattle.idtext.specs.First.{first_fault}
use Rattle.idtext.specs.Pieces.{lines as lines_of}
use Rattle.idtext.proofs.OkLemmas.{unless_ok}
use Rattle.hosts_join.specs.Accounts.{Pair}
use Rattle.hosts_join.specs.PairLines.{group_pair, pair_line_of, user_pair}
use Rattle.hosts_join.specs.Pairs.{number_of}
use Rattle.hosts_join.specs.PinLines.{GivesPair, IsListed}
use Rattle.hosts_join.specs.declared.Which.{Which}
use Rattle.hosts_join.specs.declared.Which.TheVariants.{User, Group}
use Rattle.hosts_join.specs.declared.pair_lines.PairLine.{PairLine}
use Rattle.hosts_join.specs.declared.pair_lines.PairLine.TheVariants.{Skipped, Wrong, Given}
use Rattle.hosts_join.proofs.BadLines.{faulty, first-bad, front-size, no-bad, nothing-said, says-nothing}
use Rattle.hosts_join.proofs.PinLines.{IsToldBy, from-pair, given-read, has-number, line-told, numbered, other_than_groups, other_than_users, pair_given, skipped-read, to-pair, word_of}
use Rattle.unify_texts.specs.MapForms.{AcceptedMapsMayStand, FirstBadMapLineIsTold, IsNewName, MapsAreListed, MayStand}
use Rattle.unify_texts.specs.Maps.{is_good_after, map_fault, map_of, numbering_of}
use Rattle.unify_texts.specs.declared.fault.Fault.{Fault}
use Rattle.unify_texts.specs.declared.fault.Fault.TheVariants.{BadMap}
use Rattle.unify_texts.specs.declared.map_text.MapText.{MapText}

module _ (which : Which) (of : PairLine → List Pair) (gives : (name : List ℕ) (number : ℕ) → of (Given which name number) ≡ pair_given name number ∷ []) (others : (line : PairLine) → (of line ≡ []) ⊎ ((name : List ℕ) × (number : ℕ) × (line ≡ Given which name number))) where
  abbrev pairs_on : List (List ℕ) → List Pair
  pairs_on before = flat_map (λ line. of (pair_line_of line)) before

  is-new : (before : List (List ℕ)) (line name : List ℕ) (number : ℕ) → GivesPair (word_of which) line name number → not (is_some (number_of (pairs_on before) name)) ≡ true → IsNewName (word_of which) before line
  is-new before line name number told new = record {
    name = name;
    number = number;
    gives = told;
    new_name = λ earlier other there named.
        true≢false (sym (has-number (pairs_on before) name other (to-pair which of gives others before (pair_given name other) (earlier, there, named))) ∙ not-true (is_some (number_of (pairs_on before) name)) new);
  }

  new-is : (before : List (List ℕ)) (line : List ℕ) → (new : IsNewName (word_of which) before line) → not (is_some (number_of (pairs_on before) new.name)) ≡ true
  new-is before line new = elim (cases_Bool (is_some (number_of (pairs_on before) new.name))) [
    | inl it ↦
        let had = numbered (pairs_on before) new.name it in
        let listed = from-pair which of gives others before (pair_given new.name had.0) had.1 in
        absurd (new.new_name listed.0 had.0 listed.1 listed.2)
    | inr none ↦ ap not none
  ]

-- ---- which line may stand

of-read : (before : List (List ℕ)) (line : List ℕ) (read : PairLine) → IsToldBy line read → is_good_after (numbering_of before) read ≡ true → MayStand before line
of-read before line Skipped told good = inl (says-nothing line told)
of-read before line Wrong told good = absurd (false≢true good)
of-read before line (Given User name number) told good = inr (inl (is-new User user_pair (λ n v. refl) other_than_users before line name number told good))
of-read before line (Given Group name number) told good = inr (inr (is-new Group group_pair (λ n v. refl) other_than_groups before line name number told good))

passes : (before : List (List ℕ)) (line : List ℕ) → map_fault before line ≡ None → MayStand before line
passes before line h = elim (cases_Bool (is_good_after (numbering_of before) (pair_line_of line))) [
  | inl good ↦ of-read before line (pair_line_of line) (line-told line) good
  | inr bad ↦ let h' = rw bad at h in absurd (cc)
]

stands : (before : List (List ℕ)) (line : List ℕ) → MayStand before line → is_good_after (numbering_of before) (pair_line_of line) ≡ true
stands before line (inl nothing) = ap (is_good_after (numbering_of before)) (skipped-read line (nothing-said line nothing))
stands before line (inr (inl new)) =
    ap (is_good_after (numbering_of before)) (given-read User line new.name new.number new.gives) ∙ new-is User user_pair (λ n v. refl) other_than_users before line new
stands before line (inr (inr new)) =
    ap (is_good_after (numbering_of before)) (given-read Group line new.name new.number new.gives) ∙ new-is Group group_pair (λ n v. refl) other_than_groups before line new

abbrev IsAt : Fault → List (List ℕ) → List ℕ → Type 0
IsAt f before line = f ≡ BadMap (line_number (length before))

fails : (before : List (List ℕ)) (line : List ℕ) (f : Fault) → map_fault before line ≡ Some f → IsAt f before line × (¬ MayStand before line)
fails before line f h = elim (cases_Bool (is_good_after (numbering_of before) (pair_line_of line))) [
  | inl good ↦ let h' = rw good at h in absurd (cc)
  | inr bad ↦
      let h' = rw bad at h in
      (sym (same_Some (BadMap (line_number (length before))) f h'), λ may. true≢false (sym (stands before line may) ∙ bad))
]

-- ---- the laws

pub accepted_maps_may_stand : AcceptedMapsMayStand
unfolding map_of
accepted_maps_may_stand text map is =
    let ok = unless_ok (first_fault map_fault [] (lines_of text)) (numbering_of (lines_of text)) map is in
    no-bad MayStand map_fault IsAt passes fails (lines_of text) ok.0

pub first_bad_map_line_is_told : FirstBadMapLineIsTold
unfolding map_of
first_bad_map_line_is_told text fault is =
    let lines = lines_of text in
    let found = first-bad MayStand map_fault IsAt passes fails lines fault (faulty (first_fault map_fault [] lines) (numbering_of lines) fault is) in
    (found.0, found.2 ∙ ap (λ n. BadMap (line_number n)) (front-size lines found.0 found.1.item found.1.there), found.1)

pub maps_are_listed : MapsAreListed
unfolding map_of
maps_are_listed text map pair is =
    let lines = lines_of text in
    let ok = unless_ok (first_fault map_fault [] lines) (numbering_of lines) map is in
    subst (λ (m : MapText). (Contains m.users pair ↔ IsListed (codes "user ") lines pair) × (Contains m.groups pair ↔ IsListed (codes "group ") lines pair)) ok.1 (
      (from-pair User user_pair (λ n v. refl) other_than_users lines pair, to-pair User user_pair (λ n v. refl) other_than_users lines pair),
      (from-pair Group group_pair (λ n v. refl) other_than_groups lines pair, to-pair Group group_pair (λ n v. refl) other_than_groups lines pair),
    )
