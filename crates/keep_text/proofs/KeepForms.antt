-- Which lines a keep text may have.
use Rattle.std.proofs.Common.{◌≡◌, ◌≤◌, ◌⊎◌, ℕ, Bool, true, cond, not, List, [], ◌∷◌, ◌++◌, length, Some, None, refl, sym, ap, ◌∙◌, subst, inl, inr, bytes_eq}
use Rattle.std.specs.List.{Contains, flat_map, list_any}
use Rattle.std.proofs.lemmas.Bool.{cases_Bool, not-true, true≢false}
use Rattle.std.proofs.lemmas.List.Folds.{Any-from_list_any, list_any-from_Any}
use Rattle.std.proofs.lemmas.Option.{same_Some}
use Rattle.std.proofs.lemmas.Slice.Eq.{bytes_eq-Decides}
use Rattle.idtext.specs.Faults.{line_number}
use Rattle.idtext.specs.First.{first_fault}
use Rattle.idtext.specs.Names.{is_lawful_name, is_skipped}
use Rattle.idtext.specs.Pieces.{lines as lines_of}
use Rattle.idtext.proofs.OkLemmas.{unless_ok}
use Rattle.logindefs.specs.declared.ranges.IdRange.{IdRange}
use Rattle.hosts_join.specs.declared.Which.{Which}
use Rattle.hosts_join.specs.declared.Which.TheVariants.{User, Group}
use Rattle.hosts_join.proofs.BadLines.{faulty, first-bad, front-size, no-bad, nothing-said, says-nothing}
use Rattle.keep_text.specs.declared.keep_line.Said.{Said}
use Rattle.keep_text.specs.declared.keep_line.Said.TheVariants.{Name, Range, Unowned}
use Rattle.keep_text.specs.declared.keep_line.KeepLine.{KeepLine}
use Rattle.keep_text.specs.declared.keep_line.KeepLine.TheVariants.{Skipped, Wrong, Given}
use Rattle.keep_text.specs.declared.keep_text.KeepFault.{KeepFault}
use Rattle.keep_text.specs.declared.keep_text.KeepFault.TheVariants.{BadKeep}
use Rattle.keep_text.specs.KeepForms.{AcceptedLinesMayStand, FirstBadLineIsTold, ListsRange, MayStand, StandsOnce}
use Rattle.keep_text.specs.KeepLines.{keep_line_of, named}
use Rattle.keep_text.specs.KeepTexts.{is_unowned, keep_fault, keep_of, kept_on, may_stand, name_said, of_groups, of_users}
use Rattle.keep_text.proofs.KeepBack.{IsSoundLine, line-sound}
use Rattle.keep_text.proofs.KeepListed.{HasEnds, IsToldBy, ends_read, from-name, line-told, name_read, name_word, other_than_groups, other_than_users, range_word, to-name, unowned_is, unowned_line, unowned_read}

-- ---- names and `unowned`, by the lines before

lawful-named : (which : Which) (name : List ℕ) → is_lawful_name name ≡ true → named which name ≡ Given which (Name name)
lawful-named which name lawful = ap (λ b. cond b (Given which (Name name)) Wrong) lawful

abbrev names_among : (KeepLine → List Said) → List (List ℕ) → List (List ℕ)
names_among of before = flat_map name_said (flat_map (λ line. of (keep_line_of line)) before)

abbrev unowned_among : (KeepLine → List Said) → List (List ℕ) → Bool
unowned_among of before = list_any is_unowned (flat_map (λ line. of (keep_line_of line)) before)

module _ (which : Which) (of : KeepLine → List Said) (gives : (said : Said) → of (Given which said) ≡ said ∷ []) (others : (line : KeepLine) → (of line ≡ []) ⊎ ((said : Said) × (line ≡ Given which said))) where
  no-earlier : (before : List (List ℕ)) (line name : List ℕ) → is_lawful_name name ≡ true → line ≡ name_word which ++ name → not (list_any (bytes_eq name) (names_among of before)) ≡ true → ¬ Contains before line
  no-earlier before line name lawful is new there =
      let among = to-name which of gives others before name (lawful-named which name lawful) (subst (λ (l : List ℕ). Contains before l) is there) in
      true≢false (sym (list_any-from_Any (bytes_eq name) (names_among of before) (among.0, name, among.1, among.2, (bytes_eq-Decides name name).1 refl)) ∙ not-true (list_any (bytes_eq name) (names_among of before)) new)

  new-name : (before : List (List ℕ)) (line name : List ℕ) → line ≡ name_word which ++ name → ¬ Contains before line → not (list_any (bytes_eq name) (names_among of before)) ≡ true
  new-name before line name is new = elim (cases_Bool (list_any (bytes_eq name) (names_among of before))) [
    | inl it ↦
        let any = Any-from_list_any (bytes_eq name) (names_among of before) it in
        let same = (bytes_eq-Decides name any.1).0 any.4 in
        let there = from-name which of gives others before name (subst (λ (n : List ℕ). Contains (names_among of before) n) (sym same) (any.0, any.2, any.3)) in
        absurd (new (subst (λ (l : List ℕ). Contains before l) (sym is) there))
    | inr none ↦ ap not none
  ]

  no-unowned : (before : List (List ℕ)) (line : List ℕ) → line ≡ unowned_line which → not (unowned_among of before) ≡ true → ¬ Contains before line
  no-unowned before line is new there =
      true≢false (sym ((unowned_is which of gives others before).1 (subst (λ (l : List ℕ). Contains before l) is there)) ∙ not-true (unowned_among of before) new)

  new-unowned : (before : List (List ℕ)) (line : List ℕ) → line ≡ unowned_line which → ¬ Contains before line → not (unowned_among of before) ≡ true
  new-unowned before line is new = elim (cases_Bool (unowned_among of before)) [
    | inl it ↦ absurd (new (subst (λ (l : List ℕ). Contains before l) (sym is) ((unowned_is which of gives others before).0 it)))
    | inr none ↦ ap not none
  ]

-- ---- which line may stand

lists : (line : List ℕ) (which : Which) (range : IdRange) → HasEnds line (range_word which) range → range.low ≤ range.high → ListsRange (range_word which) line
lists line which range has le = record {
  low = has.low;
  high = has.high;
  whole = has.whole;
  from = range.low;
  to = range.high;
  begins = has.begins;
  ends = has.ends;
  in_order = le;
}

of-read : (before : List (List ℕ)) (line : List ℕ) (read : KeepLine) → IsToldBy line read → IsSoundLine read → may_stand (kept_on before) read ≡ true → MayStand before line
of-read before line Skipped told sound good = inl (says-nothing line told)
of-read before line Wrong told sound good = absurd (true≢false (sym good))
of-read before line (Given User (Range range)) told sound good = inr (inl (lists line User range told sound.0))
of-read before line (Given Group (Range range)) told sound good = inr (inr (inl (lists line Group range told sound.0)))
of-read before line (Given User (Name name)) told sound good =
    inr (inr (inr (inl (name, sound, told), no-earlier User of_users (λ said. refl) other_than_users before line name sound told good)))
of-read before line (Given Group (Name name)) told sound good =
    inr (inr (inr (inr (inl (name, sound, told)), no-earlier Group of_groups (λ said. refl) other_than_groups before line name sound told good)))
of-read before line (Given User Unowned) told sound good =
    inr (inr (inr (inr (inr (inl told)), no-unowned User of_users (λ said. refl) other_than_users before line told good)))
of-read before line (Given Group Unowned) told sound good =
    inr (inr (inr (inr (inr (inr told)), no-unowned Group of_groups (λ said. refl) other_than_groups before line told good)))

passes : (before : List (List ℕ)) (line : List ℕ) → keep_fault before line ≡ None → MayStand before line
passes before line h = elim (cases_Bool (may_stand (kept_on before) (keep_line_of line))) [
  | inl good ↦ of-read before line (keep_line_of line) (line-told line) (line-sound line) good
  | inr bad ↦ let h' = rw bad at h in absurd (cc)
]

skipped-read : (line : List ℕ) → is_skipped line ≡ true → keep_line_of line ≡ Skipped
unfolding keep_line_of
skipped-read line h = rw h refl

range-read : (which : Which) (line : List ℕ) → (r : ListsRange (range_word which) line) → keep_line_of line ≡ Given which (Range (record { low = r.from; high = r.to }))
range-read which line r = ap keep_line_of r.whole ∙ ends_read which r.low r.high r.from r.to r.begins r.ends r.in_order

name-read : (which : Which) (line name : List ℕ) → is_lawful_name name ≡ true → line ≡ name_word which ++ name → keep_line_of line ≡ Given which (Name name)
name-read which line name lawful is = ap keep_line_of is ∙ name_read which name ∙ lawful-named which name lawful

unowned-read : (which : Which) (line : List ℕ) → line ≡ unowned_line which → keep_line_of line ≡ Given which Unowned
unowned-read which line is = ap keep_line_of is ∙ unowned_read which

once-stands : (before : List (List ℕ)) (line : List ℕ) → StandsOnce line → ¬ Contains before line → may_stand (kept_on before) (keep_line_of line) ≡ true
once-stands before line (inl user) new =
    ap (may_stand (kept_on before)) (name-read User line user.0 user.1 user.2) ∙ new-name User of_users (λ said. refl) other_than_users before line user.0 user.2 new
once-stands before line (inr (inl group)) new =
    ap (may_stand (kept_on before)) (name-read Group line group.0 group.1 group.2) ∙ new-name Group of_groups (λ said. refl) other_than_groups before line group.0 group.2 new
once-stands before line (inr (inr (inl users))) new =
    ap (may_stand (kept_on before)) (unowned-read User line users) ∙ new-unowned User of_users (λ said. refl) other_than_users before line users new
once-stands before line (inr (inr (inr groups))) new =
    ap (may_stand (kept_on before)) (unowned-read Group line groups) ∙ new-unowned Group of_groups (λ said. refl) other_than_groups before line groups new

stands : (before : List (List ℕ)) (line : List ℕ) → MayStand before line → may_stand (kept_on before) (keep_line_of line) ≡ true
stands before line (inl nothing) = ap (may_stand (kept_on before)) (skipped-read line (nothing-said line nothing))
stands before line (inr (inl users)) = ap (may_stand (kept_on before)) (range-read User line users)
stands before line (inr (inr (inl groups))) = ap (may_stand (kept_on before)) (range-read Group line groups)
stands before line (inr (inr (inr (once, new)))) = once-stands before line once new

abbrev IsAt : KeepFault → List (List ℕ) → List ℕ → Type 0
IsAt f before line = f ≡ BadKeep (line_number (length before))

fails : (before : List (List ℕ)) (line : List ℕ) (f : KeepFault) → keep_fault before line ≡ Some f → IsAt f before line × (¬ MayStand before line)
fails before line f h = elim (cases_Bool (may_stand (kept_on before) (keep_line_of line))) [
  | inl good ↦ let h' = rw good at h in absurd (cc)
  | inr bad ↦
      let h' = rw bad at h in
      (sym (same_Some (BadKeep (line_number (length before))) f h'), λ may. true≢false (sym (stands before line may) ∙ bad))
]

-- ---- the laws

pub accepted_lines_may_stand : AcceptedLinesMayStand
unfolding keep_of
accepted_lines_may_stand text keep is =
    let ok = unless_ok (first_fault keep_fault [] (lines_of text)) (kept_on (lines_of text)) keep is in
    no-bad MayStand keep_fault IsAt passes fails (lines_of text) ok.0

pub first_bad_line_is_told : FirstBadLineIsTold
unfolding keep_of
first_bad_line_is_told text fault is =
    let lines = lines_of text in
    let found = first-bad MayStand keep_fault IsAt passes fails lines fault (faulty (first_fault keep_fault [] lines) (kept_on lines) fault is) in
    (found.0, found.2 ∙ ap (λ n. BadKeep (line_number n)) (front-size lines found.0 found.1.item found.1.there), found.1)
