-- Which names and which numbers a keep text lists, and whether numbers without an account stay.
use Rattle.std.proofs.Common.{◌≡◌, ◌≤◌, ℕ, zero, suc, Bool, true, false, cond, List, [], ◌∷◌, ◌++◌, Option, Some, None, Ok, refl, sym, ap, ◌∙◌, subst, append_assoc, arith, drop, inl, inr, bytes_eq}
use Rattle.std.specs.Prelude.{◌⊎◌, ◌↔◌, if◌then◌else◌, nat_le, codes}
use Rattle.std.specs.List.{Contains, flat_map, list_any}
use Rattle.std.proofs.lemmas.Bool.{and_from, and_parts, le-leb, leb-true, true≢false}
use Rattle.std.proofs.lemmas.List.Folds.{Any-from_list_any, list_any-from_Any}
use Rattle.std.proofs.lemmas.Slice.Eq.{bytes_eq-Decides}
use Rattle.idtext.specs.First.{first_fault}
use Rattle.idtext.specs.Names.{is_lawful_name, is_skipped}
use Rattle.idtext.specs.Numbers.{id_of}
use Rattle.idtext.specs.Pieces.{begins_with, lines as lines_of}
use Rattle.idtext.specs.Spaces.{cut_at_last_space}
use Rattle.idtext.proofs.FirstLemmas.{none_of_both}
use Rattle.idtext.proofs.OkLemmas.{unless_ok}
use Rattle.logindefs.specs.declared.ranges.IdRange.{IdRange}
use Rattle.logindefs.specs.Ranges.{in_range}
use Rattle.hosts_join.specs.RangeLists.{lies_in_some}
use Rattle.hosts_join.specs.declared.Which.{Which}
use Rattle.hosts_join.specs.declared.Which.TheVariants.{User, Group}
use Rattle.keep_text.specs.declared.keep_line.Said.{Said}
use Rattle.keep_text.specs.declared.keep_line.Said.TheVariants.{Name, Range, Unowned}
use Rattle.keep_text.specs.declared.keep_line.KeepLine.{KeepLine}
use Rattle.keep_text.specs.declared.keep_line.KeepLine.TheVariants.{Skipped, Wrong, Given}
use Rattle.keep_text.specs.declared.keep_text.KeepText.{KeepText}
use Rattle.keep_text.specs.KeepLaws.{ListsNumber, NamesAreListed, UnownedIsSaid}
use Rattle.keep_text.specs.KeepLines.{between, keep_line_of, named, ranged}
use Rattle.keep_text.specs.KeepTexts.{is_unowned, keep_fault, keep_of, kept_on, may_stand, name_said, of_groups, of_users, range_said}
use Rattle.keep_text.proofs.KeepBack.{passed}
use Rattle.hosts_join.proofs.LastSpace.{cut_before_id, cut_says}
use Rattle.hosts_join.proofs.MadeLists.{IsGiven, from-flat_map, in-flat_map}
use Rattle.hosts_join.proofs.PinLines.{word-and-rest}

-- ---- a line, by what it is read as

abbrev pub name_word : Which → List ℕ
name_word User = codes "user "
name_word Group = codes "group "

abbrev pub range_word : Which → List ℕ
range_word User = codes "users "
range_word Group = codes "groups "

abbrev pub unowned_line : Which → List ℕ
unowned_line User = codes "unowned users"
unowned_line Group = codes "unowned groups"

-- the ends of a range, as a line has them
pub record HasEnds (line word : List ℕ) (range : IdRange) : Type 0 where
  pub low : List ℕ
  pub high : List ℕ
  pub whole : line ≡ word ++ (low ++ 32 ∷ high)
  pub begins : id_of low ≡ Some range.low
  pub ends : id_of high ≡ Some range.high

abbrev pub IsSaidBy : List ℕ → Which → Said → Type 0
IsSaidBy line which (Name name) = line ≡ name_word which ++ name
IsSaidBy line which (Range range) = HasEnds line (range_word which) range
IsSaidBy line which Unowned = line ≡ unowned_line which

abbrev pub IsToldBy : List ℕ → KeepLine → Type 0
IsToldBy line Skipped = is_skipped line ≡ true
IsToldBy line Wrong = Unit {0}
IsToldBy line (Given which said) = IsSaidBy line which said

chosen : (line : List ℕ) (b : Bool) (x y : KeepLine) → (b ≡ true → IsToldBy line x) → IsToldBy line y → IsToldBy line (if b then x else y)
chosen line true x y p q = p refl
chosen line false x y p q = q

named-told : (line : List ℕ) (which : Which) (name : List ℕ) → line ≡ name_word which ++ name → IsToldBy line (named which name)
named-told line which name is = chosen line (is_lawful_name name) (Given which (Name name)) Wrong (λ lawful. is) tt

between-told : (line : List ℕ) (which : Which) (low high : List ℕ) → line ≡ range_word which ++ (low ++ 32 ∷ high) → (from to : Option ℕ) → id_of low ≡ from → id_of high ≡ to → IsToldBy line (between which from to)
between-told line which low high whole None to begins ends = tt
between-told line which low high whole (Some from) None begins ends = tt
between-told line which low high whole (Some from) (Some to) begins ends =
    chosen line (nat_le from to) (Given which (Range (record { low = from; high = to }))) Wrong (λ le. record { low = low; high = high; whole = whole; begins = begins; ends = ends }) tt

ranged-told : (line : List ℕ) (which : Which) (text : List ℕ) → line ≡ range_word which ++ text → (ends : Option (List ℕ × List ℕ)) → cut_at_last_space text ≡ ends → IsToldBy line (ranged which ends)
ranged-told line which text whole None cut = tt
ranged-told line which text whole (Some ends) cut =
    between-told line which ends.0 ends.1 (whole ∙ ap (λ t. range_word which ++ t) (cut_says text ends cut)) (id_of ends.0) (id_of ends.1) refl refl

pub line-told : (line : List ℕ) → IsToldBy line (keep_line_of line)
unfolding keep_line_of
line-told line =
    chosen line (is_skipped line) Skipped _ (λ b. b)
    (chosen line (begins_with (codes "user ") line) (named User (drop 5 line)) _ (λ b. named-told line User (drop 5 line) (word-and-rest (codes "user ") line b))
    (chosen line (begins_with (codes "group ") line) (named Group (drop 6 line)) _ (λ b. named-told line Group (drop 6 line) (word-and-rest (codes "group ") line b))
    (chosen line (begins_with (codes "users ") line) _ _ (λ b. ranged-told line _ (drop 6 line) (word-and-rest (codes "users ") line b) (cut_at_last_space (drop 6 line)) refl)
    (chosen line (begins_with (codes "groups ") line) _ _ (λ b. ranged-told line _ (drop 7 line) (word-and-rest (codes "groups ") line b) (cut_at_last_space (drop 7 line)) refl)
    (chosen line (bytes_eq line (codes "unowned users")) (Given User Unowned) _ (λ b. (bytes_eq-Decides line (codes "unowned users")).0 b)
    (chosen line (bytes_eq line (codes "unowned groups")) (Given Group Unowned) Wrong (λ b. (bytes_eq-Decides line (codes "unowned groups")).0 b) tt))))))

-- ---- the lines of a text that is taken

none_is_wrong : (lines before : List (List ℕ)) → first_fault keep_fault before lines ≡ None → (line : List ℕ) → Contains lines line → keep_line_of line ≡ Wrong → ⊥
unfolding first_fault
none_is_wrong [] before none line there wrong = absurd (omega (arith, there.1))
none_is_wrong (l ∷ lines) before none line (zero, lt, e) wrong =
    let both = none_of_both (keep_fault before l) (first_fault keep_fault (before ++ l ∷ []) lines) none in
    let good = passed (may_stand (kept_on before) (keep_line_of l)) _ both.0 in
    true≢false (sym good ∙ ap (may_stand (kept_on before)) (ap keep_line_of e ∙ wrong))
none_is_wrong (l ∷ lines) before none line (suc k, lt, e) wrong =
    let both = none_of_both (keep_fault before l) (first_fault keep_fault (before ++ l ∷ []) lines) none in
    none_is_wrong lines (before ++ l ∷ []) both.1 line (k, omega (arith, lt), e) wrong

given : (b : Bool) (x : KeepLine) → ((if b then x else Wrong) ≡ Wrong → ⊥) → (if b then x else Wrong) ≡ x
given true x differs = refl
given false x differs = absurd (differs refl)

-- how the lines are read
pub name_read : (which : Which) (name : List ℕ) → keep_line_of (name_word which ++ name) ≡ named which name
unfolding keep_line_of
name_read User name = refl
name_read Group name = refl

range_read : (which : Which) (numbers : List ℕ) → keep_line_of (range_word which ++ numbers) ≡ ranged which (cut_at_last_space numbers)
unfolding keep_line_of
range_read User numbers = refl
range_read Group numbers = refl

pub ends_read : (which : Which) (low high : List ℕ) (from to : ℕ) → id_of low ≡ Some from → id_of high ≡ Some to → from ≤ to → keep_line_of (range_word which ++ (low ++ 32 ∷ high)) ≡ Given which (Range (record { low = from; high = to }))
ends_read which low high from to begins ends le =
    range_read which (low ++ 32 ∷ high)
    ∙ ap (ranged which) (cut_before_id low high to ends)
    ∙ ap (λ o. between which o (id_of high)) begins
    ∙ ap (between which (Some from)) ends
    ∙ ap (λ b. cond b (Given which (Range (record { low = from; high = to }))) Wrong) (le-leb from to le)

pub unowned_read : (which : Which) → keep_line_of (unowned_line which) ≡ Given which Unowned
unfolding keep_line_of
unowned_read User = refl
unowned_read Group = refl

-- ---- lines of another kind say nothing of this one

pub other_than_users : (line : KeepLine) → (of_users line ≡ []) ⊎ ((said : Said) × (line ≡ Given User said))
other_than_users Skipped = inl refl
other_than_users Wrong = inl refl
other_than_users (Given User said) = inr (said, refl)
other_than_users (Given Group said) = inl refl

pub other_than_groups : (line : KeepLine) → (of_groups line ≡ []) ⊎ ((said : Said) × (line ≡ Given Group said))
other_than_groups Skipped = inl refl
other_than_groups Wrong = inl refl
other_than_groups (Given User said) = inl refl
other_than_groups (Given Group said) = inr (said, refl)

-- ---- what is said of one kind

one_name : (said : Said) (name : List ℕ) → Contains (name_said said) name → said ≡ Name name
one_name (Name n) name (zero, lt, e) = ap Name e
one_name (Name n) name (suc k, lt, e) = absurd (omega (arith, lt))
one_name (Range range) name there = absurd (omega (arith, there.1))
one_name Unowned name there = absurd (omega (arith, there.1))

one_range : (said : Said) (range : IdRange) → Contains (range_said said) range → said ≡ Range range
one_range (Range r) range (zero, lt, e) = ap Range e
one_range (Range r) range (suc k, lt, e) = absurd (omega (arith, lt))
one_range (Name name) range there = absurd (omega (arith, there.1))
one_range Unowned range there = absurd (omega (arith, there.1))

-- a line lists the numbers of the range that it has the ends of
lists_number : (word : List ℕ) (lines : List (List ℕ)) (line : List ℕ) (range : IdRange) (number : ℕ) → HasEnds line word range → Contains lines line → in_range range number ≡ true → ListsNumber word lines number
lists_number word lines line range number told among within =
    let both = and_parts (nat_le range.low number) (nat_le number range.high) within in
    record {
      low = told.low;
      high = told.high;
      there = subst (λ (l : List ℕ). Contains lines l) (told.whole ∙ sym (append_assoc word told.low (32 ∷ told.high))) among;
      from = range.low;
      to = range.high;
      begins = told.begins;
      ends = told.ends;
      has = (leb-true range.low number both.0, leb-true number range.high both.1);
    }

one_unowned : (said : Said) → is_unowned said ≡ true → said ≡ Unowned
one_unowned Unowned is = refl
one_unowned (Name name) is = absurd (cc)
one_unowned (Range range) is = absurd (cc)

module _ (which : Which) (of : KeepLine → List Said) (gives : (said : Said) → of (Given which said) ≡ said ∷ []) (others : (line : KeepLine) → (of line ≡ []) ⊎ ((said : Said) × (line ≡ Given which said))) where
  abbrev on : List ℕ → List Said
  on line = of (keep_line_of line)

  only : (said other : Said) → Contains (other ∷ []) said → other ≡ said
  only said other (zero, lt, e) = e
  only said other (suc k, lt, e) = absurd (omega (arith, lt))

  said_by : (line : List ℕ) (said : Said) → Contains (on line) said → keep_line_of line ≡ Given which said
  said_by line said there = by (others (keep_line_of line))
    where
      within : (all : List Said) → on line ≡ all → Contains all said
      within all is = subst (λ (xs : List Said). Contains xs said) is there

      nowhere : Contains [] said → ⊥
      nowhere c = absurd (omega (arith, c.1))

      by : (on line ≡ []) ⊎ ((s : Said) × (keep_line_of line ≡ Given which s)) → keep_line_of line ≡ Given which said
      by (inl none) = absurd (nowhere (within [] none))
      by (inr s) = s.1 ∙ ap (λ (x : Said). Given which x) (only said s.0 (within (s.0 ∷ []) (ap of s.1 ∙ gives s.0)))

  says : (line : List ℕ) (said : Said) → keep_line_of line ≡ Given which said → Contains (on line) said
  says line said is = subst (λ (xs : List Said). Contains xs said) (sym (ap of is ∙ gives said)) (zero, omega arith, refl)

  -- a line that lists the number, by the range that it is read as
  pub ranges_are : (lines : List (List ℕ)) (number : ℕ) → (lies_in_some (flat_map range_said (flat_map on lines)) number ≡ true) ↔ ListsNumber (range_word which) lines number
  ranges_are lines number = (forth, back)
    where
      by_line : (range : IdRange) → in_range range number ≡ true → IsGiven on lines (Range range) → ListsNumber (range_word which) lines number
      by_line range within line =
          lists_number (range_word which) lines line.item range number (subst (λ (k : KeepLine). IsToldBy line.item k) (said_by line.item (Range range) line.gives) (line-told line.item)) line.among within

      by_range : (range : IdRange) → in_range range number ≡ true → IsGiven range_said (flat_map on lines) range → ListsNumber (range_word which) lines number
      by_range range within from =
          by_line range within (from-flat_map on lines (Range range) (subst (λ (s : Said). Contains (flat_map on lines) s) (one_range from.item range from.gives) from.among))

      forth : lies_in_some (flat_map range_said (flat_map on lines)) number ≡ true → ListsNumber (range_word which) lines number
      forth is =
          let any = Any-from_list_any (λ (r : IdRange). in_range r number) (flat_map range_said (flat_map on lines)) is in
          by_range any.1 any.4 (from-flat_map range_said (flat_map on lines) any.1 (any.0, any.2, any.3))

      back : ListsNumber (range_word which) lines number → lies_in_some (flat_map range_said (flat_map on lines)) number ≡ true
      back l =
          let range : IdRange = record { low = l.from; high = l.to } in
          let line = range_word which ++ (l.low ++ 32 ∷ l.high) in
          let le : l.from ≤ l.to = (let low = l.has.0 in let high = l.has.1 in omega (arith, low, high)) in
          let there' = subst (λ (l : List ℕ). Contains lines l) (append_assoc (range_word which) l.low (32 ∷ l.high)) l.there in
          let said = in-flat_map on lines line (Range range) there' (says line (Range range) (ends_read which l.low l.high l.from l.to l.begins l.ends le)) in
          let among = in-flat_map range_said (flat_map on lines) (Range range) range said (zero, omega arith, refl) in
          list_any-from_Any (λ (r : IdRange). in_range r number) (flat_map range_said (flat_map on lines)) (among.0, range, among.1, among.2, and_from (nat_le l.from number) (nat_le number l.to) (le-leb l.from number l.has.0) (le-leb number l.to l.has.1))

  module _ (lines : List (List ℕ)) where
    -- the line that says it is there
    there : (said : Said) (line : List ℕ) → Contains (flat_map on lines) said → ((l : List ℕ) → IsSaidBy l which said → l ≡ line) → Contains lines line
    there said line among is =
        let from = from-flat_map on lines said among in
        let read = said_by from.item said from.gives in
        let told = subst (λ (k : KeepLine). IsToldBy from.item k) read (line-told from.item) in
        subst (λ (l : List ℕ). Contains lines l) (is from.item told) from.among

    pub from-name : (name : List ℕ) → Contains (flat_map name_said (flat_map on lines)) name → Contains lines (name_word which ++ name)
    from-name name among =
        let from = from-flat_map name_said (flat_map on lines) name among in
        let said = subst (λ (s : Said). Contains (flat_map on lines) s) (one_name from.item name from.gives) from.among in
        there (Name name) (name_word which ++ name) said (λ l told. told)

    pub to-name : (name : List ℕ) → named which name ≡ Given which (Name name) → Contains lines (name_word which ++ name) → Contains (flat_map name_said (flat_map on lines)) name
    to-name name lawful line =
        let said = says (name_word which ++ name) (Name name) (name_read which name ∙ lawful) in
        in-flat_map name_said (flat_map on lines) (Name name) name (in-flat_map on lines (name_word which ++ name) (Name name) line said) (zero, omega arith, refl)

    pub names_are : first_fault keep_fault [] lines ≡ None → (name : List ℕ) → Contains (flat_map name_said (flat_map on lines)) name ↔ Contains lines (name_word which ++ name)
    names_are fine name = (from-name name, back)
      where
        back : Contains lines (name_word which ++ name) → Contains (flat_map name_said (flat_map on lines)) name
        back line =
            to-name name (given (is_lawful_name name) (Given which (Name name)) (λ wrong. none_is_wrong lines [] fine (name_word which ++ name) line (name_read which name ∙ wrong))) line

    pub unowned_is : (list_any is_unowned (flat_map on lines) ≡ true) ↔ Contains lines (unowned_line which)
    unowned_is = (forth, back)
      where
        forth : list_any is_unowned (flat_map on lines) ≡ true → Contains lines (unowned_line which)
        forth is =
            let any = Any-from_list_any is_unowned (flat_map on lines) is in
            let said = subst (λ (s : Said). Contains (flat_map on lines) s) (one_unowned any.1 any.4) (any.0, any.2, any.3) in
            there Unowned (unowned_line which) said (λ l told. told)

        back : Contains lines (unowned_line which) → list_any is_unowned (flat_map on lines) ≡ true
        back line =
            let among = in-flat_map on lines (unowned_line which) Unowned line (says (unowned_line which) Unowned (unowned_read which)) in
            list_any-from_Any is_unowned (flat_map on lines) (among.0, Unowned, among.1, among.2, refl)

-- ---- both kinds

pub names_are_listed : NamesAreListed
unfolding keep_of
names_are_listed text keep name is =
    let lines = lines_of text in
    let ok = unless_ok (first_fault keep_fault [] lines) (kept_on lines) keep is in
    subst (λ (k : KeepText). (Contains k.users.names name ↔ Contains lines (codes "user " ++ name)) × (Contains k.groups.names name ↔ Contains lines (codes "group " ++ name))) ok.1
    (names_are User of_users (λ said. refl) other_than_users lines ok.0 name, names_are Group of_groups (λ said. refl) other_than_groups lines ok.0 name)

pub unowned_is_said : UnownedIsSaid
unfolding keep_of
unowned_is_said text keep is =
    let lines = lines_of text in
    let ok = unless_ok (first_fault keep_fault [] lines) (kept_on lines) keep is in
    subst (λ (k : KeepText). ((k.users.unowned ≡ true) ↔ Contains lines (codes "unowned users")) × ((k.groups.unowned ≡ true) ↔ Contains lines (codes "unowned groups"))) ok.1
    (unowned_is User of_users (λ said. refl) other_than_users lines, unowned_is Group of_groups (λ said. refl) other_than_groups lines)

pub ranges_are_listed : (text : List ℕ) (keep : KeepText) (number : ℕ) → keep_of text ≡ Ok keep
    → ((lies_in_some keep.users.ranges number ≡ true) ↔ ListsNumber (range_word User) (lines_of text) number)
    × ((lies_in_some keep.groups.ranges number ≡ true) ↔ ListsNumber (range_word Group) (lines_of text) number)
unfolding keep_of
ranges_are_listed text keep number is =
    let lines = lines_of text in
    let ok = unless_ok (first_fault keep_fault [] lines) (kept_on lines) keep is in
    subst (λ (k : KeepText). ((lies_in_some k.users.ranges number ≡ true) ↔ ListsNumber (range_word User) lines number) × ((lies_in_some k.groups.ranges number ≡ true) ↔ ListsNumber (range_word Group) lines number)) ok.1
    (ranges_are User of_users (λ said. refl) other_than_users lines number, ranges_are Group of_groups (λ said. refl) other_than_groups lines number)
