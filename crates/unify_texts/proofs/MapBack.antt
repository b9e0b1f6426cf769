-- The map that is written reads back.
use Rattle.std.proofs.Common.{◌≡◌, ℕ, ◌^◌, ◌<◌, ◌≤◌, ◌==◌, ◌||◌, not, Bool, true, false, cond, List, [], ◌∷◌, ◌++◌, map, flat_map, decimal, Some, None, Ok, refl, sym, ap, ◌∙◌, append_assoc, append-nil, arith, inl, inr}
use Rattle.std.specs.Prelude.{is_some}
use Rattle.std.specs.Char.{digit_value}
use Rattle.std.specs.List.{list_any, AllByRecursion}
use Rattle.std.specs.Str.{bytes_eq}
use Rattle.std.specs.Str.Parse.{AllDigits}
use Rattle.std.proofs.lemmas.Bool.{cases_Bool, ne_eqb, and_parts, not-true}
use Rattle.std.proofs.lemmas.Fmt.{decimal_is_IsNumeral}
use Rattle.std.proofs.lemmas.List.Concat.{flat_map-append}
use Rattle.std.proofs.lemmas.List.Elements.{All-from_recursion}
use Rattle.std.proofs.lemmas.List.Splits.{slice_split_at}
use Rattle.idtext.specs.First.{first_fault, unless}
use Rattle.idtext.specs.Names.{is_lawful_name, is_separator}
use Rattle.idtext.specs.Pieces.{lines as lines_of, pieces}
use Rattle.idtext.specs.Spaces.{cut_at_last_space}
use Rattle.idtext.proofs.NumberLemmas.{decimal-back}
use Rattle.idtext.proofs.PieceLemmas.{lines-cut, lines-empty}
use Rattle.hosts_join.specs.declared.Which.{Which}
use Rattle.hosts_join.specs.declared.Which.TheVariants.{User, Group}
use Rattle.hosts_join.specs.declared.pair_lines.PairLine.TheVariants.{Given, Wrong}
use Rattle.hosts_join.specs.Accounts.{Pair}
use Rattle.hosts_join.specs.PairLines.{pair_line_of, cut_pair, named, user_pair, group_pair}
use Rattle.hosts_join.specs.Pairs.{number_of}
use Rattle.unify_texts.specs.declared.map_text.MapText.{MapText}
use Rattle.unify_texts.specs.Maps.{map_of, map_fault, numbering_of, is_good_after}
use Rattle.unify_texts.specs.WrittenMap.{map_line}
use Rattle.unify_texts.specs.Words.{which_word}

-- ---- a line

-- a line without its newline
abbrev pub bare : Which → Pair → List ℕ
bare kind p = which_word kind ++ 32 ∷ (p.name ++ 32 ∷ decimal p.number)

-- a name and a number that a line may have
abbrev pub IsPair : Pair → Type 0
IsPair p = (is_lawful_name p.name ≡ true) × (p.number ≤ 4294967294)

line_is : (kind : Which) (p : Pair) → map_line kind p ≡ bare kind p ++ 10 ∷ []
line_is kind p =
    ap (λ d. which_word kind ++ ((32 ∷ (p.name ++ 32 ∷ d)) ++ 10 ∷ [])) (append-nil (decimal p.number))
    ∙ sym (append_assoc (which_word kind) (32 ∷ (p.name ++ 32 ∷ decimal p.number)) (10 ∷ []))

-- none of the bytes is the one
abbrev pub Lacks : ℕ → List ℕ → Type 0
Lacks b bytes = AllByRecursion (λ c. (c == b) ≡ false) bytes

pub lacks-append : (b : ℕ) (xs ys : List ℕ) → Lacks b xs → Lacks b ys → Lacks b (xs ++ ys)
lacks-append b [] ys p q = q
lacks-append b (x ∷ xs) ys p q = (p.0, lacks-append b xs ys p.1 q)

-- a digit is no space and no newline
digits-lack : (b : ℕ) → 10 ≤ digit_value b → (ds : List ℕ) → AllDigits 10 ds → Lacks b ds
digits-lack b other [] all = tt
digits-lack b other (c ∷ cs) all = (ne_eqb c b (λ e. let low : digit_value b < 10 = rw (← e) all.0 in omega (arith, low, other)), digits-lack b other cs all.1)

pub decimal-lacks_64 : (b v : ℕ) → 10 ≤ digit_value b → v < 2 ^ 64 → Lacks b (decimal v)
decimal-lacks_64 b v other small = digits-lack b other (decimal v) (decimal_is_IsNumeral v small).0.1

pub decimal-lacks : (b v : ℕ) → 10 ≤ digit_value b → v ≤ 4294967294 → Lacks b (decimal v)
decimal-lacks b v other small = decimal-lacks_64 b v other (omega (arith, small))

name-lacks : (n : List ℕ) → list_any is_separator n ≡ false → Lacks 10 n
name-lacks [] none = tt
name-lacks (c ∷ cs) none = elim (cases_Bool (is_separator c)) [
  | inl t ↦ let e = rw t at none in absurd (cc)
  | inr f ↦ let e = rw f at none in (last (c == 44) (c == 58) (c == 10) (c == 0) f, name-lacks cs e)
]
  where
    last : (p q r s : Bool) → (((p || q) || r) || s) ≡ false → r ≡ false
    last true q r s e = absurd (cc)
    last false true r s e = absurd (cc)
    last false false true s e = absurd (cc)
    last false false false s e = refl

lawful-lacks : (n : List ℕ) → is_lawful_name n ≡ true → Lacks 10 n
lawful-lacks n lawful = name-lacks n (not-true (list_any is_separator n) (and_parts _ (not (list_any is_separator n)) lawful).1)

-- the last space
no_space : (ds : List ℕ) → Lacks 32 ds → cut_at_last_space ds ≡ None
unfolding cut_at_last_space
no_space [] none = refl
no_space (d ∷ ds) none = rw (no_space ds none.1, none.0) refl

cut_back : (n ds : List ℕ) → Lacks 32 ds → cut_at_last_space (n ++ 32 ∷ ds) ≡ Some (n, ds)
unfolding cut_at_last_space
cut_back [] ds none = rw (no_space ds none) refl
cut_back (b ∷ n) ds none = rw (cut_back n ds none) refl

cut_pair_back : (kind : Which) (p : Pair) → IsPair p → cut_pair kind (cut_at_last_space (p.name ++ 32 ∷ decimal p.number)) ≡ Given kind p.name p.number
cut_pair_back kind p is =
    ap (cut_pair kind) (cut_back p.name (decimal p.number) (decimal-lacks 32 p.number (omega arith) is.1))
    ∙ ap (named kind p.name) (decimal-back p.number is.1)
    ∙ ap (λ b. cond b (Given kind p.name p.number) Wrong) is.0

pub line_back : (kind : Which) (p : Pair) → IsPair p → pair_line_of (bare kind p) ≡ Given kind p.name p.number
unfolding pair_line_of
line_back User p is = cut_pair_back User p is
line_back Group p is = cut_pair_back Group p is

-- ---- the lines of a text

bare-lacks : (kind : Which) (p : Pair) → IsPair p → Lacks 10 (bare kind p)
bare-lacks kind p is = lacks-append 10 (which_word kind) (32 ∷ (p.name ++ 32 ∷ decimal p.number)) (word kind) (refl, lacks-append 10 p.name (32 ∷ decimal p.number) (lawful-lacks p.name is.0) (refl, decimal-lacks 10 p.number (omega arith) is.1))
  where
    word : (k : Which) → Lacks 10 (which_word k)
    word User = (refl, (refl, (refl, (refl, tt))))
    word Group = (refl, (refl, (refl, (refl, (refl, tt)))))

first_piece : (line rest : List ℕ) → Lacks 10 line → pieces 10 (line ++ 10 ∷ rest) ≡ line ∷ pieces 10 rest
unfolding pieces
first_piece line rest lacks = slice_split_at (λ b. b == 10) line 10 rest (All-from_recursion (λ b. (b == 10) ≡ false) line lacks) refl

pub one_line : (line rest : List ℕ) → Lacks 10 line → lines_of (line ++ 10 ∷ rest) ≡ line ∷ lines_of rest
one_line line rest lacks = lines-cut (line ++ 10 ∷ rest) line rest (first_piece line rest lacks)

text_lines : (kind : Which) (ps : List Pair) (rest : List ℕ) → AllByRecursion IsPair ps → lines_of (flat_map (map_line kind) ps ++ rest) ≡ map (bare kind) ps ++ lines_of rest
text_lines kind [] rest all = refl
text_lines kind (p ∷ ps) rest all =
    let more = flat_map (map_line kind) ps in
    ap (λ l. lines_of ((l ++ more) ++ rest)) (line_is kind p)
    ∙ ap lines_of (append_assoc (bare kind p ++ 10 ∷ []) more rest ∙ append_assoc (bare kind p) (10 ∷ []) (more ++ rest))
    ∙ one_line (bare kind p) (more ++ rest) (bare-lacks kind p all.0)
    ∙ ap (λ ls. bare kind p ∷ ls) (text_lines kind ps rest all.1)

-- ---- a map of such lines

abbrev pub have : Which → MapText → List Pair
have User map = map.users
have Group map = map.groups

-- a name that some pair has
abbrev pub listed : List ℕ → List Pair → Bool
listed n ps = list_any (λ q. bytes_eq n q.name) ps

pub listed-some : (n : List ℕ) (ps : List Pair) → is_some (number_of ps n) ≡ listed n ps
listed-some n [] = refl
listed-some n (p ∷ ps) = elim (cases_Bool (bytes_eq n p.name)) [ inl t ↦ rw t refl | inr f ↦ rw f (listed-some n ps) ]

-- no pair has the name of one before it
abbrev pub FreshAfter : List Pair → List Pair → Type 0
FreshAfter seen [] = Unit {0}
FreshAfter seen (p ∷ ps) = (listed p.name seen ≡ false) × FreshAfter (seen ++ p ∷ []) ps

pub have_more : (kind : Which) (before : List (List ℕ)) (p : Pair) → IsPair p → have kind (numbering_of (before ++ bare kind p ∷ [])) ≡ have kind (numbering_of before) ++ p ∷ []
have_more User before p is = flat_map-append (λ l. user_pair (pair_line_of l)) before (bare User p ∷ []) ∙ ap (λ q. flat_map (λ l. user_pair (pair_line_of l)) before ++ (user_pair q ++ [])) (line_back User p is)
have_more Group before p is = flat_map-append (λ l. group_pair (pair_line_of l)) before (bare Group p ∷ []) ∙ ap (λ q. flat_map (λ l. group_pair (pair_line_of l)) before ++ (group_pair q ++ [])) (line_back Group p is)

good_line : (kind : Which) (before : List (List ℕ)) (p : Pair) → IsPair p → listed p.name (have kind (numbering_of before)) ≡ false → map_fault before (bare kind p) ≡ None
good_line kind before p is fresh =
    let good : is_good_after (numbering_of before) (pair_line_of (bare kind p)) ≡ true = ap (is_good_after (numbering_of before)) (line_back kind p is) ∙ at kind (ap not (listed-some p.name (have kind (numbering_of before)) ∙ fresh)) in
    rw good refl
  where
    at : (k : Which) → not (is_some (number_of (have k (numbering_of before)) p.name)) ≡ true → is_good_after (numbering_of before) (Given k p.name p.number) ≡ true
    at User e = e
    at Group e = e

good_step : (before : List (List ℕ)) (line : List ℕ) (rest : List (List ℕ)) → map_fault before line ≡ None → first_fault map_fault before (line ∷ rest) ≡ first_fault map_fault (before ++ line ∷ []) rest
unfolding first_fault
good_step before line rest good = rw good refl

none_left : (before : List (List ℕ)) → first_fault map_fault before [] ≡ None
unfolding first_fault
none_left before = refl

pass : (kind : Which) (before : List (List ℕ)) (ps : List Pair) (rest : List (List ℕ)) → AllByRecursion IsPair ps → FreshAfter (have kind (numbering_of before)) ps → first_fault map_fault before (map (bare kind) ps ++ rest) ≡ first_fault map_fault (before ++ map (bare kind) ps) rest
pass kind before [] rest all fresh = ap (λ b. first_fault map_fault b rest) (sym (append-nil before))
pass kind before (p ∷ ps) rest all fresh =
    let fresh' : FreshAfter (have kind (numbering_of (before ++ bare kind p ∷ []))) ps = rw (have_more kind before p all.0) fresh.1 in
    good_step before (bare kind p) (map (bare kind) ps ++ rest) (good_line kind before p all.0 fresh.0)
    ∙ pass kind (before ++ bare kind p ∷ []) ps rest all.1 fresh'
    ∙ ap (λ b. first_fault map_fault b rest) (append_assoc before (bare kind p ∷ []) (map (bare kind) ps))

-- what the lines of one kind give of each
taken : (kind : Which) (ps : List Pair) → AllByRecursion IsPair ps → have kind (numbering_of (map (bare kind) ps)) ≡ ps
taken User [] all = refl
taken Group [] all = refl
taken User (p ∷ ps) all = ap (λ q. user_pair q ++ flat_map (λ l. user_pair (pair_line_of l)) (map (bare User) ps)) (line_back User p all.0) ∙ ap (λ qs. p ∷ qs) (taken User ps all.1)
taken Group (p ∷ ps) all = ap (λ q. group_pair q ++ flat_map (λ l. group_pair (pair_line_of l)) (map (bare Group) ps)) (line_back Group p all.0) ∙ ap (λ qs. p ∷ qs) (taken Group ps all.1)

pub no_groups : (ps : List Pair) → AllByRecursion IsPair ps → flat_map (λ l. group_pair (pair_line_of l)) (map (bare User) ps) ≡ []
no_groups [] all = refl
no_groups (p ∷ ps) all = ap (λ q. group_pair q ++ flat_map (λ l. group_pair (pair_line_of l)) (map (bare User) ps)) (line_back User p all.0) ∙ no_groups ps all.1

no_users : (ps : List Pair) → AllByRecursion IsPair ps → flat_map (λ l. user_pair (pair_line_of l)) (map (bare Group) ps) ≡ []
no_users [] all = refl
no_users (p ∷ ps) all = ap (λ q. user_pair q ++ flat_map (λ l. user_pair (pair_line_of l)) (map (bare Group) ps)) (line_back Group p all.0) ∙ no_users ps all.1

abbrev pub both : List Pair → List Pair → List (List ℕ)
both us gs = map (bare User) us ++ map (bare Group) gs

pub both_lines : (us gs : List Pair) → AllByRecursion IsPair us → AllByRecursion IsPair gs → lines_of (flat_map (map_line User) us ++ flat_map (map_line Group) gs) ≡ both us gs
both_lines us gs all_us all_gs =
    text_lines User us (flat_map (map_line Group) gs) all_us
    ∙ ap (λ ls. map (bare User) us ++ ls) (ap lines_of (sym (append-nil (flat_map (map_line Group) gs))) ∙ text_lines Group gs [] all_gs ∙ ap (λ ls. map (bare Group) gs ++ ls) lines-empty ∙ append-nil (map (bare Group) gs))

pub both_given : (us gs : List Pair) → AllByRecursion IsPair us → AllByRecursion IsPair gs → numbering_of (both us gs) ≡ record { users = us; groups = gs }
both_given us gs all_us all_gs =
    let u : flat_map (λ l. user_pair (pair_line_of l)) (both us gs) ≡ us = flat_map-append (λ l. user_pair (pair_line_of l)) (map (bare User) us) (map (bare Group) gs) ∙ ap (λ qs. flat_map (λ l. user_pair (pair_line_of l)) (map (bare User) us) ++ qs) (no_users gs all_gs) ∙ append-nil (flat_map (λ l. user_pair (pair_line_of l)) (map (bare User) us)) ∙ taken User us all_us in
    let g : flat_map (λ l. group_pair (pair_line_of l)) (both us gs) ≡ gs = flat_map-append (λ l. group_pair (pair_line_of l)) (map (bare User) us) (map (bare Group) gs) ∙ ap (λ qs. qs ++ flat_map (λ l. group_pair (pair_line_of l)) (map (bare Group) gs)) (no_groups us all_us) ∙ taken Group gs all_gs in
    λ i. record { users = u i; groups = g i }

module _ (us gs : List Pair) (all_us : AllByRecursion IsPair us) (all_gs : AllByRecursion IsPair gs) (fresh_us : FreshAfter [] us) (fresh_gs : FreshAfter [] gs) where
  all_good : first_fault map_fault [] (both us gs) ≡ None
  all_good =
      let fresh : FreshAfter (have Group (numbering_of (map (bare User) us))) gs = rw (no_groups us all_us) fresh_gs in
      pass User [] us (map (bare Group) gs) all_us fresh_us
      ∙ ap (first_fault map_fault (map (bare User) us)) (sym (append-nil (map (bare Group) gs)))
      ∙ pass Group (map (bare User) us) gs [] all_gs fresh
      ∙ none_left (map (bare User) us ++ map (bare Group) gs)

  pub read_back : map_of (flat_map (map_line User) us ++ flat_map (map_line Group) gs) ≡ Ok (record { users = us; groups = gs })
  unfolding map_of
  read_back = ap (λ ls. unless (first_fault map_fault [] ls) (numbering_of ls)) (both_lines us gs all_us all_gs) ∙ ap (λ f. unless f (numbering_of (both us gs))) all_good ∙ ap (λ t. Ok t) (both_given us gs all_us all_gs)
