-- Numbers and the first space after them.
use Rattle.std.proofs.Common.{◌≡◌, ◌<◌, ◌+◌, ◌==◌, ◌^◌, ℕ, Bool, true, false, ◌||◌, ◌&&◌, List, [], ◌∷◌, ◌++◌, drop, length, length-append, refl, sym, ◌∙◌, ap, subst, arith, append_assoc, suc, inl, inr}
use Rattle.std.specs.Prelude.{decimal}
use Rattle.idtext.specs.Pieces.{pieces}
use Rattle.reown_plan.specs.declared.plan.Owner.{Owner}
use Rattle.reown_plan.specs.PlanData.{PlanRecord}
use Rattle.reown_plan.specs.Spelling.{number, head, line, IsHostName, IsLawfulRecord}
use Rattle.hosts_join.specs.Checks.{is_host_byte}
use Rattle.std.specs.List.{list_any, list_all, filter, slice_split, join_with_byte}
use Rattle.std.specs.Char.{digit_value}
use Rattle.std.specs.Str.Parse.{AllDigits}
use Rattle.std.proofs.lemmas.Bool.Decides.{nat_tests}
use Rattle.std.proofs.lemmas.Bool.{cases_Bool, eq-eqb}
use Rattle.std.proofs.lemmas.List.Elements.{filter-append}
use Rattle.std.proofs.lemmas.List.Folds.{list_any-append}
use Rattle.std.proofs.lemmas.List.Splits.{join_with_byte-slice_split, length-slice_split}
use Rattle.std.proofs.lemmas.List.Sums.{length-filter}
use Rattle.std.proofs.lemmas.Fmt.{decimal_injective, decimal_is_IsNumeral}

or_right : (a b : Bool) → (a || b) ≡ false → b ≡ false
or_right true b h = absurd cc
or_right false b h = h

true_any : (a b : Bool) → a ≡ true → (a || b) ≡ false → ⊥
true_any true b t h = cc
true_any false b t h = cc

not_equal : (a b : ℕ) → (a ≡ b → ⊥) → (a == b) ≡ false
not_equal a b ne = grind (arith, nat_tests)

is_no_space : (c : ℕ) → digit_value c < 10 → (c == 32) ≡ false
is_no_space c h = not_equal c 32 (λ e. let big : digit_value 32 < 10 = subst (λ d. digit_value d < 10) e h in omega (arith, big))

-- where nothing is left of a text, it has no such byte
none_filtered : (q : ℕ → Bool) (xs : List ℕ) → length (filter q xs) ≡ 0 → list_any q xs ≡ false
none_filtered q [] e = refl
none_filtered q (x ∷ xs) e = elim (cases_Bool (q x)) [
  | inl t ↦ absurd (let some = rw t at e in omega arith)
  | inr f ↦ let rest = rw f at e in rw f (none_filtered q xs rest)
]

-- with no separator in it a text is one piece
pub cut_none : (byte : ℕ) (text : List ℕ) → pieces byte text ≡ text ∷ [] → list_any (λ b. b == byte) text ≡ false
unfolding pieces
cut_none byte text e =
    none_filtered (λ b. b == byte) text (omega (arith, length-filter (λ b. b == byte) text, length-slice_split (λ b. b == byte) text, ap length e))

joined : (byte : ℕ) (front : List ℕ) (parts : List (List ℕ)) → 0 < length parts → join_with_byte byte (front ∷ parts) ≡ front ++ byte ∷ join_with_byte byte parts
joined byte front [] h = absurd (omega arith)
joined byte front (part ∷ parts) h = refl

-- what stands before and after the first separator
pub cut_some : (byte : ℕ) (text front rest : List ℕ) → pieces byte text ≡ front ∷ pieces byte rest → (text ≡ front ++ byte ∷ rest) × (list_any (λ b. b == byte) front ≡ false)
unfolding pieces
cut_some byte text front rest e =
    let q : ℕ → Bool = λ b. b == byte in
    let some : 0 < length (slice_split q rest) = omega (arith, length-slice_split q rest) in
    let whole : text ≡ front ++ byte ∷ rest = sym (join_with_byte-slice_split byte text) ∙ ap (join_with_byte byte) e ∙ joined byte front (slice_split q rest) some ∙ ap (λ t. front ++ byte ∷ t) (join_with_byte-slice_split byte rest) in
    let here : length (filter q (byte ∷ rest)) ≡ suc (length (filter q rest)) = rw (eq-eqb byte byte refl) refl in
    let counted : length (filter q text) ≡ length (filter q front) + length (filter q (byte ∷ rest)) = ap (λ t. length (filter q t)) whole ∙ ap length (filter-append q front (byte ∷ rest)) ∙ length-append (filter q front) (filter q (byte ∷ rest)) in
    (whole, none_filtered q front (omega (arith, counted, here, ap length e, length-slice_split q text, length-slice_split q rest, length-filter q text, length-filter q rest)))

has_byte : (byte : ℕ) (text front rest : List ℕ) → text ≡ front ++ byte ∷ rest → list_any (λ b. b == byte) text ≡ false → ⊥
has_byte byte text front rest e none =
    let all : (list_any (λ b. b == byte) front || list_any (λ b. b == byte) (byte ∷ rest)) ≡ false = sym (list_any-append (λ b. b == byte) front (byte ∷ rest)) ∙ ap (list_any (λ b. b == byte)) (sym e) ∙ none in
    true_any (byte == byte) (list_any (λ b. b == byte) rest) (eq-eqb byte byte refl) (or_right (list_any (λ b. b == byte) front) (list_any (λ b. b == byte) (byte ∷ rest)) all)

pub cut_unique : (byte : ℕ) (xs ys front after : List ℕ) → list_any (λ b. b == byte) xs ≡ false → list_any (λ b. b == byte) front ≡ false → xs ++ byte ∷ ys ≡ front ++ byte ∷ after → (xs ≡ front) × (ys ≡ after)
cut_unique byte [] ys [] after a b e = (refl, cc)
cut_unique byte [] ys (f ∷ front) after a b e = (let same : byte ≡ f = cc in let t : (f == byte) ≡ true = grind (arith, nat_tests) in absurd (true_any (f == byte) (list_any (λ b. b == byte) front) t b))
cut_unique byte (x ∷ xs) ys [] after a b e = (let same : x ≡ byte = cc in let t : (x == byte) ≡ true = grind (arith, nat_tests) in absurd (true_any (x == byte) (list_any (λ b. b == byte) xs) t a))
cut_unique byte (x ∷ xs) ys (f ∷ front) after a b e =
    let first : x ≡ f = cc in
    let rest : xs ++ byte ∷ ys ≡ front ++ byte ∷ after = cc in
    let u = cut_unique byte xs ys front after (or_right (x == byte) (list_any (λ b. b == byte) xs) a) (or_right (f == byte) (list_any (λ b. b == byte) front) b) rest in
    ((λ i. first i ∷ u.0 i), u.1)

digits_no_space : (ds : List ℕ) → AllDigits 10 ds → list_any (λ b. b == 32) ds ≡ false
digits_no_space [] h = refl
digits_no_space (c ∷ cs) h = (λ j. is_no_space c h.0 j || digits_no_space cs h.1 j)

pub no_space : (n : ℕ) → n < 2 ^ 32 → list_any (λ b. b == 32) (decimal n) ≡ false
no_space n small = digits_no_space (decimal n) (decimal_is_IsNumeral n (omega arith)).0.1

pub same_decimal : (v n : ℕ) → v < 2 ^ 32 → n < 2 ^ 32 → decimal v ≡ decimal n → v ≡ n
same_decimal v n a b e = decimal_injective v n (omega arith) (omega arith) e

-- the parts of a record's line
abbrev pub after_path : PlanRecord → List ℕ → List ℕ
after_path c rest = c.path ++ 10 ∷ rest

abbrev pub after_owners : PlanRecord → List ℕ → List ℕ
after_owners c rest = number (length c.path) ++ after_path c rest

abbrev pub after_old : PlanRecord → List ℕ → List ℕ
after_old c rest = number c.after.uid ++ number c.after.gid ++ after_owners c rest

pub line_parts : (c : PlanRecord) (rest : List ℕ) → line c ++ rest ≡ number c.before.uid ++ number c.before.gid ++ after_old c rest
line_parts c rest = simp append_assoc

pub owner_same : (a b : Owner) → ((a.uid == b.uid) && (a.gid == b.gid)) ≡ true → a ≡ b
owner_same a b h =
    let uid : a.uid ≡ b.uid = grind (arith, nat_tests) in
    let gid : a.gid ≡ b.gid = grind (arith, nat_tests) in
    (λ i. record { uid = uid i; gid = gid i })

pub short_path : (c : PlanRecord) → IsLawfulRecord c → length c.path < 2 ^ 32
short_path c l = (let s = l.path.short in omega arith)

and_left : (a b : Bool) → (a && b) ≡ true → a ≡ true
and_left true b h = refl
and_left false b h = h

and_right : (a b : Bool) → (a && b) ≡ true → b ≡ true
and_right true b h = h
and_right false b h = absurd cc

bytes-no_newline : (name : List ℕ) → list_all is_host_byte name ≡ true → list_any (λ b. b == 10) name ≡ false
bytes-no_newline [] h = refl
bytes-no_newline (c ∷ cs) h =
    let first : is_host_byte c ≡ true = and_left (is_host_byte c) (list_all is_host_byte cs) h in
    let rest : list_all is_host_byte cs ≡ true = and_right (is_host_byte c) (list_all is_host_byte cs) h in
    let other : (c == 10) ≡ false = not_equal c 10 (λ e. let t : is_host_byte 10 ≡ true = subst (λ d. is_host_byte d ≡ true) e first in cc) in
    (λ j. other j || bytes-no_newline cs rest j)

pub name_no_newline : (name : List ℕ) → IsHostName name → list_any (λ b. b == 10) name ≡ false
name_no_newline name h = bytes-no_newline name (and_right _ _ (and_right _ _ h))

pub head_unique : (text after h r host rest : List ℕ) → after ≡ drop 13 text → after ≡ h ++ 10 ∷ r → list_any (λ b. b == 10) h ≡ false → IsHostName host → text ≡ head host ++ rest → (host ≡ h) × (rest ≡ r)
head_unique text after h r host rest from cut first name e =
    let whole : drop 13 text ≡ host ++ 10 ∷ [] ++ rest = ap (λ t. drop 13 t) e in
    cut_unique 10 host rest h r (name_no_newline host name) first (sym (append_assoc host (10 ∷ []) rest) ∙ sym whole ∙ sym from ∙ cut)

-- a text of one piece begins with no number, and with no header
pub no_number_cut : (text rest : List ℕ) (n : ℕ) → pieces 32 text ≡ text ∷ [] → text ≡ number n ++ rest → ⊥
no_number_cut text rest n one e = has_byte 32 text (decimal n) rest (e ∙ append_assoc (decimal n) (32 ∷ []) rest) (cut_none 32 text one)

pub no_head_cut : (text after host rest : List ℕ) → after ≡ drop 13 text → pieces 10 after ≡ after ∷ [] → text ≡ head host ++ rest → ⊥
no_head_cut text after host rest from one e =
    let whole : drop 13 text ≡ host ++ 10 ∷ [] ++ rest = ap (λ t. drop 13 t) e in
    has_byte 10 after host rest (from ∙ whole ∙ append_assoc host (10 ∷ []) rest) (cut_none 10 after one)
