-- The order of a certificate's lines: rows before z, users before groups, the end last.
use Rattle.std.proofs.Common.{◌≡◌, ℕ, suc, ◌<◌, ◌≤◌, true, List, [], ◌∷◌, ◌++◌, map, length, get_or, Option, Some, None, refl, sym, ap, ◌∙◌, ⊎_elim, ◌⊎◌, inl, inr, arith, subst}
use Rattle.std.specs.List.{flat_map}
use Rattle.std.specs.Ordering.{is_lt}
use Rattle.std.proofs.lemmas.Bool.{eqb-true, lt-ltb, false≢true}
use Rattle.std.proofs.lemmas.List.Concat.{flat_map-cons}
use Rattle.std.proofs.lemmas.Option.{none-some, same_Some}
use Rattle.hosts_join.specs.declared.Which.{Which}
use Rattle.hosts_join.specs.declared.Which.TheVariants.{User, Group}
use Rattle.certcheck.specs.Certificate.{Row, AreAscending}
use Rattle.ownership.specs.Potentials.{AscendsByNumber}
use Rattle.certcheck.specs.declared.certificate.Certificate.{Certificate}
use Rattle.certcheck.specs.Reading.{Item, Head, RowItem, ZItem, End, rank, ascends, may_follow, rows_in, all_z_in}
use Rattle.certcheck.proofs.Growing.{follows_says, follows_above, follows_level}

-- each may stand after the one before it
abbrev pub Chain : Option Item → List Item → Type 0
Chain b [] = Unit {0}
Chain b (i ∷ is) = (may_follow b (Some i) ≡ true) × Chain (Some i) is

abbrev pub behind_head : Certificate → List Item
behind_head c = map (λ r. RowItem User r) c.users.rows ++ (map (λ e. ZItem User e) c.users.z ++ (map (λ r. RowItem Group r) c.groups.rows ++ (map (λ e. ZItem Group e) c.groups.z ++ End ∷ [])))

-- the lines of a certificate
abbrev pub items_of : Certificate → List Item
items_of c = Head ∷ behind_head c

-- 1. Such lines stand in their order: ranks never fall, and only rows and z are repeated

-- the least rank after an item
abbrev next : Item → ℕ
next Head = 1
next (RowItem User r) = 1
next (ZItem User e) = 2
next (RowItem Group r) = 3
next (ZItem Group e) = 4
next End = 6

rank_next : (i : Item) → rank i ≤ next i
rank_next Head = omega arith
rank_next (RowItem User r) = omega arith
rank_next (ZItem User e) = omega arith
rank_next (RowItem Group r) = omega arith
rank_next (ZItem Group e) = omega arith
rank_next End = omega arith

rank_small : (i : Item) → rank i ≤ 5
rank_small Head = omega arith
rank_small (RowItem User r) = omega arith
rank_small (ZItem User e) = omega arith
rank_small (RowItem Group r) = omega arith
rank_small (ZItem Group e) = omega arith
rank_small End = omega arith

abbrev Rises : ℕ → List Item → Type 0
Rises n [] = Unit {0}
Rises n (i ∷ is) = (n ≤ rank i) × Rises (next i) is

-- an item that stands after another has its least rank
level_next : (b i : Item) → rank b ≡ rank i → ascends b i ≡ true → next b ≤ rank i
level_next Head i e h = absurd (false≢true h)
level_next (RowItem User r) i e h = omega (arith, e)
level_next (ZItem User r) i e h = omega (arith, e)
level_next (RowItem Group r) i e h = omega (arith, e)
level_next (ZItem Group r) i e h = omega (arith, e)
level_next End i e h = absurd (false≢true h)

above_next : (b i : Item) → rank b < rank i → next b ≤ rank i
above_next Head i h = omega (arith, h)
above_next (RowItem User r) i h = omega (arith, h)
above_next (ZItem User r) i h = omega (arith, h)
above_next (RowItem Group r) i h = omega (arith, h)
above_next (ZItem Group r) i h = omega (arith, h)
above_next End i h = absurd (let small = rank_small i in omega (arith, h, small))

behind_next : (b i : Item) → may_follow (Some b) (Some i) ≡ true → next b ≤ rank i
behind_next b i h =
    ⊎_elim
    (λ (l : rank b < rank i). above_next b i l)
    (λ (e : (rank b ≡ rank i) × (ascends b i ≡ true)). level_next b i e.0 e.1)
    (follows_says b i h)

chain_rises : (b : Item) (is : List Item) → Chain (Some b) is → Rises (next b) is
chain_rises b [] h = tt
chain_rises b (i ∷ is) h = (behind_next b i h.0, chain_rises i is h.1)

rises_weaker : (n m : ℕ) (is : List Item) → n ≤ m → Rises m is → Rises n is
rises_weaker n m [] l h = tt
rises_weaker n m (i ∷ is) l h = (let low = h.0 in omega (arith, l, low), h.1)

-- what items give that none of these can give
none_given : {X : Type 0} (part : Item → List X) (n : ℕ) → ((i : Item) → n ≤ rank i → part i ≡ []) → (is : List Item) → Rises n is → flat_map part is ≡ []
none_given part n none [] h = refl
none_given part n none (i ∷ is) h =
    let later = rises_weaker n (next i) is (let low = h.0 in let more = rank_next i in omega (arith, low, more)) h.1 in
    flat_map-cons part i is ∙ ap (λ xs. xs ++ flat_map part is) (none i h.0) ∙ none_given part n none is later

-- an item of this turn, or of a later one
abbrev InTurn : {X : Type 0} → ℕ → (X → Item) → (Item → List X) → Item → Type 0
InTurn {X} n made part i = ((x : X) × (i ≡ made x) × (part i ≡ x ∷ []) × (next i ≡ n)) ⊎ (suc n ≤ rank i)

-- the items of a turn, and then the others
turn : {X : Type 0} (n : ℕ) (made : X → Item) (part : Item → List X) (later : List Item → List Item)
    → ((i : Item) → n ≤ rank i → InTurn n made part i)
    → ((i : Item) → suc n ≤ rank i → part i ≡ [])
    → ((i : Item) (is : List Item) → rank i ≤ n → later (i ∷ is) ≡ later is)
    → ((is : List Item) → Rises (suc n) is → is ≡ later is)
    → (is : List Item) → Rises n is → is ≡ map made (flat_map part is) ++ later is
turn n made part later turns none passes others [] h = others [] tt
turn n made part later turns none passes others (i ∷ is) h =
    ⊎_elim
    (λ (t : (x : _) × (i ≡ made x) × (part i ≡ x ∷ []) × (next i ≡ n)).
    let rest = turn n made part later turns none passes others is (rises_weaker n (next i) is (let e = t.3 in omega (arith, e)) h.1) in
    let given : flat_map part (i ∷ is) ≡ t.0 ∷ flat_map part is = flat_map-cons part i is ∙ ap (λ xs. xs ++ flat_map part is) t.2 in
    ap (λ xs. i ∷ xs) rest ∙ ap (λ j. j ∷ (map made (flat_map part is) ++ later is)) t.1 ∙ sym (ap (λ xs. map made xs ++ later (i ∷ is)) given ∙ ap (λ xs. made t.0 ∷ (map made (flat_map part is) ++ xs)) (passes i is (let e = t.3 in let low = rank_next i in omega (arith, e, low)))))
    (λ (l : suc n ≤ rank i).
    let rises : Rises (suc n) (i ∷ is) = (l, h.1) in
    others (i ∷ is) rises ∙ sym (ap (λ xs. map made xs ++ later (i ∷ is)) (none_given part (suc n) none (i ∷ is) rises)))
    (turns i h.0)

-- the end, where it stands
abbrev end_in : Item → List Item
end_in Head = []
end_in (RowItem k r) = []
end_in (ZItem k e) = []
end_in End = End ∷ []

abbrev users_in : Item → List Row
users_in i = rows_in User (Some i)

abbrev user_z_in : Item → List (ℕ × ℕ)
user_z_in i = all_z_in User (Some i)

abbrev groups_in : Item → List Row
groups_in i = rows_in Group (Some i)

abbrev group_z_in : Item → List (ℕ × ℕ)
group_z_in i = all_z_in Group (Some i)

nothing_behind : (is : List Item) → Rises 6 is → is ≡ []
nothing_behind [] h = refl
nothing_behind (i ∷ is) h = absurd (let low = h.0 in let small = rank_small i in omega (arith, low, small))

abbrev turn5 : List Item → List Item
turn5 is = flat_map end_in is

abbrev turn4 : List Item → List Item
turn4 is = map (λ e. ZItem Group e) (flat_map group_z_in is) ++ turn5 is

abbrev turn3 : List Item → List Item
turn3 is = map (λ r. RowItem Group r) (flat_map groups_in is) ++ turn4 is

abbrev turn2 : List Item → List Item
turn2 is = map (λ e. ZItem User e) (flat_map user_z_in is) ++ turn3 is

abbrev turn1 : List Item → List Item
turn1 is = map (λ r. RowItem User r) (flat_map users_in is) ++ turn2 is

skip : {X : Type 0} (part : Item → List X) (i : Item) (is : List Item) → part i ≡ [] → flat_map part (i ∷ is) ≡ flat_map part is
skip part i is none = flat_map-cons part i is ∙ ap (λ xs. xs ++ flat_map part is) none

pass5 : (i : Item) (is : List Item) → rank i ≤ 4 → turn5 (i ∷ is) ≡ turn5 is
pass5 Head is h = skip end_in Head is refl
pass5 (RowItem k r) is h = skip end_in (RowItem k r) is refl
pass5 (ZItem k e) is h = skip end_in (ZItem k e) is refl
pass5 End is h = absurd (omega (arith, h))

no_group_z : (i : Item) → rank i ≤ 3 → group_z_in i ≡ []
no_group_z Head h = refl
no_group_z (RowItem User r) h = refl
no_group_z (RowItem Group r) h = refl
no_group_z (ZItem User e) h = refl
no_group_z (ZItem Group e) h = absurd (omega (arith, h))
no_group_z End h = refl

no_groups : (i : Item) → rank i ≤ 2 → groups_in i ≡ []
no_groups Head h = refl
no_groups (RowItem User r) h = refl
no_groups (RowItem Group r) h = absurd (omega (arith, h))
no_groups (ZItem User e) h = refl
no_groups (ZItem Group e) h = refl
no_groups End h = refl

no_user_z : (i : Item) → rank i ≤ 1 → user_z_in i ≡ []
no_user_z Head h = refl
no_user_z (RowItem User r) h = refl
no_user_z (RowItem Group r) h = refl
no_user_z (ZItem User e) h = absurd (omega (arith, h))
no_user_z (ZItem Group e) h = refl
no_user_z End h = refl

pass4 : (i : Item) (is : List Item) → rank i ≤ 3 → turn4 (i ∷ is) ≡ turn4 is
pass4 i is h = ap (λ xs. map (λ e. ZItem Group e) xs ++ turn5 (i ∷ is)) (skip group_z_in i is (no_group_z i h)) ∙ ap (λ xs. map (λ e. ZItem Group e) (flat_map group_z_in is) ++ xs) (pass5 i is (omega (arith, h)))

pass3 : (i : Item) (is : List Item) → rank i ≤ 2 → turn3 (i ∷ is) ≡ turn3 is
pass3 i is h = ap (λ xs. map (λ r. RowItem Group r) xs ++ turn4 (i ∷ is)) (skip groups_in i is (no_groups i h)) ∙ ap (λ xs. map (λ r. RowItem Group r) (flat_map groups_in is) ++ xs) (pass4 i is (omega (arith, h)))

pass2 : (i : Item) (is : List Item) → rank i ≤ 1 → turn2 (i ∷ is) ≡ turn2 is
pass2 i is h = ap (λ xs. map (λ e. ZItem User e) xs ++ turn3 (i ∷ is)) (skip user_z_in i is (no_user_z i h)) ∙ ap (λ xs. map (λ e. ZItem User e) (flat_map user_z_in is) ++ xs) (pass3 i is (omega (arith, h)))

in_turn5 : (is : List Item) → Rises 5 is → is ≡ turn5 is
in_turn5 [] h = refl
in_turn5 (Head ∷ is) h = absurd (let low = h.0 in omega (arith, low))
in_turn5 (RowItem User r ∷ is) h = absurd (let low = h.0 in omega (arith, low))
in_turn5 (RowItem Group r ∷ is) h = absurd (let low = h.0 in omega (arith, low))
in_turn5 (ZItem User e ∷ is) h = absurd (let low = h.0 in omega (arith, low))
in_turn5 (ZItem Group e ∷ is) h = absurd (let low = h.0 in omega (arith, low))
in_turn5 (End ∷ is) h = let none = nothing_behind is h.1 in ap (λ xs. End ∷ xs) (none ∙ sym (ap turn5 none)) ∙ sym (flat_map-cons end_in End is)

in_turn4 : (is : List Item) → Rises 4 is → is ≡ turn4 is
in_turn4 = turn 4 (λ e. ZItem Group e) group_z_in turn5 turns none pass5 in_turn5
  where
    turns : (i : Item) → 4 ≤ rank i → InTurn 4 (λ e. ZItem Group e) group_z_in i
    turns Head h = absurd (omega (arith, h))
    turns (RowItem User r) h = absurd (omega (arith, h))
    turns (RowItem Group r) h = absurd (omega (arith, h))
    turns (ZItem User e) h = absurd (omega (arith, h))
    turns (ZItem Group e) h = inl (e, refl, refl, refl)
    turns End h = inr (omega arith)

    none : (i : Item) → 5 ≤ rank i → group_z_in i ≡ []
    none Head h = refl
    none (RowItem User r) h = refl
    none (RowItem Group r) h = refl
    none (ZItem User e) h = refl
    none (ZItem Group e) h = absurd (omega (arith, h))
    none End h = refl

in_turn3 : (is : List Item) → Rises 3 is → is ≡ turn3 is
in_turn3 = turn 3 (λ r. RowItem Group r) groups_in turn4 turns none pass4 in_turn4
  where
    turns : (i : Item) → 3 ≤ rank i → InTurn 3 (λ r. RowItem Group r) groups_in i
    turns Head h = absurd (omega (arith, h))
    turns (RowItem User r) h = absurd (omega (arith, h))
    turns (RowItem Group r) h = inl (r, refl, refl, refl)
    turns (ZItem User e) h = absurd (omega (arith, h))
    turns (ZItem Group e) h = inr (omega arith)
    turns End h = inr (omega arith)

    none : (i : Item) → 4 ≤ rank i → groups_in i ≡ []
    none Head h = refl
    none (RowItem User r) h = refl
    none (RowItem Group r) h = absurd (omega (arith, h))
    none (ZItem User e) h = refl
    none (ZItem Group e) h = refl
    none End h = refl

in_turn2 : (is : List Item) → Rises 2 is → is ≡ turn2 is
in_turn2 = turn 2 (λ e. ZItem User e) user_z_in turn3 turns none pass3 in_turn3
  where
    turns : (i : Item) → 2 ≤ rank i → InTurn 2 (λ e. ZItem User e) user_z_in i
    turns Head h = absurd (omega (arith, h))
    turns (RowItem User r) h = absurd (omega (arith, h))
    turns (RowItem Group r) h = inr (omega arith)
    turns (ZItem User e) h = inl (e, refl, refl, refl)
    turns (ZItem Group e) h = inr (omega arith)
    turns End h = inr (omega arith)

    none : (i : Item) → 3 ≤ rank i → user_z_in i ≡ []
    none Head h = refl
    none (RowItem User r) h = refl
    none (RowItem Group r) h = refl
    none (ZItem User e) h = absurd (omega (arith, h))
    none (ZItem Group e) h = refl
    none End h = refl

in_turn1 : (is : List Item) → Rises 1 is → is ≡ turn1 is
in_turn1 = turn 1 (λ r. RowItem User r) users_in turn2 turns none pass2 in_turn2
  where
    turns : (i : Item) → 1 ≤ rank i → InTurn 1 (λ r. RowItem User r) users_in i
    turns Head h = absurd (omega (arith, h))
    turns (RowItem User r) h = inl (r, refl, refl, refl)
    turns (RowItem Group r) h = inr (omega arith)
    turns (ZItem User e) h = inr (omega arith)
    turns (ZItem Group e) h = inr (omega arith)
    turns End h = inr (omega arith)

    none : (i : Item) → 2 ≤ rank i → users_in i ≡ []
    none Head h = refl
    none (RowItem User r) h = absurd (omega (arith, h))
    none (RowItem Group r) h = refl
    none (ZItem User e) h = refl
    none (ZItem Group e) h = refl
    none End h = refl

-- 2. The whole

abbrev pub last_item : List Item → Option Item
last_item [] = None
last_item (i ∷ []) = Some i
last_item (i ∷ j ∷ js) = last_item (j ∷ js)

no_end : (i : Item) → next i ≤ 5 → end_in i ≡ []
no_end Head h = refl
no_end (RowItem k r) h = refl
no_end (ZItem k e) h = refl
no_end End h = absurd (omega (arith, h))

one_end : (n : ℕ) (is : List Item) → Rises n is → last_item is ≡ Some End → turn5 is ≡ End ∷ []
one_end n [] h last = absurd (none-some End last)
one_end n (i ∷ []) h last = flat_map-cons end_in i [] ∙ ap (λ j. end_in j ++ []) (same_Some i End last)
one_end n (i ∷ j ∷ js) h last = skip end_in i (j ∷ js) (no_end i (let low = h.1.0 in let small = rank_small j in omega (arith, low, small))) ∙ one_end (next i) (j ∷ js) h.1 last

-- what items give
abbrev pub given_by : List Item → Certificate
given_by is = record { users = record { rows = flat_map users_in is; z = flat_map user_z_in is }; groups = record { rows = flat_map groups_in is; z = flat_map group_z_in is } }

head_first : (i : Item) → rank i ≡ 0 → i ≡ Head
head_first Head h = refl
head_first (RowItem User r) h = absurd (omega (arith, h))
head_first (RowItem Group r) h = absurd (omega (arith, h))
head_first (ZItem User e) h = absurd (omega (arith, h))
head_first (ZItem Group e) h = absurd (omega (arith, h))
head_first End h = absurd (omega (arith, h))

behind : (is : List Item) → Chain (Some Head) is → last_item (Head ∷ is) ≡ Some End → Head ∷ is ≡ items_of (given_by (Head ∷ is))
behind [] h last = absurd (let wrong : Head ≡ End = same_Some Head End last in cc)
behind (j ∷ js) h last =
    let is = j ∷ js in
    let rises = chain_rises Head is h in
    let parts : turn1 is ≡ behind_head (given_by is) = ap (λ ends. map (λ r. RowItem User r) (flat_map users_in is) ++ (map (λ e. ZItem User e) (flat_map user_z_in is) ++ (map (λ r. RowItem Group r) (flat_map groups_in is) ++ (map (λ e. ZItem Group e) (flat_map group_z_in is) ++ ends)))) (one_end 1 is rises last) in
    ap (λ xs. Head ∷ xs) (in_turn1 is rises ∙ parts)
    ∙ sym (ap (λ rs. items_of (record { users = record { rows = rs; z = flat_map user_z_in (Head ∷ is) }; groups = record { rows = flat_map groups_in (Head ∷ is); z = flat_map group_z_in (Head ∷ is) } })) (skip users_in Head is refl)
    ∙ ap (λ zs. items_of (record { users = record { rows = flat_map users_in is; z = zs }; groups = record { rows = flat_map groups_in (Head ∷ is); z = flat_map group_z_in (Head ∷ is) } })) (skip user_z_in Head is refl)
    ∙ ap (λ rs. items_of (record { users = record { rows = flat_map users_in is; z = flat_map user_z_in is }; groups = record { rows = rs; z = flat_map group_z_in (Head ∷ is) } })) (skip groups_in Head is refl)
    ∙ ap (λ zs. items_of (record { users = record { rows = flat_map users_in is; z = flat_map user_z_in is }; groups = record { rows = flat_map groups_in is; z = zs } })) (skip group_z_in Head is refl))

-- lines that may stand after one another, up to the end, are those of a certificate
pub whole_chain : (is : List Item) → Chain None is → last_item is ≡ Some End → is ≡ items_of (given_by is)
whole_chain [] h last = absurd (none-some End last)
whole_chain (i ∷ is) h last =
    let P : Item → Type 0 = λ j. Chain (Some j) is → last_item (j ∷ is) ≡ Some End → j ∷ is ≡ items_of (given_by (j ∷ is)) in
    subst P (sym (head_first i (eqb-true (rank i) 0 h.0))) (behind is) h.1 last

-- 3. A certificate's lines may stand after one another

abbrev MayBehind : ℕ → List Item → Type 0
MayBehind n rest = (b : Item) → rank b ≤ n → Chain (Some b) rest

abbrev Ascend : {X : Type 0} → (X → Item) → List X → Type 0
Ascend {X} made xs = (i j : ℕ) (d : X) → i < j → j < length xs → ascends (made (get_or xs i d)) (made (get_or xs j d)) ≡ true

shifted : {X : Type 0} (made : X → Item) (x : X) (xs : List X) → Ascend made (x ∷ xs) → Ascend made xs
shifted made x xs up = λ i j d l m. up (suc i) (suc j) d (omega (arith, l)) (omega (arith, m))

run : {X : Type 0} (n : ℕ) (made : X → Item) (rest : List Item) → ((x : X) → rank (made x) ≡ n) → MayBehind n rest → (x : X) (xs : List X) → Ascend made (x ∷ xs) → Chain (Some (made x)) (map made xs ++ rest)
run n made rest ranked start x [] up = start (made x) (let e = ranked x in omega (arith, e))
run n made rest ranked start x (y ∷ ys) up = (follows_level (made x) (made y) (ranked x ∙ sym (ranked y)) (up 0 1 x (omega arith) (omega arith)), run n made rest ranked start y ys (shifted made x (y ∷ ys) up))

start_with : {X : Type 0} (m n : ℕ) (made : X → Item) (xs : List X) (rest : List Item) → m < n → ((x : X) → rank (made x) ≡ n) → Ascend made xs → MayBehind n rest → MayBehind m (map made xs ++ rest)
start_with m n made [] rest l ranked up start = λ b low. start b (omega (arith, l, low))
start_with m n made (x ∷ xs) rest l ranked up start = λ b low. (follows_above b (made x) (let e = ranked x in omega (arith, e, l, low)), run n made rest ranked start x xs up)

rows_ascend : (k : Which) (rows : List Row) → AreAscending rows → Ascend (λ r. RowItem k r) rows
rows_ascend k rows up = λ i j d l m. ap is_lt (up i j d l m)

z_ascend : (k : Which) (z : List (ℕ × ℕ)) → AscendsByNumber z → Ascend (λ e. ZItem k e) z
z_ascend k z up = λ i j d l m. lt-ltb _ _ (up i j d l m)

pub items_chain : (c : Certificate) → AreAscending c.users.rows → AscendsByNumber c.users.z → AreAscending c.groups.rows → AscendsByNumber c.groups.z → Chain None (items_of c)
items_chain c users user_z groups group_z =
    let end : MayBehind 4 (End ∷ []) = λ b low. (follows_above b End (omega (arith, low)), tt) in
    let four : MayBehind 3 (map (λ e. ZItem Group e) c.groups.z ++ End ∷ []) = start_with 3 4 (λ e. ZItem Group e) c.groups.z (End ∷ []) (omega arith) (λ e. refl) (z_ascend Group c.groups.z group_z) end in
    let three = start_with 2 3 (λ r. RowItem Group r) c.groups.rows _ (omega arith) (λ r. refl) (rows_ascend Group c.groups.rows groups) four in
    let two = start_with 1 2 (λ e. ZItem User e) c.users.z _ (omega arith) (λ e. refl) (z_ascend User c.users.z user_z) three in
    let one = start_with 0 1 (λ r. RowItem User r) c.users.rows _ (omega arith) (λ r. refl) (rows_ascend User c.users.rows users) two in
    (refl, one Head (omega arith))
