-- Paths have no NUL byte, and are never empty.
use Rattle.std.proofs.Common.{◌≡◌, ◌≢◌, ℕ, ◌<◌, Bool, true, false, List, [], ◌∷◌, ◌++◌, length, get_or, All, ◌==◌, ◌||◌, sym, ◌∙◌, arith, length-append, codes}
use Rattle.std.proofs.lemmas.Bool.{false≢true, and_parts, or_parts, or_right, eq-eqb, cond_both}
use Rattle.std.proofs.lemmas.List.Elements.{All-nil, All-cons, All-head, All-tail, All-append, All-filter, All-weaker, filter_passes}
use Rattle.std.specs.List.{list_any, join_with_byte}
use Rattle.std.specs.Str.{bytes_eq}
use Rattle.idtext.specs.Escapes.{has_bad_escape}
use Rattle.idtext.specs.Words.{is_filled}
use Rattle.mtree_inv.specs.Inventory.{flattened, path_of}
use Rattle.mtree_inv.specs.Kinds.{Kind}
use Rattle.mtree_inv.specs.Open.{Mark, Opens, Closes, Stays, is_full, marks, open_names, is_open_after}
use Rattle.mtree_inv.specs.Paths.{is_kept, is_bad_component, parts, components, has_bad_component, path_of_components}

-- a component that may stand in a path
pub record IsClean (component : List ℕ) : Type 0 where
  pub filled : 0 < length component
  pub no_nul : All (λ b. b ≢ 0) component

-- none passes the test
none_passes : {X : Type 0} (p : X → Bool) (xs : List X) → list_any p xs ≡ false → All (λ x. p x ≡ false) xs
none_passes p [] e = All-nil (λ x. p x ≡ false)
none_passes p (x ∷ xs) e =
    let both = or_parts (p x) (list_any p xs) e in
    All-cons (λ y. p y ≡ false) x xs both.0 (none_passes p xs both.1)

not_nul : (b : ℕ) → ((b == 47) || (b == 0)) ≡ false → b ≢ 0
not_nul b e nul = false≢true (sym e ∙ or_right (b == 47) (b == 0) (eq-eqb b 0 nul))

not_bad : (component : List ℕ) → is_bad_component component ≡ false → All (λ b. b ≢ 0) component
not_bad component e =
    let none = (or_parts (bytes_eq component (codes "..")) (list_any (λ b. (b == 47) || (b == 0)) component) e).1 in
    All-weaker (λ b. ((b == 47) || (b == 0)) ≡ false) (λ b. b ≢ 0) not_nul component (none_passes (λ b. (b == 47) || (b == 0)) component none)

filled_long : (component : List ℕ) → is_filled component ≡ true → 0 < length component
filled_long [] e = absurd (false≢true e)
filled_long (b ∷ bs) e = omega arith

kept_filled : (component : List ℕ) → is_kept component ≡ true → 0 < length component
kept_filled component e = filled_long component (and_parts (is_filled component) _ e).0

-- the components of a word without a bad one
pub components_clean : (word : List ℕ) → has_bad_component word ≡ false → All IsClean (components word)
components_clean word e = λ k d within.
    let kept : All (λ c. is_kept c ≡ true) (components word) = filter_passes is_kept (parts word) in
    let bare : All (λ c. is_bad_component c ≡ false) (components word) = All-filter is_kept (λ c. is_bad_component c ≡ false) (parts word) (none_passes is_bad_component (parts word) (or_parts (has_bad_escape word) (list_any is_bad_component (parts word)) e).1) in
    record { filled = kept_filled (get_or (components word) k d) (kept k d within); no_nul = not_bad (get_or (components word) k d) (bare k d within) }

joined_clean : (c : List ℕ) (cs : List (List ℕ)) → All IsClean (c ∷ cs) → IsClean (join_with_byte 47 (c ∷ cs))
joined_clean c [] h = All-head IsClean c [] h
joined_clean c (d ∷ cs) h =
    let front : IsClean c = All-head IsClean c (d ∷ cs) h in
    let rest : IsClean (join_with_byte 47 (d ∷ cs)) = joined_clean d cs (All-tail IsClean c (d ∷ cs) h) in
    let filled : 0 < length c = front.filled in
    record {
      filled = omega (arith, filled, length-append c (47 ∷ join_with_byte 47 (d ∷ cs)));
      no_nul = All-append (λ b. b ≢ 0) c (47 ∷ join_with_byte 47 (d ∷ cs)) front.no_nul (All-cons (λ b. b ≢ 0) 47 (join_with_byte 47 (d ∷ cs)) (λ e. absurd (cc)) rest.no_nul);
    }

pub path_clean : (cs : List (List ℕ)) → All IsClean cs → IsClean (path_of_components cs)
path_clean [] h = record { filled = omega arith; no_nul = All-cons (λ b. b ≢ 0) 46 [] (λ e. absurd (cc)) (All-nil (λ b. b ≢ 0)) }
path_clean (c ∷ cs) h = joined_clean c cs h

-- what a line opens is clean
abbrev pub OpensClean : Mark → Type 0
OpensClean (Opens name) = All IsClean name
OpensClean Closes = Unit {0}
OpensClean Stays = Unit {0}

pub open_clean : (ms : List Mark) → All OpensClean ms → All IsClean (flattened (open_names ms))
open_clean [] h = All-nil IsClean
open_clean (Opens name ∷ after) h =
    let rest = open_clean after (All-tail OpensClean (Opens name) after h) in
    cond_both (is_open_after after) (name ∷ open_names after) (open_names after) (λ names. All IsClean (flattened names))
    (λ e. All-append IsClean name (flattened (open_names after)) (All-head OpensClean (Opens name) after h) rest)
    (λ e. rest)
open_clean (Closes ∷ after) h = open_clean after (All-tail OpensClean Closes after h)
open_clean (Stays ∷ after) h = open_clean after (All-tail OpensClean Stays after h)

-- the path of an entry
pub entry_clean : (before : List Kind) (word : List ℕ) → All OpensClean (marks before) → has_bad_component word ≡ false → IsClean (path_of before word)
entry_clean before word h e =
    let own = components_clean word e in
    cond_both (is_full word) (components word) (flattened (open_names (marks before)) ++ components word) (λ cs. IsClean (path_of_components cs))
    (λ full. path_clean (components word) own)
    (λ relative. path_clean (flattened (open_names (marks before)) ++ components word) (All-append IsClean (flattened (open_names (marks before))) (components word) (open_clean (marks before) h) own))
