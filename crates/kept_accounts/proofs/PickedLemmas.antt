-- The names of rows that pass a test, and which names are kept.
use Rattle.std.proofs.Common.{◌≡◌, ℕ, ◌+◌, ◌<◌, ◌≤◌, Bool, true, false, cond, not, List, [], ◌∷◌, ◌++◌, length, get_or, take, map, refl, sym, ap, ◌∙◌, subst, bytes_eq}
use Rattle.std.specs.Prelude.{◌&&◌, ◌||◌, filter, flat_map}
use Rattle.std.specs.List.{list_any, list_all}
use Rattle.std.proofs.Math.Bool.{or-false, and-false}
use Rattle.std.proofs.lemmas.List.{append_assoc, flat_map_more, take_all, take_more}
use Rattle.std.proofs.lemmas.List.Folds.{list_any-append}
use Rattle.std.proofs.lemmas.Slice.Eq.{bytes_eq-Decides}
use Rattle.hosts_join.specs.Accounts.{no_row}
use Rattle.hosts_join.specs.declared.host.Host.{Host}
use Rattle.hosts_join.specs.RangeLists.{lies_in_some}
use Rattle.keep_text.specs.declared.keep_text.Kept.{Kept}
use Rattle.kept_accounts.specs.Keeping.{is_among, is_kept, numbers_of, stays}
use Rattle.kept_accounts.specs.Picked.{ArePicked, lets_stay}

any-push : {X : Type 0} (test : X → Bool) (xs : List X) (x : X) → list_any test (xs ++ x ∷ []) ≡ (list_any test xs || test x)
any-push test xs x = list_any-append test xs (x ∷ []) ∙ ap (λ b. list_any test xs || b) (or-false (test x))

bytes_same : (a b : List ℕ) → bytes_eq a b ≡ true → a ≡ b
bytes_same a b e = (bytes_eq-Decides a b).0 e

and_true : (b : Bool) → (b && true) ≡ b
and_true true = refl
and_true false = refl

or_true : (b : Bool) → (b || true) ≡ true
or_true true = refl
or_true false = refl

-- ---- a name that is added

pub is_among-added : (names after : List (List ℕ)) (name : List ℕ) (new wanted : Bool) → new ≡ not (is_among names name) → after ≡ cond new (names ++ name ∷ []) names → wanted ≡ true → (other : List ℕ) → is_among after other ≡ (is_among names other || (bytes_eq other name && wanted))
is_among-added names after name new wanted told e is_wanted other =
    by new told e ∙ ap (λ b. is_among names other || b) (sym (and_true (bytes_eq other name)) ∙ ap (λ w. bytes_eq other name && w) (sym is_wanted))
  where
    there : (b : Bool) → false ≡ not b → b ≡ true
    there true t = refl
    there false t = t

    had : is_among names name ≡ true → (b : Bool) → bytes_eq other name ≡ b → is_among names other ≡ (is_among names other || b)
    had among false is = sym (or-false (is_among names other))
    had among true is = ap (is_among names) (bytes_same other name is) ∙ among ∙ sym (or_true (is_among names other))

    by : (b : Bool) → b ≡ not (is_among names name) → after ≡ cond b (names ++ name ∷ []) names → is_among after other ≡ (is_among names other || bytes_eq other name)
    by true t is = ap (λ ns. is_among ns other) is ∙ any-push (bytes_eq other) names name
    by false t is = ap (λ ns. is_among ns other) is ∙ had (there (is_among names name) t) (bytes_eq other name) refl

-- ---- rows

pub picked-more : (passes : List ℕ × ℕ → Bool) (rows : List (List ℕ × ℕ)) (row : List ℕ × ℕ) (names after : List (List ℕ)) (wanted : Bool) → wanted ≡ passes row
    → ((other : List ℕ) → is_among after other ≡ (is_among names other || (bytes_eq other row.0 && wanted)))
    → ArePicked passes rows names → ArePicked passes (rows ++ row ∷ []) after
picked-more passes rows row names after wanted told grown before = record {
  picked = λ name.
      grown name ∙ ap (λ b. b || (bytes_eq name row.0 && wanted)) (before.picked name)
      ∙ ap (λ w. list_any (λ r. bytes_eq name r.0 && passes r) rows || (bytes_eq name row.0 && w)) told
      ∙ sym (any-push (λ r. bytes_eq name r.0 && passes r) rows row);
}

-- ---- the names that are kept

abbrev some_number : List ℕ → Bool
some_number [] = false
some_number (n ∷ ns) = true

stays-parts : (keep : Kept) (name : List ℕ) (numbers : List ℕ) → stays keep name numbers ≡ (some_number numbers && (is_among keep.names name || list_all (lies_in_some keep.ranges) numbers))
stays-parts keep name [] = refl
stays-parts keep name (n ∷ ns) = refl

-- a row of the name that is picked by the name alone
by_name_alone : (name : List ℕ) (moving : List (List ℕ)) (rows : List (List ℕ × ℕ)) → list_any (λ row. bytes_eq name row.0 && not (is_among moving row.0)) rows ≡ (some_number (numbers_of rows name) && not (is_among moving name))
by_name_alone name moving [] = refl
by_name_alone name moving (row ∷ rows) = by (bytes_eq name row.0) refl (by_name_alone name moving rows)
  where
    more : (a s : Bool) → (a || (s && a)) ≡ a
    more true s = refl
    more false s = and-false s

    by : (b : Bool) → bytes_eq name row.0 ≡ b → list_any (λ r. bytes_eq name r.0 && not (is_among moving r.0)) rows ≡ (some_number (numbers_of rows name) && not (is_among moving name))
        → ((b && not (is_among moving row.0)) || list_any (λ r. bytes_eq name r.0 && not (is_among moving r.0)) rows) ≡ (some_number (map (λ (r : List ℕ × ℕ). r.1) (cond b (row ∷ filter (λ r. bytes_eq name r.0) rows) (filter (λ r. bytes_eq name r.0) rows))) && not (is_among moving name))
    by false is later = later
    by true is later =
        ap (λ n. not (is_among moving n) || list_any (λ r. bytes_eq name r.0 && not (is_among moving r.0)) rows) (sym (bytes_same name row.0 is))
        ∙ ap (λ b. not (is_among moving name) || b) later
        ∙ more (not (is_among moving name)) (some_number (numbers_of rows name))

-- a row of the name after others of it
one_more : (listed within rest all : Bool) → not rest ≡ (listed || all) → not (not (listed || within) || rest) ≡ (listed || (within && all))
one_more true within rest all e = e
one_more false true rest all e = e
one_more false false rest all e = refl

unmoved : (keep : Kept) (name : List ℕ) (rows : List (List ℕ × ℕ)) → not (list_any (λ row. bytes_eq name row.0 && not (lets_stay keep row)) rows) ≡ (is_among keep.names name || list_all (lies_in_some keep.ranges) (numbers_of rows name))
unmoved keep name [] = sym (or_true (is_among keep.names name))
unmoved keep name (row ∷ rows) = by (bytes_eq name row.0) refl (unmoved keep name rows)
  where
    by : (b : Bool) → bytes_eq name row.0 ≡ b → not (list_any (λ r. bytes_eq name r.0 && not (lets_stay keep r)) rows) ≡ (is_among keep.names name || list_all (lies_in_some keep.ranges) (numbers_of rows name))
        → not ((b && not (lets_stay keep row)) || list_any (λ r. bytes_eq name r.0 && not (lets_stay keep r)) rows) ≡ (is_among keep.names name || list_all (lies_in_some keep.ranges) (map (λ (r : List ℕ × ℕ). r.1) (cond b (row ∷ filter (λ r. bytes_eq name r.0) rows) (filter (λ r. bytes_eq name r.0) rows))))
    by false is later = later
    by true is later =
        ap (λ n. not (not (is_among keep.names n || lies_in_some keep.ranges row.1) || list_any (λ r. bytes_eq name r.0 && not (lets_stay keep r)) rows)) (sym (bytes_same name row.0 is))
        ∙ one_more (is_among keep.names name) (lies_in_some keep.ranges row.1) (list_any (λ r. bytes_eq name r.0 && not (lets_stay keep r)) rows) (list_all (lies_in_some keep.ranges) (numbers_of rows name)) later

-- moving are the names that some row does not let stay; kept are those of rows whose name is none of them
pub picked-kept : (keep : Kept) (rows : List (List ℕ × ℕ)) (moving kept : List (List ℕ)) → ArePicked (λ row. not (lets_stay keep row)) rows moving → ArePicked (λ row. not (is_among moving row.0)) rows kept → (name : List ℕ) → is_among kept name ≡ is_kept keep rows name
picked-kept keep rows moving kept are_moving are_kept name =
    are_kept.picked name ∙ by_name_alone name moving rows
    ∙ ap (λ b. some_number (numbers_of rows name) && b) (ap not (are_moving.picked name) ∙ unmoved keep name rows)
    ∙ sym (stays-parts keep name (numbers_of rows name))

-- a row that is told by its name and its number
pub told-moves : (keep : Kept) (row : List ℕ × ℕ) (name : List ℕ) (number : ℕ) (stays : Bool) → stays ≡ lets_stay keep (name, number) → name ≡ row.0 → number ≡ row.1 → not stays ≡ not (lets_stay keep row)
told-moves keep row name number stays told named numbered =
    ap not told ∙ ap (λ (n : List ℕ). not (lets_stay keep (n, number))) named ∙ ap (λ (v : ℕ). not (lets_stay keep (row.0, v))) numbered

-- ---- the rows of a host, and the hosts, one by one

pub picked-place : (passes : List ℕ × ℕ → Bool) (before listed : List (List ℕ × ℕ)) (k : ℕ) (names after : List (List ℕ)) (name : List ℕ) (wanted : Bool) → k < length listed → name ≡ (get_or listed k no_row).0 → wanted ≡ passes (get_or listed k no_row)
    → ((other : List ℕ) → is_among after other ≡ (is_among names other || (bytes_eq other name && wanted)))
    → ArePicked passes (before ++ take k listed) names → ArePicked passes (before ++ take (k + 1) listed) after
picked-place passes before listed k names after name wanted lt named passed grown picked =
    subst (λ (rows : List (List ℕ × ℕ)). ArePicked passes rows after)
    (append_assoc before (take k listed) (get_or listed k no_row ∷ []) ∙ ap (λ rows. before ++ rows) (sym (take_more listed k no_row lt)))
    (picked-more passes (before ++ take k listed) (get_or listed k no_row) names after wanted passed
    (λ other. grown other ∙ ap (λ n. is_among names other || (bytes_eq other n && wanted)) named) picked)

pub picked-end : (passes : List ℕ × ℕ → Bool) (before listed : List (List ℕ × ℕ)) (k : ℕ) (names : List (List ℕ)) → length listed ≤ k → ArePicked passes (before ++ take k listed) names → ArePicked passes (before ++ listed) names
picked-end passes before listed k names le picked = subst (λ (rows : List (List ℕ × ℕ)). ArePicked passes (before ++ rows) names) (take_all k listed le) picked

pub picked-host : (passes : List ℕ × ℕ → Bool) (listed : Host → List (List ℕ × ℕ)) (hosts : List Host) (k : ℕ) (host : Host) (after : List (List ℕ)) → k < length hosts → host ≡ get_or hosts k host → ArePicked passes (flat_map listed (take k hosts) ++ listed host) after → ArePicked passes (flat_map listed (take (k + 1) hosts)) after
picked-host passes listed hosts k host after lt here picked =
    subst (λ (rows : List (List ℕ × ℕ)). ArePicked passes rows after)
    (flat_map_more listed [] (take k hosts) host ∙ ap (flat_map listed) (ap (λ (h : Host). take k hosts ++ h ∷ []) here ∙ sym (take_more hosts k host lt)))
    picked

pub picked-hosts : (passes : List ℕ × ℕ → Bool) (listed : Host → List (List ℕ × ℕ)) (hosts : List Host) (k : ℕ) (names : List (List ℕ)) → length hosts ≤ k → ArePicked passes (flat_map listed (take k hosts)) names → ArePicked passes (flat_map listed hosts) names
picked-hosts passes listed hosts k names le picked = subst (λ (hs : List Host). ArePicked passes (flat_map listed hs) names) (take_all k hosts le) picked
