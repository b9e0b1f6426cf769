-- The rows of a table that are not kept.
use Rattle.std.proofs.Common.{◌≡◌, ◌⊎◌, inl, inr, ℕ, zero, suc, ◌<◌, Bool, true, false, cond, not, List, [], ◌∷◌, length, map, get_or, refl, sym, ap, ◌∙◌, subst, arith, Some, eqb}
use Rattle.std.specs.Prelude.{filter, find}
use Rattle.std.specs.Option.{option_map}
use Rattle.std.proofs.lemmas.Bool.{eqb-true}
use Rattle.std.proofs.lemmas.List.Sorted.{IsPermutation-filter_both}
use Rattle.accounts.specs.Laws.{AreDistinct, IsPasswdTable, IsGroupTable}
use Rattle.accounts.specs.Rows.{Passwd, Group}
use Rattle.accounts.specs.Selected.{those}
use Rattle.accounts.proofs.SelectedLemmas.{those-table}
use Rattle.kept_accounts.specs.Laws.{UsersAreParted, GroupsAreParted, OtherUsersAgree, OtherGroupsAgree, OthersAreLawful}
use Rattle.kept_accounts.specs.Others.{other_rows}

-- ---- rows by flags

those-filter : {Row : Type 0} (test : Row → Bool) (rows : List Row) → those (map test rows) rows ≡ filter test rows
those-filter test [] = refl
those-filter {Row} test (row ∷ rows) = by (test row) (those-filter test rows)
  where
    by : (b : Bool) → those (map test rows) rows ≡ filter test rows → those (b ∷ map test rows) (row ∷ rows) ≡ cond b (row ∷ filter test rows) (filter test rows)
    by true later = ap (λ rs. row ∷ rs) later
    by false later = later

pub selected-others : {Row : Type 0} (name : Row → List ℕ) (kept : List ℕ → Bool) (rows : List Row) (flags : List Bool) → flags ≡ map (λ row. not (kept (name row))) rows → those flags rows ≡ other_rows name kept rows
selected-others name kept rows flags e = ap (λ fs. those fs rows) e ∙ those-filter (λ row. not (kept (name row))) rows

-- ---- laws

pub users_parted : UsersAreParted
users_parted kept rows = IsPermutation-filter_both (λ (row : Passwd). kept row.name) (λ (row : Passwd). not (kept row.name)) (λ row. refl) rows

pub groups_parted : GroupsAreParted
groups_parted kept rows = IsPermutation-filter_both (λ (row : Group). kept row.name) (λ (row : Group). not (kept row.name)) (λ row. refl) rows

pub others_lawful : OthersAreLawful
others_lawful keep user group unowned host lawful = record {
  ranges = lawful.ranges;
  users = subst (λ (rows : List Passwd). IsPasswdTable rows) (those-filter (λ (row : Passwd). not (user row.name)) host.users) (those-table (λ (row : Passwd). row.name) (λ (row : Passwd). row.uid) (map (λ (row : Passwd). not (user row.name)) host.users) host.users lawful.users);
  groups = subst (λ (rows : List Group). IsGroupTable rows) (those-filter (λ (row : Group). not (group row.name)) host.groups) (those-table (λ (row : Group). row.name) (λ (row : Group). row.gid) (map (λ (row : Group). not (group row.name)) host.groups) host.groups lawful.groups);
}

-- ---- the name that a table gives a number

module _ {Row : Type 0} (name : Row → List ℕ) (number : Row → ℕ) (kept : List ℕ → Bool) (n : ℕ) (named : List ℕ) where
  abbrev has_it : Row → Bool
  has_it row = eqb n (number row)

  abbrev others : List Row → List Row
  others rows = filter (λ row. not (kept (name row))) rows

  named-or-kept : (rows : List Row) → option_map name (find has_it rows) ≡ Some named → (option_map name (find has_it (others rows)) ≡ Some named) ⊎ (kept named ≡ true)
  named-or-kept [] e = absurd (cc)
  named-or-kept (row ∷ rows) e = by (has_it row) (kept (name row)) refl refl e (named-or-kept rows)
    where
      carry : has_it row ≡ false → (option_map name (find has_it (others rows)) ≡ Some named) ⊎ (kept named ≡ true) → (option_map name (find has_it (row ∷ others rows)) ≡ Some named) ⊎ (kept named ≡ true)
      carry is (inl h) = inl (ap (λ b. option_map name (cond b (Some row) (find has_it (others rows)))) is ∙ h)
      carry is (inr h) = inr h

      by : (b k : Bool) → has_it row ≡ b → kept (name row) ≡ k → option_map name (cond b (Some row) (find has_it rows)) ≡ Some named
          → (option_map name (find has_it rows) ≡ Some named → (option_map name (find has_it (others rows)) ≡ Some named) ⊎ (kept named ≡ true))
          → (option_map name (find has_it (cond (not k) (row ∷ others rows) (others rows))) ≡ Some named) ⊎ (kept named ≡ true)
      by true true is keeps e later = let same : name row ≡ named = cc in inr (ap kept (sym same) ∙ keeps)
      by true false is keeps e later = inl (ap (λ b. option_map name (cond b (Some row) (find has_it (others rows)))) is ∙ e)
      by false true is keeps e later = later e
      by false false is keeps e later = carry is (later e)

  -- where a row that is not kept has the number some row has it
  some_has : (rows : List Row) → option_map name (find has_it (others rows)) ≡ Some named → (j : ℕ) × (j < length (map number rows)) × (get_or (map number rows) j 0 ≡ n)
  some_has [] e = absurd (cc)
  some_has (row ∷ rows) e = by (has_it row) (kept (name row)) refl e (some_has rows)
    where
      further : (j : ℕ) × (j < length (map number rows)) × (get_or (map number rows) j 0 ≡ n) → (j : ℕ) × (j < length (map number (row ∷ rows))) × (get_or (map number (row ∷ rows)) j 0 ≡ n)
      further there = (suc there.0, omega (arith, there.1), there.2)

      by : (b k : Bool) → has_it row ≡ b → option_map name (find has_it (cond (not k) (row ∷ others rows) (others rows))) ≡ Some named
          → (option_map name (find has_it (others rows)) ≡ Some named → (j : ℕ) × (j < length (map number rows)) × (get_or (map number rows) j 0 ≡ n))
          → (j : ℕ) × (j < length (map number (row ∷ rows))) × (get_or (map number (row ∷ rows)) j 0 ≡ n)
      by true k is e later = (zero, omega arith, sym (eqb-true n (number row) is))
      by false true is e later = further (later e)
      by false false is e later = further (later (sym (ap (λ b. option_map name (cond b (Some row) (find has_it (others rows)))) is) ∙ e))

  named-too : (rows : List Row) → AreDistinct (map number rows) → option_map name (find has_it (others rows)) ≡ Some named → option_map name (find has_it rows) ≡ Some named
  named-too [] apart e = e
  named-too (row ∷ rows) apart e = by (has_it row) (kept (name row)) refl e (named-too rows rest_apart)
    where
      rest_apart : AreDistinct (map number rows)
      rest_apart = λ i j d hi hj same.
          let suc_same : suc i ≡ suc j = apart (suc i) (suc j) d (omega arith) (omega arith) same in
          omega (arith, suc_same)

      by : (b k : Bool) → has_it row ≡ b → option_map name (find has_it (cond (not k) (row ∷ others rows) (others rows))) ≡ Some named
          → (option_map name (find has_it (others rows)) ≡ Some named → option_map name (find has_it rows) ≡ Some named)
          → option_map name (cond b (Some row) (find has_it rows)) ≡ Some named
      by true true is e later =
          let there = some_has rows e in
          let same : suc there.0 ≡ zero = apart (suc there.0) zero 0 (omega (arith, there.1)) (omega arith) (there.2 ∙ eqb-true n (number row) is) in
          absurd (omega (arith, same))
      by true false is e later = sym (ap (λ b. option_map name (cond b (Some row) (find has_it (others rows)))) is) ∙ e
      by false true is e later = later e
      by false false is e later = later (sym (ap (λ b. option_map name (cond b (Some row) (find has_it (others rows)))) is) ∙ e)

pub other_users_agree : OtherUsersAgree
other_users_agree kept rows n named = (
  λ table. named-too (λ (row : Passwd). row.name) (λ (row : Passwd). row.uid) kept n named rows table.numbers_differ,
  named-or-kept (λ (row : Passwd). row.name) (λ (row : Passwd). row.uid) kept n named rows,
)

pub other_groups_agree : OtherGroupsAgree
other_groups_agree kept rows n named = (
  λ table. named-too (λ (row : Group). row.name) (λ (row : Group). row.gid) kept n named rows table.numbers_differ,
  named-or-kept (λ (row : Group). row.name) (λ (row : Group). row.gid) kept n named rows,
)
