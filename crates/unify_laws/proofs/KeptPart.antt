-- What of a host is joined, by a keep text: the rows whose names the site has.
use Rattle.std.proofs.Common.{◌≡◌, ℕ, ◌<◌, ◌&&◌, Bool, true, false, cond, not, List, [], ◌∷◌, length, map, get_or, Ok, refl, sym, ap, subst, ◌∙◌, arith}
use Rattle.std.specs.List.{All, Contains, filter, find, list_any}
use Rattle.std.specs.Option.{is_some}
use Rattle.std.specs.Str.{bytes_eq}
use Rattle.std.proofs.lemmas.Bool.{le-leb}
use Rattle.std.proofs.lemmas.List.{get_or-map, length-map}
use Rattle.std.proofs.lemmas.List.Elements.{All-head, All-tail}
use Rattle.std.proofs.lemmas.List.Folds.{list_any_at, list_any_none}
use Rattle.std.proofs.lemmas.Map.Views.{any-filter_same}
use Rattle.accounts.proofs.ListLemmas.{list_any-map}
use Rattle.accounts.specs.Rows.{Passwd, Group}
use Rattle.certcheck.proofs.Missing.{any_is_find}
use Rattle.logindefs.specs.Ranges.{in_range}
use Rattle.hosts_join.specs.Accounts.{Accounts}
use Rattle.hosts_join.specs.PinPairs.{PinPairs}
use Rattle.hosts_join.specs.Rules.{is_name, is_reserved}
use Rattle.hosts_join.specs.Site.{Joined, joined_site}
use Rattle.hosts_join.specs.declared.host.Host.{Host}
use Rattle.hosts_join.specs.declared.reserving.Reserved.{Reserved}
use Rattle.hosts_join.proofs.Grouping.{bytes_refl, bytes_same}
use Rattle.keep_text.specs.declared.keep_text.KeepText.{KeepText}
use Rattle.kept_accounts.specs.Keeping.{is_kept_user, is_kept_group}
use Rattle.kept_accounts.specs.Others.{other_rows, without_kept}
use Rattle.kept_accounts.specs.Reserving.{UnownedNumbers, by_name, only, reserved_users, reserved_groups}
use Rattle.kept_accounts.proofs.ReservedLemmas.{kept_reserved}
use Rattle.site_tables.proofs.SiteNames.{named_somewhere}
use Rattle.site_tables.proofs.SiteSteps.{together}
use Rattle.unify_laws.specs.HostTexts.{AreJoinedRows, IsJoinedPart}

filter-same : {X : Type 0} (p q : X → Bool) (xs : List X) → All (λ x. p x ≡ q x) xs → filter p xs ≡ filter q xs
filter-same p q [] same = refl
filter-same p q (x ∷ xs) same =
    let first : p x ≡ q x = All-head (λ y. p y ≡ q y) x xs same in
    let rest = filter-same p q xs (All-tail (λ y. p y ≡ q y) x xs same) in
    λ i. cond (first i) (x ∷ rest i) (rest i)

-- a number is reserved where one reserves it alone
pub reserved-alone : (reserved : List Reserved) (host : Host) (row : List ℕ × ℕ) → Contains reserved (by_name host row) → is_reserved reserved row.1 ≡ true
reserved-alone reserved host row there =
    let has : in_range (only row.1) row.1 ≡ true = rw (le-leb row.1 row.1 (omega arith)) refl in
    list_any_at (λ (r : Reserved). in_range r.numbers row.1) reserved there.0 (by_name host row) there.1 (ap (λ (r : Reserved). in_range r.numbers row.1) there.2 ∙ has)

module _ {Row : Type 0} (name : Row → List ℕ) (number : Row → ℕ) (kept : List ℕ → Bool) where
  abbrev has : List ℕ → Row → Bool
  has n row = bytes_eq n (name row)

  -- a name is found among the rows that are left where the table has it and it is not kept
  find-left : (n : List ℕ) (rows : List Row) → is_some (find (has n) (other_rows name kept rows)) ≡ (not (kept n) && list_any (has n) rows)
  find-left n rows =
      sym (any_is_find (has n) (other_rows name kept rows))
      ∙ any-filter_same (has n) (λ row. not (kept (name row))) (not (kept n)) (λ row is. ap (λ m. not (kept m)) (sym (bytes_same n (name row) is))) rows

  module _ (a : Accounts) (table : Host → List Row) (hosts : List Host) (full : Host) (there : Contains hosts full)
      (names_are : (n : List ℕ) → is_name a.names n ≡ list_any (λ (h : Host). is_some (find (has n) (other_rows name kept (table h)))) hosts) where
    abbrev has-left : List ℕ → Host → Bool
    has-left n h = is_some (find (has n) (other_rows name kept (table h)))

    -- the site has the names that are not kept
    of-site : All (λ row. is_name a.names (name row) ≡ not (kept (name row))) (table full)
    of-site k d within = by (name (get_or (table full) k d)) (list_any_at (has (name (get_or (table full) k d))) (table full) k d within (bytes_refl (name (get_or (table full) k d)))) (kept (name (get_or (table full) k d))) refl
      where
        by : (n : List ℕ) → list_any (has n) (table full) ≡ true → (b : Bool) → kept n ≡ b → is_name a.names n ≡ not (kept n)
        by n listed true is =
            names_are n ∙ list_any_none (has-left n) hosts (λ j e l. find-left n (table (get_or hosts j e)) ∙ ap (λ b. not b && list_any (has n) (table (get_or hosts j e))) is) ∙ sym (ap not is)
        by n listed false is =
            names_are n ∙ list_any_at (has-left n) hosts there.0 full there.1 (ap (has-left n) there.2 ∙ find-left n (table full) ∙ (λ j. not (is j) && listed j)) ∙ sym (ap not is)

    pub joined-rows : ((row : List ℕ × ℕ) → Contains (map (λ r. (name r, number r)) (table full)) row → kept row.0 ≡ true → is_reserved a.reserved row.1 ≡ true) → AreJoinedRows name number a (table full) (other_rows name kept (table full))
    joined-rows reserved = record {
      joined_are = sym (filter-same (λ row. is_name a.names (name row)) (λ row. not (kept (name row))) (table full) of-site);
      kept = λ k d within none.
          let pair : Row → List ℕ × ℕ = λ r. (name r, number r) in
          let row = get_or (table full) k d in
          let is : kept (name row) ≡ true = by (kept (name row)) (sym (of-site k d within) ∙ none) in
          let inside : k < length (map pair (table full)) = omega (arith, within, length-map (table full) pair) in
          reserved (pair row) (k, inside, get_or-map pair (table full) k d (pair row) within) is;
    }
      where
        by : (b : Bool) → not b ≡ false → b ≡ true
        by true h = refl
        by false h = absurd (cc)

-- what is left of one of the hosts, where the site is joined from what is left of all
pub kept_part : (keep : KeepText) (hosts : List Host) (unowned : UnownedNumbers) (pins : PinPairs) (joined : Joined) (full : Host) → Contains hosts full → joined_site (map (without_kept keep hosts unowned) hosts) pins ≡ Ok joined
    → reserved_users keep hosts unowned.users ≡ joined.users.reserved → reserved_groups keep hosts unowned.groups ≡ joined.groups.reserved → IsJoinedPart joined full (without_kept keep hosts unowned full)
kept_part keep hosts unowned pins joined full there is uids gids =
    let left = without_kept keep hosts unowned in
    let others : List Host = map left hosts in
    let all = together others pins joined is in
    let users_alone = kept_reserved keep hosts unowned.users full in
    let groups_alone = kept_reserved keep hosts unowned.groups full in
    record {
      users = joined-rows (λ (r : Passwd). r.name) (λ (r : Passwd). r.uid) (is_kept_user keep hosts) joined.users (λ (h : Host). h.users) hosts full there
          (λ n. ap (λ (a : Accounts). is_name a.names n) all.users
          ∙ named_somewhere (λ (r : Passwd). r.name) (λ (r : Passwd). r.uid) (λ (h : Host). h.users) (λ (h : Host). h.ranges.uid) (λ (h : Host). h.ranges.sys_uid) others n
          ∙ list_any-map (λ (h : Host). is_some (find (λ (r : Passwd). bytes_eq n r.name) h.users)) left hosts)
          (λ row has kept. subst (λ rs. is_reserved rs row.1 ≡ true) uids (reserved-alone (reserved_users keep hosts unowned.users) full row ((users_alone row there).0 has kept)));
      groups = joined-rows (λ (r : Group). r.name) (λ (r : Group). r.gid) (is_kept_group keep hosts) joined.groups (λ (h : Host). h.groups) hosts full there
          (λ n. ap (λ (a : Accounts). is_name a.names n) all.groups
          ∙ named_somewhere (λ (r : Group). r.name) (λ (r : Group). r.gid) (λ (h : Host). h.groups) (λ (h : Host). h.ranges.gid) (λ (h : Host). h.ranges.sys_gid) others n
          ∙ list_any-map (λ (h : Host). is_some (find (λ (r : Group). bytes_eq n r.name) h.groups)) left hosts)
          (λ row has kept. subst (λ rs. is_reserved rs row.1 ≡ true) gids (reserved-alone (reserved_groups keep hosts unowned.groups) full row ((groups_alone row there).1 has kept)));
    }
