-- The account rows that mappings change are those of the hosts' tables that the map changes.
use Rattle.std.proofs.Common.{◌≡◌, ◌<◌, ◌≤◌, ℕ, ◌+◌, cond, List, [], ◌∷◌, ◌++◌, length, map, Some, refl, sym, ap, ◌∙◌, arith, inl, inr}
use Rattle.std.specs.List.{count_by, sum_by}
use Rattle.std.specs.Prelude.{not, ◌==◌, if◌then◌else◌}
use Rattle.std.specs.Str.{bytes_eq}
use Rattle.std.proofs.lemmas.Bool.{cases_Bool}
use Rattle.std.proofs.lemmas.List.{append-nil, append_assoc}
use Rattle.std.proofs.lemmas.List.Sums.{sum_by-append, sum_by-cons, sum_by_push}
use Rattle.logindefs.specs.declared.ranges.IdRange.{IdRange}
use Rattle.accounts.specs.Rows.{Passwd, Group}
use Rattle.hosts_join.specs.Accounts.{Account, Accounts, Pair, Row, grouped, host_rows, no_account, rows_from, spot_of, standing_on}
use Rattle.hosts_join.specs.Index.{with_row}
use Rattle.hosts_join.specs.Rules.{account}
use Rattle.hosts_join.specs.declared.Spot.{Spot}
use Rattle.hosts_join.specs.declared.host.Host.{Host}
use Rattle.hosts_join.proofs.Grouping.{bytes_same, grouped-nil, grouped-push}
use Rattle.ownership.specs.Costs.{changed_rows, cost_of}
use Rattle.ownership.specs.Mapping.{number_at}
use Rattle.ownership.proofs.SumsBelow.{sum_below-places, sum_below-same}
use Rattle.unify_texts.specs.WrittenMap.{SayMapping}
use Rattle.unify.specs.Cost.{changed, is_number}
use Rattle.unify.specs.Outcomes.{group_files, hosts_in, user_files}
use Rattle.unify_laws.specs.RowCosts.{ChangedRowsAgree, NoMapChangesFewerRows}
use Rattle.unify_laws.proofs.Costs.{costs_agree, same_number}

-- ---- the rows that accounts are made of

sums-same : {X : Type 0} (f g : X → ℕ) (xs : List X) → ((x : X) → f x ≡ g x) → sum_by f xs ≡ sum_by g xs
sums-same f g [] same = refl
sums-same f g (x ∷ xs) same = omega (arith, sum_by-cons f x xs, sum_by-cons g x xs, same x, sums-same f g xs same)

module _ (count : List ℕ → ℕ → ℕ) where
  abbrev of_account : Account → ℕ
  of_account a = sum_by (λ (s : Spot). count a.name s.number) a.spots

  abbrev of_row : Row → ℕ
  of_row r = count r.name r.number

  row-more : (names : List Account) (r : Row) → sum_by of_account (with_row names r) ≡ sum_by of_account names + of_row r
  row-more [] r = omega arith
  row-more (a ∷ names) r = elim (cases_Bool (bytes_eq r.name a.name)) [
    | inl t ↦
        let more : Account = record { name = a.name; spots = a.spots ++ spot_of r ∷ [] } in
        let pushed : of_account more ≡ of_account a + count a.name r.number = sum_by_push (λ (s : Spot). count a.name s.number) a.spots (spot_of r) in
        let same : count r.name r.number ≡ count a.name r.number = ap (λ n. count n r.number) (bytes_same r.name a.name t) in
        rw t (omega (arith, sum_by-cons of_account more names, sum_by-cons of_account a names, pushed, same))
    | inr f ↦ rw f (omega (arith, sum_by-cons of_account a (with_row names r), sum_by-cons of_account a names, row-more names r))
  ]

  rows-rest : (seen rest : List Row) → sum_by of_account (grouped (seen ++ rest)) ≡ sum_by of_account (grouped seen) + sum_by of_row rest
  rows-rest seen [] = ap (λ rows. sum_by of_account (grouped rows)) (append-nil seen) ∙ omega arith
  rows-rest seen (r ∷ rest) =
      let one = ap (sum_by of_account) (grouped-push seen r) ∙ row-more (grouped seen) r in
      let later = rows-rest (seen ++ r ∷ []) rest in
      ap (λ rows. sum_by of_account (grouped rows)) (sym (append_assoc seen (r ∷ []) rest)) ∙ omega (arith, one, later, sum_by-cons of_row r rest)

  -- what is counted of the accounts is what is counted of their rows
  rows-all : (rows : List Row) → sum_by of_account (grouped rows) ≡ sum_by of_row rows
  rows-all rows = let all = rows-rest [] rows in omega (arith, all, ap (sum_by of_account) grouped-nil)

  module _ {X : Type 0} (name : X → List ℕ) (number : X → ℕ) (table : Host → List X) (regular system : Host → IdRange) where
    abbrev listed : Host → List (List ℕ × ℕ)
    listed h = map (λ x. (name x, number x)) (table h)

    abbrev of_item : X → ℕ
    of_item x = count (name x) (number x)

    rows-here : (place : ℕ) (low high : IdRange) (xs : List X) → sum_by of_row (host_rows place low high (map (λ x. (name x, number x)) xs)) ≡ sum_by of_item xs
    rows-here place low high [] = refl
    rows-here place low high (x ∷ xs) =
        let rest = host_rows place low high (map (λ y. (name y, number y)) xs) in
        let first : Row = record { host = place; name = name x; number = number x; standing = standing_on low high (number x) } in
        omega (arith, sum_by-cons of_row first rest, sum_by-cons of_item x xs, rows-here place low high xs)

    rows-on : (place : ℕ) (hosts : List Host) → sum_by of_row (rows_from regular system listed place hosts) ≡ sum_by (λ h. sum_by of_item (table h)) hosts
    rows-on place [] = refl
    rows-on place (h ∷ hs) =
        let here = host_rows place (regular h) (system h) (listed h) in
        let later = rows_from regular system listed (place + 1) hs in
        omega (arith, sum_by-append of_row here later, rows-here place (regular h) (system h) (table h), sum_by-cons (λ x. sum_by of_item (table x)) h hs, rows-on (place + 1) hs)

-- ---- the rows that a mapping changes

module _ (a : Accounts) (m : List ℕ) (pairs : List Pair) (say : SayMapping a m pairs) where
  abbrev by_pairs : List ℕ → ℕ → ℕ
  by_pairs name v = changed pairs (Some name) v

  at-name : (i : ℕ) → i < length a.names → count_by (λ (s : Spot). not (s.number == number_at m i)) (account a i).spots ≡ of_account by_pairs (account a i)
  at-name i within =
      sums-same (λ (s : Spot). cond {A = ℕ} (not (s.number == number_at m i)) 1 0) (λ (s : Spot). by_pairs (account a i).name s.number) (account a i).spots
      (λ s. sym (ap (λ o. if is_number o s.number then 0 else 1) (say.numbers i within) ∙ same_number (number_at m i) s.number))

  by-names : changed_rows a m ≡ sum_by (of_account by_pairs) a.names
  by-names =
      sum_below-same (λ i. count_by (λ (s : Spot). not (s.number == number_at m i)) (account a i).spots) (λ i. of_account by_pairs (account a i)) (length a.names) at-name
      ∙ sum_below-places (of_account by_pairs) a.names no_account

pub changed_rows_agree : ChangedRowsAgree
changed_rows_agree site m printed whole users groups =
    let hosts = hosts_in site in
    let joined = whole.together in (
      by-names site.joined.users m.users printed.users users
          ∙ ap (λ (a : Accounts). sum_by (of_account (by_pairs site.joined.users m.users printed.users users)) a.names) joined.users
          ∙ rows-all (λ n v. changed printed.users (Some n) v) (rows_from (λ (h : Host). h.ranges.uid) (λ (h : Host). h.ranges.sys_uid) (λ (h : Host). map (λ (r : Passwd). (r.name, r.uid)) h.users) 0 hosts)
          ∙ rows-on (λ n v. changed printed.users (Some n) v) (λ (r : Passwd). r.name) (λ (r : Passwd). r.uid) (λ (h : Host). h.users) (λ (h : Host). h.ranges.uid) (λ (h : Host). h.ranges.sys_uid) 0 hosts,
      by-names site.joined.groups m.groups printed.groups groups
          ∙ ap (λ (a : Accounts). sum_by (of_account (by_pairs site.joined.groups m.groups printed.groups groups)) a.names) joined.groups
          ∙ rows-all (λ n v. changed printed.groups (Some n) v) (rows_from (λ (h : Host). h.ranges.gid) (λ (h : Host). h.ranges.sys_gid) (λ (h : Host). map (λ (r : Group). (r.name, r.gid)) h.groups) 0 hosts)
          ∙ rows-on (λ n v. changed printed.groups (Some n) v) (λ (r : Group). r.name) (λ (r : Group). r.gid) (λ (h : Host). h.groups) (λ (h : Host). h.ranges.gid) (λ (h : Host). h.ranges.sys_gid) 0 hosts,
    )

-- ---- of two maps

no-more : (rows others given other cost same : ℕ) → rows ≡ given → others ≡ other → (cost ≡ same → rows ≤ others) → cost ≡ same → given ≤ other
no-more rows others given other cost same is are fewest equal = omega (arith, is, are, fewest equal)

pub no_map_changes_fewer_rows : NoMapChangesFewerRows
no_map_changes_fewer_rows site m c given whole answered users groups other n other_users other_groups =
    let mine = changed_rows_agree site m given whole users.say groups.say in
    let theirs = changed_rows_agree site n other whole other_users.say other_groups.say in
    let cost = costs_agree site m given whole users.say groups.say in
    let cost' = costs_agree site n other whole other_users.say other_groups.say in
    record {
      users = λ equal. no-more (changed_rows site.joined.users m.users) (changed_rows site.joined.users n.users) _ _ (cost_of site.joined.users (user_files site) n.users) (cost_of site.joined.users (user_files site) m.users) mine.0 theirs.0
          (answered.fewest_user_rows n.users other_users.admissible)
          (sym (ap (λ k. k.users) cost') ∙ equal ∙ ap (λ k. k.users) cost);
      groups = λ equal. no-more (changed_rows site.joined.groups m.groups) (changed_rows site.joined.groups n.groups) _ _ (cost_of site.joined.groups (group_files site) n.groups) (cost_of site.joined.groups (group_files site) m.groups) mine.1 theirs.1
          (answered.fewest_group_rows n.groups other_groups.admissible)
          (sym (ap (λ k. k.groups) cost') ∙ equal ∙ ap (λ k. k.groups) cost);
    }
