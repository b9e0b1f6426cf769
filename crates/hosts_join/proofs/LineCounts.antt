-- How many rows of a name have a number.
use Rattle.std.proofs.Common.{◌≡◌, ℕ, ◌+◌, ◌==◌, ◌&&◌, Bool, true, false, cond, List, [], ◌∷◌, length, map, get_or, Option, Some, refl, sym, ◌∙◌, ap, subst, arith, inl, inr}
use Rattle.std.specs.List.{All, count_by, filter}
use Rattle.std.specs.Str.{bytes_eq}
use Rattle.std.proofs.lemmas.Bool.{cases_Bool, both_ways, and_right, eq-eqb, eqb-true, ne_eqb, false_from_ne_true}
use Rattle.std.proofs.lemmas.List.Elements.{All-head, All-tail}
use Rattle.std.proofs.lemmas.List.Sums.{sum_by-append, sum_by-cons}
use Rattle.accounts.specs.Laws.{AreDistinct}
use Rattle.accounts.specs.Rows.{Passwd}
use Rattle.accounts.specs.Rows as row
use Rattle.logindefs.specs.declared.ranges.IdRange.{IdRange}
use Rattle.logindefs.specs.declared.ranges.HostRanges.{HostRanges}
use Rattle.hosts_join.specs.Accounts.{Pair, Row, host_rows, rows_from, spot_of, spots_of}
use Rattle.hosts_join.specs.Hosts.{IsLawfulHost}
use Rattle.hosts_join.specs.Kinds.{user_at, group_at, user_rows, group_rows, user_rows-table, group_rows-table}
use Rattle.hosts_join.specs.Site.{Joined, accounts_of}
use Rattle.hosts_join.specs.Standings.{HostTells, LinesAreOfHosts, LinesCountTheHosts, is_told, of_users, of_groups}
use Rattle.hosts_join.specs.declared.Spot.{Spot}
use Rattle.hosts_join.specs.declared.host.Host.{Host}
use Rattle.hosts_join.specs.declared.reserving.Reserved.{Reserved}
use Rattle.hosts_join.proofs.KindLemmas.{AreDistinct-tail}
use Rattle.hosts_join.proofs.Knowing.{site-is, told-by, twice}
use Rattle.hosts_join.proofs.Spots.{spots_of-append}
use Rattle.hosts_join.proofs.StandingRows.{account-spots, name_in, row_on}

-- how many of the spots have the number
abbrev counted : ℕ → List Spot → ℕ
counted v ss = count_by (λ s. s.number == v) ss

abbrev one_if : Bool → ℕ
one_if b = cond b 1 0

counted-row : (v : ℕ) (n : List ℕ) (r : Row) (rows : List Row) → counted v (spots_of (r ∷ rows) n) ≡ one_if (bytes_eq n r.name && (r.number == v)) + counted v (spots_of rows n)
unfolding spots_of
counted-row v n r rows = elim (cases_Bool (bytes_eq n r.name)) [
  | inl same ↦ rw same (sum_by-cons (λ (s : Spot). one_if (s.number == v)) (spot_of r) (map spot_of (filter (λ (r : Row). bytes_eq n r.name) rows)))
  | inr other ↦ rw other (omega arith)
]

counted-none : (v : ℕ) (n : List ℕ) → counted v (spots_of [] n) ≡ 0
unfolding spots_of
counted-none v n = refl

one-right : (b c : Bool) → c ≡ true → one_if (b && c) ≡ one_if b
one-right true c e = ap one_if e
one-right false c e = refl

one-none : (b c : Bool) → c ≡ false → one_if (b && c) ≡ 0
one-none b c e = ap one_if (and_right b c e)

-- the tests by a number
turned : (v w : ℕ) → (v == w) ≡ false → (w == v) ≡ false
turned v w away = ne_eqb w v (λ e. both_ways (v == w) away (eq-eqb v w (sym e)))

module _ (place : ℕ) (r s : IdRange) (v : ℕ) (n : List ℕ) where
  abbrev of : List (List ℕ × ℕ) → ℕ
  of pairs = counted v (spots_of (host_rows place r s pairs) n)

  of-more : (p : List ℕ × ℕ) (pairs : List (List ℕ × ℕ)) → of (p ∷ pairs) ≡ one_if (bytes_eq n p.0 && (p.1 == v)) + of pairs
  of-more p pairs = counted-row v n (row_on place r s p) (host_rows place r s pairs)

  of-none : (pairs : List (List ℕ × ℕ)) → All (λ p. (v == p.1) ≡ false) pairs → of pairs ≡ 0
  of-none [] all = counted-none v n
  of-none (p ∷ pairs) all =
      let away : (v == p.1) ≡ false = All-head (λ (p : List ℕ × ℕ). (v == p.1) ≡ false) p pairs all in
      let rest = of-none pairs (All-tail (λ (p : List ℕ × ℕ). (v == p.1) ≡ false) p pairs all) in
      omega (arith, of-more p pairs, one-none (bytes_eq n p.0) (p.1 == v) (turned v p.1 away), rest)

  -- a table has a number once
  of-table : (pairs : List (List ℕ × ℕ)) → AreDistinct (map (λ p. p.1) pairs) → of pairs ≡ one_if (is_told n (name_in pairs v))
  of-table [] apart = counted-none v n
  of-table (p ∷ pairs) apart = elim (cases_Bool (v == p.1)) [
    | inl it ↦
        let is : name_in (p ∷ pairs) v ≡ Some p.0 = rw it refl in
        let told : one_if (is_told n (name_in (p ∷ pairs) v)) ≡ one_if (bytes_eq n p.0) = ap (λ o. one_if (is_told n o)) is in
        let first = one-right (bytes_eq n p.0) (p.1 == v) (eq-eqb p.1 v (sym (eqb-true v p.1 it))) in
        let none = of-none pairs (λ k d l. false_from_ne_true (v == (get_or pairs k d).1) (λ e. twice v k p d pairs apart l e it)) in
        omega (arith, of-more p pairs, first, none, told)
    | inr away ↦
        let is : name_in (p ∷ pairs) v ≡ name_in pairs v = rw away refl in
        let told : one_if (is_told n (name_in (p ∷ pairs) v)) ≡ one_if (is_told n (name_in pairs v)) = ap (λ o. one_if (is_told n o)) is in
        let first = one-none (bytes_eq n p.0) (p.1 == v) (turned v p.1 away) in
        let rest = of-table pairs (AreDistinct-tail p.1 (map (λ (p : List ℕ × ℕ). p.1) pairs) apart) in
        omega (arith, of-more p pairs, first, rest, told)
  ]

length-filter-more : {X : Type 0} (p : X → Bool) (x : X) (xs : List X) → length (filter p (x ∷ xs)) ≡ one_if (p x) + length (filter p xs)
length-filter-more p x xs = elim (cases_Bool (p x)) [ inl it ↦ rw it (omega arith) | inr away ↦ rw away (omega arith) ]

module _ (regular system : HostRanges → IdRange) (listed : Host → List (List ℕ × ℕ)) (name_at : Host → ℕ → Option (List ℕ))
    (distinct : (h : Host) → IsLawfulHost h → AreDistinct (map (λ p. p.1) (listed h))) (told : (h : Host) (v : ℕ) → name_in (listed h) v ≡ name_at h v) where
  abbrev rows : ℕ → List Host → List Row
  rows place hosts = rows_from (λ (h : Host). regular h.ranges) (λ (h : Host). system h.ranges) listed place hosts

  hosts-counted : (v : ℕ) (n : List ℕ) (place : ℕ) (hosts : List Host) → All IsLawfulHost hosts → counted v (spots_of (rows place hosts) n) ≡ length (filter (λ h. is_told n (name_at h v)) hosts)
  hosts-counted v n place [] lawful = counted-none v n
  hosts-counted v n place (h ∷ hosts) lawful =
      let here = host_rows place (regular h.ranges) (system h.ranges) (listed h) in
      let later = rows (place + 1) hosts in
      let split : counted v (spots_of (rows place (h ∷ hosts)) n) ≡ counted v (spots_of here n) + counted v (spots_of later n) =
      ap (counted v) (spots_of-append here later n) ∙ sum_by-append (λ (s : Spot). one_if (s.number == v)) (spots_of here n) (spots_of later n) in
      let one : counted v (spots_of here n) ≡ one_if (is_told n (name_at h v)) =
      of-table place (regular h.ranges) (system h.ranges) v n (listed h) (distinct h (All-head IsLawfulHost h hosts lawful)) ∙ ap (λ o. one_if (is_told n o)) (told h v) in
      let rest = hosts-counted v n (place + 1) hosts (All-tail IsLawfulHost h hosts lawful) in
      omega (arith, split, one, rest, length-filter-more (λ h. is_told n (name_at h v)) h hosts)

  abbrev tells : Host → HostTells
  tells h = record { name_at = name_at h; regular = regular h.ranges; system = system h.ranges }

  kind-counted : (hosts : List Host) (pins : List Pair) (reserved : List Reserved) → All IsLawfulHost hosts → LinesAreOfHosts tells hosts (accounts_of regular system listed hosts pins reserved)
  kind-counted hosts pins reserved lawful = λ i v less. ap (counted v) (account-spots (rows (0) hosts) i less) ∙ hosts-counted v _ 0 hosts lawful

pub lines_count : LinesCountTheHosts
lines_count hosts pins site lawful is =
    subst (λ (s : Joined). LinesAreOfHosts of_users hosts s.users × LinesAreOfHosts of_groups hosts s.groups) (site-is hosts pins site is) (
      kind-counted (λ (r : HostRanges). r.uid) (λ (r : HostRanges). r.sys_uid) (λ (h : Host). user_rows h.users) (λ (h : Host). user_at h.users) (λ h l. (user_rows-table h.users l.users).numbers_differ) (λ h v. told-by (λ (r : Passwd). r.name) (λ (r : Passwd). r.uid) v h.users) hosts pins.users pins.reserved_users lawful,
      kind-counted (λ (r : HostRanges). r.gid) (λ (r : HostRanges). r.sys_gid) (λ (h : Host). group_rows h.groups) (λ (h : Host). group_at h.groups) (λ h l. (group_rows-table h.groups l.groups).numbers_differ) (λ h v. told-by (λ (r : row.Group). r.name) (λ (r : row.Group). r.gid) v h.groups) hosts pins.groups pins.reserved_groups lawful,
    )
