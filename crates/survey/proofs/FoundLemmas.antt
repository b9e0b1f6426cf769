-- The numbers that are found of one host more: which they are.
use Rattle.std.proofs.Common.{◌≡◌, ◌⊎◌, inl, inr, ℕ, ◌≤◌, zero, suc, ◌||◌, Bool, true, false, cond, not, List, [], ◌∷◌, ◌++◌, map, refl, sym, ap, ◌∙◌, subst, arith, nat_eq, Some}
use Rattle.std.specs.Prelude.{◌&&◌, ◌↔◌, nat_le, filter, find, is_some, Any, Contains}
use Rattle.std.specs.List.{list_any}
use Rattle.std.specs.Option.{option_map}
use Rattle.std.proofs.Math.Bool.{or-true}
use Rattle.std.proofs.lemmas.Bool.{and_from, and_parts, eq-eqb, eqb-true, false≢true, le-leb, leb-true}
use Rattle.std.proofs.lemmas.List.Elements.{Contains-append_cases, Contains-append_left, Contains-append_right}
use Rattle.std.proofs.lemmas.List.Folds.{Any-from_list_any, list_any-from_Any}
use Rattle.accounts.specs.Rows.{Passwd, Group}
use Rattle.mtree_inv.specs.declared.entry.Entry.{Entry}
use Rattle.hosts_join.specs.Hosts.{spares_user, spares_group}
use Rattle.hosts_join.specs.Kinds.{group_at, user_at}
use Rattle.hosts_join.specs.declared.host.Host.{Host}
use Rattle.kept_accounts.specs.declared.reserving.UnownedNumber.{UnownedNumber}
use Rattle.kept_accounts.proofs.ReservedLemmas.{in-map}
use Rattle.survey.specs.Laws.{IsUnownedOn, OnlyUnownedAreFound}
use Rattle.survey.specs.Unowned.{each_once, is_unowned_uid, is_unowned_gid, on_host}
use Rattle.survey.proofs.OnceLemmas.{among-once}

-- ---- a number without an account

-- the table names a number where a row has it
some-find : {Row : Type 0} (test : Row → Bool) (name : Row → List ℕ) (rows : List Row) → is_some (option_map name (find test rows)) ≡ list_any test rows
some-find test name [] = refl
some-find test name (row ∷ rows) = by (test row) (some-find test name rows)
  where
    by : (b : Bool) → is_some (option_map name (find test rows)) ≡ list_any test rows → is_some (option_map name (cond b (Some row) (find test rows))) ≡ (b || list_any test rows)
    by true later = refl
    by false later = later

neither : {P Q : Type 0} (a b : Bool) → ((a ≡ true) ↔ P) → ((b ≡ true) ↔ Q) → (not (a || b) ≡ true) ↔ ((P → ⊥) × (Q → ⊥))
neither {P} {Q} a b first second = (there, λ it. by a b refl refl it)
  where
    there : not (a || b) ≡ true → (P → ⊥) × (Q → ⊥)
    there e = (
      λ p. false≢true (sym (ap (λ t. not (t || b)) (first.1 p)) ∙ e),
      λ q. false≢true (sym (ap (λ t. not (a || t)) (second.1 q) ∙ ap not (or-true a)) ∙ e),
    )

    by : (x y : Bool) → a ≡ x → b ≡ y → (P → ⊥) × (Q → ⊥) → not (x || y) ≡ true
    by true y is_x is_y it = absurd (it.0 (first.0 is_x))
    by false true is_x is_y it = absurd (it.1 (second.0 is_y))
    by false false is_x is_y it = refl

tells-within : {Range : Type 0} (ranges : List Range) (low high : Range → ℕ) (n : ℕ) → (list_any (λ range. nat_le (low range) n && nat_le n (high range)) ranges ≡ true) ↔ Any (λ range. (low range ≤ n) × (n ≤ high range)) ranges
tells-within {Range} ranges low high n = (there, back)
  where
    lies : Range → Bool
    lies range = nat_le (low range) n && nat_le n (high range)

    there : list_any lies ranges ≡ true → Any (λ range. (low range ≤ n) × (n ≤ high range)) ranges
    there e =
        let at = Any-from_list_any lies ranges e in
        let both = and_parts (nat_le (low at.1) n) (nat_le n (high at.1)) at.4 in
        (at.0, at.1, at.2, at.3, (leb-true (low at.1) n both.0, leb-true n (high at.1) both.1))

    back : Any (λ range. (low range ≤ n) × (n ≤ high range)) ranges → list_any lies ranges ≡ true
    back at = list_any-from_Any lies ranges (at.0, at.1, at.2, at.3, and_from (nat_le (low at.1) n) (nat_le n (high at.1)) (le-leb (low at.1) n at.4.0) (le-leb n (high at.1) at.4.1))

module _ {Row : Type 0} (name : Row → List ℕ) (number : Row → ℕ) where
  tells-named : (rows : List Row) (n : ℕ) → (is_some (option_map name (find (λ row. nat_eq n (number row)) rows)) ≡ true) ↔ Any (λ row. number row ≡ n) rows
  tells-named rows n = (there, back)
    where
      has : Row → Bool
      has row = nat_eq n (number row)

      there : is_some (option_map name (find has rows)) ≡ true → Any (λ row. number row ≡ n) rows
      there e = let at = Any-from_list_any has rows (sym (some-find has name rows) ∙ e) in (at.0, at.1, at.2, at.3, sym (eqb-true n (number at.1) at.4))

      back : Any (λ row. number row ≡ n) rows → is_some (option_map name (find has rows)) ≡ true
      back at = some-find has name rows ∙ list_any-from_Any has rows (at.0, at.1, at.2, at.3, eq-eqb n (number at.1) (sym at.4))

-- ---- numbers with the name of a host

from-map : {X Y : Type 0} (f : X → Y) (xs : List X) (y : Y) → Contains (map f xs) y → (x : X) × Contains xs x × (f x ≡ y)
from-map f [] y there = absurd (omega (arith, there.1))
from-map f (x ∷ xs) y (zero, lt, e) = (x, (zero, omega arith, refl), e)
from-map f (x ∷ xs) y (suc k, lt, e) =
    let more = from-map f xs y (k, omega (arith, lt), e) in
    let among = more.1 in
    (more.0, (suc among.0, omega (arith, among.1), among.2), more.2)

abbrev with_host : Host → ℕ → UnownedNumber
with_host host number = record { host = host.name; number = number }

in-on_host : (host : Host) (numbers : List ℕ) (found : UnownedNumber) → Contains (on_host host numbers) found ↔ ((found.host ≡ host.name) × Contains numbers found.number)
in-on_host host numbers found = (there, back)
  where
    there : Contains (on_host host numbers) found → (found.host ≡ host.name) × Contains numbers found.number
    there among =
        let it = from-map (with_host host) numbers found among in
        (sym (ap (λ (u : UnownedNumber). u.host) it.2), subst (λ m. Contains numbers m) (ap (λ (u : UnownedNumber). u.number) it.2) it.1)

    back : (found.host ≡ host.name) × Contains numbers found.number → Contains (on_host host numbers) found
    back it =
        let same : with_host host found.number ≡ found = λ i. record { host = sym it.0 i; number = found.number } in
        subst (λ (u : UnownedNumber). Contains (on_host host numbers) u) same (in-map (with_host host) numbers found.number it.1)

-- ---- what is found

module _ (number_of : Entry → ℕ) (is_unowned : ℕ → Bool) (host : Host) (files : List Entry) (found : UnownedNumber) where
  abbrev here : List ℕ
  here = each_once (filter is_unowned (map number_of files))

  abbrev Owned : Type 0
  Owned = Any (λ file. number_of file ≡ found.number) files

  found-with : {Had Spared : Type 0} (before : List UnownedNumber) → (is_unowned found.number ≡ true) ↔ ((Had → ⊥) × (Spared → ⊥))
      → Contains (before ++ on_host host here) found ↔ (Contains before found ⊎ IsUnownedOn host found Owned Had Spared)
  found-with {Had} {Spared} before told = (λ among. there (Contains-append_cases before (on_host host here) found among), back)
    where
      which : Contains here found.number ↔ (Owned × (is_unowned found.number ≡ true))
      which = among-once is_unowned number_of files found.number

      there : Contains before found ⊎ Contains (on_host host here) found → Contains before found ⊎ IsUnownedOn host found Owned Had Spared
      there (inl among) = inl among
      there (inr among) =
          let it = (in-on_host host here found).0 among in
          let both = which.0 it.1 in
          inr (record { on_host = it.0; owns_files = both.0; has_no_account = (told.0 both.1).0; is_not_spared = (told.0 both.1).1 })

      back : Contains before found ⊎ IsUnownedOn host found Owned Had Spared → Contains (before ++ on_host host here) found
      back (inl among) = Contains-append_left before (on_host host here) found among
      back (inr it) = Contains-append_right before (on_host host here) found
          ((in-on_host host here found).1 (it.on_host, which.1 (it.owns_files, told.1 (it.has_no_account, it.is_not_spared))))

pub only_unowned_found : OnlyUnownedAreFound
only_unowned_found before host files found = (
  found-with (λ file. file.uid) (is_unowned_uid host) host files found before.users
      (neither (is_some (user_at host.users found.number)) (spares_user host found.number) (tells-named (λ (row : Passwd). row.name) (λ (row : Passwd). row.uid) host.users found.number) (tells-within host.spared_users (λ range. range.low) (λ range. range.high) found.number)),
  found-with (λ file. file.gid) (is_unowned_gid host) host files found before.groups
      (neither (is_some (group_at host.groups found.number)) (spares_group host found.number) (tells-named (λ (row : Group). row.name) (λ (row : Group). row.gid) host.groups found.number) (tells-within host.spared_groups (λ range. range.low) (λ range. range.high) found.number)),
)
