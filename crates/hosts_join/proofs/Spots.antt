-- The spots that the rows of hosts give a name.
use Rattle.std.proofs.Common.{◌≡◌, ℕ, zero, suc, ◌+◌, ◌<◌, ◌≤◌, ◌==◌, true, List, [], ◌∷◌, ◌++◌, length, map, get_or, refl, sym, ◌∙◌, ap, arith}
use Rattle.std.specs.List.{All, list_any, list_all, filter}
use Rattle.std.specs.Str.{bytes_eq}
use Rattle.std.proofs.lemmas.Bool.{both_ways, or_parts, and_parts, eq-eqb}
use Rattle.std.proofs.lemmas.List.{length-append, map-append}
use Rattle.std.proofs.lemmas.List.Elements.{All-nil, All-cons, All-head, All-tail, All-append, All-map, All-filter, filter-append}
use Rattle.idtext.specs.Names.{is_lawful_name}
use Rattle.accounts.specs.Laws.{IsTable}
use Rattle.logindefs.specs.declared.ranges.IdRange.{IdRange}
use Rattle.hosts_join.specs.declared.Spot.{Spot}
use Rattle.hosts_join.specs.Accounts.{Row, spot_of, spots_of, grouped, first_appearances, IsOnceEach, IsSpotAmong, host_rows, rows_from, no_account}
use Rattle.hosts_join.proofs.Once.{IsOnceEach-spots_of, account_with, host_rows-named}

-- what holds of the rows holds of the spots
pub spots_of-all : (P : Spot → Type 0) (rows : List Row) (n : List ℕ) → All (λ r. P (spot_of r)) rows → All P (spots_of rows n)
unfolding spots_of
spots_of-all P rows n all = All-map P spot_of (filter (λ (r : Row). bytes_eq n r.name) rows) (All-filter (λ (r : Row). bytes_eq n r.name) (λ r. P (spot_of r)) rows all)

-- what holds of the spots of each name holds of each account
pub grouped-spots : (P : List Spot → Type 0) (rows : List Row) → P [] → ((n : List ℕ) → P (spots_of rows n)) → (i : ℕ) → P (get_or (grouped rows) i no_account).spots
unfolding grouped
grouped-spots P rows none each i = among (first_appearances (map (λ (r : Row). r.name) rows)) i
  where
    among : (ns : List (List ℕ)) (i : ℕ) → P (get_or (map (λ n. account_with n (spots_of rows n)) ns) i no_account).spots
    among [] i = none
    among (n ∷ ns) zero = each n
    among (n ∷ ns) (suc i) = among ns i

host_rows-among : (place n : ℕ) (r s : IdRange) (pairs : List (List ℕ × ℕ)) → place < n → ((i : ℕ) → i < length (map (λ p. p.1) pairs) → get_or (map (λ (p : List ℕ × ℕ). p.1) pairs) i 0 ≤ 4294967294) → All (λ q. IsSpotAmong n (spot_of q)) (host_rows place r s pairs)
host_rows-among place n r s [] here ids = All-nil (λ (q : Row). IsSpotAmong n (spot_of q))
host_rows-among place n r s (p ∷ pairs) here ids = All-cons (λ (q : Row). IsSpotAmong n (spot_of q)) _ (host_rows place r s pairs) (here, ids 0 (omega arith)) (host_rows-among place n r s pairs here (λ i h. ids (suc i) (omega arith)))

host_rows-lawful : (place : ℕ) (r s : IdRange) (pairs : List (List ℕ × ℕ)) → list_all is_lawful_name (map (λ p. p.0) pairs) ≡ true → All (λ q. is_lawful_name q.name ≡ true) (host_rows place r s pairs)
host_rows-lawful place r s [] e = All-nil (λ (q : Row). is_lawful_name q.name ≡ true)
host_rows-lawful place r s (p ∷ pairs) e =
    let parts = and_parts (is_lawful_name p.0) (list_all is_lawful_name (map (λ (p : List ℕ × ℕ). p.0) pairs)) e in
    All-cons (λ (q : Row). is_lawful_name q.name ≡ true) _ (host_rows place r s pairs) parts.0 (host_rows-lawful place r s pairs parts.1)

pub on-host : (place : ℕ) (r s : IdRange) (pairs : List (List ℕ × ℕ)) → All (λ q. (spot_of q).host ≡ place) (host_rows place r s pairs)
on-host place r s [] = All-nil (λ (q : Row). (spot_of q).host ≡ place)
on-host place r s (p ∷ pairs) = All-cons (λ (q : Row). (spot_of q).host ≡ place) _ (host_rows place r s pairs) refl (on-host place r s pairs)

pub one-spot : (place : ℕ) (ss : List Spot) → All (λ s. s.host ≡ place) ss → IsOnceEach ss → length ss ≤ 1
unfolding IsOnceEach
one-spot place [] all once = omega arith
one-spot place (s ∷ []) all once = omega arith
one-spot place (s ∷ t ∷ ss) all once =
    let at_s = All-head (λ (s : Spot). s.host ≡ place) s (t ∷ ss) all in
    let at_t = All-head (λ (s : Spot). s.host ≡ place) t ss (All-tail (λ (s : Spot). s.host ≡ place) s (t ∷ ss) all) in
    absurd (both_ways (t.host == s.host) (or_parts (t.host == s.host) (list_any (λ (u : Spot). u.host == s.host) ss) once.0).0 (eq-eqb t.host s.host (at_t ∙ sym at_s)))

pub spots_of-append : (xs ys : List Row) (n : List ℕ) → spots_of (xs ++ ys) n ≡ spots_of xs n ++ spots_of ys n
unfolding spots_of
spots_of-append xs ys n = rw (filter-append, map-append) refl

pub spots_of-none : (n : List ℕ) → spots_of [] n ≡ []
unfolding spots_of
spots_of-none n = refl

module _ {H : Type 0} (regular system : H → IdRange) (pairs : H → List (List ℕ × ℕ)) (lawful : H → Type 0) (table : (h : H) → lawful h → IsTable (map (λ p. p.0) (pairs h)) (map (λ p. p.1) (pairs h))) where
  pub rows_from-among : (place n : ℕ) (hs : List H) → place + length hs ≤ n → All lawful hs → All (λ q. IsSpotAmong n (spot_of q)) (rows_from regular system pairs place hs)
  rows_from-among place n [] fits l = All-nil (λ (q : Row). IsSpotAmong n (spot_of q))
  rows_from-among place n (h ∷ hs) fits l =
      All-append (λ (q : Row). IsSpotAmong n (spot_of q)) (host_rows place (regular h) (system h) (pairs h)) (rows_from regular system pairs (place + 1) hs)
      (host_rows-among place n (regular h) (system h) (pairs h) (omega arith) (table h (All-head lawful h hs l)).ids)
      (rows_from-among (place + 1) n hs (omega arith) (All-tail lawful h hs l))

  pub rows_from-lawful : (place : ℕ) (hs : List H) → All lawful hs → All (λ q. is_lawful_name q.name ≡ true) (rows_from regular system pairs place hs)
  rows_from-lawful place [] l = All-nil (λ (q : Row). is_lawful_name q.name ≡ true)
  rows_from-lawful place (h ∷ hs) l =
      All-append (λ (q : Row). is_lawful_name q.name ≡ true) (host_rows place (regular h) (system h) (pairs h)) (rows_from regular system pairs (place + 1) hs)
      (host_rows-lawful place (regular h) (system h) (pairs h) (table h (All-head lawful h hs l)).lawful)
      (rows_from-lawful (place + 1) hs (All-tail lawful h hs l))

  -- a name has no more spots than there are hosts
  pub few-spots : (place : ℕ) (hs : List H) (n : List ℕ) → All lawful hs → length (spots_of (rows_from regular system pairs place hs) n) ≤ length hs
  few-spots place [] n l = omega (arith, ap length (spots_of-none n))
  few-spots place (h ∷ hs) n l =
      let here = host_rows place (regular h) (system h) (pairs h) in
      let later = rows_from regular system pairs (place + 1) hs in
      let one : length (spots_of here n) ≤ 1 = one-spot place (spots_of here n) (spots_of-all (λ s. s.host ≡ place) here n (on-host place (regular h) (system h) (pairs h)))
      (IsOnceEach-spots_of n here (host_rows-named place (regular h) (system h) (pairs h) (table h (All-head lawful h hs l)).names_differ)) in
      omega (arith, one, few-spots (place + 1) hs n (All-tail lawful h hs l), ap length (spots_of-append here later n), length-append (spots_of here n) (spots_of later n))
