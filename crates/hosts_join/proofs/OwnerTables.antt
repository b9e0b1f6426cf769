-- Look-ups in the table of a host, and what they find.
use Rattle.std.proofs.Common.{◌≡◌, ℕ, zero, suc, ◌<◌, ◌&&◌, ◌==◌, cond, List, [], ◌∷◌, ◌++◌, length, Option, None, Some, get_or, set, refl, sym, arith}
use Rattle.std.specs.List.{slice_get}
use Rattle.std.specs.Option.{option_and_then, IfSome}
use Rattle.std.proofs.Math.Dec.{eqb-suc-zero, eqb-zero-suc, eqb-suc-suc}
use Rattle.hosts_join.specs.Accounts.{Account, owner, number_on, has_number, no_account, IsOnceEach}
use Rattle.hosts_join.proofs.Once.{number-once}
use Rattle.hosts_join.proofs.Pairing.{place-holds}

eqb-swap : (a b : ℕ) → (a == b) ≡ (b == a)
eqb-swap zero zero = refl
eqb-swap zero (suc b) = rw (eqb-zero-suc b, eqb-suc-zero b) refl
eqb-swap (suc a) zero = rw (eqb-suc-zero a, eqb-zero-suc a) refl
eqb-swap (suc a) (suc b) = rw (eqb-suc-suc a b, eqb-suc-suc b a) (eqb-swap a b)

module _ {M : Type 0} (look : M → ℕ → Option ℕ) where
  -- one more table without numbers
  pub none-more : (tables : List M) (m : M) → ((h v : ℕ) → option_and_then (λ t. look t v) (slice_get tables h) ≡ None) → ((v : ℕ) → look m v ≡ None)
      → (h v : ℕ) → option_and_then (λ t. look t v) (slice_get (tables ++ m ∷ []) h) ≡ None
  none-more [] m before new zero v = new v
  none-more [] m before new (suc h) v = refl
  none-more (t ∷ ts) m before new zero v = before 0 v
  none-more (t ∷ ts) m before new (suc h) v = none-more ts m (λ k u. before (suc k) u) new h v

  -- one more number in the table of a host
  pub one-more : (tables : List M) (host : ℕ) (d m : M) (number place : ℕ) → host < length tables
      → ((v : ℕ) → look m v ≡ cond (number == v) (Some place) (look (get_or tables host d) v))
      → (h v : ℕ) → option_and_then (λ t. look t v) (slice_get (set tables host m) h) ≡ cond ((h == host) && (v == number)) (Some place) (option_and_then (λ t. look t v) (slice_get tables h))
  one-more [] host d m number place less more h v = absurd (omega (arith, less))
  one-more (t ∷ ts) zero d m number place less more zero v = rw (eqb-swap v number) (more v)
  one-more (t ∷ ts) zero d m number place less more (suc h) v = rw (eqb-suc-zero h) refl
  one-more (t ∷ ts) (suc k) d m number place less more zero v = rw (eqb-zero-suc k) refl
  one-more (t ∷ ts) (suc k) d m number place less more (suc h) v = rw (eqb-suc-suc h k) (one-more ts k d m number place (omega arith) more h v)

-- an owner has the number on the host, and is a name
pub owner-tied : (names : List Account) (h v : ℕ) (o : Option ℕ) → o ≡ owner names h v → ((i : ℕ) → IsOnceEach (get_or names i no_account).spots) → IfSome o (λ i. number_on (get_or names i no_account) h ≡ Some v)
owner-tied names h v None e once = tt
owner-tied names h v (Some i) e once = number-once h v (get_or names i no_account).spots (once i) (place-holds (has_number h v) names i no_account (sym e)).1

pub owner-within : (names : List Account) (h v : ℕ) (o : Option ℕ) → o ≡ owner names h v → IfSome o (λ i. i < length names)
owner-within names h v None e = tt
owner-within names h v (Some i) e = (place-holds (has_number h v) names i no_account (sym e)).0
