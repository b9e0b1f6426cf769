-- Users whose rows say the same on each host: what is seen of them, row by row.
use Rattle.std.proofs.Common.{◌≡◌, ◌≢◌, ◌⊎◌, ℕ, zero, suc, ◌+◌, ◌<◌, ◌==◌, List, [], ◌∷◌, ◌++◌, refl, length, get_or, set, take, sym, ap, ◌∙◌, subst, inl, inr, arith, Option, Some, None, get_or-set_same, get_or-set_other}
use Rattle.std.specs.Prelude.{slice_get}
use Rattle.std.specs.List.{All}
use Rattle.std.proofs.lemmas.Bool.{cases_Bool, eqb-true, eqb-false}
use Rattle.std.proofs.lemmas.List.{get_or_default, length-take, take_more}
use Rattle.std.proofs.lemmas.List.Elements.{All-more, All-weaker}
use Rattle.std.proofs.lemmas.Option.{same_Some}
use Rattle.accounts.specs.Rows.{Passwd}
use Rattle.hosts_join.specs.Accounts.{Account, owner}
use Rattle.hosts_join.specs.declared.host.Host.{Host}
use Rattle.mergedfiles.specs.Rows.{UserRow}
use Rattle.mergedfiles.specs.Alike.{Covers, CoversHost, CoversHosts, IsCovered, seen_at}
use Rattle.mergedfiles.specs.declared.alike.Sameness.{Sameness}
use Rattle.mergedfiles.specs.declared.alike.Sameness.TheVariants.{Differing}

-- what is true of rows stays true of them
abbrev pub Keeps : List Sameness → List Sameness → Type 0
Keeps old new = (i : ℕ) (other : UserRow) → Covers (seen_at old i) other → Covers (seen_at new i) other

pub kept-at : (seen : List Sameness) (k : ℕ) (now s : Sameness) → k < length seen → now ≡ get_or seen k now → ((other : UserRow) → Covers now other → Covers s other) → Keeps seen (set seen k s)
kept-at seen k now s h is kept = λ i other. elim (cases_Bool (i == k)) [
  | inl t ↦ λ (c : Covers (seen_at seen i) other).
      let e : i ≡ k = eqb-true i k t in
      let new : seen_at (set seen k s) i ≡ s = ap (seen_at (set seen k s)) e ∙ get_or-set_same seen k s Differing h in
      let old : seen_at seen i ≡ now = ap (seen_at seen) e ∙ get_or_default seen k Differing now h ∙ sym is in
      subst (λ (x : Sameness). Covers x other) (sym new) (kept other (subst (λ (x : Sameness). Covers x other) old c))
  | inr f ↦ λ (c : Covers (seen_at seen i) other).
      let other_place : i ≢ k = eqb-false i k f in
      subst (λ (x : Sameness). Covers x other) (sym (get_or-set_other seen k i s Differing other_place)) c
]

abbrev pub row_on : Host → Passwd → UserRow
row_on host row = record { host = host; row = row }

module _ (names : List Account) (h : ℕ) (host : Host) where
  pub still-covered : (old new : List Sameness) → Keeps old new → (rows : List Passwd) → All (λ row. IsCovered names old h (row_on host row)) rows → All (λ row. IsCovered names new h (row_on host row)) rows
  still-covered old new keeps rows = All-weaker (λ (row : Passwd). IsCovered names old h (row_on host row)) (λ (row : Passwd). IsCovered names new h (row_on host row)) (λ row was i own. keeps i (row_on host row) (was i own)) rows

  -- one row more
  pub covered-more : (old new : List Sameness) (rows : List Passwd) (k : ℕ) (d : Passwd) → k < length rows → Keeps old new → IsCovered names new h (row_on host (get_or rows k d)) → All (λ row. IsCovered names old h (row_on host row)) (take k rows) → All (λ row. IsCovered names new h (row_on host row)) (take (k + 1) rows)
  covered-more old new rows k d l keeps here before = All-more (λ (row : Passwd). IsCovered names new h (row_on host row)) rows k d l (still-covered old new keeps (take k rows) before) here

  abbrev Covered : List Sameness → Passwd → Type 0
  Covered seen row = IsCovered names seen h (row_on host row)

  -- a row whose user was noted, and one that no user has
  pub noted : (new : List Sameness) (user : ℕ) (row at : Passwd) (found : Option ℕ) → row ≡ at → found ≡ owner names h row.uid → found ≡ Some user → Covers (seen_at new user) (row_on host row) → Covered new at
  noted new user row at found is owned some covered = subst (Covered new) is (λ i own. let same : user ≡ i = same_Some user i (sym some ∙ owned ∙ own) in subst (λ (j : ℕ). Covers (seen_at new j) (row_on host row)) same covered)

  pub unowned : (new : List Sameness) (row at : Passwd) (found : Option ℕ) → row ≡ at → found ≡ owner names h row.uid → found ≡ None → Covered new at
  unowned new row at found is owned none = subst (Covered new) is (λ i own. let no : None ≡ Some i = sym none ∙ owned ∙ own in absurd (cc))

slice_get-last : {X : Type 0} (xs : List X) (y : X) (k : ℕ) (z : X) → slice_get (xs ++ y ∷ []) k ≡ Some z → (slice_get xs k ≡ Some z) ⊎ ((k ≡ length xs) × (y ≡ z))
slice_get-last [] y zero z e = inr (refl, same_Some y z e)
slice_get-last [] y (suc k) z e = absurd (cc)
slice_get-last (x ∷ xs) y zero z e = inl e
slice_get-last (x ∷ xs) y (suc k) z e = elim (slice_get-last xs y k z e) [ inl a ↦ inl a | inr b ↦ inr (ap suc b.0, b.1) ]

-- one host more
pub hosts-more : (names : List Account) (old new : List Sameness) (hosts : List Host) (k : ℕ) (host : Host) → k < length hosts → host ≡ get_or hosts k host → Keeps old new → CoversHost names new k host → CoversHosts names old (take k hosts) → CoversHosts names new (take (k + 1) hosts)
hosts-more names old new hosts k host l is keeps here before = λ h other at.
    let long : length (take k hosts) ≡ k = omega (arith, length-take k hosts) in
    let split : slice_get (take k hosts ++ host ∷ []) h ≡ Some other = ap (λ (x : Host). slice_get (take k hosts ++ x ∷ []) h) is ∙ ap (λ (xs : List Host). slice_get xs h) (sym (take_more hosts k host l)) ∙ at in
    elim (slice_get-last (take k hosts) host h other split) [
      | inl a ↦ still-covered names h other old new keeps other.users (before h other a)
      | inr b ↦ subst (λ (x : Host). CoversHost names new h x) b.1 (subst (λ (j : ℕ). CoversHost names new j host) (sym (b.0 ∙ long)) here)
    ]
