-- The fresh names are those to which their numbers are new.
use Rattle.std.proofs.Common.{◌≡◌, ◌≢◌, ℕ, ◌*◌, ◌+◌, true, false, cond, List, [], ◌∷◌, count_by, inl, inr, refl, ap, arith}
use Rattle.std.specs.Prelude.{◌&&◌, ◌==◌, find}
use Rattle.std.specs.List.{All}
use Rattle.std.specs.Option.{option_map}
use Rattle.std.proofs.lemmas.Bool.{and_right, cases_Bool, ne_eqb}
use Rattle.std.proofs.lemmas.Bool.Decides.{Decides-eqb}
use Rattle.std.proofs.lemmas.List.Elements.{All-cons, All-head, All-nil, All-tail}
use Rattle.std.proofs.lemmas.List.Sums.{sum_by-cons}
use Rattle.hosts_join.specs.Accounts.{Accounts, all_lines, lines}
use Rattle.hosts_join.specs.Rules.{account, class_at, is_free_class}
use Rattle.hosts_join.specs.declared.Class.{Class}
use Rattle.hosts_join.specs.declared.Class.TheVariants.{Pinned, Regular, System}
use Rattle.hosts_join.specs.declared.Spot.{Spot}
use Rattle.ownership.specs.Files.{File, has_there, is_number, kept, owns}
use Rattle.ownership.specs.Fresh.{FreshNumbersAreNew, HasNewNumber}
use Rattle.ownership.specs.Mappings.{number_at}
use Rattle.ownership.specs.Weights.{IsFresh}

-- ---- rows

no-row : (v : ℕ) (spots : List Spot) → count_by (λ s. s.number == v) spots ≡ 0 → All (λ s. s.number ≢ v) spots
no-row v [] e = All-nil (λ s. s.number ≢ v)
no-row v (s ∷ ss) e =
    let sum = sum_by-cons (λ (s : Spot). cond (s.number == v) 1 0) s ss in
    All-cons (λ s. s.number ≢ v) s ss
    (λ same. let one : ◌≡◌ {A = ℕ} (cond (s.number == v) 1 0) 1 = ap (λ b. cond b 1 0) ((Decides-eqb s.number v).1 same) in omega (arith, e, sum, one))
    (no-row v ss (omega (arith, e, sum)))

rows-none : (v : ℕ) (spots : List Spot) → All (λ s. s.number ≢ v) spots → count_by (λ s. s.number == v) spots ≡ 0
rows-none v [] all = refl
rows-none v (s ∷ ss) all =
    let zero : ◌≡◌ {A = ℕ} (cond (s.number == v) 1 0) 0 = ap (λ b. cond b 1 0) (ne_eqb s.number v (All-head (λ s. s.number ≢ v) s ss all)) in
    let rest = rows-none v ss (All-tail (λ s. s.number ≢ v) s ss all) in
    omega (arith, sum_by-cons (λ (s : Spot). cond (s.number == v) 1 0) s ss, zero, rest)

-- ---- files

-- none of the rows that is found has the number
not-there : (v h : ℕ) (spots : List Spot) → All (λ s. s.number ≢ v) spots → is_number v (option_map (λ s. s.number) (find (λ s. s.host == h) spots)) ≡ false
not-there v h [] all = refl
not-there v h (s ∷ ss) all = elim (cases_Bool (s.host == h)) [
  | inl here ↦ rw here (ne_eqb s.number v (All-head (λ s. s.number ≢ v) s ss all))
  | inr other ↦ rw other (not-there v h ss (All-tail (λ s. s.number ≢ v) s ss all))
]

kept-none : (a : Accounts) (files : List File) (i v : ℕ) → All (λ s. s.number ≢ v) (account a i).spots → kept a.names files i v ≡ 0
kept-none a [] i v all = refl
kept-none a (f ∷ fs) i v all =
    let keeps = λ (f : File). owns a.names i f && has_there a.names i v f.host in
    let zero : ◌≡◌ {A = ℕ} (cond (keeps f) 1 0) 0 = ap (λ b. cond b 1 0) (and_right (owns a.names i f) (has_there a.names i v f.host) (not-there v f.host (account a i).spots all)) in
    let rest = kept-none a fs i v all in
    omega (arith, sum_by-cons (λ (f : File). cond (keeps f) 1 0) f fs, zero, rest)

-- ---- classes and weights

free-there : (c : Class) → is_free_class c ≡ true → (v : ℕ) → c ≢ Pinned v
free-there (Pinned w) e v is = absurd (cc)
free-there Regular e v is = absurd (cc)
free-there System e v is = absurd (cc)

free-back : (c : Class) → ((v : ℕ) → c ≢ Pinned v) → is_free_class c ≡ true
free-back (Pinned w) not = absurd (not w refl)
free-back Regular not = refl
free-back System not = refl

no-weight : (rows files own : ℕ) → (rows + 1) * files + own ≡ 0 → own ≡ 0
no-weight rows files own e = omega (arith, e)

weighs-nothing : (rows files own : ℕ) → files ≡ 0 → own ≡ 0 → (rows + 1) * files + own ≡ 0
weighs-nothing rows files own none bare = rw (none, bare) (omega arith)

fresh-there : (a : Accounts) (files : List File) (m : List ℕ) (i : ℕ) → IsFresh a files m i → HasNewNumber a m i
fresh-there a files m i fresh =
    let v = number_at m i in
    record {
      not_pinned = free-there (class_at a i) fresh.free;
      on_no_host = no-row v (account a i).spots (no-weight (all_lines a.names) (kept a.names files i v) (lines (account a i) v) fresh.weightless);
    }

fresh-back : (a : Accounts) (files : List File) (m : List ℕ) (i : ℕ) → HasNewNumber a m i → IsFresh a files m i
fresh-back a files m i new =
    let v = number_at m i in
    record {
      free = free-back (class_at a i) new.not_pinned;
      weightless =
          weighs-nothing (all_lines a.names) (kept a.names files i v) (lines (account a i) v)
          (kept-none a files i v new.on_no_host) (rows-none v (account a i).spots new.on_no_host);
    }

pub fresh-new : FreshNumbersAreNew
fresh-new a files m i = (fresh-there a files m i, fresh-back a files m i)
