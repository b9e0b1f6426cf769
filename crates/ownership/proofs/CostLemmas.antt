-- The files that change are those with an owner less those that keep their number; the changed rows are all rows less those
-- that keep theirs.
use Rattle.std.proofs.Common.{◌≡◌, ℕ, ◌+◌, ◌-◌, ◌<◌, ◌≤◌, ◌==◌, ◌&&◌, Bool, true, false, not, cond, List, [], ◌∷◌, length, Option, Some, None, refl, ap, ◌∙◌, arith, inl, inr}
use Rattle.std.specs.Prelude.{is_some}
use Rattle.std.specs.List.{count_by, sum_by}
use Rattle.std.proofs.lemmas.List.Elements.{All-head, All-tail}
use Rattle.std.proofs.lemmas.List.Sums.{sum_by-cons}
use Rattle.std.proofs.lemmas.Bool.{cases_Bool, eqb-true}
use Rattle.hosts_join.specs.Accounts.{Account, Accounts, lines, all_lines, no_account, owner, number_on, has_number}
use Rattle.hosts_join.specs.Rules.{account}
use Rattle.hosts_join.specs.Lawful.{AreLawfulAccounts}
use Rattle.hosts_join.proofs.Pairing.{place-holds}
use Rattle.hosts_join.proofs.Once.{number-once}
use Rattle.ownership.specs.Sums.{sum_below}
use Rattle.ownership.specs.Owned.{HaveOwners, OwnedFilesAreAll}
use Rattle.ownership.specs.Files.{File, by_user, by_group, owned_files, owns, has_there, is_number, is_place, kept, total}
use Rattle.ownership.specs.Mappings.{number_at}
use Rattle.ownership.specs.Costs.{changes, cost_of, changed_rows}
use Rattle.ownership.proofs.SumsBelow.{sum_below-same, sum_below-add, sum_below-pick, sum_below-zero, sum_below-places}

-- how many files keep their number, over all names
abbrev pub all_kept : Accounts → List File → List ℕ → ℕ
all_kept a files m = sum_below (λ i. kept a.names files i (number_at m i)) (length a.names)

-- how many account rows keep their number
abbrev pub all_staying : Accounts → List ℕ → ℕ
all_staying a m = sum_below (λ i. lines (account a i) (number_at m i)) (length a.names)

-- Where each file counts for one index, if it passes, and else for none, the counts of all indices are that of those that pass.
over_indices : (size : ℕ) (t : ℕ → File → Bool) (u : File → Bool) → ((f : File) → sum_below (λ i. cond (t i f) 1 0) size ≡ cond (u f) 1 0) → (files : List File) → sum_below (λ i. count_by (t i) files) size ≡ count_by u files
over_indices size t u agree [] = sum_below-zero size
over_indices size t u agree (f ∷ fs) =
    let rest = over_indices size t u agree fs in
    let parts = sum_below-same (λ i. count_by (t i) (f ∷ fs)) (λ i. cond (t i f) 1 0 + count_by (t i) fs) size (λ i l. sum_by-cons (λ g. cond (t i g) 1 0) f fs) in
    let sums = sum_below-add (λ i. cond (t i f) 1 0) (λ i. count_by (t i) fs) size in
    let cons = sum_by-cons (λ g. cond (u g) 1 0) f fs in
    omega (arith, parts, sums, cons, rest, agree f)

-- the owner of a file has the file's number on its host
pub owner-number : (a : Accounts) (h v k : ℕ) → AreLawfulAccounts a → owner a.names h v ≡ Some k → (k < length a.names) × (number_on (account a k) h ≡ Some v)
owner-number a h v k lawful is = let there = place-holds (has_number h v) a.names k no_account is in (there.0, number-once h v (account a k).spots (lawful.once k) there.1)

-- whether a file keeps its number
abbrev stays : List ℕ → Option ℕ → ℕ → Bool
stays m None v = false
stays m (Some i) v = v == number_at m i

-- So what a name keeps with a number is, of the files that it owns, those that have the number already.
pub kept-is : (a : Accounts) (files : List File) (i v : ℕ) → AreLawfulAccounts a → kept a.names files i v ≡ count_by (λ f. owns a.names i f && (f.number == v)) files
kept-is a [] i v lawful = refl
kept-is a (f ∷ fs) i v lawful =
    let rest = kept-is a fs i v lawful in
    let mine = sum_by-cons (λ g. cond (owns a.names i g && has_there a.names i v g.host) 1 0) f fs in
    let its = sum_by-cons (λ g. cond (owns a.names i g && (g.number == v)) 1 0) f fs in
    let one : cond {A = ℕ} (owns a.names i f && has_there a.names i v f.host) 1 0 ≡ cond (owns a.names i f && (f.number == v)) 1 0 = ap (λ b. cond {A = ℕ} b 1 0) (at (owner a.names f.host f.number) refl) in
    omega (arith, rest, mine, its, one)
  where
    at : (o : Option ℕ) → owner a.names f.host f.number ≡ o → (is_place i o && has_there a.names i v f.host) ≡ (is_place i o && (f.number == v))
    at None is = refl
    at (Some k) is = elim (cases_Bool (i == k)) [
      | inl t ↦
          let same : i ≡ k = eqb-true i k t in
          ap (λ b. (i == k) && b) (ap (λ j. is_number v (number_on (account a j) f.host)) same ∙ ap (is_number v) (owner-number a f.host f.number k lawful is).1)
      | inr d ↦ rw d refl
    ]

module _ (a : Accounts) (lawful : AreLawfulAccounts a) (files : List File) where
  -- the files that keep their number are those whose owner is given it
  kept-stays : (m : List ℕ) → all_kept a files m ≡ count_by (λ f. stays m (owner a.names f.host f.number) f.number) files
  kept-stays m =
      let same = sum_below-same (λ i. kept a.names files i (number_at m i)) (λ i. count_by (λ f. owns a.names i f && (f.number == number_at m i)) files) (length a.names) (λ i l. kept-is a files i (number_at m i) lawful) in
      same ∙ over_indices (length a.names) (λ i f. owns a.names i f && (f.number == number_at m i)) (λ f. stays m (owner a.names f.host f.number) f.number) (λ f. at f (owner a.names f.host f.number) refl) files
    where
      at : (f : File) (o : Option ℕ) → owner a.names f.host f.number ≡ o → sum_below (λ i. cond (is_place i o && (f.number == number_at m i)) 1 0) (length a.names) ≡ cond (stays m o f.number) 1 0
      at f None is = sum_below-zero (length a.names)
      at f (Some k) is =
          let spread = sum_below-same (λ i. cond ((i == k) && (f.number == number_at m i)) 1 0) (λ i. cond (i == k) (cond (f.number == number_at m i) 1 0) 0) (length a.names) (λ i l. nest (i == k) (f.number == number_at m i)) in
          spread ∙ sum_below-pick k (λ i. cond (f.number == number_at m i) 1 0) (length a.names) (owner-number a f.host f.number k lawful is).0
        where
          nest : (b c : Bool) → ◌≡◌ {A = ℕ} (cond (b && c) 1 0) (cond b (cond c 1 0) 0)
          nest true c = refl
          nest false c = refl

  changed-or-kept : (m : List ℕ) (fs : List File) → cost_of a fs m + count_by (λ f. stays m (owner a.names f.host f.number) f.number) fs ≡ owned_files a.names fs
  changed-or-kept m [] = refl
  changed-or-kept m (f ∷ fs) =
      let rest = changed-or-kept m fs in
      let moved = sum_by-cons (λ g. cond (changes m (owner a.names g.host g.number) g.number) 1 0) f fs in
      let stay = sum_by-cons (λ g. cond (stays m (owner a.names g.host g.number) g.number) 1 0) f fs in
      let all = sum_by-cons (λ g. cond (is_some (owner a.names g.host g.number)) 1 0) f fs in
      omega (arith, rest, moved, stay, all, either (owner a.names f.host f.number))
    where
      both : (b : Bool) → cond (not b) 1 0 + cond b 1 0 ≡ 1
      both true = refl
      both false = refl

      either : (o : Option ℕ) → cond (changes m o f.number) 1 0 + cond (stays m o f.number) 1 0 ≡ cond (is_some o) 1 0
      either None = refl
      either (Some k) = both (f.number == number_at m k)

  -- the files that change, and those that keep their number, are all that have an owner
  pub cost_and_kept : (m : List ℕ) → cost_of a files m + all_kept a files m ≡ owned_files a.names files
  cost_and_kept m = omega (arith, changed-or-kept m files, kept-stays m)

  -- the files of each name together are all that have an owner
  pub totals-owned : sum_below (total a.names files) (length a.names) ≡ owned_files a.names files
  totals-owned = over_indices (length a.names) (λ i f. owns a.names i f) (λ f. is_some (owner a.names f.host f.number)) (λ f. at f (owner a.names f.host f.number) refl) files
    where
      at : (f : File) (o : Option ℕ) → owner a.names f.host f.number ≡ o → sum_below (λ i. cond (is_place i o) 1 0) (length a.names) ≡ cond (is_some o) 1 0
      at f None is = sum_below-zero (length a.names)
      at f (Some k) is = sum_below-pick k (λ i. 1) (length a.names) (owner-number a f.host f.number k lawful is).0

count-within : {X : Type 0} (p q : X → Bool) (xs : List X) → count_by (λ x. p x && q x) xs ≤ count_by p xs
count-within p q [] = omega arith
count-within p q (x ∷ xs) =
    let rest = count-within p q xs in
    let both = sum_by-cons (λ y. cond (p y && q y) 1 0) x xs in
    let one = sum_by-cons (λ y. cond (p y) 1 0) x xs in
    omega (arith, rest, both, one, fewer (p x) (q x))
  where
    fewer : (b c : Bool) → cond (b && c) 1 0 ≤ cond b 1 0
    fewer true true = omega arith
    fewer true false = omega arith
    fewer false c = omega arith

-- no name keeps more files than it has
pub kept-le-total : (names : List Account) (files : List File) (i v : ℕ) → kept names files i v ≤ total names files i
kept-le-total names files i v = count-within (owns names i) (λ f. has_there names i v f.host) files

-- the cost by names: of each, its files less those that it keeps
pub cost-by-names : (a : Accounts) → AreLawfulAccounts a → (files : List File) (m : List ℕ) → cost_of a files m ≡ sum_below (λ i. total a.names files i - kept a.names files i (number_at m i)) (length a.names)
cost-by-names a lawful files m =
    let k = λ (i : ℕ). kept a.names files i (number_at m i) in
    let sums = sum_below-add (λ i. total a.names files i - k i) k (length a.names) in
    let same = sum_below-same (λ i. (total a.names files i - k i) + k i) (total a.names files) (length a.names) (λ i l. let less = kept-le-total a.names files i (number_at m i) in omega (arith, less)) in
    omega (arith, cost_and_kept a lawful files m, totals-owned a lawful files, sums, same)

-- those that pass and those that do not are all
count-both : {X : Type 0} (p : X → Bool) (xs : List X) → count_by p xs + count_by (λ x. not (p x)) xs ≡ length xs
count-both p [] = refl
count-both p (x ∷ xs) =
    let rest = count-both p xs in
    let yes = sum_by-cons (λ y. cond (p y) 1 0) x xs in
    let no = sum_by-cons (λ y. cond (not (p y)) 1 0) x xs in
    omega (arith, rest, yes, no, either (p x))
  where
    either : (b : Bool) → cond b 1 0 + cond (not b) 1 0 ≡ 1
    either true = refl
    either false = refl

all_lines-sum : (names : List Account) → sum_by (λ (x : Account). length x.spots) names ≡ all_lines names
all_lines-sum [] = refl
all_lines-sum (x ∷ names) = omega (arith, sum_by-cons (λ (x : Account). length x.spots) x names, all_lines-sum names)

-- the rows that change, and those that keep their number, are all rows
pub rows_and_lines : (a : Accounts) (m : List ℕ) → changed_rows a m + all_staying a m ≡ all_lines a.names
rows_and_lines a m =
    let keeps = λ (i : ℕ). lines (account a i) (number_at m i) in
    let moved = λ (i : ℕ). count_by (λ s. not (s.number == number_at m i)) (account a i).spots in
    let sums = sum_below-add keeps moved (length a.names) in
    let same = sum_below-same (λ i. keeps i + moved i) (λ i. length (account a i).spots) (length a.names) (λ i l. count-both (λ s. s.number == number_at m i) (account a i).spots) in
    let all = sum_below-places (λ (x : Account). length x.spots) a.names no_account in
    omega (arith, sums, same, all, all_lines-sum a.names)

-- where each file has a user and a group, those that have one are all of them
pub all-owned : OwnedFilesAreAll
all-owned site [] owned = (refl, refl)
all-owned site (f ∷ fs) owned =
    let rest = all-owned site fs (All-tail (λ f. HaveOwners site f.host f.uid f.gid) f fs owned) in
    let here : HaveOwners site f.host f.uid f.gid = All-head (λ f. HaveOwners site f.host f.uid f.gid) f fs owned in
    let users = sum_by-cons (λ (g : File). cond (is_some (owner site.users.names g.host g.number)) 1 0) (record { host = f.host; number = f.uid }) (by_user fs) in
    let groups = sum_by-cons (λ (g : File). cond (is_some (owner site.groups.names g.host g.number)) 1 0) (record { host = f.host; number = f.gid }) (by_group fs) in
    (omega (arith, users, rest.0, counts here.user), omega (arith, groups, rest.1, counts here.group))
  where
    counts : {b : Bool} → b ≡ true → cond {A = ℕ} b 1 0 ≡ 1
    counts is = ap (λ b. cond {A = ℕ} b 1 0) is
