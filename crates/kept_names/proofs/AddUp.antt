-- Each file of the first inventory is kept, missing or changed.
use Rattle.std.proofs.Common.{◌≡◌, ℕ, ◌+◌, ◌-◌, Bool, true, false, cond, List, [], ◌∷◌, ◌++◌, length, Option, Some, None, refl, ap, ◌∙◌, arith, subst}
use Rattle.std.specs.Prelude.{codes, count_by, filter_map}
use Rattle.std.specs.List.{All, cons_option}
use Rattle.std.specs.Option.{is_none}
use Rattle.std.specs.Str.{bytes_eq}
use Rattle.std.proofs.lemmas.List.Sums.{sum_by-append, sum_by-cons}
use Rattle.hosts_join.specs.Kinds.{user_at, group_at}
use Rattle.mtree_inv.specs.declared.entry.Entry.{Entry}
use Rattle.mtree_inv.specs.Inventory.{file_at}
use Rattle.kept_names.specs.Kept.{Found, change_at, change_by, findings, groups_agree, is_left, left_by, left_file, loss, loss_of, new_file, told_of, unnamed, unnamed_by, users_agree}
use Rattle.kept_names.specs.Tally.{counts_by, tally_of}
use Rattle.kept_names.specs.Telling.{counts_of, kept_files, kind_word, number_of}
use Rattle.kept_names.specs.TellingLaws.{CountsAddUp}
use Rattle.kept_names.specs.declared.finding.What.{What}
use Rattle.kept_names.specs.declared.finding.What.TheVariants.{Missing, Changed, New, Unnamed, Left}
use Rattle.kept_names.specs.declared.names.Renumbering.{Renumbering}
use Rattle.kept_names.proofs.Lost.{every-all, given-all, head-all, tail-all}

pub count-cons : {X : Type 0} (p : X → Bool) (x : X) (xs : List X) → count_by p (x ∷ xs) ≡ cond (p x) 1 0 + count_by p xs
count-cons p x xs = sum_by-cons (λ y. cond (p y) 1 0) x xs

count-append : {X : Type 0} (p : X → Bool) (xs ys : List X) → count_by p (xs ++ ys) ≡ count_by p xs + count_by p ys
count-append p xs ys = sum_by-append (λ y. cond (p y) 1 0) xs ys

count-none : {X : Type 0} (p : X → Bool) (xs : List X) → All (λ x. p x ≡ false) xs → count_by p xs ≡ 0
count-none p [] none = refl
count-none p (x ∷ xs) none =
    count-cons p x xs
    ∙ ap (λ b. cond b 1 0 + count_by p xs) (head-all (λ y. p y ≡ false) x xs none)
    ∙ ap (λ n. 0 + n) (count-none p xs (tail-all (λ y. p y ≡ false) x xs none))

-- ---- what is found of the second inventory is of no such kind

abbrev is_of : List ℕ → Found → Bool
is_of word f = bytes_eq (kind_word f.what) word

abbrev IsOther : List ℕ → Found → Type 0
IsOther word f = is_of word f ≡ false

told-other : (word : List ℕ) (file : Entry) (what : What) (y : Found) → bytes_eq (kind_word what) word ≡ false → told_of file (Some what) ≡ Some y → IsOther word y
told-other word file what y other e = let same : record { file = file; what = what } ≡ y = cc in subst (IsOther word) same other

module _ (renumbering : Renumbering) (before after : List Entry) (word : List ℕ) where
  abbrev GivesOthers : (Entry → Option Found) → Entry → Type 0
  GivesOthers f file = (y : Found) → f file ≡ Some y → IsOther word y

  abbrev Others : (Entry → Option Found) → Type 0
  Others f = All (IsOther word) (filter_map f after)

  new-others : bytes_eq (codes "new") word ≡ false → Others (new_file before)
  new-others other = given-all (new_file before) (IsOther word) after (every-all (GivesOthers (new_file before)) after (λ file y e. by file y (is_none (file_at before file.path)) e))
    where
      by : (file : Entry) (y : Found) (b : Bool) → told_of file (cond b (Some New) None) ≡ Some y → IsOther word y
      by file y true e = told-other word file New y other e
      by file y false e = absurd (cc)

  unnamed-others : bytes_eq (codes "unnamed") word ≡ false → Others (unnamed renumbering.after)
  unnamed-others other =
      given-all (unnamed renumbering.after) (IsOther word) after
      (every-all (GivesOthers (unnamed renumbering.after)) after
      (λ file y e. by file y (is_none (user_at renumbering.after.users file.uid))
      (is_none (group_at renumbering.after.groups file.gid)) e))
    where
      by : (file : Entry) (y : Found) (u g : Bool) → told_of file (unnamed_by u g) ≡ Some y → IsOther word y
      by file y true g e = told-other word file (Unnamed true g) y other e
      by file y false true e = told-other word file (Unnamed false true) y other e
      by file y false false e = absurd (cc)

  left-others : bytes_eq (codes "left") word ≡ false → Others (left_file renumbering before)
  left-others other =
      given-all (left_file renumbering before) (IsOther word) after
      (every-all (GivesOthers (left_file renumbering before)) after
      (λ file y e. by file y
      (is_left (user_at renumbering.before.users file.uid)
      (user_at renumbering.after.users file.uid))
      (is_left (group_at renumbering.before.groups file.gid)
      (group_at renumbering.after.groups file.gid)) (file_at before file.path) e))
    where
      by : (file : Entry) (y : Found) (u g : Bool) (earlier : Option Entry) → told_of file (left_by u g earlier) ≡ Some y → IsOther word y
      by file y true g None e = told-other word file (Left true g) y other e
      by file y true g (Some there) e = absurd (cc)
      by file y false true None e = told-other word file (Left false true) y other e
      by file y false true (Some there) e = absurd (cc)
      by file y false false earlier e = absurd (cc)

  abbrev losses : List Found
  losses = filter_map (loss renumbering after) before

  abbrev news : List Found
  news = filter_map (new_file before) after

  abbrev bare : List Found
  bare = filter_map (unnamed renumbering.after) after

  abbrev lefts : List Found
  lefts = filter_map (left_file renumbering before) after

  of_losses : bytes_eq (codes "new") word ≡ false → bytes_eq (codes "unnamed") word ≡ false
      → bytes_eq (codes "left") word ≡ false
      → number_of word (findings renumbering before after) ≡ number_of word losses
  unfolding findings
  of_losses no_new no_unnamed no_left =
      let a = count-append (is_of word) (losses ++ news ++ bare) lefts in
      let b = count-append (is_of word) (losses ++ news) bare in
      let c = count-append (is_of word) losses news in
      let p = count-none (is_of word) news (new-others no_new) in
      let q = count-none (is_of word) bare (unnamed-others no_unnamed) in
      let r = count-none (is_of word) lefts (left-others no_left) in
      omega (arith, a, b, c, p, q, r)

-- ---- what is found of the first

module _ (renumbering : Renumbering) (before after : List Entry) where
  abbrev lost_in : List Entry → List Found
  lost_in files = filter_map (loss renumbering after) files

  abbrev missing : List Found → ℕ
  missing found = number_of (codes "missing") found

  abbrev changed : List Found → ℕ
  changed found = number_of (codes "changed") found

  abbrev kept_here : Option What → ℕ
  kept_here o = cond (is_none o) 1 0

  -- a file is one of the three
  abbrev Adds : Entry → Option What → List Found → Type 0
  Adds file o rest =
      kept_here o + missing (cons_option (told_of file o) rest) + changed (cons_option (told_of file o) rest) ≡ 1 + (missing rest + changed rest)

  lost-one : (file : Entry) (what : What) (rest : List Found) → cond (is_of (codes "missing") (record { file = file; what = what })) 1 0 + cond (is_of (codes "changed") (record { file = file; what = what })) 1 0 ≡ 1 → Adds file (Some what) rest
  lost-one file what rest either =
      let m = count-cons (is_of (codes "missing")) (record { file = file; what = what }) rest in
      let c = count-cons (is_of (codes "changed")) (record { file = file; what = what }) rest in
      omega (arith, m, c, either)

  one : (file : Entry) (o : Option Entry) (rest : List Found)
      → Adds file (change_at renumbering file o) rest
  one file None rest = lost-one file Missing rest refl
  one file (Some there) rest =
      by (users_agree renumbering file there) (groups_agree renumbering file there)
    where
      by : (u g : Bool) → Adds file (change_by u g there) rest
      by true true = omega arith
      by true false = lost-one file (Changed None (Some there.gid)) rest refl
      by false true = lost-one file (Changed (Some there.uid) None) rest refl
      by false false = lost-one file (Changed (Some there.uid) (Some there.gid)) rest refl

  add-up : (files : List Entry)
      → kept_files renumbering files after + missing (lost_in files) + changed (lost_in files)
      ≡ length files
  add-up [] = refl
  add-up (x ∷ xs) =
      omega (
        arith,
        count-cons (λ (file : Entry). is_none (loss_of renumbering after file)) x xs,
        one x (file_at after x.path) (lost_in xs),
        add-up xs,
      )

  pub adds-up : kept_files renumbering before after + missing (findings renumbering before after)
      + changed (findings renumbering before after) ≡ length before
  adds-up =
      omega (
        arith,
        add-up before,
        of_losses renumbering before after (codes "missing") refl refl refl,
        of_losses renumbering before after (codes "changed") refl refl refl,
      )

  kept-is : length before - missing (findings renumbering before after)
      - changed (findings renumbering before after) ≡ kept_files renumbering before after
  kept-is = omega (arith, adds-up)

  pub counts-same : counts_by (length before) (tally_of (findings renumbering before after))
      ≡ counts_of renumbering before after
  counts-same = ap (λ (n : ℕ). record (counts_of renumbering before after) { kept = n }) kept-is

pub all-add-up : CountsAddUp
all-add-up renumbering before after = adds-up renumbering before after
