-- Each finding is told once.
use Rattle.std.proofs.Common.{◌≡◌, ℕ, ◌+◌, Bool, true, false, cond, List, [], ◌∷◌, ◌++◌, length, Option, Some, None, refl, sym, ap, ◌∙◌, append-nil, arith}
use Rattle.std.specs.Prelude.{codes, filter, filter_map, map}
use Rattle.std.specs.List.{cons_option}
use Rattle.std.specs.Option.{is_none}
use Rattle.std.specs.Str.{bytes_eq}
use Rattle.hosts_join.specs.Kinds.{user_at, group_at}
use Rattle.mtree_inv.specs.declared.entry.Entry.{Entry}
use Rattle.mtree_inv.specs.Inventory.{file_at}
use Rattle.kept_names.specs.Kept.{Found, change_at, change_by, findings, groups_agree, is_left, left_by, left_of, loss_of, new_of, told_of, unnamed_by, unnamed_of, users_agree}
use Rattle.kept_names.specs.Telling.{kind_word, number_of}
use Rattle.kept_names.specs.TellingLaws.{EachIsCountedOnce, EachIsToldOnce, files_told}
use Rattle.kept_names.specs.declared.finding.What.{What}
use Rattle.kept_names.specs.declared.finding.What.TheVariants.{New}
use Rattle.kept_names.specs.declared.names.Renumbering.{Renumbering}
use Rattle.kept_names.proofs.AddUp.{count-cons}

abbrev is_of : List ℕ → Found → Bool
is_of word f = bytes_eq (kind_word f.what) word

-- whether what is found of a file has the word
abbrev is_said : List ℕ → Option What → Bool
is_said word None = false
is_said word (Some what) = bytes_eq (kind_word what) word

-- ---- one list after another

told-cons : (word : List ℕ) (f : Found) (rest : List Found) → files_told word (f ∷ rest) ≡ cond (is_of word f) (f.file ∷ files_told word rest) (files_told word rest)
told-cons word f rest = by (is_of word f)
  where
    by : (b : Bool) → map (λ (g : Found). g.file) (cond b (f ∷ filter (is_of word) rest) (filter (is_of word) rest)) ≡ cond b (f.file ∷ files_told word rest) (files_told word rest)
    by true = refl
    by false = refl

told-append : (word : List ℕ) (xs ys : List Found) → files_told word (xs ++ ys) ≡ files_told word xs ++ files_told word ys
told-append word [] ys = refl
told-append word (x ∷ xs) ys =
    told-cons word x (xs ++ ys)
    ∙ ap (λ more. cond (is_of word x) (x.file ∷ more) more) (told-append word xs ys)
    ∙ by (is_of word x)
    ∙ ap (λ more. more ++ files_told word ys) (sym (told-cons word x xs))
  where
    by : (b : Bool) → cond b (x.file ∷ (files_told word xs ++ files_told word ys)) (files_told word xs ++ files_told word ys) ≡ cond b (x.file ∷ files_told word xs) (files_told word xs) ++ files_told word ys
    by true = refl
    by false = refl

-- ---- what is found of the files of one inventory

abbrev group_of : (Entry → Option What) → List Entry → List Found
group_of found files = filter_map (λ f. told_of f (found f)) files

abbrev chosen : List ℕ → (Entry → Option What) → Entry → Bool
chosen word found f = is_said word (found f)

of-group : (word : List ℕ) (found : Entry → Option What) (files : List Entry) → files_told word (group_of found files) ≡ filter (chosen word found) files
of-group word found [] = refl
of-group word found (f ∷ fs) = by (found f) ∙ ap (λ more. cond (chosen word found f) (f ∷ more) more) (of-group word found fs)
  where
    by : (o : Option What) → files_told word (cons_option (told_of f o) (group_of found fs)) ≡ cond (is_said word o) (f ∷ files_told word (group_of found fs)) (files_told word (group_of found fs))
    by None = refl
    by (Some what) = told-cons word (record { file = f; what = what }) (group_of found fs)

-- a kind of another word
abbrev Other : List ℕ → (Entry → Option What) → Type 0
Other word found = (f : Entry) → chosen word found f ≡ false

none-of : (word : List ℕ) (found : Entry → Option What) (files : List Entry) → Other word found → files_told word (group_of found files) ≡ []
none-of word found files other = of-group word found files ∙ none files
  where
    none : (fs : List Entry) → filter (chosen word found) fs ≡ []
    none [] = refl
    none (f ∷ fs) = ap (λ b. cond b (f ∷ filter (chosen word found) fs) (filter (chosen word found) fs)) (other f) ∙ none fs

module _ (renumbering : Renumbering) (before after : List Entry) (word : List ℕ) where
  abbrev lost : Entry → Option What
  lost = loss_of renumbering after

  abbrev added : Entry → Option What
  added = new_of before

  abbrev bare : Entry → Option What
  bare = unnamed_of renumbering.after

  abbrev freed : Entry → Option What
  freed = left_of renumbering before

  abbrev IsNot : List ℕ → Type 0
  IsNot other = bytes_eq other word ≡ false

  no-loss : IsNot (codes "missing") → IsNot (codes "changed") → Other word lost
  no-loss m c file = by (file_at after file.path)
    where
      by : (o : Option Entry) → is_said word (change_at renumbering file o) ≡ false
      by None = m
      by (Some there) = which (users_agree renumbering file there) (groups_agree renumbering file there)
        where
          which : (u g : Bool) → is_said word (change_by u g there) ≡ false
          which true true = refl
          which true false = c
          which false true = c
          which false false = c

  no-new : IsNot (codes "new") → Other word added
  no-new n file = by (is_none (file_at before file.path))
    where
      by : (b : Bool) → is_said word (cond b (Some New) None) ≡ false
      by true = n
      by false = refl

  no-unnamed : IsNot (codes "unnamed") → Other word bare
  no-unnamed n file = by (is_none (user_at renumbering.after.users file.uid)) (is_none (group_at renumbering.after.groups file.gid))
    where
      by : (u g : Bool) → is_said word (unnamed_by u g) ≡ false
      by true g = n
      by false true = n
      by false false = refl

  no-left : IsNot (codes "left") → Other word freed
  no-left n file =
      by (is_left (user_at renumbering.before.users file.uid) (user_at renumbering.after.users file.uid))
      (is_left (group_at renumbering.before.groups file.gid) (group_at renumbering.after.groups file.gid))
      (file_at before file.path)
    where
      by : (u g : Bool) (o : Option Entry) → is_said word (left_by u g o) ≡ false
      by true g None = n
      by true g (Some there) = refl
      by false true None = n
      by false true (Some there) = refl
      by false false o = refl

  abbrev told_in : (Entry → Option What) → List Entry → List Entry
  told_in found files = files_told word (group_of found files)

  split : files_told word (findings renumbering before after) ≡ ((told_in lost before ++ told_in added after) ++ told_in bare after) ++ told_in freed after
  unfolding findings
  split =
      told-append word (group_of lost before ++ group_of added after ++ group_of bare after) (group_of freed after)
      ∙ ap (λ more. more ++ told_in freed after) (told-append word (group_of lost before ++ group_of added after) (group_of bare after))
      ∙ ap (λ more. (more ++ told_in bare after) ++ told_in freed after) (told-append word (group_of lost before) (group_of added after))

  abbrev one_of : List Entry → List Entry → List Entry → List Entry → List Entry
  one_of a b c d = ((a ++ b) ++ c) ++ d

  same : (a b c d v w x y : List Entry) → a ≡ v → b ≡ w → c ≡ x → d ≡ y → one_of a b c d ≡ one_of v w x y
  same a b c d v w x y p q r s = λ i. one_of (p i) (q i) (r i) (s i)

  pub of-losses : IsNot (codes "new") → IsNot (codes "unnamed") → IsNot (codes "left") → files_told word (findings renumbering before after) ≡ filter (chosen word lost) before
  of-losses n u l =
      split
      ∙ same _ _ _ _ _ _ _ _ (of-group word lost before) (none-of word added after (no-new n)) (none-of word bare after (no-unnamed u)) (none-of word freed after (no-left l))
      ∙ append-nil _ ∙ append-nil _ ∙ append-nil _

  pub of-new : IsNot (codes "missing") → IsNot (codes "changed") → IsNot (codes "unnamed") → IsNot (codes "left") → files_told word (findings renumbering before after) ≡ filter (chosen word added) after
  of-new m c u l =
      split
      ∙ same _ _ _ _ _ _ _ _ (none-of word lost before (no-loss m c)) (of-group word added after) (none-of word bare after (no-unnamed u)) (none-of word freed after (no-left l))
      ∙ append-nil _ ∙ append-nil _

  pub of-unnamed : IsNot (codes "missing") → IsNot (codes "changed") → IsNot (codes "new") → IsNot (codes "left") → files_told word (findings renumbering before after) ≡ filter (chosen word bare) after
  of-unnamed m c n l =
      split
      ∙ same _ _ _ _ _ _ _ _ (none-of word lost before (no-loss m c)) (none-of word added after (no-new n)) (of-group word bare after) (none-of word freed after (no-left l))
      ∙ append-nil _

  pub of-left : IsNot (codes "missing") → IsNot (codes "changed") → IsNot (codes "new") → IsNot (codes "unnamed") → files_told word (findings renumbering before after) ≡ filter (chosen word freed) after
  of-left m c n u =
      split
      ∙ same _ _ _ _ _ _ _ _ (none-of word lost before (no-loss m c)) (none-of word added after (no-new n)) (none-of word bare after (no-unnamed u)) (of-group word freed after)

pub each-told : EachIsToldOnce
each-told renumbering before after =
    record {
      missing = (chosen (codes "missing") (loss_of renumbering after), of-losses renumbering before after (codes "missing") refl refl refl);
      changed = (chosen (codes "changed") (loss_of renumbering after), of-losses renumbering before after (codes "changed") refl refl refl);
      new = (chosen (codes "new") (new_of before), of-new renumbering before after (codes "new") refl refl refl refl);
      unnamed = (chosen (codes "unnamed") (unnamed_of renumbering.after), of-unnamed renumbering before after (codes "unnamed") refl refl refl refl);
      left = (chosen (codes "left") (left_of renumbering before), of-left renumbering before after (codes "left") refl refl refl refl);
    }

-- ---- the counts

counted : (word : List ℕ) (found : List Found) → number_of word found ≡ length (files_told word found)
counted word [] = refl
counted word (f ∷ fs) =
    count-cons (is_of word) f fs
    ∙ ap (λ n. cond (is_of word f) 1 0 + n) (counted word fs)
    ∙ by (is_of word f)
    ∙ ap length (sym (told-cons word f fs))
  where
    by : (b : Bool) → cond b 1 0 + length (files_told word fs) ≡ length (cond b (f.file ∷ files_told word fs) (files_told word fs))
    by true = omega arith
    by false = omega arith

pub each-counted : EachIsCountedOnce
each-counted renumbering before after =
    let found = findings renumbering before after in
    record {
      missing = counted (codes "missing") found;
      changed = counted (codes "changed") found;
      new = counted (codes "new") found;
      unnamed = counted (codes "unnamed") found;
      left = counted (codes "left") found;
    }
