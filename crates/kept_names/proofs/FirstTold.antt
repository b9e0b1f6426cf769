-- Of each kind the first findings have their lines.
use Rattle.std.proofs.Common.{◌≡◌, ℕ, zero, suc, ◌+◌, ◌-◌, ◌<◌, ◌≤◌, Bool, true, false, cond, List, [], ◌∷◌, ◌++◌, take, refl, sym, ap, ◌∙◌, arith}
use Rattle.std.specs.Prelude.{flat_map, nat_lt}
use Rattle.std.specs.Str.{bytes_eq}
use Rattle.std.proofs.lemmas.Bool.{ltb-false, ltb-true}
use Rattle.std.proofs.lemmas.List.Sums.{sum_by-append}
use Rattle.std.proofs.lemmas.Slice.Eq.{bytes_eq-Decides}
use Rattle.mtree_inv.specs.Looking.{looking_back_from}
use Rattle.kept_names.specs.Kept.{Found}
use Rattle.kept_names.specs.Telling.{first_line, first_lines, kind_word, line_of, more_text, number_of}
use Rattle.kept_names.specs.TellingLaws.{FirstAreTold, marked, of_kind}
use Rattle.kept_names.specs.declared.names.Renumbering.{Renumbering}
use Rattle.kept_names.proofs.AddUp.{count-cons}

abbrev is_of : List ℕ → Found → Bool
is_of word f = bytes_eq (kind_word f.what) word

-- one finding after others
number-snoc : (word : List ℕ) (before : List Found) (f : Found) → number_of word (before ++ f ∷ []) ≡ number_of word before + cond (is_of word f) 1 0
number-snoc word before f =
    let a = sum_by-append (λ g. cond (is_of word g) 1 0) before (f ∷ []) in
    let b = count-cons (is_of word) f [] in
    omega (arith, a, b)

number-as : (word : List ℕ) (before : List Found) (f : Found) (b : Bool) → is_of word f ≡ b → number_of word (before ++ f ∷ []) ≡ number_of word before + cond b 1 0
number-as word before f b is = number-snoc word before f ∙ ap (λ c. number_of word before + cond c 1 0) is

module _ (most : ℕ) where
  -- whether there is room for the line
  abbrev has_room : List Found → Found → Bool
  has_room before f = nat_lt (number_of (kind_word f.what) before) most

  abbrev marks_of : List Found → List Found → List Bool
  marks_of before found = looking_back_from has_room before found

  abbrev told_of : List Found → List Found → List Found
  told_of before found = marked (marks_of before found) found

  -- a finding with its mark before others
  marked-cons : (b : Bool) (f : Found) (marks : List Bool) (found : List Found) → marked (b ∷ marks) (f ∷ found) ≡ cond b (f ∷ marked marks found) (marked marks found)
  marked-cons true f marks found = refl
  marked-cons false f marks found = refl

  lines-are : (renumbering : Renumbering) (before found : List Found) → flat_map (λ line. line) (looking_back_from (first_line renumbering most) before found) ≡ flat_map (line_of renumbering) (told_of before found)
  lines-are renumbering before [] = refl
  lines-are renumbering before (f ∷ fs) =
      ap (λ more. cond (has_room before f) (line_of renumbering f) [] ++ more) (lines-are renumbering (before ++ f ∷ []) fs)
      ∙ by (has_room before f)
    where
      by : (b : Bool) → cond b (line_of renumbering f) [] ++ flat_map (line_of renumbering) (told_of (before ++ f ∷ []) fs) ≡ flat_map (line_of renumbering) (marked (b ∷ marks_of (before ++ f ∷ []) fs) (f ∷ fs))
      by true = refl
      by false = refl

  module _ (word : List ℕ) where
    abbrev here : List Found → List Found
    here found = of_kind word found

    other : (b : Bool) (f : Found) (rest : List Found) → is_of word f ≡ false → here (cond b (f ∷ rest) rest) ≡ here rest
    other true f rest not_it = ap (λ b. cond b (f ∷ here rest) (here rest)) not_it
    other false f rest not_it = refl

    one : (f : Found) (rest : List Found) → is_of word f ≡ true → here (f ∷ rest) ≡ f ∷ here rest
    one f rest is_it = ap (λ b. cond b (f ∷ here rest) (here rest)) is_it

    take-none : (n : ℕ) → [] ≡ take n (here [])
    take-none zero = refl
    take-none (suc n) = refl

    -- one finding before others, of which it is known
    first-of : (before : List Found) (f : Found) (fs rest : List Found)
        → here rest ≡ take (most - number_of word (before ++ f ∷ [])) (here fs)
        → here (cond (has_room before f) (f ∷ rest) rest) ≡ take (most - number_of word before) (here (f ∷ fs))
    first-of before f fs rest known = by (is_of word f) refl
      where
        seen : ℕ
        seen = number_of word before

        by : (is : Bool) → is_of word f ≡ is → here (cond (has_room before f) (f ∷ rest) rest) ≡ take (most - seen) (here (f ∷ fs))
        by false not_it =
            let same : number_of word (before ++ f ∷ []) ≡ seen = number-as word before f false not_it ∙ omega arith in
            other (has_room before f) f rest not_it ∙ known
            ∙ ap (λ n. take (most - n) (here fs)) same
            ∙ ap (take (most - seen)) (sym (ap (λ b. cond b (f ∷ here fs) (here fs)) not_it))
        by true is_it =
            ap (λ w. here (cond (nat_lt (number_of w before) most) (f ∷ rest) rest)) kind
            ∙ room (nat_lt seen most) refl
            ∙ ap (take (most - seen)) (sym (one f fs is_it))
          where
            kind : kind_word f.what ≡ word
            kind = (bytes_eq-Decides (kind_word f.what) word).0 is_it

            more : number_of word (before ++ f ∷ []) ≡ seen + 1
            more = number-as word before f true is_it

            later : here rest ≡ take (most - (seen + 1)) (here fs)
            later = known ∙ ap (λ n. take (most - n) (here fs)) more

            room : (b : Bool) → nat_lt seen most ≡ b → here (cond b (f ∷ rest) rest) ≡ take (most - seen) (f ∷ here fs)
            room true fits =
                let less : seen < most = ltb-true seen most fits in
                let next : most - seen ≡ suc (most - (seen + 1)) = omega arith in
                one f rest is_it ∙ ap (λ rest. f ∷ rest) later ∙ ap (λ n. take n (f ∷ here fs)) (sym next)
            room false full =
                let past : most ≤ seen = ltb-false seen most full in
                let none : most - seen ≡ 0 = omega arith in
                let none_more : most - (seen + 1) ≡ 0 = omega arith in
                later ∙ ap (λ n. take n (here fs)) none_more ∙ ap (λ n. take n (f ∷ here fs)) (sym none)

    first-from : (before found : List Found) → here (told_of before found) ≡ take (most - number_of word before) (here found)
    first-from before [] = take-none (most - number_of word before)
    first-from before (f ∷ fs) =
        ap here (marked-cons (has_room before f) f (marks_of (before ++ f ∷ []) fs) fs)
        ∙ first-of before f fs (told_of (before ++ f ∷ []) fs) (first-from (before ++ f ∷ []) fs)

pub first-told : FirstAreTold
unfolding first_lines
first-told renumbering most found = record {
  marks = marks_of most [] found;
  text = ap (λ t. t ++ more_text most found) (lines-are most renumbering [] found);
  first = λ word.
      let all : most - number_of word [] ≡ most = omega arith in
      first-from most word [] found ∙ ap (λ n. take n (of_kind word found)) all;
}
