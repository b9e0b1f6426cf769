-- With room for all, each finding has its line.
use Rattle.std.proofs.Common.{◌≡◌, ℕ, ◌+◌, ◌-◌, ◌≤◌, cond, List, [], ◌∷◌, ◌++◌, length, refl, ap, ◌∙◌, arith, append-nil, length-append}
use Rattle.std.specs.Prelude.{flat_map}
use Rattle.std.specs.Str.{bytes_eq}
use Rattle.std.proofs.lemmas.Bool.{le-ltb, lt-ltb}
use Rattle.std.proofs.lemmas.List.Sums.{count_by-le-length}
use Rattle.mtree_inv.specs.Looking.{looking_back_from}
use Rattle.kept_names.specs.Kept.{Found}
use Rattle.kept_names.specs.Telling.{first_line, first_lines, found_text, kind_word, kinds, line_of, more_line, more_of, number_of}
use Rattle.kept_names.specs.TellingLaws.{AllAreTold}
use Rattle.kept_names.specs.declared.names.Renumbering.{Renumbering}

few : (word : List ℕ) (found : List Found) → number_of word found ≤ length found
few word found = count_by-le-length (λ f. bytes_eq (kind_word f.what) word) found

module _ (renumbering : Renumbering) (most : ℕ) where
  abbrev told_from : List Found → List Found → List ℕ
  told_from before found =
      flat_map (λ line. line) (looking_back_from (first_line renumbering most) before found)

  each-line : (before found : List Found) → length before + length found ≤ most
      → told_from before found ≡ flat_map (line_of renumbering) found
  each-line before [] room = refl
  each-line before (f ∷ fs) room =
      let seen = few (kind_word f.what) before in
      let longer = length-append before (f ∷ []) in
      ap (λ b. cond b (line_of renumbering f) [] ++ told_from (before ++ f ∷ []) fs)
      (lt-ltb (number_of (kind_word f.what) before) most (omega (arith, seen)))
      ∙ ap (λ t. line_of renumbering f ++ t)
      (each-line (before ++ f ∷ []) fs (omega (arith, longer)))

  module _ (found : List Found) (room : length found ≤ most) where
    no-more : (word : List ℕ) → more_of most word (number_of word found) ≡ []
    no-more word =
        ap (λ b. cond b (more_line word (number_of word found - most)) []) (le-ltb most (number_of word found) (omega (arith, few word found)))

    none-more : (words : List (List ℕ)) → flat_map (λ word. more_of most word (number_of word found)) words ≡ []
    none-more [] = refl
    none-more (w ∷ ws) = ap (λ t. t ++ flat_map (λ word. more_of most word (number_of word found)) ws) (no-more w) ∙ none-more ws

    whole : found_text renumbering most found ≡ flat_map (line_of renumbering) found
    unfolding first_lines
    whole =
        ap (λ t. first_lines renumbering most found ++ t) (none-more kinds)
        ∙ append-nil (first_lines renumbering most found) ∙ each-line [] found (omega arith)

pub all-told : AllAreTold
all-told renumbering most found room = whole renumbering most found room
