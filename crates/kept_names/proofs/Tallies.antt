-- Findings as a loop counts them and tells their lines.
use Rattle.std.proofs.Common.{◌≡◌, ℕ, ◌+◌, ◌<◌, ◌≤◌, Bool, true, false, cond, List, [], ◌∷◌, ◌++◌, length, take, get_or, refl, sym, ap, ◌∙◌, append_assoc, append-nil}
use Rattle.std.specs.Prelude.{codes, flat_map}
use Rattle.std.specs.Str.{bytes_eq}
use Rattle.std.proofs.lemmas.Bool.{le-ltb, lt-ltb}
use Rattle.std.proofs.lemmas.Grind.{flat_map-append}
use Rattle.std.proofs.lemmas.List.{take_more}
use Rattle.std.proofs.lemmas.List.Sums.{count_by_more_no, count_by_more_yes}
use Rattle.mtree_inv.specs.Looking.{looking_back}
use Rattle.mtree_inv.proofs.LookingLemmas.{looking_back-snoc}
use Rattle.kept_names.specs.Kept.{Found}
use Rattle.kept_names.specs.Tally.{one_more, tallied, tally_of}
use Rattle.kept_names.specs.Telling.{first_line, first_lines, kind_word, line_of, number_of}
use Rattle.kept_names.specs.declared.finding.What.{What}
use Rattle.kept_names.specs.declared.finding.What.TheVariants.{Missing, Changed, New, Unnamed, Left}
use Rattle.kept_names.specs.declared.names.Renumbering.{Renumbering}
use Rattle.kept_names.specs.declared.tally.Tally.{Tally}

pub tallied-is : (found : List Found) (what : What) → tallied (tally_of found) what ≡ number_of (kind_word what) found
tallied-is found Missing = refl
tallied-is found (Changed uid gid) = refl
tallied-is found New = refl
tallied-is found (Unnamed user group) = refl
tallied-is found (Left user group) = refl

abbrev made : ℕ → ℕ → ℕ → ℕ → ℕ → Tally
made a b c d e = record { missing = a; changed = b; new = c; unnamed = d; left = e }

alike : (a b c d e v w x y z : ℕ) → a ≡ v → b ≡ w → c ≡ x → d ≡ y → e ≡ z → made a b c d e ≡ made v w x y z
alike a b c d e v w x y z p q r s t = λ i. made (p i) (q i) (r i) (s i) (t i)

-- one more finding
module _ (found : List Found) (i : ℕ) (f : Found) (below : i < length found) (at : f ≡ get_or found i f) where
  abbrev seen : List Found
  seen = take i found

  abbrev is_of : List ℕ → Found → Bool
  is_of word g = bytes_eq (kind_word g.what) word

  yes : (word : List ℕ) → is_of word f ≡ true → number_of word (take (i + 1) found) ≡ number_of word seen + 1
  yes word e = count_by_more_yes (is_of word) found i f below (ap (is_of word) (sym at) ∙ e)

  no : (word : List ℕ) → is_of word f ≡ false → number_of word (take (i + 1) found) ≡ number_of word seen
  no word e = count_by_more_no (is_of word) found i f below (ap (is_of word) (sym at) ∙ e)

  by_kind : (what : What) → f.what ≡ what → tally_of (take (i + 1) found) ≡ one_more (tally_of seen) what
  by_kind Missing e = let is = λ (word : List ℕ). ap (λ w. bytes_eq (kind_word w) word) e in
      alike _ _ _ _ _ _ _ _ _ _ (yes (codes "missing") (is (codes "missing"))) (no (codes "changed") (is (codes "changed"))) (no (codes "new") (is (codes "new"))) (no (codes "unnamed") (is (codes "unnamed"))) (no (codes "left") (is (codes "left")))
  by_kind (Changed uid gid) e = let is = λ (word : List ℕ). ap (λ w. bytes_eq (kind_word w) word) e in
      alike _ _ _ _ _ _ _ _ _ _ (no (codes "missing") (is (codes "missing"))) (yes (codes "changed") (is (codes "changed"))) (no (codes "new") (is (codes "new"))) (no (codes "unnamed") (is (codes "unnamed"))) (no (codes "left") (is (codes "left")))
  by_kind New e = let is = λ (word : List ℕ). ap (λ w. bytes_eq (kind_word w) word) e in
      alike _ _ _ _ _ _ _ _ _ _ (no (codes "missing") (is (codes "missing"))) (no (codes "changed") (is (codes "changed"))) (yes (codes "new") (is (codes "new"))) (no (codes "unnamed") (is (codes "unnamed"))) (no (codes "left") (is (codes "left")))
  by_kind (Unnamed user group) e = let is = λ (word : List ℕ). ap (λ w. bytes_eq (kind_word w) word) e in
      alike _ _ _ _ _ _ _ _ _ _ (no (codes "missing") (is (codes "missing"))) (no (codes "changed") (is (codes "changed"))) (no (codes "new") (is (codes "new"))) (yes (codes "unnamed") (is (codes "unnamed"))) (no (codes "left") (is (codes "left")))
  by_kind (Left user group) e = let is = λ (word : List ℕ). ap (λ w. bytes_eq (kind_word w) word) e in
      alike _ _ _ _ _ _ _ _ _ _ (no (codes "missing") (is (codes "missing"))) (no (codes "changed") (is (codes "changed"))) (no (codes "new") (is (codes "new"))) (no (codes "unnamed") (is (codes "unnamed"))) (yes (codes "left") (is (codes "left")))

  pub tally-more : tally_of (take (i + 1) found) ≡ one_more (tally_of seen) f.what
  tally-more = by_kind f.what refl

  module _ (renumbering : Renumbering) (most : ℕ) where
    abbrev told : List Found → List ℕ
    told xs = first_lines renumbering most xs

    lines-snoc : (xs : List Found) (y : Found)
        → told (xs ++ y ∷ []) ≡ told xs ++ first_line renumbering most xs y
    unfolding first_lines
    lines-snoc xs y =
        ap (flat_map (λ line. line)) (looking_back-snoc (first_line renumbering most) xs y)
        ∙ flat_map-append (λ line. line) (looking_back (first_line renumbering most) xs)
        (first_line renumbering most xs y ∷ [])
        ∙ ap (λ t. told xs ++ t) (append-nil (first_line renumbering most xs y))

    lines-more : told (take (i + 1) found) ≡ told seen ++ first_line renumbering most seen f
    lines-more = ap told (take_more found i f below ∙ ap (λ (g : Found). seen ++ g ∷ []) (sym at)) ∙ lines-snoc seen f

    module _ (front lines : List ℕ) (so_far : lines ≡ front ++ told seen) where
      grown : lines ++ first_line renumbering most seen f ≡ front ++ told (take (i + 1) found)
      grown =
          ap (λ t. t ++ first_line renumbering most seen f) so_far
          ∙ append_assoc front (told seen) (first_line renumbering most seen f)
          ∙ ap (λ t. front ++ t) (sym lines-more)

      pub told-more : (next : List ℕ) → number_of (kind_word f.what) seen < most
          → next ≡ lines ++ line_of renumbering f → next ≡ front ++ told (take (i + 1) found)
      told-more next few is =
          is
          ∙ ap (λ b. lines ++ cond b (line_of renumbering f) [])
          (sym (lt-ltb (number_of (kind_word f.what) seen) most few)) ∙ grown

      pub not-told : most ≤ number_of (kind_word f.what) seen → lines ≡ front ++ told (take (i + 1) found)
      not-told many =
          sym (append-nil lines)
          ∙ ap (λ b. lines ++ cond b (line_of renumbering f) [])
          (sym (le-ltb (number_of (kind_word f.what) seen) most many)) ∙ grown

pub lines-none : (renumbering : Renumbering) (most : ℕ) (front : List ℕ)
    → front ≡ front ++ first_lines renumbering most []
unfolding first_lines
lines-none renumbering most front = sym (append-nil front)
