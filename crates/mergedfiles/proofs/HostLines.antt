-- Texts that are joined again are cut again as they were, and lines that are joined are read.
use Rattle.std.proofs.Common.{◌≡◌, ℕ, ◌+◌, ◌≤◌, ◌==◌, true, false, List, [], ◌∷◌, map, length, refl, sym, ap, ◌∙◌, subst, append_assoc, arith, Result, Ok}
use Rattle.std.specs.Prelude.{count_by}
use Rattle.std.specs.List.{AllByRecursion, join_with_byte}
use Rattle.std.proofs.lemmas.List.{length-map}
use Rattle.std.proofs.lemmas.List.Splits.{length-slice_split}
use Rattle.idtext.specs.declared.faults.TextFault.{TextFault}
use Rattle.idtext.specs.Names.{is_lawful_name, is_skipped}
use Rattle.idtext.specs.Pieces.{lines, pieces, unless_empty, without_empty_last}
use Rattle.idtext.proofs.PieceLemmas.{pieces-length}
use Rattle.accounts.specs.Lines.{is_compat}
use Rattle.mergedfiles.specs.HostFiles.{renumbered_line, renumbered_text}
use Rattle.mergedfiles.specs.ReadBack.{IsRowLine}
use Rattle.mergedfiles.proofs.HostSteps.{line-skipped}
use Rattle.mergedfiles.proofs.ReadLines.{IsPlain, Lacks, lacks-append, name-plain, name-kept, name-not_compat, piece-first, piece-last}
use Rattle.mergedfiles.proofs.ReadText.{all-says}

-- ---- pieces

pub pieces-join : (s : ℕ) (ps : List (List ℕ)) → (s == s) ≡ true → AllByRecursion (Lacks s) ps → 1 ≤ length ps → pieces s (join_with_byte s ps) ≡ ps
pieces-join s [] same all h = absurd (omega (arith, h))
pieces-join s (p ∷ []) same all h = piece-last s p all.0
pieces-join s (p ∷ q ∷ ps) same all h = piece-first s p (join_with_byte s (q ∷ ps)) same all.0 ∙ ap (λ rest. p ∷ rest) (pieces-join s (q ∷ ps) same all.1 (omega arith))

pub join-lacks : (b s : ℕ) (ps : List (List ℕ)) → (s == b) ≡ false → AllByRecursion (Lacks b) ps → Lacks b (join_with_byte s ps)
join-lacks b s [] other all = tt
join-lacks b s (p ∷ []) other all = all.0
join-lacks b s (p ∷ q ∷ ps) other all = lacks-append b p (s ∷ join_with_byte s (q ∷ ps)) all.0 (other, join-lacks b s (q ∷ ps) other all.1)

-- ---- lines that are changed each by itself

module _ (f : List ℕ → List ℕ) where
  -- a line stays one line, and is empty only where it was
  pub record StaysLine (line : List ℕ) : Type 0 where
    pub one : Lacks 10 (f line)
    pub filled : f line ≡ [] → line ≡ []

  module _ (empty : f [] ≡ []) where
    with-last : (ps : List (List ℕ)) → AllByRecursion StaysLine (without_empty_last ps) → AllByRecursion StaysLine ps
    with-last [] all = tt
    with-last ([] ∷ []) all = (record { one = subst (λ t. Lacks 10 t) (sym empty) tt; filled = λ e. refl }, tt)
    with-last ((b ∷ bs) ∷ []) all = all
    with-last (p ∷ q ∷ ps) all = (all.0, with-last (q ∷ ps) all.1)

    filled-one : (text : List ℕ) → (text ≡ [] → ⊥) → unless_empty text ≡ text ∷ []
    filled-one [] filled = absurd (filled refl)
    filled-one (b ∷ bs) filled = refl

    not-empty : (b : ℕ) (bs : List ℕ) → b ∷ bs ≡ [] → ⊥
    not-empty b bs e = cc

    last-map : (ps : List (List ℕ)) → AllByRecursion StaysLine ps → without_empty_last (map f ps) ≡ map f (without_empty_last ps)
    last-map [] all = refl
    last-map ([] ∷ []) all = ap unless_empty empty
    last-map ((b ∷ bs) ∷ []) all = filled-one (f (b ∷ bs)) (λ e. not-empty b bs (all.0.filled e))
    last-map (p ∷ q ∷ ps) all = ap (λ rest. f p ∷ rest) (last-map (q ∷ ps) all.1)

    all-one : (ps : List (List ℕ)) → AllByRecursion StaysLine ps → AllByRecursion (Lacks 10) (map f ps)
    all-one [] all = tt
    all-one (p ∷ ps) all = (all.0.one, all-one ps all.1)

    pub pieces-map : (text : List ℕ) → AllByRecursion StaysLine (lines text) → pieces 10 (join_with_byte 10 (map f (pieces 10 text))) ≡ map f (pieces 10 text)
    unfolding lines
    pieces-map text all = pieces-join 10 (map f (pieces 10 text)) refl (all-one (pieces 10 text) (with-last (pieces 10 text) all)) (omega (arith, length-map (pieces 10 text) f, pieces-length 10 text))

    pub lines-map : (text : List ℕ) → AllByRecursion StaysLine (lines text) → lines (join_with_byte 10 (map f (pieces 10 text))) ≡ map f (lines text)
    unfolding lines
    lines-map text all = ap without_empty_last (pieces-map text all) ∙ last-map (pieces 10 text) (with-last (pieces 10 text) all)

newlines-in : (text : List ℕ) → length (pieces 10 text) ≡ count_by (λ b. b == 10) text + 1
unfolding pieces
newlines-in text = length-slice_split (λ b. b == 10) text

-- ---- a renumbered text

module _ (renumbered : List (List ℕ) → List (List ℕ)) where
  abbrev Stays : List ℕ → Type 0
  Stays = StaysLine (renumbered_line renumbered)

  empty-stays : renumbered_line renumbered [] ≡ []
  empty-stays = line-skipped renumbered [] refl

  pub lines-renumbered : (text : List ℕ) → AllByRecursion Stays (lines text) → lines (renumbered_text renumbered text) ≡ map (renumbered_line renumbered) (lines text)
  unfolding renumbered_text
  lines-renumbered text all = lines-map (renumbered_line renumbered) empty-stays text all

  pub newlines-renumbered : (text : List ℕ) → AllByRecursion Stays (lines text) → count_by (λ b. b == 10) (renumbered_text renumbered text) ≡ count_by (λ b. b == 10) text
  unfolding renumbered_text
  newlines-renumbered text all =
      let new = join_with_byte 10 (map (renumbered_line renumbered) (pieces 10 text)) in
      let same = ap length (pieces-map (renumbered_line renumbered) empty-stays text all) ∙ length-map (pieces 10 text) (renumbered_line renumbered) in
      omega (arith, newlines-in new, newlines-in text, same)

-- ---- a line of plain fields, of which the first is a lawful name

pub joined-line : {Row : Type 0} (from : ℕ → List (List ℕ) → Result Row TextFault) (n : ℕ) (name next : List ℕ) (more : List (List ℕ)) (row : Row) → is_lawful_name name ≡ true → AllByRecursion IsPlain (next ∷ more) → from n (name ∷ next ∷ more) ≡ Ok row
    → IsRowLine from n (join_with_byte 58 (name ∷ next ∷ more)) row × Lacks 10 (join_with_byte 58 (name ∷ next ∷ more))
joined-line from n name next more row lawful plain read =
    let all : AllByRecursion IsPlain (name ∷ next ∷ more) = (name-plain name lawful, plain) in
    let rest = join_with_byte 58 (next ∷ more) in
    let begins = sym (append_assoc name (58 ∷ []) rest) in
    let fields = pieces-join 58 (name ∷ next ∷ more) refl (all-says IsPlain (Lacks 58) (λ t p. p.0) (name ∷ next ∷ more) all) (omega arith) in (
      record {
        kept = ap is_skipped begins ∙ name-kept name rest lawful;
        not_compat = ap is_compat begins ∙ name-not_compat name rest lawful;
        read = ap (from n) fields ∙ read;
      },
      join-lacks 10 58 (name ∷ next ∷ more) refl (all-says IsPlain (Lacks 10) (λ t p. p.1) (name ∷ next ∷ more) all),
    )
