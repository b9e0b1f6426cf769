-- The path of a word, part by part.
use Rattle.std.proofs.Common.{◌≡◌, ◌≢◌, ℕ, Bool, true, false, cond, not, ◌==◌, All, List, [], ◌∷◌, ◌++◌, refl, sym, ap, ◌∙◌, codes}
use Rattle.std.specs.Prelude.{filter, map}
use Rattle.std.specs.List.{list_any, slice_split, join_with_byte}
use Rattle.std.specs.Str.{bytes_eq}
use Rattle.std.proofs.lemmas.Bool.{and_right, eqb-true, false_from_ne_true, not-true, or_right}
use Rattle.std.proofs.lemmas.List.Elements.{All-nil, All-head, All-weaker, filter_passes}
use Rattle.std.proofs.lemmas.Slice.Eq.{bytes_eq-Decides}
use Rattle.std.proofs.lemmas.List.Splits.{slice_split_at, slice_split_none}
use Rattle.idtext.specs.Escapes.{characters, bytes_of, unescaped}
use Rattle.idtext.specs.declared.escapes.Character.{Character}
use Rattle.idtext.specs.declared.escapes.Character.TheVariants.{Plain, Escape, Bad}
use Rattle.mtree_inv.specs.Inventory.{flattened, path_of}
use Rattle.mtree_inv.specs.Open.{is_full, marks, open_names}
use Rattle.mtree_inv.specs.Paths.{is_slash, is_kept, parts, components, path_of_components}
use Rattle.mtree_inv.specs.FullPaths.{path_of_name, path_from, IsOnePart, FirstPartIsDirectory, LastPartIsName}

-- a name in front of components that stay
abbrev IsKept : List ℕ → Type 0
IsKept component = is_kept component ≡ true

-- components make no path `.`
not_start : (c : List ℕ) (cs : List (List ℕ)) → IsKept c → bytes_eq (join_with_byte 47 (c ∷ cs)) (codes ".") ≡ false
not_start [] cs kept = absurd (cc)
not_start (b ∷ c) [] kept = not-true (bytes_eq (b ∷ c) (codes ".")) kept
not_start (b ∷ []) (d ∷ cs) kept = and_right (b == 46) false refl
not_start (b ∷ x ∷ c) (d ∷ cs) kept = and_right (b == 46) false refl

from_start : (cs : List (List ℕ)) → All IsKept cs → path_of_components cs ≡ path_from (codes ".") (path_of_components cs)
from_start [] kept = refl
from_start (c ∷ cs) kept = ap (λ (t : Bool). cond t (codes ".") (join_with_byte 47 (c ∷ cs))) (sym (not_start c cs (All-head IsKept c cs kept)))

in_front : (name : List ℕ) (cs : List (List ℕ)) → All IsKept cs → path_of_components (cond (is_kept name) (name ∷ cs) cs) ≡ path_from (path_of_name name) (path_of_components cs)
in_front [] cs kept = from_start cs kept
in_front (b ∷ name) cs kept = by (bytes_eq (b ∷ name) (codes ".")) refl cs kept
  where
    by : (dot : Bool) → bytes_eq (b ∷ name) (codes ".") ≡ dot → (cs : List (List ℕ)) → All IsKept cs
        → path_of_components (cond (not dot) ((b ∷ name) ∷ cs) cs)
        ≡ cond (bytes_eq (path_of_components cs) (codes ".")) (b ∷ name) (cond dot (path_of_components cs) ((b ∷ name) ++ 47 ∷ path_of_components cs))
    by true is [] kept = sym ((bytes_eq-Decides (b ∷ name) (codes ".")).0 is)
    by false is [] kept = refl
    by true is (c ∷ cs) kept = ap (λ (t : Bool). cond t (b ∷ name) (join_with_byte 47 (c ∷ cs))) (sym (not_start c cs (All-head IsKept c cs kept)))
    by false is (c ∷ cs) kept = ap (λ (t : Bool). cond t (b ∷ name) ((b ∷ name) ++ 47 ∷ join_with_byte 47 (c ∷ cs))) (sym (not_start c cs (All-head IsKept c cs kept)))

-- ---- the slashes of a word

no_slash : (character : Character) → character ≢ Plain 47 → is_slash character ≡ false
no_slash (Plain b) other = false_from_ne_true (b == 47) (λ e. other (ap (λ n. Plain n) (eqb-true b 47 e)))
no_slash (Escape b) other = refl
no_slash Bad other = refl

none_is : (part : List Character) → IsOnePart part → All (λ c. is_slash c ≡ false) part
none_is part one = All-weaker (λ c. c ≢ Plain 47) (λ c. is_slash c ≡ false) no_slash part one

full_at : (first rest : List Character) → list_any is_slash (first ++ Plain 47 ∷ rest) ≡ true
full_at [] rest = refl
full_at (c ∷ first) rest = or_right (is_slash c) (list_any is_slash (first ++ Plain 47 ∷ rest)) (full_at first rest)

components_at : (word rest : List ℕ) (first : List Character) → characters word ≡ first ++ Plain 47 ∷ characters rest → IsOnePart first
    → components word ≡ cond (is_kept (bytes_of first)) (bytes_of first ∷ components rest) (components rest)
components_at word rest first e one =
    ap (λ (cs : List Character). filter is_kept (map bytes_of (slice_split is_slash cs))) e
    ∙ ap (λ (ps : List (List Character)). filter is_kept (map bytes_of ps)) (slice_split_at is_slash first (Plain 47) (characters rest) (none_is first one) refl)

alone : (full : Bool) (cs : List (List ℕ)) → path_of_components (cond full cs cs) ≡ path_of_components cs
alone true cs = refl
alone false cs = refl

-- the path of a word where no directory is open
at_start : (word : List ℕ) → path_of [] word ≡ path_of_components (components word)
at_start word = alone (is_full word) (components word)

pub first_part : FirstPartIsDirectory
first_part before word rest first e one =
    ap (λ (f : Bool). path_of_components (cond f (components word) (flattened (open_names (marks before)) ++ components word)))
    (ap (list_any is_slash) e ∙ full_at first (characters rest))
    ∙ ap path_of_components (components_at word rest first e one)
    ∙ in_front (bytes_of first) (components rest) (filter_passes is_kept (parts rest))
    ∙ ap (path_from (path_of_name (bytes_of first))) (sym (at_start rest))

pub last_part : LastPartIsName
last_part word one =
    at_start word
    ∙ ap (λ (ps : List (List Character)). path_of_components (filter is_kept (map bytes_of ps))) (slice_split_none is_slash (characters word) (none_is (characters word) one))
    ∙ in_front (unescaped word) [] (All-nil IsKept)
    ∙ by (unescaped word)
  where
    by : (name : List ℕ) → path_from (path_of_name name) (codes ".") ≡ path_of_name name
    by name = refl
