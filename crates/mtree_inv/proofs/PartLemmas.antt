-- The parts of a word, read from the left with the bytes of the part in progress in front.
use Rattle.std.proofs.Common.{◌≡◌, ℕ, Bool, true, false, cond, ◌||◌, List, [], ◌∷◌, ◌++◌, refl, sym, ap, ◌∙◌, append-nil, append_assoc}
use Rattle.std.specs.Prelude.{filter, map}
use Rattle.std.specs.List.{list_any, onto_first, slice_split}
use Rattle.std.proofs.lemmas.List.Splits.{slice_split-cons_no}
use Rattle.idtext.specs.Escapes.{characters, bytes_of, is_bad}
use Rattle.idtext.specs.declared.escapes.Character.{Character}
use Rattle.idtext.proofs.EscapeLemmas.{characters-empty}
use Rattle.mtree_inv.specs.Paths.{is_kept, is_bad_component, is_slash}
use Rattle.mtree_inv.specs.Machine.{onto, joined_onto}

-- the bytes of the parts, the first of them after those of the part in progress
abbrev pub onto_part : List ℕ → List (List ℕ) → List (List ℕ)
onto_part part [] = part ∷ []
onto_part part (first ∷ more) = (part ++ first) ∷ more

abbrev pub parts_of : List Character → List (List ℕ)
parts_of word = map bytes_of (slice_split is_slash word)

-- whether the parts to come are in no path, and their components
abbrev pub has_bad_after : List ℕ → List Character → Bool
has_bad_after part rest = list_any is_bad rest || list_any is_bad_component (onto_part part (parts_of rest))

abbrev pub components_after : List ℕ → List Character → List (List ℕ)
components_after part rest = filter is_kept (onto_part part (parts_of rest))

-- ---- a word that is read so far: a part in progress and the rest, where `bad` and `path` are those of the whole word

pub record ReadTo (path part rest : List ℕ) (bad : Bool) (whole : List ℕ) : Type 0 where
  pub bad_is : has_bad_after part (characters rest) ≡ bad
  pub path_is : joined_onto path (components_after part (characters rest)) ≡ whole

-- ---- a byte more of the part in progress

grown_part : (part : List ℕ) (c : Character) (b : ℕ) (parts : List (List Character)) → ((cs : List Character) → bytes_of (c ∷ cs) ≡ b ∷ bytes_of cs) → onto_part (part ++ b ∷ []) (map bytes_of parts) ≡ onto_part part (map bytes_of (onto_first c parts))
grown_part part c b [] is = ap (λ (p : List ℕ). (part ++ p) ∷ []) (sym (is []))
grown_part part c b (first ∷ more) is =
    ap (λ (p : List ℕ). p ∷ map bytes_of more) (append_assoc part (b ∷ []) (bytes_of first) ∙ ap (λ (p : List ℕ). part ++ p) (sym (is first)))

pub read-byte : (path part rest after : List ℕ) (bad : Bool) (whole : List ℕ) (c : Character) (b : ℕ) → is_bad c ≡ false → is_slash c ≡ false → ((cs : List Character) → bytes_of (c ∷ cs) ≡ b ∷ bytes_of cs)
    → characters rest ≡ c ∷ characters after → ReadTo path part rest bad whole → ReadTo path (part ++ b ∷ []) after bad whole
read-byte path part rest after bad whole c b lawful within is e h =
    let same : onto_part (part ++ b ∷ []) (parts_of (characters after)) ≡ onto_part part (parts_of (characters rest)) =
    grown_part part c b (slice_split is_slash (characters after)) is
    ∙ ap (λ (ps : List (List Character)). onto_part part (map bytes_of ps)) (sym (slice_split-cons_no is_slash c (characters after) within))
    ∙ ap (λ (cs : List Character). onto_part part (parts_of cs)) (sym e) in
    let fine : list_any is_bad (characters after) ≡ list_any is_bad (characters rest) =
    ap (λ (x : Bool). x || list_any is_bad (characters after)) (sym lawful) ∙ ap (list_any is_bad) (sym e) in
    record {
      bad_is = ap (λ (x : Bool). x || list_any is_bad_component (onto_part (part ++ b ∷ []) (parts_of (characters after)))) fine
          ∙ ap (λ (ps : List (List ℕ)). list_any is_bad (characters rest) || list_any is_bad_component ps) same ∙ h.bad_is;
      path_is = ap (λ (ps : List (List ℕ)). joined_onto path (filter is_kept ps)) same ∙ h.path_is;
    }

-- a part that is kept or not, in front of the components to come
pub kept-joined : (path part : List ℕ) (parts : List (List ℕ)) (kept : Bool) → joined_onto path (cond kept (part ∷ parts) parts) ≡ joined_onto (cond kept (onto path part) path) parts
kept-joined path part parts true = refl
kept-joined path part parts false = refl

-- what the path is once the part is written
abbrev pub with_part : List ℕ → List ℕ → List ℕ
with_part path part = cond (is_kept part) (onto path part) path

-- ---- the last part

last-part : (part rest : List ℕ) → rest ≡ [] → onto_part part (parts_of (characters rest)) ≡ part ∷ []
last-part part rest e = ap (λ (t : List ℕ). onto_part part (parts_of (characters t))) e ∙ ap (λ (cs : List Character). onto_part part (parts_of cs)) characters-empty ∙ ap (λ (p : List ℕ). p ∷ []) (append-nil part)

none-bad : (rest : List ℕ) → rest ≡ [] → list_any is_bad (characters rest) ≡ false
none-bad rest e = ap (λ (t : List ℕ). list_any is_bad (characters t)) e ∙ ap (list_any is_bad) characters-empty

pub last-bad : (path part rest : List ℕ) (bad : Bool) (whole : List ℕ) → rest ≡ [] → ReadTo path part rest bad whole → is_bad_component part ≡ bad
last-bad path part rest bad whole e h =
    sym (or_false (is_bad_component part))
    ∙ sym (ap (λ (b : Bool). b || list_any is_bad_component (part ∷ [])) (none-bad rest e))
    ∙ sym (ap (λ (ps : List (List ℕ)). list_any is_bad (characters rest) || list_any is_bad_component ps) (last-part part rest e)) ∙ h.bad_is
  where
    or_false : (b : Bool) → (b || false) ≡ b
    or_false true = refl
    or_false false = refl

pub last-path : (path part rest : List ℕ) (bad : Bool) (whole : List ℕ) → rest ≡ [] → ReadTo path part rest bad whole → with_part path part ≡ whole
last-path path part rest bad whole e h =
    sym (kept-joined path part [] (is_kept part))
    ∙ sym (ap (λ (ps : List (List ℕ)). joined_onto path (filter is_kept ps)) (last-part part rest e)) ∙ h.path_is
