-- Words of private contracts: cuts, and a list in which each stands once.
use Rattle.std.specs.Prelude.{◌≡◌, ℕ, List, [], ◌∷◌, ◌++◌, Option, Some, None, slice_get}

-- a number and bytes: of a path the number of its front, and what stands after that
abbrev pub Cut : Type 0
Cut = ℕ × List ℕ

-- a cut stands at no place of the list
abbrev pub IsNew : List Cut → Cut → Type 0
IsNew cuts cut = (i : ℕ) → slice_get cuts i ≡ Some cut → ⊥

-- a cut stands at one place of it
abbrev pub AreDistinct : List Cut → Type 0
AreDistinct cuts =
    (i j : ℕ) (cut : Cut) → slice_get cuts i ≡ Some cut → slice_get cuts j ≡ Some cut → i ≡ j

-- where the cut stands in it, if anywhere
abbrev pub IsPlaceOf : List Cut → Cut → Option ℕ → Type 0
IsPlaceOf cuts cut None = IsNew cuts cut
IsPlaceOf cuts cut (Some i) = slice_get cuts i ≡ Some cut

-- the list with the cut, where it stands in it already or nowhere
abbrev pub with_cut : List Cut → Cut → Option ℕ → List Cut
with_cut cuts cut None = cuts ++ cut ∷ []
with_cut cuts cut (Some i) = cuts
