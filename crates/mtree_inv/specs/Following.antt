-- Words of private contracts: hashes of cuts, kept in order, which tell that later cuts are new.
use Rattle.std.specs.Prelude.{◌≡◌, ◌⊎◌, ℕ, Bool, true, false, List, length, Some, slice_get}
use Rattle.mtree_inv.specs.declared.places.Place.{Place}
use Rattle.mtree_inv.specs.Cuts.{Cut, AreDistinct}
use Rattle.mtree_inv.specs.Places.{hash_of, Others, other_at, AreFound}

-- a number stands at one place of the list
abbrev pub AreEachOnce : List ℕ → Type 0
AreEachOnce hashes =
    (i j : ℕ) (hash : ℕ) → slice_get hashes i ≡ Some hash → slice_get hashes j ≡ Some hash → i ≡ j

-- the hash of each cut of the first list stands at its place in the second
abbrev pub HaveHashes : List Cut → List ℕ → Type 0
HaveHashes cuts hashes =
    (i : ℕ) (cut : Cut) → slice_get cuts i ≡ Some cut → slice_get hashes i ≡ Some (hash_of cut)

-- two cuts with one hash are one, or the tree has both
abbrev pub AreApart : List Cut → Others → Type 0
AreApart cuts others =
    (i j : ℕ) (a b : Cut) → slice_get cuts i ≡ Some a → slice_get cuts j ≡ Some b
    → hash_of a ≡ hash_of b
    → (i ≡ j) ⊎ ((other_at others a ≡ Some i) × (other_at others b ≡ Some j))

-- the same of a cut that is to be the last: each before it with its hash is in the tree, as it is
abbrev pub IsApart : List Cut → Others → Cut → Type 0
IsApart cuts others cut =
    (i : ℕ) (other : Cut) → slice_get cuts i ≡ Some other → hash_of other ≡ hash_of cut
    → (other_at others other ≡ Some i) × (other_at others cut ≡ Some (length cuts))

-- the hashes at two of these indices differ, unless the two are one
abbrev pub AreDifferentAt : List ℕ → List ℕ → Type 0
AreDifferentAt hashes indices =
    (p q i j hash : ℕ) → slice_get indices p ≡ Some i → slice_get indices q ≡ Some j
    → slice_get hashes i ≡ Some hash → slice_get hashes j ≡ Some hash → i ≡ j

-- what holds of the parts of a list of cuts, which follows hashes or not
pub record AreKept (cuts : List Cut) (places : List Place) (others : Others) (expected : List ℕ)
    (follows are_apart : Bool) : Type 0 where
  -- where hashes are followed, nothing rests on the places
  pub found : follows ≡ false → AreFound cuts places others
  pub followed : follows ≡ true → HaveHashes cuts expected
  pub distinct : AreDistinct cuts
  pub apart : are_apart ≡ true → AreApart cuts others
