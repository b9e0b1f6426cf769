-- Lines that say nothing, and the first item of a list that may not stand there, in the words of
-- the formats.
-- Source: this project's own formats.
use Rattle.std.specs.Prelude.{◌≡◌, ◌⊎◌, ℕ, ◌<◌, List, take, slice_get, Some}
use Rattle.std.specs.List.{All}

-- the line is empty or only white space, or begins with a number sign
abbrev pub SaysNothing : List ℕ → Type 0
SaysNothing line = All (λ b. (b ≡ 32) ⊎ (b ≡ 9)) line ⊎ (slice_get line 0 ≡ Some 35)

-- Each of the first items, so many, may stand where it stands.
-- MayStand: whether an item may stand after these
abbrev pub AllMayStand : {A : Type 0} → (List A → A → Type 0) → List A → ℕ → Type 0
AllMayStand {A} MayStand items count =
    (i : ℕ) (item : A) → i < count → slice_get items i ≡ Some item → MayStand (take i items) item

-- the first item that may not stand where it stands has so many items before it
pub record IsFirstBad {A : Type 0} (MayStand : List A → A → Type 0) (items : List A) (before : ℕ)
    : Type 0 where
  pub good : AllMayStand MayStand items before
  pub item : A
  pub there : slice_get items before ≡ Some item
  pub bad : ¬ MayStand (take before items) item
