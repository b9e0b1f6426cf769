-- The statuses of trouble.
use Rattle.std.proofs.Common.{◌≡◌, ℕ, ◌==◌, true, List, [], ◌∷◌, All, refl}
use Rattle.std.specs.List.{list_all}
use Rattle.std.proofs.lemmas.Bool.{and_parts, eqb-true}
use Rattle.std.proofs.lemmas.List.Elements.{All-nil, All-cons}
use Rattle.reown_files.specs.declared.answers.Trouble.{Trouble}
use Rattle.reown_files.specs.declared.answers.Trouble.TheVariants.{BadPath, NotText, OtherMount, LinkedElsewhere, LinkedOtherwise, NotMark, NotModes, OtherPlan, Gone, Exchanged, NotDone, NotDirectory, Busy, NoProc, TooManyModes}
use Rattle.unify_apply.specs.Told.{status_of}

module _ (status : ℕ) where
  abbrev Has : Trouble → Type 0
  Has t = status_of t ≡ status

  each : (ts : List Trouble) → list_all (λ t. status_of t == status) ts ≡ true → All Has ts
  each [] all = All-nil Has
  each (t ∷ ts) all =
      let parts = and_parts (status_of t == status) (list_all (λ u. status_of u == status) ts) all in
      All-cons Has t ts (eqb-true (status_of t) status parts.0) (each ts parts.1)

pub found-told : All (λ t. status_of t ≡ 1) (BadPath ∷ NotText ∷ OtherMount ∷ LinkedElsewhere ∷ LinkedOtherwise ∷ NotMark ∷ NotModes ∷ OtherPlan ∷ [])
found-told = each 1 (BadPath ∷ NotText ∷ OtherMount ∷ LinkedElsewhere ∷ LinkedOtherwise ∷ NotMark ∷ NotModes ∷ OtherPlan ∷ []) refl

pub failed-told : All (λ t. status_of t ≡ 3) (Gone ∷ Exchanged ∷ NotDone ∷ NotDirectory ∷ Busy ∷ NoProc ∷ TooManyModes ∷ [])
failed-told = each 3 (Gone ∷ Exchanged ∷ NotDone ∷ NotDirectory ∷ Busy ∷ NoProc ∷ TooManyModes ∷ []) refl
