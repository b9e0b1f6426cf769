-- Files that are met once.
use Rattle.std.proofs.Common.{◌≡◌, ◌<◌, ◌≤◌, ◌+◌, ℕ, Bool, true, false, ◌&&◌, ◌||◌, not, List, ◌∷◌, Option, get_or, length, ◌∙◌, ap, arith}
use Rattle.std.specs.List.{list_any}
use Rattle.std.specs.Str.{bytes_eq}
use Rattle.reown_plan.specs.declared.mark.PlanMark.{PlanMark}
use Rattle.reown_plan.specs.declared.plan.Owner.{Owner}
use Rattle.reown_plan.specs.PlanData.{PlanRecord, HaveDistinctPaths}
use Rattle.reown_files.specs.Calls.{Called, Met}
use Rattle.reown_files.specs.Lawful.{is_given, is_met, begins_first, is_lawful}
use Rattle.reown_files.proofs.Laws.{nothing, and_true, any_at, given_same, lawful_parts, lawful_of}
use Rattle.reown_files.proofs.Replays.{differ}

-- none of the records from this place on was met
abbrev pub AreUnmet : List PlanRecord → List Called → ℕ → Type 0
AreUnmet rs calls i = (k : ℕ) → i ≤ k → k < length rs → is_met (get_or rs k nothing).path calls ≡ false

or_false : (a b : Bool) → a ≡ false → b ≡ false → (a || b) ≡ false
or_false true b e h = absurd (let x : true ≡ false = e in cc)
or_false false b e h = h

module _ (rs : List PlanRecord) (i : ℕ) (below : i < length rs) (old new : List Called) (found : Option Owner) (is : new ≡ Met (get_or rs i nothing).path (get_or rs i nothing).after found ∷ old) (first : AreUnmet rs old i) where
  abbrev here : PlanRecord
  here = get_or rs i nothing

  -- one more is
  pub unmet_on : HaveDistinctPaths rs → AreUnmet rs new (i + 1)
  unmet_on distinct k from within =
      let other = get_or rs k nothing in
      ap (is_met other.path) is
      ∙ or_false (bytes_eq here.path other.path) (is_met other.path old) (differ here.path other.path (distinct i k nothing (omega arith) within)) (first k (omega arith) within)

  -- which is lawful
  pub lawful_met : (mark : PlanMark) → is_lawful mark rs old ≡ true → is_lawful mark rs new ≡ true
  lawful_met mark h =
      let parts = lawful_parts mark rs old h in
      let once = not (is_met here.path old) && begins_first mark rs old in
      ap (is_lawful mark rs) is
      ∙ lawful_of mark rs (Met here.path here.after found ∷ old) parts.0 parts.1 parts.2
      (and_true (list_any (is_given here.path here.after) rs) once (any_at (is_given here.path here.after) rs i nothing below (given_same here))
      (and_true (not (is_met here.path old)) (begins_first mark rs old) (ap not (first i (omega arith) below)) parts.3))
