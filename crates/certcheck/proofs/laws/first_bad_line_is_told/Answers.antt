use Rattle.std.proofs.Common.{◌≡◌, ℕ, ◌⊎◌, Bool, true, false, cond, length, Some, None, refl, ◌∙◌, inl, inr}
use Rattle.std.proofs.lemmas.Bool.{cond-false, cond-true}
use Rattle.idtext.specs.Faults.{line_number}
use Rattle.certcheck.specs.Reading.{is_cut, is_end, item_before, item_of, may_follow}
use Rattle.certcheck.proofs.FirstBad.{first_bad_is_told}
use Rattle.certcheck.proofs.laws.first_bad_line_is_told.Goals as goal

told_or_not : (b : Bool) (n : ℕ) → (cond b None (Some n) ≡ None) ⊎ (cond b None (Some n) ≡ Some n)
told_or_not true n = inl refl
told_or_not false n = inr refl

pub returns : goal.returns
returns c =
    first_bad_is_told (record {
      wrong = λ before line. told_or_not (may_follow (item_before before) (item_of line)) (line_number (length before));
      cut = λ text ls h. cond-true (is_cut text) _ _ h;
      missing = λ text ls h g. cond-false (is_cut text) _ _ h ∙ cond-false (is_end (item_before ls)) None _ g;
    })
