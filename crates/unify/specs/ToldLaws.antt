-- The words by which the faults of a certificate, of its check and of a plan are told, each with
-- its own number.
-- Source: this project's own formats.
use Rattle.std.specs.Prelude.{◌≡◌, ℕ, List, [], ◌∷◌, codes, decimal}
use Rattle.certcheck.specs.FaultOrder.{fault_number}
use Rattle.certcheck.specs.declared.certificate.Certificate.{Certificate}
use Rattle.certcheck.specs.declared.fault.CheckFault.{CheckFault}
use Rattle.certcheck.specs.declared.fault.CheckFault.TheVariants as check
use Rattle.reown_plan.specs.PlanData.{PlanData}
use Rattle.unify_texts.specs.Codes.{code_of}
use Rattle.unify_texts.specs.Words.{shown, which_word}
use Rattle.unify_texts.specs.Told.{in_plan}
use Rattle.site_tables.specs.ToldLaws.{TellsItsFaults, line_words, memory_words}
use Rattle.unify.specs.Told.{check_told, in_certificate, in_check}

-- why a certificate is rejected
abbrev pub check_words : CheckFault → List (List ℕ)
check_words (check.NameMissing kind name) =
    codes "29" ∷ codes "NameMissing" ∷ which_word kind ∷ shown name ∷ []
check_words (check.NumberTwice kind number) =
    codes "30" ∷ codes "NumberTwice" ∷ which_word kind ∷ decimal number ∷ []
check_words (check.OutsidePool kind name) =
    codes "31" ∷ codes "OutsidePool" ∷ which_word kind ∷ shown name ∷ []
check_words (check.PinBroken kind name) =
    codes "32" ∷ codes "PinBroken" ∷ which_word kind ∷ shown name ∷ []
check_words (check.NotCovered kind name number) =
    codes "33" ∷ codes "NotCovered" ∷ which_word kind ∷ shown name ∷ decimal number ∷ []
check_words (check.SumsDiffer kind sum weight) =
    codes "34" ∷ codes "SumsDiffer" ∷ which_word kind ∷ decimal sum ∷ decimal weight ∷ []
check_words check.Memory = memory_words

-- the first byte of a plan that may not stand there
abbrev pub plan_words : ℕ → List (List ℕ)
plan_words byte = codes "35" ∷ codes "BadPlan" ∷ codes "byte" ∷ decimal byte ∷ []

-- so it is of a certificate, of its check and of a plan
pub record PartsTellTheirFaults : Type 0 where
  pub certificates : TellsItsFaults {X = Certificate} in_certificate
      (line_words (codes "28") (codes "BadCertificate"))
  pub checks : TellsItsFaults {X = ℕ} in_check check_words
  pub numbers_of_checks : (f : CheckFault) → code_of (check_told f) ≡ fault_number f
  pub plans : TellsItsFaults {X = PlanData} in_plan plan_words
