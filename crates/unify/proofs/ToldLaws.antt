-- The words by which the faults of a certificate, of its check and of a plan are told.
use Rattle.std.proofs.Common.{◌≡◌, ℕ, refl}
use Rattle.std.specs.Fmt.{digits}
use Rattle.std.specs.Prelude.{codes}
use Rattle.certcheck.specs.FaultOrder.{fault_number}
use Rattle.certcheck.specs.declared.fault.CheckFault.{CheckFault}
use Rattle.certcheck.specs.declared.fault.CheckFault.TheVariants as check
use Rattle.unify_texts.specs.Codes.{code_of}
use Rattle.unify_texts.specs.Faults.{words_of}
use Rattle.unify_texts.specs.declared.fault.Fault.TheVariants.{BadCertificate, BadPlan}
use Rattle.unify.specs.Told.{check_told}
use Rattle.site_tables.specs.ToldLaws.{line_words}
use Rattle.unify.specs.ToldLaws.{PartsTellTheirFaults, check_words, plan_words}

check_is : (f : CheckFault) → words_of (check_told f) ≡ check_words f
unfolding digits
check_is (check.NameMissing kind name) = refl
check_is (check.NumberTwice kind number) = refl
check_is (check.OutsidePool kind name) = refl
check_is (check.PinBroken kind name) = refl
check_is (check.NotCovered kind name number) = refl
check_is (check.SumsDiffer kind sum weight) = refl
check_is check.Memory = refl

check_number : (f : CheckFault) → code_of (check_told f) ≡ fault_number f
check_number (check.NameMissing kind name) = refl
check_number (check.NumberTwice kind number) = refl
check_number (check.OutsidePool kind name) = refl
check_number (check.PinBroken kind name) = refl
check_number (check.NotCovered kind name number) = refl
check_number (check.SumsDiffer kind sum weight) = refl
check_number check.Memory = refl

certificate_is : (line : ℕ) → words_of (BadCertificate line) ≡ line_words (codes "28") (codes "BadCertificate") line
unfolding digits
certificate_is line = refl

plan_is : (byte : ℕ) → words_of (BadPlan byte) ≡ plan_words byte
unfolding digits
plan_is byte = refl

pub parts_tell_their_faults : PartsTellTheirFaults
parts_tell_their_faults = record {
  certificates = record { given = λ x. refl; told = certificate_is };
  checks = record { given = λ x. refl; told = check_is };
  numbers_of_checks = check_number;
  plans = record { given = λ x. refl; told = plan_is };
}
