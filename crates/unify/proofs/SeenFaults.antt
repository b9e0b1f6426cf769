-- Which fault contracts see where a certificate or its check tells one.
use Rattle.std.proofs.Common.{◌≡◌, Some, refl}
use Rattle.certcheck.specs.Told as seen
use Rattle.certcheck.specs.declared.fault.CheckFault.{CheckFault}
use Rattle.certcheck.specs.declared.fault.CheckFault.TheVariants as check
use Rattle.unify.specs.SeenFaults.{PartsShowTheirFaults}

check_seen : (f : CheckFault) → (f ≡ check.Memory → ⊥) → seen.told f ≡ Some f
check_seen (check.NameMissing kind name) other = refl
check_seen (check.NumberTwice kind number) other = refl
check_seen (check.OutsidePool kind name) other = refl
check_seen (check.PinBroken kind name) other = refl
check_seen (check.NotCovered kind name number) other = refl
check_seen (check.SumsDiffer kind sum weight) other = refl
check_seen check.Memory other = absurd (other refl)

pub parts_show_their_faults : PartsShowTheirFaults
parts_show_their_faults = record {
  checks = record { wanted = refl; others = check_seen };
  bad_lines = λ line. refl;
  certificates_without_memory = refl;
}
