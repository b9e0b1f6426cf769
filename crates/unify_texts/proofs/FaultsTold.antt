-- Each fault is told but want of memory.
use Rattle.std.proofs.Common.{◌≡◌, ◌≢◌, Some, refl}
use Rattle.hosts_join.specs.declared.fault.PinsFault.{PinsFault}
use Rattle.hosts_join.specs.declared.fault.PinsFault.TheVariants as pins
use Rattle.hosts_join.specs.declared.fault.SiteFault.{SiteFault}
use Rattle.hosts_join.specs.declared.fault.SiteFault.TheVariants as site
use Rattle.hosts_join.specs.PinsText.{pins_told}
use Rattle.hosts_join.specs.Told.{told as site_told}
use Rattle.unify_texts.specs.declared.fault.Fault.{Fault}
use Rattle.unify_texts.specs.declared.fault.Fault.TheVariants as fault
use Rattle.unify_texts.specs.FaultsTold.{FaultsAreTold}
use Rattle.unify_texts.specs.Told.{told}

pins_itself : (f : PinsFault) → f ≢ pins.Memory → pins_told f ≡ Some f
pins_itself pins.Memory other = absurd (other refl)
pins_itself f other = refl

site_itself : (f : SiteFault) → f ≢ site.Memory → site_told f ≡ Some f
site_itself site.Memory other = absurd (other refl)
site_itself f other = refl

itself : (f : Fault) → f ≢ fault.Memory → told f ≡ Some f
itself fault.Memory other = absurd (other refl)
itself f other = refl

pub faults_are_told : FaultsAreTold
faults_are_told = record {
  lines = record { wanting = refl; others = λ f other. refl };
  pins = record { wanting = refl; others = pins_itself };
  sites = record { wanting = refl; others = site_itself };
  commands = record { wanting = refl; others = itself };
}
