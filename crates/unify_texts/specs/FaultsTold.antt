-- Which faults are told: each but want of memory.
-- Source: this project's own rule.
use Rattle.std.specs.Prelude.{◌≡◌, ◌≢◌, Option, Some, None}
use Rattle.idtext.specs.declared.faults.ReadError.TheVariants as reading
use Rattle.idtext.specs.Faults.{fault_told}
use Rattle.hosts_join.specs.declared.fault.PinsFault.{PinsFault}
use Rattle.hosts_join.specs.declared.fault.PinsFault.TheVariants as pins
use Rattle.hosts_join.specs.declared.fault.SiteFault.{SiteFault}
use Rattle.hosts_join.specs.declared.fault.SiteFault.TheVariants as site
use Rattle.hosts_join.specs.PinsText.{pins_told}
use Rattle.hosts_join.specs.Told.{told as site_told}
use Rattle.unify_texts.specs.declared.fault.Fault.{Fault}
use Rattle.unify_texts.specs.declared.fault.Fault.TheVariants as fault
use Rattle.unify_texts.specs.Told.{told}

-- nothing is told of want of memory, and of any other error its fault
-- error: the error with a fault
pub record TellsEachBut {E F : Type 0} (memory : E) (error : F → E) (tells : E → Option F) : Type 0
  where
    pub wanting : tells memory ≡ None
    pub others : (f : F) → error f ≢ memory → tells (error f) ≡ Some f

pub record FaultsAreTold : Type 0 where
  pub lines : TellsEachBut reading.Memory reading.Fault fault_told
  pub pins : TellsEachBut pins.Memory (λ (f : PinsFault). f) pins_told
  pub sites : TellsEachBut site.Memory (λ (f : SiteFault). f) site_told
  pub commands : TellsEachBut fault.Memory (λ (f : Fault). f) told
