-- How the faults of a site's texts are told.
-- Source: this project's own formats.
use Rattle.std.specs.Prelude.{[], Result, Ok, Err, unwrap_or}
use Rattle.hosts_join.specs.declared.fault.PinsFault.{PinsFault}
use Rattle.hosts_join.specs.declared.fault.PinsFault.TheVariants as pins
use Rattle.hosts_join.specs.declared.fault.SiteFault.{SiteFault}
use Rattle.hosts_join.specs.declared.fault.SiteFault.TheVariants as site
use Rattle.keep_text.specs.declared.keep_text.KeepFault.{KeepFault}
use Rattle.keep_text.specs.declared.keep_text.KeepFault.TheVariants as keep
use Rattle.unify_texts.specs.declared.fault.Fault.{Fault}
use Rattle.unify_texts.specs.declared.fault.Fault.TheVariants as fault

abbrev pub site_told : SiteFault → Fault
site_told (site.BadHostName name) = fault.BadHostName name
site_told (site.HostTwice name) = fault.HostTwice name
site_told (site.HostCount n) = fault.HostCount n
site_told (site.NoPrimaryGroup host user) = fault.NoPrimaryGroup host user
site_told (site.PinDisagrees kind name first second) =
    fault.PinDisagrees kind name first (unwrap_or second [])
site_told (site.PinReserved kind number name by) = fault.PinReserved kind number name by
site_told (site.PinClash kind number first second) = fault.PinClash kind number first second
site_told (site.PoolTooSmall kind class names numbers) = fault.PoolTooSmall kind class names numbers
site_told site.Memory = fault.Memory

-- what a check or a join of the site gives
abbrev pub in_site : {X : Type 0} → Result X SiteFault → Result X Fault
in_site (Ok x) = Ok x
in_site (Err e) = Err (site_told e)

abbrev pub pins_fault_told : PinsFault → Fault
pins_fault_told (pins.BadPins line) = fault.BadPins line
pins_fault_told pins.Memory = fault.Memory

-- what a pins text gives
abbrev pub in_pins : {X : Type 0} → Result X PinsFault → Result X Fault
in_pins (Ok x) = Ok x
in_pins (Err e) = Err (pins_fault_told e)

abbrev pub keep_fault_told : KeepFault → Fault
keep_fault_told (keep.BadKeep line) = fault.BadKeep line
keep_fault_told keep.Memory = fault.Memory

-- what a keep text gives
abbrev pub in_keep : {X : Type 0} → Result X KeepFault → Result X Fault
in_keep (Ok x) = Ok x
in_keep (Err e) = Err (keep_fault_told e)
