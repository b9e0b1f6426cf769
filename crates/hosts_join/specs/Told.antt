-- The fault that an error tells.
-- Source: this project's own rule.
use Rattle.std.specs.Prelude.{Option, Some, None}
use Rattle.hosts_join.specs.declared.fault.SiteFault.{SiteFault}
use Rattle.hosts_join.specs.declared.fault.SiteFault.TheVariants.{Memory}

-- the fault itself, or None for want of memory
abbrev pub told : SiteFault → Option SiteFault
told Memory = None
told f = Some f
