-- What a command on files answers, where all that it reads and writes is in memory.
-- Source: this project's own rule.
use Rattle.std.specs.Prelude.{Result, Ok, Err}
use Rattle.unify_texts.specs.declared.fault.Fault.{Fault}
use Rattle.unify_texts.specs.declared.fault.Fault.TheVariants.{Memory}
use Rattle.unify_merge.specs.declared.fault.MergeFault.{MergeFault}
use Rattle.unify_merge.specs.declared.fault.MergeFault.TheVariants.{Failed, TooLarge, Refused}

-- that a call failed, or an inventory has too many bytes, is told as want of memory
abbrev pub in_memory : {X : Type 0} → Result X MergeFault → Result X Fault
in_memory (Ok x) = Ok x
in_memory (Err (Refused f)) = Err f
in_memory (Err (Failed e)) = Err Memory
in_memory (Err TooLarge) = Err Memory
