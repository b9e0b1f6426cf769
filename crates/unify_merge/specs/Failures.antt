-- Which failure of a call files know of after a command, by what the command answers.
-- Source: this project's own rule.
use Rattle.std.specs.Prelude.{Option, Some, Result, Ok, Err}
use Rattle.unify_merge.specs.declared.files.CallFailed.{CallFailed}
use Rattle.unify_merge.specs.declared.fault.MergeFault.{MergeFault}
use Rattle.unify_merge.specs.declared.fault.MergeFault.TheVariants.{Failed, TooLarge, Refused}

-- After an early end it is the one that is told. Where the cause is another, no call failed, and it
-- is the one before.
abbrev pub failure_told : MergeFault → Option CallFailed → Option CallFailed
failure_told (Failed e) before = Some e
failure_told TooLarge before = before
failure_told (Refused e) before = before

-- where the command succeeded, no call failed
abbrev pub failure_after : {X : Type 0} → Result X MergeFault → Option CallFailed
    → Option CallFailed
failure_after (Ok x) before = before
failure_after (Err fault) before = failure_told fault before
