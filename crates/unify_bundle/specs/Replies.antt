-- The reply that goes out for what a command found.
-- Source: this project's own rule.
use Rattle.std.specs.Prelude.{ℕ, List, Option, Some, None, Result, Ok, Err}
use Rattle.unify_texts.specs.declared.fault.Fault.{Fault}
use Rattle.unify_texts.specs.Told.{told}
use Rattle.unify_merge.specs.declared.fault.MergeFault.{MergeFault}
use Rattle.unify_merge.specs.declared.fault.MergeFault.TheVariants.{Failed, TooLarge, Refused}
use Rattle.unify_bundle.specs.declared.answers.NoReply.{NoReply}
use Rattle.unify_bundle.specs.declared.answers.NoReply.TheVariants as none
use Rattle.unify_bundle.specs.declared.reply.Reply.{Reply}
use Rattle.unify_bundle.specs.Output.{Answer, answered}

-- a reply without where it lies in memory
abbrev pub reply_of : Reply → Answer
reply_of reply = record { text = reply.text.items; status = reply.status }

-- why there is no reply, where it is not for want of memory
abbrev pub cause : NoReply → Option NoReply
cause none.Memory = None
cause other = Some other

-- the reply to a fault, of which there is none for want of memory
abbrev pub fault_reply : Option Fault → Result Answer NoReply
fault_reply (Some f) = Ok (answered (Err f))
fault_reply None = Err none.Memory

-- the reply to an early end of a command on files
abbrev pub refusal : MergeFault → Result Answer NoReply
refusal (Failed e) = Err (none.Failed e)
refusal TooLarge = Err none.TooLarge
refusal (Refused e) = fault_reply (told e)

-- the reply to what such a command found, of which these are the lines
abbrev pub reply_to : {X : Type 0} → (X → List ℕ) → Result X MergeFault → Result Answer NoReply
reply_to lines (Ok x) = Ok (answered (Ok (lines x)))
reply_to lines (Err fault) = refusal fault
