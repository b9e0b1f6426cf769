-- What is replied to what a command on files found, field by field.
-- Source: this project's own formats.
use Rattle.std.specs.Prelude.{◌≡◌, ◌≢◌, ◌↔◌, ⊤, ℕ, List, true, Result, Ok, Err, is_ok, codes}
use Rattle.std.specs.Prelude.{decimal}
use Rattle.idtext.specs.First.{Gives}
use Rattle.unify_texts.specs.declared.fault.Fault.TheVariants as fault
use Rattle.unify_texts.specs.FaultExamples.{status_for}
use Rattle.unify_texts.specs.Faults.{fault_line}
use Rattle.unify_merge.specs.declared.fault.MergeFault.{MergeFault}
use Rattle.unify_merge.specs.declared.fault.MergeFault.TheVariants.{Failed, TooLarge, Refused}
use Rattle.unify_bundle.specs.declared.answers.NoReply.{NoReply}
use Rattle.unify_bundle.specs.declared.answers.NoReply.TheVariants as none
use Rattle.unify_bundle.specs.declared.reply.Reply.{Reply}
use Rattle.unify_bundle.specs.Output.{most_bundle_bytes}
use Rattle.unify_bundle.specs.Replies.{cause, reply_of, reply_to}

-- A reply has the lines of what was found, with status 0; or the line of the fault, with its own
-- status. There is none for want of memory, for a failed call, and for an inventory that is too
-- large.
abbrev pub IsReplyTo : {X : Type 0} → (X → List ℕ) → Result X MergeFault → Reply → Type 0
IsReplyTo lines (Ok x) reply = (reply.text.items ≡ lines x) × (reply.status ≡ 0)
IsReplyTo lines (Err (Refused f)) reply =
    (f ≢ fault.Memory) × (reply.text.items ≡ fault_line f) × (reply.status ≡ status_for f)
IsReplyTo lines (Err (Failed e)) reply = ⊥
IsReplyTo lines (Err TooLarge) reply = ⊥

-- In place of a reply it is told that a call failed, or that an inventory is too large, only where
-- that was found; that memory is wanting, at any time.
abbrev pub IsNoReplyTo : {X : Type 0} → Result X MergeFault → NoReply → Type 0
IsNoReplyTo found (none.Failed e) = found ≡ Err (Failed e)
IsNoReplyTo found none.TooLarge = found ≡ Err TooLarge
IsNoReplyTo found none.Memory = ⊤

-- so what is answered is the reply to what was found, exactly; its status is 0 exactly where the
-- command did what it was called for
-- lines: those of what may be found
pub record AreWordsFor {X : Type 0} (lines : X → List ℕ) : Type 0 where
  pub reply : (found : Result X MergeFault) (reply : Reply)
      → Gives reply_of cause (Ok reply) (reply_to lines found) ↔ IsReplyTo lines found reply
  pub none : (found : Result X MergeFault) (why : NoReply)
      → Gives reply_of cause (Err why) (reply_to lines found) ↔ IsNoReplyTo found why
  pub done : (found : Result X MergeFault) (reply : Reply) → IsReplyTo lines found reply
      → (reply.status ≡ 0) ↔ (is_ok found ≡ true)

-- how many bytes a bundle may have, digit by digit
abbrev pub BundleLimitByDigit : Type 0
BundleLimitByDigit = decimal most_bundle_bytes ≡ codes "268435456"
