-- What goes out for a reply, and for a text.
-- Source: this project's own formats.
use Rattle.std.specs.Prelude.{◌≡◌, ◌↔◌, ◌⊎◌, ℕ, ◌+◌, ◌<◌, ◌≤◌, Bool, true, false}
use Rattle.std.specs.Prelude.{List, ◌++◌, length, codes, Some, Result, Ok, Err, is_ok}
use Rattle.unify_texts.specs.declared.fault.Fault.{Fault}
use Rattle.unify_texts.specs.declared.bundle.Bundle.{Bundle}
use Rattle.unify_texts.specs.Bundles.{bundle_of}
use Rattle.unify_texts.specs.FaultExamples.{status_for}
use Rattle.unify_texts.specs.Faults.{fault_line}
use Rattle.unify_bundle.specs.Output.{Answer, IsOutput, IsReply, IsTold, TakesAtMost, Tells}
use Rattle.unify_bundle.specs.Output.{answered, memory_refused, most_bundle_bytes, read_failed}

-- lines go out as they are, and a fault as its line with its own status; the status is 0 for lines
-- alone
pub record RepliesGoOut : Type 0 where
  pub lines : (text : List ℕ) → answered (Ok text) ≡ record { text = text; status = 0 }
  pub fault : (f : Fault)
      → answered (Err f) ≡ record { text = fault_line f; status = status_for f }
  pub done : (reply : Result (List ℕ) Fault)
      → ((answered reply).status ≡ 0) ↔ (is_ok reply ≡ true)

-- what goes out in place of a reply, byte by byte
pub record NoReplyGoesOut : Type 0 where
  pub read : read_failed ≡ record { text = codes "unify: read\n"; status = 3 }
  pub memory : memory_refused ≡ record { text = codes "unify: memory\n"; status = 3 }

-- for a bundle some reply of its command to its places goes out, and for any other text its fault
pub record BundlesAreAnswered : Type 0 where
  pub bundle : (input : List ℕ) (bundle : Bundle) (answer : Answer) → bundle_of input ≡ Ok bundle
      → IsOutput input answer
      ↔ ((reply : Result (List ℕ) Fault) × IsReply bundle.command bundle.places reply
      × (answer ≡ answered reply))
  pub refused : (input : List ℕ) (f : Fault) (answer : Answer) → bundle_of input ≡ Err f
      → IsOutput input answer ↔ (answer ≡ answered (Err f))

-- Of bytes that were read to their end and are not too many, that is told; else that a read failed;
-- and in place of either it may be told that memory was refused.
pub record InputsAreTold : Type 0 where
  pub whole : (input : List ℕ) (answer : Answer) → length input ≤ most_bundle_bytes
      → IsTold input false answer ↔ (IsOutput input answer ⊎ (answer ≡ memory_refused))
  pub failed : (input : List ℕ) (failed : Bool) (answer : Answer)
      → (failed ≡ true) ⊎ (most_bundle_bytes < length input)
      → IsTold input failed answer ↔ ((answer ≡ read_failed) ⊎ (answer ≡ memory_refused))

-- what is taken away is no more than that
abbrev pub NoMoreIsTaken : Type 0
NoMoreIsTaken =
    (most : ℕ) (old new : List ℕ) → TakesAtMost most (Some old) (Some new)
    → length old ≤ length new + most

-- What is told stands in the writer after what was there, and the status is its own. After a failed
-- write the status is 3, whatever the writer has.
pub record AnswersAreWritten : Type 0 where
  pub written : (input old new : List ℕ) (failed : Bool) (status : ℕ)
      → Tells (Some input) failed (Some old) (Some new) false status
      ↔ ((answer : Answer) × IsTold input failed answer × (status ≡ answer.status)
      × (new ≡ old ++ answer.text))
  pub broken : (input old new : List ℕ) (failed : Bool) (status : ℕ)
      → Tells (Some input) failed (Some old) (Some new) true status ↔ (status ≡ 3)
