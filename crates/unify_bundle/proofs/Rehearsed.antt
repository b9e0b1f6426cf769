-- What goes out for a rehearsal.
use Rattle.std.proofs.Common.{◌≡◌, ℕ, List, Option, Some, Result, Ok, Err, IfSome, IfOk, refl, subst}
use Rattle.unify_texts.specs.declared.fault.Fault.{Fault}
use Rattle.unify_texts.specs.Told.{told}
use Rattle.rehearsal.specs.Rehearsing.{IsRehearsed}
use Rattle.unify_bundle.specs.declared.reply.Reply.{Reply}
use Rattle.unify_bundle.specs.Lines.{records_lines}
use Rattle.unify_bundle.specs.Output.{Answers, IsRehearsalTold, answered}
use Rattle.unify_bundle.specs.Replies.{reply_of}

module _ (text mtree : List ℕ) where
  pub records_told : {E : Type 0} (n : ℕ) (r : Result Reply E) → IsRehearsed text mtree (Ok n) → IfOk r (λ reply. reply_of reply ≡ answered (Ok (records_lines n))) → IfOk r (λ reply. Answers (IsRehearsalTold text mtree) (reply_of reply))
  records_told n (Ok reply) is h = (Ok (records_lines n), (Ok n, is, refl), h)
  records_told n (Err e) is h = tt

  pub refusal_told : {E : Type 0} (f : Fault) (r : Result Reply E) → IfSome (told f) (λ g. IsRehearsed text mtree (Err g)) → IfOk r (λ reply. (told f ≡ Some f) × (reply_of reply ≡ answered (Err f)))
      → IfOk r (λ reply. Answers (IsRehearsalTold text mtree) (reply_of reply))
  refusal_told f (Ok reply) is h =
      let P : Option Fault → Type 0 = λ o. IfSome o (λ g. IsRehearsed text mtree (Err g)) in
      (Err f, (Err f, subst P h.0 is, refl), h.1)
  refusal_told f (Err e) is h = tt
