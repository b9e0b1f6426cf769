-- What is replied to what a command on files found, field by field.
use Rattle.std.proofs.Common.{◌≡◌, ◌≢◌, ℕ, List, [], Option, None, Some, Result, Ok, Err, true, refl, sym, ap, ◌∙◌}
use Rattle.std.specs.Prelude.{◌↔◌, is_ok}
use Rattle.std.specs.Fmt.{digits}
use Rattle.idtext.specs.First.{Gives}
use Rattle.idtext.proofs.OkLemmas.{ok_same}
use Rattle.unify_texts.specs.declared.fault.Fault.{Fault}
use Rattle.unify_texts.specs.declared.fault.Fault.TheVariants as fault
use Rattle.unify_texts.specs.Codes.{code_of}
use Rattle.unify_texts.specs.Faults.{fault_line}
use Rattle.unify_texts.specs.Told.{told}
use Rattle.unify_texts.proofs.FaultExamples.{statuses_go_by_faults}
use Rattle.unify_merge.specs.declared.fault.MergeFault.{MergeFault}
use Rattle.unify_merge.specs.declared.fault.MergeFault.TheVariants.{Failed, TooLarge, Refused}
use Rattle.unify_bundle.specs.declared.answers.NoReply.{NoReply}
use Rattle.unify_bundle.specs.declared.answers.NoReply.TheVariants as none
use Rattle.unify_bundle.specs.declared.reply.Reply.{Reply}
use Rattle.unify_bundle.specs.Output.{Answer, answered}
use Rattle.unify_bundle.specs.Replies.{cause, fault_reply, reply_of, reply_to}
use Rattle.unify_bundle.specs.WordsAnswered.{AreWordsFor, BundleLimitByDigit, IsNoReplyTo, IsReplyTo}
use Rattle.unify_bundle.proofs.GoingOut.{not_done}

-- ---- replies

-- an answer by its two fields
by_fields : (text : List ℕ) (status : ℕ) (reply : Reply) → reply.text.items ≡ text → reply.status ≡ status → ◌≡◌ {A = Result Answer NoReply} (Ok (record { text = text; status = status })) (Ok (reply_of reply))
by_fields text status reply a b = λ i. Ok (record { text = sym a i; status = sym b i })

told_itself : (f g : Fault) → told f ≡ Some g → (g ≡ f) × (f ≢ fault.Memory)
told_itself fault.Memory g is = absurd (cc)
told_itself f g is = (cc, λ memory. absurd (cc))

itself_told : (f : Fault) → f ≢ fault.Memory → told f ≡ Some f
itself_told fault.Memory other = absurd (other refl)
itself_told f other = refl

fault_replied : (f : Fault) (o : Option Fault) (reply : Reply) → told f ≡ o → fault_reply o ≡ Ok (reply_of reply) → IsReplyTo {X = ℕ} (λ _. []) (Err (Refused f)) reply
fault_replied f None reply is given = absurd (cc)
fault_replied f (Some g) reply is given =
    let itself = told_itself f g is in
    let same : answered (Err f) ≡ reply_of reply = ap (λ (h : Fault). answered (Err h)) (sym itself.0) ∙ ok_same (answered (Err g)) (reply_of reply) given in
    (itself.1, sym (ap (λ (a : Answer). a.text) same), sym (ap (λ (a : Answer). a.status) same) ∙ statuses_go_by_faults f)

fault_fits : (f : Fault) (reply : Reply) → IsReplyTo {X = ℕ} (λ _. []) (Err (Refused f)) reply → fault_reply (told f) ≡ Ok (reply_of reply)
fault_fits f reply is =
    ap fault_reply (itself_told f is.0) ∙ by_fields (fault_line f) _ reply is.1 (is.2 ∙ sym (statuses_go_by_faults f))

module _ {X : Type 0} (lines : X → List ℕ) where
  replied : (found : Result X MergeFault) (reply : Reply) → Gives reply_of cause (Ok reply) (reply_to lines found) ↔ IsReplyTo lines found reply
  replied (Ok x) reply = (
    λ given. let same = ok_same (answered (Ok (lines x))) (reply_of reply) given in (sym (ap (λ (a : Answer). a.text) same), sym (ap (λ (a : Answer). a.status) same)),
    λ is. by_fields (lines x) 0 reply is.0 is.1,
  )
  replied (Err (Refused f)) reply = (fault_replied f (told f) reply refl, fault_fits f reply)
  replied (Err (Failed e)) reply = (λ given. absurd (cc), λ no. absurd no)
  replied (Err TooLarge) reply = (λ given. absurd (cc), λ no. absurd no)

  -- ---- where there is none

  no_failure : (o : Option Fault) (why : NoReply) → fault_reply o ≡ Err why → why ≡ none.Memory
  no_failure None why is = cc
  no_failure (Some f) why is = absurd (cc)

  unreplied : (found : Result X MergeFault) (why : NoReply) → Gives reply_of cause (Err why) (reply_to lines found) ↔ IsNoReplyTo found why
  unreplied found none.Memory = (λ _. tt, λ _. tt)
  unreplied (Ok x) (none.Failed e) = (λ given. absurd (cc), λ is. absurd (cc))
  unreplied (Err (Refused f)) (none.Failed e) = (λ given. absurd (let memory = no_failure (told f) (none.Failed e) given in cc), λ is. absurd (cc))
  unreplied (Err (Failed other)) (none.Failed e) = (λ given. cc, λ is. cc)
  unreplied (Err TooLarge) (none.Failed e) = (λ given. absurd (cc), λ is. absurd (cc))
  unreplied (Ok x) none.TooLarge = (λ given. absurd (cc), λ is. absurd (cc))
  unreplied (Err (Refused f)) none.TooLarge = (λ given. absurd (let memory = no_failure (told f) none.TooLarge given in cc), λ is. absurd (cc))
  unreplied (Err (Failed other)) none.TooLarge = (λ given. absurd (cc), λ is. absurd (cc))
  unreplied (Err TooLarge) none.TooLarge = (λ _. refl, λ _. refl)

  -- ---- statuses

  done_where : (found : Result X MergeFault) (reply : Reply) → IsReplyTo lines found reply → (reply.status ≡ 0) ↔ (is_ok found ≡ true)
  done_where (Ok x) reply is = (λ _. refl, λ _. is.1)
  done_where (Err (Refused f)) reply is = (λ done. absurd (not_done (code_of f) (statuses_go_by_faults f ∙ sym is.2 ∙ done)), λ no. absurd (cc))
  done_where (Err (Failed e)) reply is = absurd is
  done_where (Err TooLarge) reply is = absurd is

  pub are_words_for : AreWordsFor lines
  are_words_for = record { reply = replied; none = unreplied; done = done_where }

pub bundle_limit_by_digit : BundleLimitByDigit
unfolding digits
bundle_limit_by_digit = refl
