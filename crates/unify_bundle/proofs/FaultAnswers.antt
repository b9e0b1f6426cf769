-- A refusal is told where it may be the reply.
use Rattle.std.proofs.Common.{◌≡◌, Option, Some, None, refl, sym, subst}
use Rattle.std.specs.Prelude.{IfOk, IfSome, Result, Ok, Err, List, ℕ}
use Rattle.unify_texts.specs.declared.fault.Fault.{Fault}
use Rattle.unify_texts.specs.Told.{told as fault_told}
use Rattle.unify_bundle.specs.declared.reply.Reply.{Reply}
use Rattle.site_tables.specs.declared.rules.SiteRules.{SiteRules}
use Rattle.unify_bundle.specs.Replies.{reply_of}
use Rattle.unify_bundle.specs.Output.{Answers, IsToldBy, answered}

-- the fault that a call answered, told
pub refused_answers : {E : Type 0} (IsRight : Result (List ℕ) Fault → Type 0) (fault : Fault) (r : Result Reply E) → IfSome (fault_told fault) (λ f. IsRight (Err f))
    → IfOk r (λ reply. (fault_told fault ≡ Some fault) × (reply_of reply ≡ answered (Err fault))) → IfOk r (λ reply. Answers IsRight (reply_of reply))
refused_answers IsRight fault (Ok reply) right h =
    let P : Option Fault → Type 0 = λ o. IfSome o (λ f. IsRight (Err f)) in
    (Err fault, subst P h.0 right, h.1)
refused_answers IsRight fault (Err e) right h = tt

-- where there are no rules their fault is
pub no_rules : (tells : SiteRules → Result (List ℕ) Fault → Type 0) (rules : Result SiteRules Fault) (o : Option Fault) → IfSome o (λ f. rules ≡ Err f) → IfSome o (λ f. IsToldBy tells rules (Err f))
no_rules tells rules None none = tt
no_rules tells rules (Some f) none = subst (λ r. IsToldBy tells r (Err f)) (sym none) refl
