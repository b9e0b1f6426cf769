-- What goes out for a reply, and for a text.
use Rattle.std.proofs.Common.{◌≡◌, ◌≢◌, ℕ, ◌<◌, ◌≤◌, Bool, true, false, cond, List, ◌++◌, length, Some, Result, Ok, Err, refl, sym, ap, subst, ◌∙◌, arith, inl, inr, length-append}
use Rattle.std.specs.Prelude.{◌↔◌, ◌⊎◌, is_ok}
use Rattle.unify_texts.specs.declared.fault.Fault.{Fault}
use Rattle.unify_texts.specs.declared.bundle.Bundle.{Bundle}
use Rattle.unify_texts.specs.Codes.{code_of, status_of}
use Rattle.unify_texts.specs.FaultExamples.{status_for}
use Rattle.unify_texts.specs.Faults.{fault_line}
use Rattle.unify_texts.proofs.FaultExamples.{statuses_go_by_faults}
use Rattle.unify_bundle.specs.GoingOut.{AnswersAreWritten, BundlesAreAnswered, InputsAreTold, NoMoreIsTaken, NoReplyGoesOut, RepliesGoOut}
use Rattle.unify_bundle.specs.Output.{Answer, IsOutput, IsReplyTo, IsTold, Tells, answered, memory_refused, most_bundle_bytes, read_failed}

-- ---- statuses

chosen : (b : Bool) (m n : ℕ) → m ≢ 0 → n ≢ 0 → cond b m n ≢ 0
chosen true m n some others = some
chosen false m n some others = others

pub not_done : (code : ℕ) → status_of code ≢ 0
not_done code = chosen _ 3 _ (omega arith) (chosen _ 2 _ (omega arith) (chosen _ 4 1 (omega arith) (omega arith)))

fault_goes_out : (f : Fault) → answered (Err f) ≡ record { text = fault_line f; status = status_for f }
fault_goes_out f = ap (λ (status : ℕ). record { text = fault_line f; status = status }) (statuses_go_by_faults f)

done_for_lines : (reply : Result (List ℕ) Fault) → ((answered reply).status ≡ 0) ↔ (is_ok reply ≡ true)
done_for_lines (Ok text) = (λ _. refl, λ _. refl)
done_for_lines (Err f) = (λ done. absurd (not_done (code_of f) done), λ no. absurd (cc))

pub replies_go_out : RepliesGoOut
replies_go_out = record { lines = λ text. refl; fault = fault_goes_out; done = done_for_lines }

pub no_reply_goes_out : NoReplyGoesOut
no_reply_goes_out = record { read = refl; memory = refl }

-- ---- bundles

pub bundles_are_answered : BundlesAreAnswered
unfolding IsOutput
bundles_are_answered = record {
  bundle = λ input bundle answer is. (
    λ out. (out.0, subst (λ (read : Result Bundle Fault). IsReplyTo read out.0) is out.1, out.2),
    λ right. (right.0, subst (λ (read : Result Bundle Fault). IsReplyTo read right.0) (sym is) right.1, right.2),
  );
  refused = λ input f answer is. (
    λ out. out.2 ∙ ap answered (subst (λ (read : Result Bundle Fault). IsReplyTo read out.0) is out.1),
    λ told. (Err f, subst (λ (read : Result Bundle Fault). IsReplyTo read (Err f)) (sym is) refl, told),
  );
}

-- ---- inputs

whole_told : (input : List ℕ) (answer : Answer) → length input ≤ most_bundle_bytes → IsTold input false answer ↔ (IsOutput input answer ⊎ (answer ≡ memory_refused))
whole_told input answer few = (
  λ told. elim told [
    | inl out ↦ inl out.2
    | inr none ↦ elim none [
      | inl read ↦ elim read.1 [
        | inl failed ↦ absurd (cc)
        | inr many ↦ absurd (omega (arith, many, few))
      ]
      | inr memory ↦ inr memory
    ]
  ],
  λ right. elim right [
    | inl out ↦ inl (refl, few, out)
    | inr memory ↦ inr (inr memory)
  ],
)

failed_told : (input : List ℕ) (failed : Bool) (answer : Answer) → (failed ≡ true) ⊎ (most_bundle_bytes < length input) → IsTold input failed answer ↔ ((answer ≡ read_failed) ⊎ (answer ≡ memory_refused))
failed_told input failed answer why = (
  λ told. elim told [
    | inl out ↦ elim why [
      | inl broke ↦ absurd (let fine = out.0 in cc)
      | inr many ↦ absurd (omega (arith, many, out.1))
    ]
    | inr none ↦ elim none [
      | inl read ↦ inl read.0
      | inr memory ↦ inr memory
    ]
  ],
  λ right. elim right [
    | inl read ↦ inr (inl (read, why))
    | inr memory ↦ inr (inr memory)
  ],
)

pub inputs_are_told : InputsAreTold
inputs_are_told = record { whole = whole_told; failed = failed_told }

pub no_more_is_taken : NoMoreIsTaken
no_more_is_taken most old new (bytes, taken, few) = omega (arith, few, ap length taken, length-append bytes new)

-- ---- writers

answer_written : (input old new : List ℕ) (failed : Bool) (status : ℕ)
    → Tells (Some input) failed (Some old) (Some new) false status ↔ ((answer : Answer) × IsTold input failed answer × (status ≡ answer.status) × (new ≡ old ++ answer.text))
answer_written input old new failed status = (
  λ tells. (tells.2.0, subst (λ (read : List ℕ). IsTold read failed tells.2.0) (sym tells.1) tells.2.1, tells.2.2, tells.2.3),
  λ answer. (input, refl, answer),
)

pub answers_are_written : AnswersAreWritten
answers_are_written = record {
  written = answer_written;
  broken = λ input old new failed status. (λ tells. tells.2, λ three. (input, refl, three));
}
