-- What is told of a bundle.
use Rattle.std.proofs.Common.{◌≡◌, ℕ, zero, suc, ◌<◌, Bool, true, false, List, [], ◌∷◌, length, Option, Some, None, refl, sym, ap, subst, ◌∙◌, inl, inr, ◌++◌, append_assoc, arith, length-append}
use Rattle.std.specs.Prelude.{IfOk, IfSome, ◌⊎◌, MatchBool, Result, Ok, Err}
use Rattle.std.specs.Io.KnownBytes.{Appends, Consumes}
use Rattle.unify_texts.specs.declared.fault.Fault.{Fault}
use Rattle.unify_texts.specs.declared.bundle.Bundle.{Bundle}
use Rattle.unify_texts.specs.Told.{told as fault_told}
use Rattle.unify_bundle.specs.declared.reply.Reply.{Reply}
use Rattle.unify_bundle.specs.Replies.{reply_of}
use Rattle.unify_bundle.specs.Output.{Answer, Answers, answered, IsReplyTo, IsTold, Tells, read_failed, memory_refused, most_bundle_bytes}

-- what may be told of the bytes that were left to read, or of some bytes where these are not known
abbrev pub IsToldOf : Option (List ℕ) → Bool → Answer → Type 0
IsToldOf left failed answer = (input : List ℕ) × IfSome left (λ known. known ≡ input) × IsTold input failed answer

-- what was told stands in the writer, or a write failed
pub tells : (left old new : Option (List ℕ)) (failed write_failed : Bool) (answer : Answer) (text : List ℕ) (told status : ℕ)
    → IsToldOf left failed answer → text ≡ answer.text → told ≡ answer.status
    → MatchBool write_failed (status ≡ 3) ((status ≡ told) × Appends old new text) → Tells left failed old new write_failed status
tells left old new failed true answer text told status right t s wrote = (right.0, right.1, wrote)
tells left old new failed false answer text told status right t s wrote = (right.0, right.1, (answer, right.2, wrote.0 ∙ s, subst (Appends old new) t wrote.1))

pub memory_told : (left : Option (List ℕ)) (failed : Bool) → IsToldOf left failed memory_refused
memory_told None failed = ([], tt, inr (inr refl))
memory_told (Some input) failed = (input, refl, inr (inr refl))

-- there are lists of any length
longer : (n : ℕ) → (xs : List ℕ) × (n < length xs)
longer zero = (0 ∷ [], omega arith)
longer (suc n) =
    let xs = longer n in
    (0 ∷ xs.0, omega (arith, xs.1))

some_longer : (n : ℕ) (P : List ℕ → Type 0) → ((xs : List ℕ) → n < length xs → P xs) → (xs : List ℕ) × P xs
some_longer n P holds =
    let xs = longer n in
    (xs.0, holds xs.0 xs.1)

pub read_told : (left : Option (List ℕ)) (failed : Bool) → (failed ≡ true) ⊎ IfSome left (λ input. most_bundle_bytes < length input) → IsToldOf left failed read_failed
read_told None failed why =
    let told = some_longer most_bundle_bytes (λ input. IsTold input failed read_failed) (λ input more. inr (inl (refl, inr more))) in
    (told.0, tt, told.1)
read_told (Some input) failed why = (input, refl, inr (inl (refl, why)))

-- one read after others
pub consumes_more : (a b c : Option (List ℕ)) (xs ys : List ℕ) → Consumes a b xs → Consumes b c ys → Consumes a c (xs ++ ys)
consumes_more None b c xs ys p q = tt
consumes_more (Some us) None c xs ys p q = absurd p
consumes_more (Some us) (Some vs) None xs ys p q = absurd q
consumes_more (Some us) (Some vs) (Some ws) xs ys p q = p ∙ ap (λ zs. xs ++ zs) q ∙ sym (append_assoc xs ys ws)

-- where so many bytes were taken, there were as many
pub taken_from : (n : ℕ) (a b : Option (List ℕ)) (xs : List ℕ) → n < length xs → Consumes a b xs → IfSome a (λ input. n < length input)
taken_from n None b xs many p = tt
taken_from n (Some us) None xs many p = absurd p
taken_from n (Some us) (Some vs) xs many p = rw (p, length-append) (omega arith)

-- the fault of a text that is no bundle, told
pub fault_answers : {E : Type 0} (fault : Fault) (bundle : Result Bundle Fault) (r : Result Reply E) → IfSome (fault_told fault) (λ f. bundle ≡ Err f)
    → IfOk r (λ reply. (fault_told fault ≡ Some fault) × (reply_of reply ≡ answered (Err fault))) → IfOk r (λ reply. Answers (IsReplyTo bundle) (reply_of reply))
fault_answers fault bundle (Ok reply) gives h =
    let P : Option Fault → Type 0 = λ o. IfSome o (λ f. bundle ≡ Err f) in
    let e : bundle ≡ Err fault = subst P h.0 gives in
    (Err fault, rw e refl, h.1)
fault_answers fault bundle (Err e) gives h = tt
