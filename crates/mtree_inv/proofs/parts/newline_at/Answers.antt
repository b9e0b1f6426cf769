use Rattle.std.proofs.Common.{◌≡◌, ℕ, List, length, ap, arith}
use Rattle.std.proofs.lemmas.Bool.{eqb-true}
use Rattle.std.specs.Prelude.{Option, Some, None, MatchOption, ◌==◌, slice_index}
use Rattle.memchr.specs.Find.{IsFirstByte, is_byte}
use Rattle.mtree_inv.specs.Parts.{HasNoNewline}
use Rattle.mtree_inv.proofs.parts.newline_at.Goals as goal

found : (bytes : List ℕ) (result : Option ℕ) → IsFirstByte (is_byte 10) bytes result
    → MatchOption result (HasNoNewline (length bytes) bytes) (λ at. HasNoNewline at bytes × (slice_index bytes at ≡ 10))
found bytes (Some at) h = ((λ k below newline. h.0.before k (omega arith) below (ap (λ (b : ℕ). b == 10) newline)), eqb-true (slice_index bytes at) 10 h.1)
found bytes None h = λ k below newline. h k (omega arith) below (ap (λ (b : ℕ). b == 10) newline)

pub returns-clause-first : goal.returns-clause-first
returns-clause-first c = found c.args.bytes.now c.memchr.result c.memchr.ensures
