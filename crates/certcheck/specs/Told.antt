-- What a contract sees of texts in the input, and the fault that an error tells.
-- Source: this project's own rule.
use Rattle.std.specs.Prelude.{ℕ, List, Option, Some, None}
use Rattle.std.specs.Option.{option_map}
use Rattle.std.specs.Borrow.{Bor}
use Rattle.certcheck.specs.declared.reading.CertificateFault.{CertificateFault}
use Rattle.certcheck.specs.declared.reading.CertificateFault.TheVariants as lines
use Rattle.certcheck.specs.declared.fault.CheckFault.{CheckFault}
use Rattle.certcheck.specs.declared.fault.CheckFault.TheVariants.{Memory}

abbrev pub text_of : Option (Bor (List ℕ)) → Option (List ℕ)
text_of o = option_map (λ (t : Bor (List ℕ)). t.now) o

abbrev pub pair_of : Option (Bor (List ℕ) × ℕ) → Option (List ℕ × ℕ)
pair_of o = option_map (λ (p : Bor (List ℕ) × ℕ). (p.0.now, p.1)) o

-- the fault itself, or None for want of memory
abbrev pub told : CheckFault → Option CheckFault
told Memory = None
told f = Some f

-- the line of a refused text, or None for want of memory
abbrev pub line_told : CertificateFault → Option ℕ
line_told (lines.BadCertificate n) = Some n
line_told lines.Memory = None
