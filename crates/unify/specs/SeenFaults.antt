-- Which fault contracts see where a certificate or its check tells one.
-- Source: this project's own rule.
use Rattle.std.specs.Prelude.{◌≡◌, ℕ, Some, None}
use Rattle.certcheck.specs.Told.{line_told}
use Rattle.certcheck.specs.Told as check
use Rattle.certcheck.specs.declared.fault.CheckFault.TheVariants as check_fault
use Rattle.certcheck.specs.declared.reading.CertificateFault.TheVariants as certificate
use Rattle.site_tables.specs.SeenFaults.{SeesAllBut}

pub record PartsShowTheirFaults : Type 0 where
  pub checks : SeesAllBut check.told check_fault.Memory
  pub bad_lines : (line : ℕ) → line_told (certificate.BadCertificate line) ≡ Some line
  pub certificates_without_memory : line_told certificate.Memory ≡ None
