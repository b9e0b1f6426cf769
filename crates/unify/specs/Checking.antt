-- What a check of a certificate answers: the cost, or the first fault: those of the site, then the
-- certificate's text, then the check.
-- Source: the assignment problem with its weak duality (Kuhn, Munkres); the order of faults is this
-- project's own rule.
use Rattle.std.specs.Prelude.{◌≡◌, ℕ, List, Result, Ok}
use Rattle.idtext.specs.First.{◌>>=◌}
use Rattle.hosts_join.specs.declared.texts.HostText.{HostText}
use Rattle.certcheck.specs.Certified.{IsAccepted}
use Rattle.certcheck.specs.Check.{answer}
use Rattle.certcheck.specs.Reading.{certificate_in}
use Rattle.certcheck.specs.declared.certificate.Certificate.{Certificate}
use Rattle.unify_texts.specs.declared.fault.Fault.{Fault}
use Rattle.site_tables.specs.declared.rules.SiteRules.{SiteRules}
use Rattle.unify.specs.Reading.{WholeSite, files_of_site, site_read}
use Rattle.unify.specs.Told.{in_certificate, in_check}

-- a site with a certificate of it
abbrev pub checked : WholeSite → Result Certificate Fault → Result ℕ Fault
checked site certificate = certificate >>= λ c. in_check (answer site.joined (files_of_site site) c)

unfoldable pub check_of : List HostText → SiteRules → List ℕ → Result ℕ Fault
check_of texts rules text =
    site_read texts rules >>= λ site. checked site (in_certificate (certificate_in text))

-- What a yes means: the texts say a site and a certificate of exactly its names; its mappings are
-- admissible, its potentials certify them, no admissible mappings cost less, and this is their
-- cost.
pub record IsChecked (texts : List HostText) (rules : SiteRules) (text : List ℕ) (cost : ℕ)
    : Type 0 where
  pub site : WholeSite
  pub read : site_read texts rules ≡ Ok site
  pub certificate : Certificate
  pub said : certificate_in text ≡ Ok certificate
  pub accepted : IsAccepted site.joined (files_of_site site) certificate cost
