-- Which certificates a check accepts, and with which fault it refuses the others.
-- Source: the assignment problem (coverage and equal sums: Kuhn, Munkres); the order of faults is
-- this project's own rule.
use Rattle.std.specs.Prelude.{◌≡◌, ◌↔◌, ℕ, List, Ok, Err}
use Rattle.hosts_join.specs.declared.texts.HostText.{HostText}
use Rattle.certcheck.specs.Check.{answer}
use Rattle.certcheck.specs.Reading.{certificate_in}
use Rattle.unify_texts.specs.declared.fault.Fault.{Fault}
use Rattle.unify.specs.Checking.{IsChecked, check_of}
use Rattle.unify.specs.Reading.{files_of_site, site_read}
use Rattle.site_tables.specs.SiteLaws.{IsRefusedOr}
use Rattle.unify.specs.Told.{in_certificate, in_check}
use Rattle.site_tables.specs.declared.rules.SiteRules.{SiteRules}

-- exactly those that certify, with the cost of their mappings
abbrev pub CertifyingAreAccepted : Type 0
CertifyingAreAccepted = (texts : List HostText) (rules : SiteRules) (text : List ℕ) (cost : ℕ)
    → (check_of texts rules text ≡ Ok cost) ↔ IsChecked texts rules text cost

-- the fault of the site; or of the certificate's text; or what its check finds
abbrev pub IsFirstOfCheck : List HostText → SiteRules → List ℕ → Fault → Type 0
IsFirstOfCheck texts rules text fault =
    IsRefusedOr (site_read texts rules) fault (λ site.
    IsRefusedOr (in_certificate (certificate_in text)) fault (λ certificate.
    in_check (answer site.joined (files_of_site site) certificate) ≡ Err fault))

abbrev pub FirstFaultsOfChecks : Type 0
FirstFaultsOfChecks = (texts : List HostText) (rules : SiteRules) (text : List ℕ) (fault : Fault)
    → (check_of texts rules text ≡ Err fault) ↔ IsFirstOfCheck texts rules text fault
