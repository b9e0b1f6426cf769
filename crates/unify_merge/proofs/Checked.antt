-- What a check of a certificate answers, once the site and the certificate are read.
use Rattle.std.proofs.Common.{◌≡◌, ℕ, List, Result, Ok, Err, refl, ap}
use Rattle.std.specs.Prelude.{IfOk}
use Rattle.idtext.specs.First.{Gives}
use Rattle.idtext.proofs.OkLemmas.{ok_same}
use Rattle.hosts_join.specs.declared.texts.HostText.{HostText}
use Rattle.certcheck.proofs.Spelled.{reads_what_is_spelled}
use Rattle.certcheck.proofs.Yes.{accepted_is_certified}
use Rattle.certcheck.specs.Check.{answer}
use Rattle.certcheck.specs.Reading.{certificate_in}
use Rattle.certcheck.specs.declared.certificate.Certificate.{Certificate}
use Rattle.certcheck.specs.declared.fault.CheckFault.{CheckFault}
use Rattle.unify_texts.specs.Told.{told}
use Rattle.unify_texts.specs.declared.fault.Fault.{Fault}
use Rattle.site_tables.specs.declared.rules.SiteRules.{SiteRules}
use Rattle.unify.specs.Checking.{IsChecked, checked, check_of}
use Rattle.unify.specs.Reading.{WholeSite, files_of_site, site_read}
use Rattle.unify.specs.Told.{in_certificate, in_check}
use Rattle.unify_laws.proofs.WholeSites.{read_sites_are_whole}

-- the answer is that of the site that is read
pub answer_of_site : (texts : List HostText) (rules : SiteRules) (text : List ℕ) (site : WholeSite) → site_read texts rules ≡ Ok site → check_of texts rules text ≡ checked site (in_certificate (certificate_in text))
unfolding check_of
answer_of_site texts rules text site read = rw read refl

check_ok : {X : Type 0} (r : Result X CheckFault) (x : X) → in_check r ≡ Ok x → r ≡ Ok x
check_ok (Ok y) x e = ap (λ z. Ok z) (ok_same y x e)
check_ok (Err f) x e = absurd (cc)

module _ (texts : List HostText) (rules : SiteRules) (text : List ℕ) (site : WholeSite) (read : site_read texts rules ≡ Ok site) where
  means : (said : Result Certificate ℕ) → certificate_in text ≡ said → (result : Result ℕ Fault) → Gives (λ cost. cost) told result (checked site (in_certificate said)) → IfOk result (IsChecked texts rules text)
  means (Ok c) given (Ok cost) gives =
      let whole = read_sites_are_whole texts rules site read in
      let sides = (reads_what_is_spelled text c given).0 in
      record {
        site = site;
        read = read;
        certificate = c;
        said = given;
        accepted = accepted_is_certified site.joined (files_of_site site) c cost whole.lawful.users whole.lawful.groups sides.users sides.groups (check_ok (answer site.joined (files_of_site site) c) cost gives);
      }
  means (Err line) given (Ok cost) gives = absurd (cc)
  means (Ok c) given (Err e) gives = tt
  means (Err line) given (Err e) gives = tt

  -- what a cost means
  pub cost_means : (result : Result ℕ Fault) → Gives (λ cost. cost) told result (checked site (in_certificate (certificate_in text))) → IfOk result (IsChecked texts rules text)
  cost_means result gives = means (certificate_in text) refl result gives
