-- Which certificates a check accepts, and with which fault it refuses the others.
use Rattle.std.proofs.Common.{◌≡◌, ◌⊎◌, ℕ, List, map, Result, Ok, Err, inl, inr, sym, ap, ◌∙◌, subst}
use Rattle.idtext.specs.First.{◌>>=◌, each}
use Rattle.idtext.proofs.OkLemmas.{bind_ok, ok_same}
use Rattle.certcheck.proofs.Spelled.{reads_what_is_spelled}
use Rattle.certcheck.proofs.Yes.{accepted_is_certified, certified_is_accepted}
use Rattle.certcheck.specs.Check.{answer}
use Rattle.certcheck.specs.Reading.{certificate_in}
use Rattle.certcheck.specs.declared.certificate.Certificate.{Certificate}
use Rattle.certcheck.specs.declared.fault.CheckFault.{CheckFault}
use Rattle.hosts_join.specs.Checks.{hosts_checked}
use Rattle.hosts_join.specs.Laws.{HasLawfulAccounts}
use Rattle.hosts_join.specs.declared.texts.HostText.{HostText}
use Rattle.unify_texts.specs.declared.fault.Fault.{Fault}
use Rattle.unify.specs.CheckLaws.{CertifyingAreAccepted, FirstFaultsOfChecks, IsFirstOfCheck}
use Rattle.unify.specs.Checking.{IsChecked, check_of, checked}
use Rattle.unify.specs.Count.{site_of}
use Rattle.site_tables.specs.Loading.{loaded_from}
use Rattle.site_tables.specs.Others.{others_loaded, pinned_site}
use Rattle.unify.specs.Reading.{WholeSite, files_of_site, site_read}
use Rattle.site_tables.specs.SiteLaws.{IsRefusedOr}
use Rattle.site_tables.specs.Told.{in_site}
use Rattle.unify.specs.Told.{in_certificate, in_check}
use Rattle.site_tables.specs.declared.rules.SiteRules.{SiteRules}
use Rattle.site_tables.proofs.FaultLaws.{bind_err}
use Rattle.site_tables.proofs.ReadSites.{others-together}
use Rattle.site_tables.proofs.SiteSteps.{site_ok}

-- the accounts of a site that was read are lawful
lawful_accounts : (texts : List HostText) (rules : SiteRules) (site : WholeSite) → site_read texts rules ≡ Ok site → HasLawfulAccounts site.joined
unfolding site_read
lawful_accounts texts rules site h =
    let listed = bind_ok (in_site (hosts_checked texts)) _ site h in
    let others = bind_ok (others_loaded texts rules.keep) _ site listed.2 in
    let joining = bind_ok (pinned_site others.0 rules.pins) _ site others.2 in
    let filing = bind_ok (each site_of (loaded_from others.0.hosts (map (λ (t : HostText). t.mtree) texts))) _ site joining.2 in
    subst (λ (s : WholeSite). HasLawfulAccounts s.joined) (ok_same (record { hosts = filing.0; joined = joining.0 }) site filing.2)
    (others-together texts rules listed.0 others.0 joining.0 (site_ok (hosts_checked texts) listed.0 listed.1) others.1 joining.1).accounts

certificate_ok : {X : Type 0} (r : Result X ℕ) (x : X) → in_certificate r ≡ Ok x → r ≡ Ok x
certificate_ok (Ok y) x e = ap (λ z. Ok z) (ok_same y x e)
certificate_ok (Err line) x e = absurd (cc)

check_ok : {X : Type 0} (r : Result X CheckFault) (x : X) → in_check r ≡ Ok x → r ≡ Ok x
check_ok (Ok y) x e = ap (λ z. Ok z) (ok_same y x e)
check_ok (Err f) x e = absurd (cc)

module _ (texts : List HostText) (rules : SiteRules) (text : List ℕ) where
  abbrev of_certificate : WholeSite → Certificate → Result ℕ Fault
  of_certificate site c = in_check (answer site.joined (files_of_site site) c)

  abbrev of_site : WholeSite → Result ℕ Fault
  of_site site = checked site (in_certificate (certificate_in text))

  accepted_there : (cost : ℕ) → check_of texts rules text ≡ Ok cost → IsChecked texts rules text cost
  unfolding check_of
  accepted_there cost h =
      let reading = bind_ok (site_read texts rules) of_site cost h in
      let site = reading.0 in
      let saying = bind_ok (in_certificate (certificate_in text)) (of_certificate site) cost reading.2 in
      let c = saying.0 in
      let said = certificate_ok (certificate_in text) c saying.1 in
      let lawful = lawful_accounts texts rules site reading.1 in
      let sides = (reads_what_is_spelled text c said).0 in
      record {
        site = site;
        read = reading.1;
        certificate = c;
        said = said;
        accepted = accepted_is_certified site.joined (files_of_site site) c cost lawful.users lawful.groups sides.users sides.groups (check_ok (answer site.joined (files_of_site site) c) cost saying.2);
      }

  accepted_back : (cost : ℕ) → IsChecked texts rules text cost → check_of texts rules text ≡ Ok cost
  unfolding check_of
  accepted_back cost is =
      let c = is.certificate in
      let files = files_of_site is.site in
      let lawful = lawful_accounts texts rules is.site is.read in
      let sides = (reads_what_is_spelled text c is.said).0 in
      ap (λ r. r >>= of_site) is.read
      ∙ ap (λ r. in_certificate r >>= of_certificate is.site) is.said
      ∙ ap in_check (certified_is_accepted is.site.joined files c lawful.users lawful.groups sides.users sides.groups is.accepted.certified)
      ∙ ap (λ n. Ok n) (sym is.accepted.cost)

  module _ (f : Fault) where
    after_read : (site : WholeSite) → (in_certificate (certificate_in text) ≡ Err f) ⊎ ((c : Certificate) × (in_certificate (certificate_in text) ≡ Ok c) × (of_certificate site c ≡ Err f)) → IsRefusedOr (in_certificate (certificate_in text)) f (λ c. of_certificate site c ≡ Err f)
    after_read site h = h

    after_site : (site_read texts rules ≡ Err f) ⊎ ((site : WholeSite) × (site_read texts rules ≡ Ok site) × (of_site site ≡ Err f)) → IsFirstOfCheck texts rules text f
    after_site (inl told) = inl told
    after_site (inr passed) = inr (passed.0, passed.1, after_read passed.0 (bind_err (in_certificate (certificate_in text)) (of_certificate passed.0) f passed.2))

    refused_there : check_of texts rules text ≡ Err f → IsFirstOfCheck texts rules text f
    unfolding check_of
    refused_there h = after_site (bind_err (site_read texts rules) of_site f h)

    refused_back : IsFirstOfCheck texts rules text f → check_of texts rules text ≡ Err f
    unfolding check_of
    refused_back (inl told) = ap (λ r. r >>= of_site) told
    refused_back (inr (site, read, inl told)) = ap (λ r. r >>= of_site) read ∙ ap (λ r. r >>= of_certificate site) told
    refused_back (inr (site, read, inr (c, said, told))) = ap (λ r. r >>= of_site) read ∙ ap (λ r. r >>= of_certificate site) said ∙ told

pub certifying_are_accepted : CertifyingAreAccepted
certifying_are_accepted texts rules text cost = (accepted_there texts rules text cost, accepted_back texts rules text cost)

pub first_faults_of_checks : FirstFaultsOfChecks
first_faults_of_checks texts rules text f = (refused_there texts rules text f, refused_back texts rules text f)
