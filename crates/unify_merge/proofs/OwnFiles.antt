-- What a merge gives with each host's own files.
use Rattle.std.proofs.Common.{◌≡◌, ◌++◌, ◌∷◌, [], ℕ, zero, suc, List, take, Some, refl, sym, ap, ◌∙◌}
use Rattle.std.specs.List.{slice_get}
use Rattle.std.proofs.lemmas.Option.{same_Some}
use Rattle.idtext.proofs.OkLemmas.{ok_same}
use Rattle.hosts_join.specs.Site.{Joined}
use Rattle.hosts_join.specs.declared.host.Host.{Host}
use Rattle.hosts_join.specs.declared.texts.HostText.{HostText}
use Rattle.ownership.specs.declared.mapping.Mappings.{Mappings}
use Rattle.certcheck.specs.Check.{mappings_of}
use Rattle.certcheck.specs.Reading.{certificate_in}
use Rattle.certcheck.proofs.Spelled.{spelled_is_read}
use Rattle.unify.specs.declared.merging.Merged.{Merged}
use Rattle.unify.specs.declared.site_files.NamedText.{NamedText}
use Rattle.unify.specs.Merging.{IsMerged}
use Rattle.unify.specs.Reading.{WholeSite}
use Rattle.unify_laws.specs.Headline.{Headline}
use Rattle.unify_laws.specs.HostTexts.{group_file, host_files, passwd_file}

-- ---- the files of one host more

module _ (site : Joined) (m : Mappings) where
  -- the two files of a host
  abbrev both : Host → HostText → List NamedText
  both host text = passwd_file host site m text ∷ group_file site m text ∷ []

  pub no_hosts : (hosts : List Host) (texts : List HostText) → host_files site m (take 0 texts) hosts ≡ []
  no_hosts hosts [] = refl
  no_hosts hosts (t ∷ texts) = refl

  pub host_files_more : (texts : List HostText) (hosts : List Host) (k : ℕ) (text : HostText) (host : Host) → slice_get texts k ≡ Some text → slice_get hosts k ≡ Some host
      → host_files site m (take (suc k) texts) hosts ≡ host_files site m (take k texts) hosts ++ (passwd_file host site m text ∷ group_file site m text ∷ [])
  host_files_more [] hosts k text host at there = absurd (cc)
  host_files_more (t ∷ texts) [] k text host at there = absurd (cc)
  host_files_more (t ∷ texts) (h ∷ hosts) zero text host at there =
      let same_text : t ≡ text = same_Some t text at in
      let same_host : h ≡ host = same_Some h host there in
      ap (λ fs. both h t ++ fs) (no_hosts hosts texts) ∙ (λ j. both (same_host j) (same_text j))
  host_files_more (t ∷ texts) (h ∷ hosts) (suc k) text host at there = ap (λ fs. both h t ++ fs) (host_files_more texts hosts k text host at there)

-- ---- what was merged

-- the mappings of a headline are those that were merged
pub same_mappings : (site : WholeSite) (merged : Merged) (last : WholeSite) (plans : List (List ℕ)) → IsMerged site merged → last.joined ≡ site.joined → (correct : Headline last (record merged.outcome { plans = plans })) → correct.mappings ≡ merged.mappings
same_mappings site merged last plans is joined correct =
    let c = is.certificate in
    let read = ap certificate_in is.printed.printed.certificate ∙ spelled_is_read c (record { users = is.answered.user_side; groups = is.answered.group_side }) in
    let same : correct.certificate ≡ c = ok_same correct.certificate c (sym correct.certificate_read ∙ read) in
    sym correct.potentials_are_of_these ∙ (λ j. mappings_of (joined j) (same j)) ∙ is.answered.certificate_has
