-- Among the files of a merge each name has its own text, and no name stands twice.
-- Source: this project's own formats.
use Rattle.std.specs.Prelude.{◌≡◌, ◌≢◌, ◌⊎◌, ◌++◌, ◌∷◌, [], ℕ, true, false, List}
use Rattle.std.specs.Prelude.{AllPairs, Ok, Some, codes, slice_get}
use Rattle.std.specs.List.{Contains}
use Rattle.hosts_join.specs.declared.host.Host.{Host}
use Rattle.hosts_join.specs.declared.texts.HostText.{HostText}
use Rattle.ownership.specs.declared.mapping.Mappings.{Mappings}
use Rattle.unify.specs.declared.outcome.Outcome.{Outcome}
use Rattle.site_tables.specs.declared.rules.SiteRules.{SiteRules}
use Rattle.unify.specs.declared.site_files.NamedText.{NamedText}
use Rattle.site_tables.specs.Begun.{BegunSite, site_begun}
use Rattle.unify_laws.specs.HostTexts.{own_passwd, own_group}
use Rattle.unify_merge.specs.Merge.{merged_files}

-- one of the files has this name and this text
abbrev pub Have : List NamedText → List ℕ → List ℕ → Type 0
Have files name text = Contains files (record { name = name; text = text })

-- the names of the files differ from one another
abbrev pub HaveDistinctNames : List NamedText → Type 0
HaveDistinctNames files = AllPairs (λ a b. a.name ≢ b.name) files

-- the name of a file of the whole site
abbrev pub IsSiteFile : List ℕ → Type 0
IsSiteFile name =
    Contains
    (codes "passwd" ∷ codes "group" ∷ codes "map" ∷ codes "certificate" ∷ codes "report" ∷ []) name

-- the name of a file of one of these hosts
abbrev pub IsHostFile : List HostText → List ℕ → Type 0
IsHostFile texts name =
    (host : HostText) × Contains texts host × ((name ≡ codes "plan." ++ host.name)
    ⊎ ((name ≡ codes "passwd." ++ host.name) ⊎ (name ≡ codes "group." ++ host.name)))

-- What was merged stands under these names: of the whole site passwd and group, unless a name is
-- kept, map, certificate and report; of the host with the index h its plan, and its own passwd and
-- group with their new numbers. Where a name is kept, no file is named passwd or group. No file
-- has another name, and no name stands twice, where the hosts were read from the texts.
pub record AreNamed (texts : List HostText) (begun : BegunSite) (m : Mappings) (outcome : Outcome)
    (files : List NamedText) : Type 0 where
  pub passwd : outcome.keeps_names ≡ false → Have files (codes "passwd") outcome.passwd
  pub group : outcome.keeps_names ≡ false → Have files (codes "group") outcome.group
  pub no_passwd : outcome.keeps_names ≡ true → (text : List ℕ) → Have files (codes "passwd") text
      → ⊥
  pub no_group : outcome.keeps_names ≡ true → (text : List ℕ) → Have files (codes "group") text
      → ⊥
  pub map : Have files (codes "map") outcome.map
  pub certificate : Have files (codes "certificate") outcome.certificate
  pub report : Have files (codes "report") outcome.report
  pub plan_of_host : (h : ℕ) (text : HostText) (plan : List ℕ) → slice_get texts h ≡ Some text
      → slice_get outcome.plans h ≡ Some plan → Have files (codes "plan." ++ text.name) plan
  pub passwd_of_host : (h : ℕ) (text : HostText) (host : Host) → slice_get texts h ≡ Some text
      → slice_get begun.hosts h ≡ Some host
      → Have files (codes "passwd." ++ text.name) (own_passwd host begun.joined m text)
  pub group_of_host : (h : ℕ) (text : HostText) (host : Host) → slice_get texts h ≡ Some text
      → slice_get begun.hosts h ≡ Some host
      → Have files (codes "group." ++ text.name) (own_group begun.joined m text)
  pub no_other : (name text : List ℕ) → Have files name text
      → IsSiteFile name ⊎ IsHostFile texts name
  pub once : (rules : SiteRules) → site_begun texts rules ≡ Ok begun → HaveDistinctNames files

-- so they do among all files of a merge
abbrev pub FilesHaveTheirNames : Type 0
FilesHaveTheirNames = (texts : List HostText) (begun : BegunSite) (m : Mappings) (outcome : Outcome)
    → AreNamed texts begun m outcome (merged_files texts begun m outcome)
