-- Whether a merge writes passwd and group goes by what stays of the hosts in full.
-- Source: passwd(5) and group(5); what stays is this project's own rule.
use Rattle.std.specs.Prelude.{◌≡◌, ◌⊎◌, ℕ, List, Ok, codes}
use Rattle.std.specs.List.{AllZip}
use Rattle.hosts_join.specs.declared.host.Host.{Host}
use Rattle.hosts_join.specs.declared.texts.HostText.{HostText}
use Rattle.keep_text.specs.KeepTexts.{keep_of}
use Rattle.keep_text.specs.declared.keep_text.KeepText.{KeepText}
use Rattle.unify.specs.declared.counting.Cost.{Cost}
use Rattle.site_tables.specs.declared.rules.SiteRules.{SiteRules}
use Rattle.site_tables.specs.TextLaws.{SomeGroupStays, SomeUserStays, IsOfText}
use Rattle.unify_merge.specs.Ledger.{Ledger}
use Rattle.unify_merge.specs.Merge.{HasMerged}
use Rattle.unify_merge.specs.NamedFiles.{Have}

-- a user or a group of some host stays as it is
abbrev pub SomeNameStays : KeepText → List Host → Type 0
SomeNameStays keep full = SomeUserStays keep full ⊎ SomeGroupStays keep full

-- a file of this name was finished
abbrev pub Stands : Ledger → List ℕ → Type 0
Stands l name = (text : List ℕ) × Have l.finished name text

-- where some name stays, neither file stands, and else both do
-- full: the hosts with all of their rows
pub record StandUnlessSomeStays (keep : KeepText) (full : List Host) (l : Ledger) : Type 0 where
  pub no_passwd : SomeNameStays keep full → Stands l (codes "passwd") → ⊥
  pub no_group : SomeNameStays keep full → Stands l (codes "group") → ⊥
  pub passwd : (SomeNameStays keep full → ⊥) → Stands l (codes "passwd")
  pub group : (SomeNameStays keep full → ⊥) → Stands l (codes "group")

-- so it is after a merge, by what its keep text says and by its hosts as their texts tell them
abbrev pub AccountFilesGoByTexts : Type 0
AccountFilesGoByTexts = (texts : List HostText) (rules : SiteRules) (old new : Ledger) (cost : Cost)
    (keep : KeepText) (full : List Host) → HasMerged texts rules old new cost
    → keep_of rules.keep.text ≡ Ok keep → AllZip IsOfText texts full
    → StandUnlessSomeStays keep full new
