-- What is reserved of a site, as a report tells it.
-- Source: this project's own rule.
use Rattle.std.specs.Prelude.{◌≡◌, ℕ, ◌<◌, List, Ok}
use Rattle.std.specs.List.{All}
use Rattle.hosts_join.specs.Site.{Joined}
use Rattle.hosts_join.specs.declared.host.Host.{Host}
use Rattle.hosts_join.specs.declared.texts.HostText.{HostText}
use Rattle.unify_texts.specs.ReservedBack.{IsTellable}
use Rattle.site_tables.specs.declared.rules.SiteRules.{SiteRules}
use Rattle.site_tables.specs.Others.{keep_read}
use Rattle.site_tables.specs.Begun.{BegunSite, site_begun}
use Rattle.site_tables.specs.Survey.{found_on, surveyed_hosts}

-- the account files of a host are of bytes
pub record IsOfBytes (text : HostText) : Type 0 where
  pub passwd : All (λ b. b < 256) text.passwd
  pub group : All (λ b. b < 256) text.group

-- all that is reserved, users and groups, can be told by lines that are read back
pub record IsTold (site : Joined) : Type 0 where
  pub users : All IsTellable site.users.reserved
  pub groups : All IsTellable site.groups.reserved

-- So it is of each site whose tables and rules are accepted, with the numbers without an account
-- that a survey finds, in whichever inventories.
abbrev pub ReservedNumbersAreTellable : Type 0
ReservedNumbersAreTellable =
    (texts : List HostText) (rules : SiteRules) (hosts : List Host) (inventories : List (List ℕ))
    (begun : BegunSite) → All IsOfBytes texts
    → surveyed_hosts texts (keep_read rules.keep.text) ≡ Ok hosts
    → found_on hosts inventories ≡ Ok rules.keep.unowned
    → site_begun texts rules ≡ Ok begun → IsTold begun.joined
