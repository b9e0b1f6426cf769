-- What a site that was read is, and where its names may stand, in words of the texts.
-- Source: passwd(5), group(5) and login.defs(5) of the shadow suite and mtree(5); what stays, and
-- where a name may stand, is this project's own rule.
use Rattle.std.specs.Prelude.{◌≡◌, ◌↔◌, ℕ, true, List, Some, Ok, is_some, slice_get}
use Rattle.mtree_inv.specs.declared.entry.Entry.{Entry}
use Rattle.hosts_join.specs.Accounts.{Pair}
use Rattle.hosts_join.specs.Pairs.{number_of}
use Rattle.hosts_join.specs.Standings.{AreAllOffered, HostTells, StandWhereTheyMay}
use Rattle.hosts_join.specs.Standings.{StandsWhereItMay, of_groups, of_users}
use Rattle.hosts_join.specs.declared.host.Host.{Host}
use Rattle.hosts_join.specs.declared.texts.HostText.{HostText}
use Rattle.ownership.specs.declared.mapping.Mappings.{Mappings}
use Rattle.unify_texts.specs.declared.map_text.MapText.{MapText}
use Rattle.site_tables.specs.FileLaws.{AreItsFiles}
use Rattle.site_tables.specs.MapLaws.{IsSomeGroup, IsSomeUser}
use Rattle.unify.specs.Outcomes.{hosts_in}
use Rattle.site_tables.specs.Begun.{BegunSite, site_begun}
use Rattle.unify.specs.Reading.{WholeSite, site_read}
use Rattle.site_tables.specs.TextLaws.{GroupStays, IsOfTexts, UserStays}
use Rattle.site_tables.specs.declared.rules.SiteRules.{SiteRules}
use Rattle.unify_laws.specs.Headline.{HaveOneNumberEach}

-- Its hosts and its accounts are what the texts say before the inventories, and each host has
-- exactly the files of its inventory.
pub record IsReadFromTexts (texts : List HostText) (rules : SiteRules) (site : WholeSite) : Type 0
  where
    pub begun : IsOfTexts texts rules (record { hosts = hosts_in site; joined = site.joined })
    pub files : (h : ℕ) (host : Host) (files : List Entry) (text : HostText)
        → slice_get site.hosts h ≡ Some (host, files) → slice_get texts h ≡ Some text
        → AreItsFiles (record { host = host; mtree = text.mtree }) files

abbrev pub ReadSitesAreOfTexts : Type 0
ReadSitesAreOfTexts = (texts : List HostText) (rules : SiteRules) (site : WholeSite)
    → site_read texts rules ≡ Ok site → IsReadFromTexts texts rules site

-- Each name of the site may have exactly the numbers at which it may stand: by the tables and the
-- ranges of the hosts in full, as their passwd, group and login.defs tell them, whatever stays of
-- them, and by the pins of the pins text; but none that is reserved.
pub record StandByTexts (texts : List HostText) (rules : SiteRules) (begun : BegunSite) : Type 0
  where
    pub of : IsOfTexts texts rules begun
    pub users : StandWhereTheyMay of_users of.hosts.full of.pins.users begun.joined.users
    pub groups : StandWhereTheyMay of_groups of.hosts.full of.pins.groups begun.joined.groups
    pub all_users : AreAllOffered of_users of.hosts.full of.pins.users begun.joined.users.reserved
        begun.joined.users
    pub all_groups : AreAllOffered of_groups of.hosts.full of.pins.groups
        begun.joined.groups.reserved begun.joined.groups

abbrev pub NumbersStandByTexts : Type 0
NumbersStandByTexts = (texts : List HostText) (rules : SiteRules) (begun : BegunSite)
    → site_begun texts rules ≡ Ok begun → StandByTexts texts rules begun

-- each number that a map gives is one at which its name may stand
abbrev pub AreGivenWhereTheyMay : (Host → HostTells) → List Host → List Pair → List Pair → Type 0
AreGivenWhereTheyMay tells hosts pins given =
    (name : List ℕ) (v : ℕ) → number_of given name ≡ Some v
    → StandsWhereItMay tells hosts pins name v

-- The map has a number for exactly those users and groups of the hosts in full that do not stay,
-- and each is one at which its name may stand, by the texts.
pub record GivesByTexts (texts : List HostText) (rules : SiteRules) (begun : BegunSite)
    (given : MapText) : Type 0 where
  pub of : IsOfTexts texts rules begun
  pub user_names : (name : List ℕ) → (is_some (number_of given.users name) ≡ true)
      ↔ (IsSomeUser of.hosts.full name × (UserStays of.hosts.keep of.hosts.full name → ⊥))
  pub group_names : (name : List ℕ) → (is_some (number_of given.groups name) ≡ true)
      ↔ (IsSomeGroup of.hosts.full name × (GroupStays of.hosts.keep of.hosts.full name → ⊥))
  pub users : AreGivenWhereTheyMay of_users of.hosts.full of.pins.users given.users
  pub groups : AreGivenWhereTheyMay of_groups of.hosts.full of.pins.groups given.groups

-- so it is of every map that gives each name of the site one number, as the map of a merge does
abbrev pub GivenNumbersStandByTexts : Type 0
GivenNumbersStandByTexts =
    (texts : List HostText) (rules : SiteRules) (begun : BegunSite) (m : Mappings)
    (given : MapText) → site_begun texts rules ≡ Ok begun
    → HaveOneNumberEach begun.joined.users m.users given.users
    → HaveOneNumberEach begun.joined.groups m.groups given.groups
    → GivesByTexts texts rules begun given
