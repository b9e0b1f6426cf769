-- Each host's own passwd and group with their new numbers, and what they guarantee.
-- Source: passwd(5) and group(5); the sentence is this project's own.
use Rattle.std.specs.Prelude.{◌≡◌, ℕ, true, false, List, [], ◌∷◌, ◌++◌, codes, filter, All, Some}
use Rattle.std.specs.Prelude.{Ok, slice_get}
use Rattle.std.specs.List.{AllZip}
use Rattle.accounts.specs.Tables.{passwd_table, group_table}
use Rattle.hosts_join.specs.Accounts.{Accounts}
use Rattle.hosts_join.specs.Rules.{is_name, is_reserved}
use Rattle.hosts_join.specs.Site.{Joined}
use Rattle.hosts_join.specs.declared.host.Host.{Host}
use Rattle.hosts_join.specs.declared.texts.HostText.{HostText}
use Rattle.mtree_inv.specs.declared.entry.Entry.{Entry}
use Rattle.ownership.specs.declared.mapping.Mappings.{Mappings}
use Rattle.mergedfiles.specs.FullTables.{IsFullPasswd, IsFullGroupFile}
use Rattle.mergedfiles.specs.HostFiles.{host_users, host_groups}
use Rattle.mergedfiles.specs.HostReadBack.{IsHostPasswd, IsHostGroup, KeepsPrimary}
use Rattle.mergedfiles.specs.ReadBack.{WasRead}
use Rattle.unify_texts.specs.ReservedLines.{keeps_a_name}
use Rattle.unify_texts.specs.declared.map_text.MapText.{MapText}
use Rattle.site_tables.specs.declared.host.Loaded.{Loaded}
use Rattle.unify.specs.declared.outcome.Outcome.{Outcome}
use Rattle.site_tables.specs.declared.rules.SiteRules.{SiteRules}
use Rattle.unify.specs.declared.site_files.NamedText.{NamedText}
use Rattle.unify.specs.declared.site_files.SiteFiles.{SiteFiles}
use Rattle.site_tables.specs.Hosts.{host_of}
use Rattle.unify.specs.Whole.{IsWhole}
use Rattle.unify.specs.Outcomes.{IsOutcome, hosts_in}
use Rattle.site_tables.specs.Begun.{BegunSite, site_begun}
use Rattle.unify.specs.Reading.{WholeSite, site_read}
use Rattle.unify_laws.specs.Headline.{Headline, PlanKeepsNames}

-- the host's own passwd, with only its numbers replaced
abbrev pub own_passwd : Host → Joined → Mappings → HostText → List ℕ
own_passwd host site m text = host_users host site m text.passwd

-- its own group
abbrev pub own_group : Joined → Mappings → HostText → List ℕ
own_group site m text = host_groups site m.groups text.group

-- both as files, and those of hosts, one host after the other
abbrev pub passwd_file : Host → Joined → Mappings → HostText → NamedText
passwd_file host site m text =
    record { name = codes "passwd." ++ text.name; text = own_passwd host site m text }

abbrev pub group_file : Joined → Mappings → HostText → NamedText
group_file site m text =
    record { name = codes "group." ++ text.name; text = own_group site m text }

abbrev pub host_files : Joined → Mappings → List HostText → List Host → List NamedText
host_files site m [] hosts = []
host_files site m (text ∷ texts) [] = []
host_files site m (text ∷ texts) (host ∷ hosts) =
    passwd_file host site m text ∷ group_file site m text ∷ host_files site m texts hosts

-- ---- what was joined of a host

-- Of the rows of a full table those were joined whose names are among the accounts. The number of
-- each other row is reserved, so that no name is given it.
-- name, number: of a row
pub record AreJoinedRows {Row : Type 0} (name : Row → List ℕ) (number : Row → ℕ) (a : Accounts)
    (full joined : List Row) : Type 0 where
  pub joined_are : joined ≡ filter (λ row. is_name a.names (name row)) full
  pub kept : All (λ row. is_name a.names (name row) ≡ false
      → is_reserved a.reserved (number row) ≡ true) full

-- a host as its texts tell it in full, and what of it was joined
pub record IsJoinedPart (site : Joined) (full host : Host) : Type 0 where
  pub users : AreJoinedRows (λ row. row.name) (λ row. row.uid) site.users full.users host.users
  pub groups : AreJoinedRows (λ row. row.name) (λ row. row.gid) site.groups full.groups host.groups

-- the text tells such a host in full
pub record IsTextOf (site : Joined) (host : Host) (text : HostText) : Type 0 where
  pub loaded : Loaded
  pub told : host_of text ≡ Ok loaded
  pub passwd : passwd_table text.passwd ≡ Ok loaded.host.users
  pub group : group_table text.group ≡ Ok loaded.host.groups
  pub part : IsJoinedPart site loaded.host host

-- so it is for the texts that a site was read from, at the index of each host
abbrev pub TablesAreOfTexts : Type 0
TablesAreOfTexts = (texts : List HostText) (rules : SiteRules) (begun : BegunSite) (h : ℕ)
    (host : Host) (text : HostText) → site_begun texts rules ≡ Ok begun
    → slice_get begun.hosts h ≡ Some host → slice_get texts h ≡ Some text
    → IsTextOf begun.joined host text

-- all rows of the host were joined
pub record IsJoinedInFull (full host : Host) : Type 0 where
  pub users : full.users ≡ host.users
  pub groups : full.groups ≡ host.groups

-- all rows of each host were joined, as its text tells them
pub record AreJoinedInFull (hosts : List Host) (texts : List HostText) : Type 0 where
  pub read : All WasRead hosts
  pub each_host : (h : ℕ) (host : Host) (text : HostText) (loaded : Loaded)
      → slice_get hosts h ≡ Some host → slice_get texts h ≡ Some text
      → host_of text ≡ Ok loaded → IsJoinedInFull loaded.host host

-- So it is for the hosts of a site of which no name is kept, before its inventories are read, and
-- after them.
abbrev pub BegunSitesAreInFull : Type 0
BegunSitesAreInFull = (texts : List HostText) (rules : SiteRules) (begun : BegunSite)
    → site_begun texts rules ≡ Ok begun → keeps_a_name begun.joined ≡ false
    → AreJoinedInFull begun.hosts texts

abbrev pub ReadSitesAreInFull : Type 0
ReadSitesAreInFull = (texts : List HostText) (rules : SiteRules) (site : WholeSite)
    → site_read texts rules ≡ Ok site → keeps_a_name site.joined ≡ false
    → AreJoinedInFull (hosts_in site) texts

-- by an empty keep text no name is kept
abbrev pub EmptyTextsKeepNoName : Type 0
EmptyTextsKeepNoName = (texts : List HostText) (rules : SiteRules) (begun : BegunSite)
    → rules.keep.text ≡ [] → site_begun texts rules ≡ Ok begun
    → keeps_a_name begun.joined ≡ false

-- ---- what its own files say

-- What they say when they are read: line by line they are those of the host, except for the numbers
-- of what was joined; each user has the primary group that it had; and while the host's plan is
-- carried out, however often stopped, every file of it has its old owner, or by them the user and
-- group names it had; once it has finished, every file has these.
-- Where all rows of the host were joined, each line of it has the new numbers of its names.
-- map: the printed map, as it is read
-- h: the index of the host
-- full: the host as its texts tell it
-- host: what was joined of it
pub record KeepsOwnFiles (site : WholeSite) (m : Mappings) (map : MapText)
    (plans : List (List ℕ)) (h : ℕ) (full host : Host) (files : List Entry)
    (text : HostText) : Type 0 where
  pub passwd : IsFullPasswd site.joined m full host text.passwd
      (own_passwd host site.joined m text)
  pub group : IsFullGroupFile site.joined m full host text.group (own_group site.joined m text)
  pub primary_kept : AllZip (KeepsPrimary full.groups group.rows) full.users passwd.rows
  pub a_plan_keeps_names :
      PlanKeepsNames map passwd.rows group.rows plans h full host files
  pub passwd_in_full : WasRead host → IsJoinedInFull full host
      → IsHostPasswd host site.joined m text.passwd (own_passwd host site.joined m text)
  pub group_in_full : IsJoinedInFull full host
      → IsHostGroup host site.joined m text.group (own_group site.joined m text)

-- so it is for each host of a site that has the headline, and the texts of its own files
abbrev pub HostsKeepOwnFiles : Type 0
HostsKeepOwnFiles = (site : WholeSite) (outcome : Outcome) → IsWhole site
    → (correct : Headline site outcome) (h : ℕ) (full host : Host) (files : List Entry)
    (text : HostText) → slice_get site.hosts h ≡ Some (host, files)
    → IsJoinedPart site.joined full host
    → passwd_table text.passwd ≡ Ok full.users → group_table text.group ≡ Ok full.groups
    → KeepsOwnFiles site correct.mappings correct.map outcome.plans h full host files text

-- The own files of every host keep its names. The texts are those of the hosts, index by index,
-- and tell each host in full.
abbrev pub EachKeepsOwnFiles : (site : WholeSite) (outcome : Outcome) → Headline site outcome
    → List HostText → Type 0
EachKeepsOwnFiles site outcome correct texts = (h : ℕ) (host : Host) (files : List Entry)
    (text : HostText) (loaded : Loaded) → slice_get site.hosts h ≡ Some (host, files)
    → slice_get texts h ≡ Some text → host_of text ≡ Ok loaded
    → KeepsOwnFiles site correct.mappings correct.map outcome.plans h loaded.host host files text

-- What a merge of texts may give with each host's own files: an outcome that is right for the
-- site, with the headline; and the own files of each host by the mappings of that headline, which
-- are the printed map's, and which keep names as the merged files do.
pub record AreSiteFiles (texts : List HostText) (site : WholeSite)
    (files : SiteFiles) : Type 0 where
  pub is_right : IsOutcome site files.outcome
  pub is_correct : Headline site files.outcome
  pub own_files : EachKeepsOwnFiles site files.outcome is_correct texts
  pub own_are : files.own.items ≡ host_files site.joined is_correct.mappings texts (hosts_in site)
