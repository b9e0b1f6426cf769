-- A host's own files by example: ann and ben exchange their uids, and staff and wheel their gids;
-- kim, lee and wine are no names of the site, and keep theirs.
-- Sources: passwd(5) and group(5); the texts are this project's own.
use Rattle.std.specs.Prelude.{◌≡◌, ℕ, List, [], ◌∷◌, ◌++◌, codes}
use Rattle.accounts.specs.Rows.{Group}
use Rattle.logindefs.specs.declared.ranges.HostRanges.{HostRanges}
use Rattle.hosts_join.specs.Accounts.{Accounts}
use Rattle.hosts_join.specs.Site.{Joined}
use Rattle.hosts_join.specs.declared.host.Host.{Host}
use Rattle.ownership.specs.declared.mapping.Mappings.{Mappings}
use Rattle.mergedfiles.specs.HostFiles.{host_users, host_groups}

-- a line with its newline
abbrev ended : List ℕ → List ℕ
ended line = line ++ 10 ∷ []

-- accounts with these two names, by index 0 and 1
abbrev named : List ℕ → List ℕ → Accounts
named first second = record {
  hosts = [];
  names = record { name = first; spots = [] } ∷ record { name = second; spots = [] } ∷ [];
  pins = [];
  reserved = [];
}

abbrev pub site : Joined
site = record {
  users = named (codes "ann") (codes "ben");
  groups = named (codes "staff") (codes "wheel");
  hosts = 1;
}

abbrev group : List ℕ → ℕ → Group
group name gid = record { line = 1; name = name; password = []; gid = gid; members = [] }

-- a host whose group staff is 100, and wheel 200, and which spares no number
abbrev pub host : List ℕ → HostRanges → Host
host name ranges = record {
  name = name;
  ranges = ranges;
  users = [];
  groups = group (codes "staff") 100 ∷ group (codes "wheel") 200 ∷ [];
  spared_users = [];
  spared_groups = [];
}

abbrev pub mappings : Mappings
mappings = record { users = 8 ∷ 7 ∷ []; groups = 200 ∷ 100 ∷ [] }

-- a comment, an empty line, numbers with leading zeros, two users who are kept, one of them in a
-- group that is kept, and a last line without a newline
abbrev pub old_passwd : List ℕ
old_passwd =
    ended (codes "# people") ++ ended (codes "ann:x:0007:0100:Ann,,:/home/ann:/bin/sh") ++ ended []
    ++ ended (codes "kim:x:09:0100:::") ++ ended (codes "lee:x:010:0300:::")
    ++ codes "ben:*:8:200::/:"

abbrev pub new_passwd : List ℕ
new_passwd =
    ended (codes "# people") ++ ended (codes "ann:x:8:200:Ann,,:/home/ann:/bin/sh") ++ ended []
    ++ ended (codes "kim:x:09:200:::") ++ ended (codes "lee:x:010:0300:::")
    ++ codes "ben:*:7:100::/:"

abbrev pub ExampleOfPasswd : Type 0
ExampleOfPasswd = (name : List ℕ) (ranges : HostRanges)
    → host_users (host name ranges) site mappings old_passwd ≡ new_passwd

abbrev pub old_group : List ℕ
old_group =
    ended (codes "staff:x:0100:ben,,ann") ++ ended (codes "  ") ++ ended (codes "wheel::200:")
    ++ ended (codes "wine:x:0300:ann")

abbrev pub new_group : List ℕ
new_group =
    ended (codes "staff:x:200:ben,,ann") ++ ended (codes "  ") ++ ended (codes "wheel::100:")
    ++ ended (codes "wine:x:0300:ann")

abbrev pub ExampleOfGroup : Type 0
ExampleOfGroup = host_groups site mappings.groups old_group ≡ new_group
