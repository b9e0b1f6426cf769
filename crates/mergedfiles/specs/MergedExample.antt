-- A merged passwd and a merged group by example, byte by byte: two hosts, by the texts of their
-- files, who share a user and a group.
-- Sources: passwd(5) and group(5); the texts are this project's own.
use Rattle.std.specs.Prelude.{◌≡◌, ℕ, List, [], ◌∷◌, ◌++◌, codes}
use Rattle.logindefs.specs.declared.ranges.HostRanges.{HostRanges}
use Rattle.hosts_join.specs.Site.{Joined}
use Rattle.hosts_join.specs.declared.host.Host.{Host}
use Rattle.ownership.specs.declared.mapping.Mappings.{Mappings}
use Rattle.mergedfiles.specs.DifferingExample.{host, named}
use Rattle.mergedfiles.specs.Texts.{merged_users, merged_groups}

-- numbers with leading zeros, an empty field, lists with commas at their ends and one name in both,
-- and last lines without a newline
abbrev pub first : HostRanges → Host
first ranges =
    host ranges (codes "web")
    (codes "ann:x:007:0100:Ann,,:/home/ann:/bin/sh\n" ++ codes "root:*:00:0::/root:/bin/sh")
    (codes "staff:x:0100:,b,ann,\n" ++ codes "root::00:\n" ++ codes "web:!:050:ann")

abbrev pub second : HostRanges → Host
second ranges =
    host ranges (codes "db")
    (codes "b:!:9:200:B:/b:\n" ++ codes "ann:y:17:0:Ann:/ann:/bin/zsh\n" ++ codes "root:x:0:0:::")
    (codes "root:x:0:\n" ++ codes "staff:y:200:ann,,kim,b,lee")

-- the names of the two hosts, in order of first appearance
abbrev pub site : Joined
site = record {
  users = named (codes "ann" ∷ codes "root" ∷ codes "b" ∷ []);
  groups = named (codes "staff" ∷ codes "root" ∷ codes "web" ∷ []);
  hosts = 2;
}

abbrev pub mappings : Mappings
mappings = record { users = 70 ∷ 0 ∷ 9 ∷ []; groups = 200 ∷ 0 ∷ 50 ∷ [] }

abbrev pub passwd : List ℕ
passwd =
    codes "root:*:0:0::/root:/bin/sh\n" ++ codes "b:!:9:200:B:/b:\n"
    ++ codes "ann:x:70:200:Ann,,:/home/ann:/bin/sh\n"

abbrev pub group : List ℕ
group = codes "root::0:\n" ++ codes "web:!:50:ann\n" ++ codes "staff:x:200:b,ann,kim,lee\n"

abbrev pub ExampleOfMergedPasswd : Type 0
ExampleOfMergedPasswd = (ranges : HostRanges)
    → merged_users (first ranges ∷ second ranges ∷ []) site mappings ≡ passwd

abbrev pub ExampleOfMergedGroup : Type 0
ExampleOfMergedGroup = (ranges : HostRanges)
    → merged_groups (first ranges ∷ second ranges ∷ []) site mappings.groups ≡ group
