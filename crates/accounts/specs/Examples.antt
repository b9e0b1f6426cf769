-- Account files by example: which field of a line is which part of its row.
-- Sources: passwd(5) and group(5), DESCRIPTION; the texts are this project's own.
use Rattle.std.specs.Prelude.{◌≡◌, ℕ, List, [], ◌∷◌, ◌++◌, Ok, codes}
use Rattle.accounts.specs.Rows.{Passwd, Group, members_of}
use Rattle.accounts.specs.Tables.{passwd_table, group_table}

-- a line with its newline
abbrev ended : List ℕ → List ℕ
ended line = line ++ 10 ∷ []

-- two users, after a comment, the first with its seven fields all different, the second with only
-- those that have to be there
abbrev pub passwd_text : List ℕ
passwd_text =
    ended (codes "# people") ++ ended (codes "ann:x:07:100:Ann,,:/home/ann:/bin/sh")
    ++ codes "ben::8:200:::"

abbrev pub passwd_rows : List Passwd
passwd_rows =
    record {
      line = 2;
      name = codes "ann";
      password = codes "x";
      uid = 7;
      gid = 100;
      comment = codes "Ann,,";
      home = codes "/home/ann";
      shell = codes "/bin/sh";
    }
    ∷ record {
      line = 3;
      name = codes "ben";
      password = [];
      uid = 8;
      gid = 200;
      comment = [];
      home = [];
      shell = [];
    }
    ∷ []

abbrev pub ExampleOfPasswd : Type 0
ExampleOfPasswd = passwd_table passwd_text ≡ Ok passwd_rows

-- two groups, the first with its four fields all different
abbrev pub group_text : List ℕ
group_text = ended (codes "staff:x:0100:ben,,ann") ++ ended [] ++ ended (codes "wheel::200:")

abbrev pub group_rows : List Group
group_rows =
    record {
      line = 1;
      name = codes "staff";
      password = codes "x";
      gid = 100;
      members = codes "ben,,ann";
    }
    ∷ record { line = 3; name = codes "wheel"; password = []; gid = 200; members = [] }
    ∷ []

abbrev pub ExampleOfGroup : Type 0
ExampleOfGroup = group_table group_text ≡ Ok group_rows

-- the users of the first
abbrev pub ExampleOfMembers : Type 0
ExampleOfMembers = members_of (codes "ben,,ann") ≡ codes "ben" ∷ codes "ann" ∷ []
