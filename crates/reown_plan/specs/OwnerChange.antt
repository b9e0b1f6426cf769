-- What the files of one owner get.
-- Source: this project's own rule, and its own format.
use Rattle.std.specs.Prelude.{◌≡◌, ℕ, List, [], ◌∷◌, ◌++◌, Option, None, Some, length}
use Rattle.std.specs.Prelude.{if◌then◌else◌}
use Rattle.hosts_join.specs.Site.{Joined}
use Rattle.ownership.specs.declared.mapping.Mappings.{Mappings}
use Rattle.reown_plan.specs.declared.plan.Owner.{Owner}
use Rattle.reown_plan.specs.Owners.{owner_eq}
use Rattle.reown_plan.specs.Spelling.{number}
use Rattle.reown_plan.specs.Target.{renumbered}

-- how the record of a file begins that has the first owner and gets the other
abbrev pub numbers : Owner → Owner → List ℕ
numbers before after =
    number before.uid ++ number before.gid ++ number after.uid ++ number after.gid

-- the same, and nothing where the owner stays
abbrev pub printed : Owner → Owner → Option (List ℕ)
printed before after = if owner_eq before after then None else Some (numbers before after)

-- how the records of an owner's files begin, if there are any
abbrev pub OwnerChange : Type 0
OwnerChange = Option (List ℕ)

-- the line of a file's record that begins so, with the file's path; nothing where there is none
abbrev pub line_of : OwnerChange → List ℕ → List ℕ
line_of None path = []
line_of (Some beginning) path = beginning ++ number (length path) ++ path ++ 10 ∷ []

-- it is so for this owner, whose files get what the mappings give on the host
abbrev pub IsChange : Joined → Mappings → ℕ → Owner → OwnerChange → Type 0
IsChange site m host owner change =
    change
    ≡ printed owner
    (record {
      uid = renumbered site.users m.users host owner.uid;
      gid = renumbered site.groups m.groups host owner.gid;
    })
