-- The rows of passwd and of group, each as its line gives it.
-- Sources: passwd(5), DESCRIPTION (name, password, UID, GID, comment, home directory, shell,
-- between colons); group(5), DESCRIPTION (name, password, GID, user list, between colons, the users
-- between commas). The order of checks is this project's own rule.
use Rattle.std.specs.Prelude.{ℕ, List, [], ◌∷◌, Option, Some, None, Result, Ok, not, if◌then◌else◌}
use Rattle.std.specs.Prelude.{filter, length, ◌==◌}
use Rattle.idtext.specs.declared.faults.TextCode.TheVariants.{BadFields, BadName, BadNumber}
use Rattle.idtext.specs.declared.faults.TextFault.{TextFault}
use Rattle.idtext.specs.Faults.{refused}
use Rattle.idtext.specs.First.{◌>>=◌}
use Rattle.idtext.specs.Numbers.{id_of}
use Rattle.idtext.specs.Pieces.{fields_of, pieces}
use Rattle.idtext.specs.Names.{is_lawful_name}
use Rattle.accounts.specs.Lines.{is_kept}

pub record Passwd : Type 0 where
  pub line : ℕ
  pub name : List ℕ
  pub password : List ℕ
  pub uid : ℕ
  pub gid : ℕ
  pub comment : List ℕ
  pub home : List ℕ
  pub shell : List ℕ

pub record Group : Type 0 where
  pub line : ℕ
  pub name : List ℕ
  pub password : List ℕ
  pub gid : ℕ
  pub members : List ℕ

-- goes on with a lawful name, and with an id
abbrev pub named : {X : Type 0} → ℕ → List ℕ → Result X TextFault → Result X TextFault
named line name rest = if is_lawful_name name then rest else refused line BadName

abbrev pub numbered : {X : Type 0} → ℕ → Option ℕ → (ℕ → Result X TextFault) → Result X TextFault
numbered line None rest = refused line BadNumber
numbered line (Some id) rest = rest id

-- the row that seven fields make
abbrev pub passwd_from : ℕ → List (List ℕ) → Result Passwd TextFault
passwd_from line (name ∷ password ∷ uid ∷ gid ∷ comment ∷ home ∷ shell ∷ []) =
    named line name (numbered line (id_of uid) (λ user. numbered line (id_of gid) (λ group.
    Ok (record {
      line = line;
      name = name;
      password = password;
      uid = user;
      gid = group;
      comment = comment;
      home = home;
      shell = shell;
    }))))
passwd_from line _ = refused line BadFields

-- the row that four fields make
abbrev pub group_from : ℕ → List (List ℕ) → Result Group TextFault
group_from line (name ∷ password ∷ gid ∷ members ∷ []) =
    named line name (numbered line (id_of gid) (λ group.
    Ok (record { line = line; name = name; password = password; gid = group; members = members })))
group_from line _ = refused line BadFields

-- the row of a line that is kept, or what is wrong with it
unfoldable pub passwd_line : ℕ → List ℕ → Result (Option Passwd) TextFault
passwd_line number line = do
  kept ← is_kept number line
  if kept then (passwd_from number (fields_of line) >>= λ row. Ok (Some row)) else Ok None

unfoldable pub group_line : ℕ → List ℕ → Result (Option Group) TextFault
group_line number line = do
  kept ← is_kept number line
  if kept then (group_from number (fields_of line) >>= λ row. Ok (Some row)) else Ok None

-- the users of a list: what stands between its commas, where that is not empty
unfoldable pub members_of : List ℕ → List (List ℕ)
members_of users = filter (λ name. not (length name == 0)) (pieces 44 users)
