-- Users whose rows say the same on each host.
-- Words of the code and not of the subject: only private contracts cite them.
use Rattle.std.specs.Prelude.{◌≡◌, ℕ, Bool, true, false, ◌&&◌, List, slice_index_or, Some}
use Rattle.std.specs.Prelude.{bytes_eq, slice_get}
use Rattle.std.specs.List.{All}
use Rattle.accounts.specs.Rows.{Passwd}
use Rattle.hosts_join.specs.Accounts.{Account, owner}
use Rattle.hosts_join.specs.declared.host.Host.{Host}
use Rattle.mergedfiles.specs.declared.Field.{Field}
use Rattle.mergedfiles.specs.declared.Field.TheVariants as field
use Rattle.mergedfiles.specs.declared.alike.Said.{Said}
use Rattle.mergedfiles.specs.declared.alike.Sameness.{Sameness}
use Rattle.mergedfiles.specs.declared.alike.Sameness.TheVariants.{Unseen, Same, Differing}
use Rattle.mergedfiles.specs.Differences.{group_name, user_field}
use Rattle.mergedfiles.specs.Rows.{UserRow}

-- this is what the row says
abbrev pub IsSaidBy : UserRow → Said → Type 0
IsSaidBy user said =
    (said.row.now ≡ user.row) × (said.group.now ≡ group_name user.host user.row.gid)

-- what a field of it says
abbrev pub field_said : Said → Field → List ℕ
field_said said field.Password = said.row.now.password
field_said said field.Comment = said.row.now.comment
field_said said field.Home = said.row.now.home
field_said said field.Shell = said.row.now.shell
field_said said field.Group = said.group.now

-- the fields of two rows, except for names and numbers, say the same
abbrev pub fields_agree : Passwd → Passwd → Bool
fields_agree first row =
    bytes_eq row.password first.password && bytes_eq row.comment first.comment
    && bytes_eq row.home first.home && bytes_eq row.shell first.shell

-- each field says what it says on the first
abbrev pub says_same : Said → Said → Bool
says_same first user =
    fields_agree first.row.now user.row.now && bytes_eq user.group.now first.group.now

-- each field of a user's row says what was said
abbrev pub SaysThat : Said → UserRow → Type 0
SaysThat said user = (what : Field) → user_field what user ≡ field_said said what

-- what was seen of a user's rows is true of this one too
abbrev pub Covers : Sameness → UserRow → Type 0
Covers Unseen user = ⊥
Covers (Same first) user = SaysThat first user
Covers Differing user = Unit {0}

abbrev pub is_differing : Sameness → Bool
is_differing Unseen = false
is_differing (Same first) = false
is_differing Differing = true

-- what was seen of the user at an index
abbrev pub seen_at : List Sameness → ℕ → Sameness
seen_at seen i = slice_index_or seen i Differing

-- A row of the host at an index: what was seen of the user who has its number there is true of it.
abbrev pub IsCovered : List Account → List Sameness → ℕ → UserRow → Type 0
IsCovered names seen h user =
    (i : ℕ) → owner names h user.row.uid ≡ Some i → Covers (seen_at seen i) user

-- so it is with each row of the host, and of each host
abbrev pub CoversHost : List Account → List Sameness → ℕ → Host → Type 0
CoversHost names seen h host =
    All (λ row. IsCovered names seen h (record { host = host; row = row })) host.users

abbrev pub CoversHosts : List Account → List Sameness → List Host → Type 0
CoversHosts names seen hosts =
    (h : ℕ) (host : Host) → slice_get hosts h ≡ Some host → CoversHost names seen h host
