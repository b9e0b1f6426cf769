-- What the texts of a host say, or the first fault; and which numbers its files may have.
-- Source: passwd(5), group(5), login.defs(5) of the shadow suite and mtree(5); the order of faults
-- is this project's own rule.
use Rattle.std.specs.Prelude.{ℕ, List, [], Option, Some, None, Result, Ok, if◌then◌else◌}
use Rattle.idtext.specs.First.{◌>>=◌, first_fault, unless}
use Rattle.idtext.specs.declared.faults.ReadError.{ReadError}
use Rattle.idtext.specs.declared.faults.ReadError.TheVariants as read
use Rattle.accounts.specs.Rows.{Passwd, Group}
use Rattle.accounts.specs.Tables.{passwd_table, group_table}
use Rattle.logindefs.specs.declared.ranges.HostRanges.{HostRanges}
use Rattle.logindefs.specs.Ranges.{ranges_of}
use Rattle.mtree_inv.specs.declared.entry.Entry.{Entry}
use Rattle.mtree_inv.specs.Inventory.{inventory, inventory_of_lines}
use Rattle.mtree_inv.specs.Logical.{whole_lines}
use Rattle.hosts_join.specs.declared.texts.HostText.{HostText}
use Rattle.hosts_join.specs.declared.host.Host.{Host}
use Rattle.hosts_join.specs.Checks.{primary_checked}
use Rattle.hosts_join.specs.Hosts.{allows_gid, allows_uid}
use Rattle.unify_texts.specs.declared.bundle_line.FileName.TheVariants as file
use Rattle.unify_texts.specs.declared.fault.Fault.{Fault}
use Rattle.unify_texts.specs.declared.fault.Fault.TheVariants.{Line, Memory, UnownedUid, UnownedGid}
use Rattle.site_tables.specs.declared.host.Loaded.{Loaded}
use Rattle.unify_texts.specs.Limits.{most_files}
use Rattle.unify_texts.specs.Told.{in_file}
use Rattle.site_tables.specs.Told.{in_site}

-- a host with these tables, which spares no number
abbrev pub sparing_none : List ℕ → HostRanges → List Passwd → List Group → Host
sparing_none name ranges users groups = record {
  name = name;
  ranges = ranges;
  users = users;
  groups = groups;
  spared_users = [];
  spared_groups = [];
}

-- login.defs, passwd, group, and then the primary groups
unfoldable pub host_of : HostText → Result Loaded Fault
host_of text = do
  ranges ← in_file text.name file.LoginDefs (ranges_of text.logindefs)
  users ← in_file text.name file.Passwd (passwd_table text.passwd)
  groups ← in_file text.name file.Group (group_table text.group)
  primary ← in_site (primary_checked (sparing_none text.name ranges users groups))
  Ok (record { host = sparing_none text.name ranges users groups; mtree = text.mtree })

-- a file has numbers that its host allows, the uid first
abbrev pub owner_fault : Host → List Entry → Entry → Option Fault
owner_fault host before file =
    if allows_uid host file.uid
    then (if allows_gid host file.gid then None
    else Some (UnownedGid host.name file.gid file.path))
    else Some (UnownedUid host.name file.uid file.path)

-- the files of a host's inventory, whose numbers the host allows
unfoldable pub files_of : Loaded → Result (List Entry) Fault
files_of loaded = do
  files ← in_file loaded.host.name file.Mtree (inventory most_files loaded.mtree)
  owned ← unless (first_fault (owner_fault loaded.host) [] files) (tt {0})
  Ok files

-- the lines of an inventory of which this much has come
abbrev pub lines_of : Host → List ℕ → Result (List Entry) Fault
lines_of host text = in_file host.name file.Mtree (inventory_of_lines most_files (whole_lines text))

-- a fault of the reader, or want of memory
abbrev pub read_told : Host → ReadError → Fault
read_told host (read.Fault f) = Line host.name file.Mtree f.code f.line
read_told host read.Memory = Memory
