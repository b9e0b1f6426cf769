-- A host whose primary groups are still to be checked.
use Rattle.std.proofs.Common.{◌≡◌, [], Ok, Err, refl}
use Rattle.accounts.specs.Tables.{passwd_table, group_table}
use Rattle.logindefs.specs.Ranges.{ranges_of}
use Rattle.hosts_join.specs.declared.host.Host.{Host}
use Rattle.hosts_join.specs.declared.texts.HostText.{HostText}
use Rattle.hosts_join.specs.Checks.{primary_checked}
use Rattle.unify_texts.specs.declared.fault.Fault.{Fault}
use Rattle.unify_texts.specs.declared.bundle_line.FileName.TheVariants as file
use Rattle.unify_texts.specs.Told.{in_file}
use Rattle.site_tables.specs.Told.{in_site}
use Rattle.site_tables.specs.Hosts.{host_of}

-- the host as its files were read, which spares nothing
pub record AreRead (text : HostText) (host : Host) : Type 0 where
  pub name : host.name ≡ text.name
  pub ranges : in_file text.name file.LoginDefs (ranges_of text.logindefs) ≡ Ok host.ranges
  pub users : in_file text.name file.Passwd (passwd_table text.passwd) ≡ Ok host.users
  pub groups : in_file text.name file.Group (group_table text.group) ≡ Ok host.groups
  pub spared_users : host.spared_users ≡ []
  pub spared_groups : host.spared_groups ≡ []

pub primary_refused : (text : HostText) (host : Host) (f : Fault) → AreRead text host → in_site (primary_checked host) ≡ Err f → host_of text ≡ Err f
unfolding host_of primary_checked
primary_refused text host f are k = rw (are.ranges, are.users, are.groups, ← are.name, k) refl

pub primary_accepted : (text : HostText) (host : Host) (u : Unit {0}) → AreRead text host → in_site (primary_checked host) ≡ Ok u → host_of text ≡ Ok (record { host = host; mtree = text.mtree })
unfolding host_of primary_checked
primary_accepted text host u are k = rw (are.ranges, are.users, are.groups, ← are.name, k, are.spared_users, are.spared_groups) refl
