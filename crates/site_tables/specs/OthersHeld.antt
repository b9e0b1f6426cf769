-- What the fields of `OtherHosts` stand for.
-- Words of the code and not of the subject: only contracts of the code cite them.
use Rattle.std.specs.Prelude.{List}
use Rattle.hosts_join.specs.declared.host.Host.{Host}
use Rattle.site_tables.specs.declared.others.OtherHosts.{OtherHosts}
use Rattle.site_tables.specs.declared.others.ReservedNumbers.{ReservedNumbers}
use Rattle.site_tables.specs.Others.{Others}

abbrev pub others_held : List Host → ReservedNumbers → Others
others_held hosts reserved = record {
  hosts = hosts;
  reserved_users = reserved.users.items;
  reserved_groups = reserved.groups.items;
}

abbrev pub others_in : OtherHosts → Others
others_in held = others_held held.hosts.items held.reserved
