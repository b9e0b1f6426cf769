-- The numbers that the files of a site have without an account, where its keep text keeps them.
-- They are found before the site is read: which numbers no name may have the join goes by.
-- Source: this project's own rule.
use Rattle.std.specs.Prelude.{ℕ, Bool, ◌||◌, List, [], map, fold, Result, Ok, Err, if◌then◌else◌}
use Rattle.idtext.specs.First.{◌>>=◌, each}
use Rattle.mtree_inv.specs.Inventory.{inventory}
use Rattle.mtree_inv.specs.declared.entry.Entry.{Entry}
use Rattle.hosts_join.specs.Checks.{hosts_checked}
use Rattle.hosts_join.specs.declared.host.Host.{Host}
use Rattle.hosts_join.specs.declared.texts.HostText.{HostText}
use Rattle.keep_text.specs.declared.keep_text.KeepText.{KeepText}
use Rattle.kept_accounts.specs.Reserving.{UnownedNumbers, no_numbers}
use Rattle.survey.specs.Unowned.{unowned_with}
use Rattle.unify_texts.specs.declared.bundle_line.FileName.TheVariants as file
use Rattle.unify_texts.specs.declared.fault.Fault.{Fault}
use Rattle.site_tables.specs.declared.host.Loaded.{Loaded}
use Rattle.unify_texts.specs.Limits.{most_files}
use Rattle.site_tables.specs.Hosts.{host_of}
use Rattle.site_tables.specs.Loading.{loaded_from}
use Rattle.site_tables.specs.Others.{keep_read}
use Rattle.unify_texts.specs.Told.{in_file}
use Rattle.site_tables.specs.Told.{in_site}

-- ---- whose files are looked through

abbrev pub keeps_unowned : KeepText → Bool
keeps_unowned keep = keep.users.unowned || keep.groups.unowned

-- The numbers in listed ranges stay without that, so the host spares them.
abbrev pub sparing_ranges : KeepText → Host → Host
sparing_ranges keep host = record host {
  spared_users = keep.users.ranges;
  spared_groups = keep.groups.ranges;
}

-- those of all hosts, by this keep text, or the first fault: the host list, and host by host its
-- files but the inventory
abbrev pub sparing_hosts : List HostText → KeepText → Result (List Host) Fault
sparing_hosts texts keep =
    if keeps_unowned keep then (in_site (hosts_checked texts) >>= λ listed.
    each host_of texts >>= λ loaded. Ok (map (λ l. sparing_ranges keep l.host) loaded))
    else Ok []

-- a keep text that is refused asks for none
abbrev pub surveyed_hosts : List HostText → Result KeepText Fault → Result (List Host) Fault
surveyed_hosts texts (Ok keep) = sparing_hosts texts keep
surveyed_hosts texts (Err f) = Ok []

-- ---- what is found

-- the files of a host's inventory, whichever numbers they have
abbrev pub inventory_of : Host → List ℕ → Result (List Entry) Fault
inventory_of host text = in_file host.name file.Mtree (inventory most_files text)

-- a host with the files of its inventory
abbrev pub listed_of : Loaded → Result (Host × List Entry) Fault
listed_of loaded = inventory_of loaded.host loaded.mtree >>= λ files. Ok (loaded.host, files)

-- the numbers so far, and after them host by host those of these files
abbrev pub unowned_over : UnownedNumbers → List (Host × List Entry) → UnownedNumbers
unowned_over found listed = fold (λ so_far here. unowned_with so_far here.0 here.1) found listed

-- the numbers of the files of hosts with these inventories, or the first fault of one
abbrev pub found_on : List Host → List (List ℕ) → Result UnownedNumbers Fault
found_on hosts mtrees =
    each listed_of (loaded_from hosts mtrees) >>= λ listed. Ok (unowned_over no_numbers listed)

-- and of the files of a site, where its keep text keeps numbers without an account
unfoldable pub surveyed : List HostText → List ℕ → Result UnownedNumbers Fault
surveyed texts keep_text =
    surveyed_hosts texts (keep_read keep_text) >>= λ hosts.
    found_on hosts (map (λ t. t.mtree) texts)
