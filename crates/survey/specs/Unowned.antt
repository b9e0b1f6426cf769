-- Which numbers the files of a host have that no account of the host has.
-- Sources: mtree(5) (the keywords `uid` and `gid`), passwd(5) and group(5); which numbers a host
-- spares is this project's own rule.
use Rattle.std.specs.Prelude.{ℕ, Bool, ◌==◌, not, List, [], ◌∷◌, ◌++◌, map, filter}
use Rattle.mtree_inv.specs.declared.entry.Entry.{Entry}
use Rattle.hosts_join.specs.Hosts.{allows_gid, allows_uid}
use Rattle.hosts_join.specs.declared.host.Host.{Host}
use Rattle.kept_accounts.specs.Reserving.{UnownedNumbers}
use Rattle.kept_accounts.specs.declared.reserving.UnownedNumber.{UnownedNumber}

-- each of the numbers once, where it stands first
abbrev pub each_once : List ℕ → List ℕ
each_once [] = []
each_once (number ∷ numbers) =
    number ∷ filter (λ other. not (number == other)) (each_once numbers)

-- the host has no user with the uid, and does not spare it
abbrev pub is_unowned_uid : Host → ℕ → Bool
is_unowned_uid host uid = not (allows_uid host uid)

-- the host has no group with the gid, and does not spare it
abbrev pub is_unowned_gid : Host → ℕ → Bool
is_unowned_gid host gid = not (allows_gid host gid)

-- those of the files, each once, in the order in which files have them first
abbrev pub unowned_uids : Host → List Entry → List ℕ
unowned_uids host files = each_once (filter (is_unowned_uid host) (map (λ file. file.uid) files))

abbrev pub unowned_gids : Host → List Entry → List ℕ
unowned_gids host files = each_once (filter (is_unowned_gid host) (map (λ file. file.gid) files))

-- each with the name of the host
abbrev pub on_host : Host → List ℕ → List UnownedNumber
on_host host numbers = map (λ number. record { host = host.name; number = number }) numbers

-- the numbers so far, and after them those of the files of one host more
abbrev pub unowned_with : UnownedNumbers → Host → List Entry → UnownedNumbers
unowned_with found host files = record {
  users = found.users ++ on_host host (unowned_uids host files);
  groups = found.groups ++ on_host host (unowned_gids host files);
}
