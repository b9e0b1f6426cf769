-- What of the hosts of a site is joined, by a keep text, and which numbers no name is to be given.
-- Source: this project's own rule.
use Rattle.std.specs.Prelude.{ℕ, List, [], map, Result, Ok}
use Rattle.idtext.specs.First.{◌>>=◌, each}
use Rattle.hosts_join.specs.PinPairs.{PinPairs}
use Rattle.hosts_join.specs.PinsText.{pins_of}
use Rattle.hosts_join.specs.Site.{Joined, joined_site}
use Rattle.hosts_join.specs.declared.host.Host.{Host}
use Rattle.hosts_join.specs.declared.reserving.Reserved.{Reserved}
use Rattle.hosts_join.specs.declared.texts.HostText.{HostText}
use Rattle.keep_text.specs.KeepTexts.{keep_of}
use Rattle.keep_text.specs.declared.keep_text.KeepText.{KeepText}
use Rattle.kept_accounts.specs.Others.{without_kept}
use Rattle.kept_accounts.specs.Reserving.{UnownedNumbers, reserved_users, reserved_groups}
use Rattle.unify_texts.specs.declared.fault.Fault.{Fault}
use Rattle.site_tables.specs.declared.rules.KeepRules.{KeepRules}
use Rattle.site_tables.specs.Hosts.{host_of}
use Rattle.site_tables.specs.Told.{in_keep, in_pins, in_site}

-- hosts without their kept users and groups, and the numbers that no name is to be given
pub record Others : Type 0 where
  pub hosts : List Host
  pub reserved_users : List Reserved
  pub reserved_groups : List Reserved

abbrev pub others_of : KeepText → List Host → UnownedNumbers → Others
others_of keep hosts unowned = record {
  hosts = map (without_kept keep hosts unowned) hosts;
  reserved_users = reserved_users keep hosts unowned.users;
  reserved_groups = reserved_groups keep hosts unowned.groups;
}

-- an empty keep text; which numbers it is given beside counts for nothing
abbrev pub keeping_nothing : UnownedNumbers → KeepRules
keeping_nothing unowned = record { text = []; unowned = unowned }

-- what a keep text says
abbrev pub keep_read : List ℕ → Result KeepText Fault
keep_read text = in_keep (keep_of text)

-- what of these hosts is joined, by what is to stay
unfoldable pub others_read : KeepRules → List Host → Result Others Fault
others_read rules hosts =
    keep_read rules.text >>= λ keep. Ok (others_of keep hosts rules.unowned)

-- what of the hosts of a site is joined: host by host the files but the inventory; the keep text
unfoldable pub others_loaded : List HostText → KeepRules → Result Others Fault
others_loaded texts rules =
    each host_of texts >>= λ loaded. others_read rules (map (λ l. l.host) loaded)

-- pins, with the numbers that no name is to be given
abbrev pub reserving : Others → PinPairs → PinPairs
reserving others pins = record pins {
  reserved_users = others.reserved_users;
  reserved_groups = others.reserved_groups;
}

-- the accounts over what is joined, by the pins of a text: the pins text; the join, users and then
-- groups
abbrev pub pinned_site : Others → List ℕ → Result Joined Fault
pinned_site others pins_text =
    in_pins (pins_of pins_text) >>= λ pins.
    in_site (joined_site others.hosts (reserving others pins))
