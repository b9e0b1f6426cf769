-- The answer to count, or the first fault: the host list; host by host its files but the inventory;
-- the keep text; the map; host by host the inventory and its owners.
-- Source: this project's own rule.
use Rattle.std.specs.Prelude.{ℕ, List, Result, Ok, map}
use Rattle.idtext.specs.First.{◌>>=◌, each}
use Rattle.hosts_join.specs.declared.texts.HostText.{HostText}
use Rattle.mtree_inv.specs.declared.entry.Entry.{Entry}
use Rattle.hosts_join.specs.Checks.{hosts_checked}
use Rattle.unify_texts.specs.declared.fault.Fault.{Fault}
use Rattle.unify_texts.specs.declared.map_text.MapText.{MapText}
use Rattle.hosts_join.specs.declared.host.Host.{Host}
use Rattle.site_tables.specs.declared.host.Loaded.{Loaded}
use Rattle.unify.specs.declared.counting.Cost.{Cost}
use Rattle.site_tables.specs.declared.rules.KeepRules.{KeepRules}
use Rattle.site_tables.specs.Told.{in_site}
use Rattle.site_tables.specs.Hosts.{files_of}
use Rattle.site_tables.specs.Loading.{loaded_from}
use Rattle.site_tables.specs.Others.{others_loaded}
use Rattle.unify.specs.Cost.{cost_of}
use Rattle.site_tables.specs.Mapped.{mapped_names}

-- a host with the files of its inventory
abbrev pub site_of : Loaded → Result (Host × List Entry) Fault
site_of loaded = files_of loaded >>= λ files. Ok (loaded.host, files)

-- the cost over all hosts and their files
abbrev pub total_of : MapText → Result (List (Host × List Entry)) Fault → Result Cost Fault
total_of pairs sites = sites >>= λ all. Ok (cost_of pairs all)

unfoldable pub count_of : List HostText → KeepRules → List ℕ → Result Cost Fault
count_of texts keep map_text = do
  listed ← in_site (hosts_checked texts)
  others ← others_loaded texts keep
  pairs ← mapped_names map_text others.hosts
  total_of pairs (each site_of (loaded_from others.hosts (map (λ t. t.mtree) texts)))
