use Rattle.std.proofs.Common.{◌≡◌, drop, length}
use Rattle.std.specs.Prelude.{All}
use Rattle.idtext.specs.First.{each}
use Rattle.hosts_join.specs.Hosts.{IsLawfulHost}
use Rattle.site_tables.specs.declared.host.Loaded.{Loaded}
use Rattle.idtext.proofs.FirstLemmas.{with_front}
use Rattle.site_tables.specs.Hosts.{host_of}
use Rattle.site_tables.proofs.host.load_hosts.Given as goal

abbrev pub invariant-loop-text : goal.invariant-loop-text
invariant-loop-text l = record {
  made : with_front l.hosts.items (each host_of (drop l.text-index l.texts)) ≡ each host_of l.texts;
  len : length l.hosts.items ≡ l.text-index;
  lawful : All (λ (loaded : Loaded). IsLawfulHost loaded.host) l.hosts.items;
}
