use Rattle.std.proofs.Common.{◌≡◌, ℕ, ◌==◌, nat_eq, take}
use Rattle.std.specs.List.{find}
use Rattle.std.specs.Option.{option_map}
use Rattle.std.specs.HashMap.{get}
use Rattle.hosts_join.specs.Clash.{clash_seen}
use Rattle.hosts_join.specs.Rules.{clash_of}
use Rattle.hosts_join.specs.Views.{pairs_of, text_of}
use Rattle.hosts_join.proofs.clash.find_clash.Given as goal

abbrev pub invariant-loop-claim : goal.invariant-loop-claim
invariant-loop-claim l = record {
  firsts : (v : ℕ) → text_of (get nat_eq l.firsts v) ≡ option_map (λ p. p.name) (find (λ p. p.number == v) (pairs_of (take l.claim-index l.claims)));
  least : clash_seen l.least ≡ clash_of (pairs_of (take l.claim-index l.claims));
}
