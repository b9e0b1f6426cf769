-- The hosts of a name stand in their order.
use Rattle.std.proofs.Common.{◌≡◌, ℕ, ◌+◌, ◌<◌, ◌≤◌, List, [], ◌∷◌, ◌++◌, length, map, get_or, arith}
use Rattle.std.specs.List.{All, AllPairs}
use Rattle.std.proofs.lemmas.List.Elements.{All-nil, All-cons, All-head, All-tail, All-append, All-map, All-weaker}
use Rattle.std.proofs.lemmas.List.Kept.{AllPairs-cons}
use Rattle.accounts.specs.Laws.{IsTable}
use Rattle.logindefs.specs.declared.ranges.IdRange.{IdRange}
use Rattle.hosts_join.specs.Accounts.{Row, first_appearances, grouped, host_rows, rows_from, spot_of, spots_of}
use Rattle.hosts_join.specs.Hosts.{IsLawfulHost}
use Rattle.hosts_join.specs.Kinds.{user_rows, group_rows, user_rows-table, group_rows-table}
use Rattle.hosts_join.specs.SiteNames.{SpotsStandByHosts, StandsByHosts}
use Rattle.hosts_join.specs.declared.Spot.{Spot}
use Rattle.hosts_join.specs.declared.host.Host.{Host}
use Rattle.hosts_join.proofs.Once.{IsOnceEach-spots_of, account_with, host_rows-named}
use Rattle.hosts_join.proofs.Spots.{on-host, one-spot, spots_of-all, spots_of-append, spots_of-none}

abbrev Earlier : Spot → Spot → Type 0
Earlier one later = one.host < later.host

-- at most one spot on a host, and behind it those on later hosts
in-order : (place : ℕ) (here later : List Spot) → All (λ s. s.host ≡ place) here → length here ≤ 1 → All (λ s. place + 1 ≤ s.host) later → AllPairs Earlier later → AllPairs Earlier (here ++ later)
in-order place [] later at few above pairs = pairs
in-order place (s ∷ []) later at few above pairs =
    let same : s.host ≡ place = All-head (λ (s : Spot). s.host ≡ place) s [] at in
    AllPairs-cons Earlier s later (All-weaker (λ (t : Spot). place + 1 ≤ t.host) (Earlier s) (λ t less. omega arith) later above) pairs
in-order place (s ∷ t ∷ here) later at few above pairs = absurd (omega arith)

from-host : (least place : ℕ) (r s : IdRange) (pairs : List (List ℕ × ℕ)) → least ≤ place → All (λ q. least ≤ (spot_of q).host) (host_rows place r s pairs)
from-host least place r s [] l = All-nil (λ (q : Row). least ≤ (spot_of q).host)
from-host least place r s (p ∷ pairs) l = All-cons (λ (q : Row). least ≤ (spot_of q).host) _ (host_rows place r s pairs) l (from-host least place r s pairs l)

module _ {H : Type 0} (regular system : H → IdRange) (pairs : H → List (List ℕ × ℕ)) (lawful : H → Type 0) (table : (h : H) → lawful h → IsTable (map (λ p. p.0) (pairs h)) (map (λ p. p.1) (pairs h))) where
  from-hosts : (least place : ℕ) (hs : List H) → least ≤ place → All (λ q. least ≤ (spot_of q).host) (rows_from regular system pairs place hs)
  from-hosts least place [] l = All-nil (λ (q : Row). least ≤ (spot_of q).host)
  from-hosts least place (h ∷ hs) l =
      All-append (λ (q : Row). least ≤ (spot_of q).host) (host_rows place (regular h) (system h) (pairs h)) (rows_from regular system pairs (place + 1) hs)
      (from-host least place (regular h) (system h) (pairs h) l)
      (from-hosts least (place + 1) hs (omega arith))

  spots-stand : (place : ℕ) (hs : List H) (n : List ℕ) → All lawful hs → AllPairs Earlier (spots_of (rows_from regular system pairs place hs) n)
  spots-stand place [] n l = rw spots_of-none (λ i j d less within. absurd (omega arith))
  spots-stand place (h ∷ hs) n l =
      let here = host_rows place (regular h) (system h) (pairs h) in
      let later = rows_from regular system pairs (place + 1) hs in
      let at = spots_of-all (λ s. s.host ≡ place) here n (on-host place (regular h) (system h) (pairs h)) in
      let one : length (spots_of here n) ≤ 1 = one-spot place (spots_of here n) at
      (IsOnceEach-spots_of n here (host_rows-named place (regular h) (system h) (pairs h) (table h (All-head lawful h hs l)).names_differ)) in
      rw (spots_of-append here later n) (in-order place (spots_of here n) (spots_of later n) at one
      (spots_of-all (λ s. place + 1 ≤ s.host) later n (from-hosts (place + 1) (place + 1) hs (omega arith)))
      (spots-stand (place + 1) hs n (All-tail lawful h hs l)))

  names-stand : (hs : List H) → All lawful hs → All StandsByHosts (grouped (rows_from regular system pairs 0 hs))
  unfolding grouped
  names-stand hs l =
      let rows = rows_from regular system pairs 0 hs in
      let names = first_appearances (map (λ (r : Row). r.name) rows) in
      All-map StandsByHosts (λ n. account_with n (spots_of rows n)) names (λ k d less. spots-stand 0 hs (get_or names k d) l)

pub spots_stand_by_hosts : SpotsStandByHosts
spots_stand_by_hosts hosts pins lawful = (
  names-stand (λ (h : Host). h.ranges.uid) (λ (h : Host). h.ranges.sys_uid) (λ (h : Host). user_rows h.users) IsLawfulHost (λ h l. user_rows-table h.users l.users) hosts lawful,
  names-stand (λ (h : Host). h.ranges.gid) (λ (h : Host). h.ranges.sys_gid) (λ (h : Host). group_rows h.groups) IsLawfulHost (λ h l. group_rows-table h.groups l.groups) hosts lawful,
)
