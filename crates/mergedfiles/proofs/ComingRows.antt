-- The rows of a host that was joined have the places that their numbers tell.
use Rattle.std.proofs.Common.{ℕ, List, Option, subst}
use Rattle.std.specs.List.{All}
use Rattle.std.proofs.lemmas.List.Elements.{All-from_recursion}
use Rattle.accounts.specs.Laws.{IsPasswdTable}
use Rattle.accounts.specs.Rows.{Passwd}
use Rattle.hosts_join.specs.Laws.{IsOwnedAsTold, KnowsHost}
use Rattle.hosts_join.specs.Site.{Joined}
use Rattle.hosts_join.specs.declared.host.Host.{Host}
use Rattle.mergedfiles.specs.Coming.{IsPlaced}
use Rattle.mergedfiles.proofs.HostNames.{IsFound, each-found}
use Rattle.mergedfiles.proofs.ReadText.{all-says}

pub rows-placed : (site : Joined) (h : ℕ) (host : Host) → KnowsHost site h host → IsPasswdTable host.users → All (IsPlaced site.users h) host.users
rows-placed site h host known table =
    let name = λ (r : Passwd). r.name in
    let number = λ (r : Passwd). r.uid in
    All-from_recursion (IsPlaced site.users h) host.users
    (all-says (IsFound name number host.users) (IsPlaced site.users h)
    (λ row found. subst (λ (o : Option (List ℕ)). IsOwnedAsTold site.users.names h row.uid o) found (known.users row.uid)) host.users
    (each-found name number host.users table.numbers_differ))
