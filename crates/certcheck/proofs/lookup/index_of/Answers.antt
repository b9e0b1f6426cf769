use Rattle.std.specs.Str.{bytes_eq}
use Rattle.hosts_join.specs.Accounts.{Account}
use Rattle.certcheck.proofs.Spots.{place_within}
use Rattle.certcheck.proofs.lookup.index_of.Goals as goal

pub returns-clause-within : goal.returns-clause-within
returns-clause-within c = place_within (λ (a : Account). bytes_eq c.args.name.now a.name) c.args.names.now.names c.find.result c.find.ensures
