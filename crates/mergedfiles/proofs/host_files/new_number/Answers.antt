use Rattle.std.proofs.Common.{sym, arith, ◌<◌, length}
use Rattle.hosts_join.specs.Accounts.{Account}
use Rattle.std.specs.Str.{bytes_eq}
use Rattle.mergedfiles.proofs.Places.{place-within}
use Rattle.mergedfiles.proofs.host_files.new_number.Goals as goal

pub number-requires : goal.number-requires
number-requires c =
    let within : c.in_ok-index.index < length c.args.names.now.names = place-within (λ (a : Account). bytes_eq c.args.name.now a.name) c.args.names.now.names c.in_ok-index.index (sym c.in_ok-index.ensures) in
    omega arith
