-- What the fields of `KeptKind` stand for.
-- Words of the code and not of the subject: only views cite them.
use Rattle.kept_accounts.specs.Keeping.{Keeping}
use Rattle.kept_accounts.specs.declared.kept_kind.KeptKind.TheInside.{Inside}

abbrev pub keeping_inside : Inside → Keeping
keeping_inside it = record { names = it.names }
