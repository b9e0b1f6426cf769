use Rattle.std.proofs.Common.{refl}
use Rattle.unify_bundle.specs.Output.{read_failed, memory_refused}
use Rattle.unify_bundle.proofs.Telling.{tells, memory_told, read_told}
use Rattle.unify_bundle.proofs.bundle_run.run_bundle.Goals as goal

pub returns-in-Ok-clause-tells : goal.returns-in-Ok-clause-tells
returns-in-Ok-clause-tells g c = tells _ _ _ _ _ memory_refused _ 3 _ (memory_told _ _) refl refl c.tell-in-Err.ensures.told

pub returns-in-Err-Read-clause-tells : goal.returns-in-Err-Read-clause-tells
returns-in-Err-Read-clause-tells g c =
    let why = rw c.in-Err-Read.field-0-is at c.in-Err-Read.ensures.failed in
    tells _ _ _ _ _ read_failed _ 3 _ (read_told _ _ why) refl refl c.tell-in-Err-Read.ensures.told

pub returns-clause-tells : goal.returns-clause-tells
returns-clause-tells g c = tells _ _ _ _ _ memory_refused _ 3 _ (memory_told _ _) refl refl c.tell-in-Err-Memory.ensures.told
