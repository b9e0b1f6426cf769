use Rattle.std.proofs.Common.{◌∷◌, [], refl}
use Rattle.unify_laws.specs.HostTexts.{group_file}
use Rattle.unify_merge.specs.Ledger.{BrokeOff}
use Rattle.unify_merge.proofs.BreakingOff.{broken_none, on_err}
use Rattle.unify_merge.proofs.host_files.write_group.Goals as goal

pub returns-in_err-text-clause-left : goal.returns-in_err-text-clause-left
returns-in_err-text-clause-left g c =
    let v = c.args.solved.now in
    let old = g.F.ReadFiles.ledger c.args.files.now in
    let own = group_file v.joined v.merged.mappings c.args.host.now ∷ [] in
    on_err c.from_residual.result (BrokeOff own old old) (broken_none own old old refl)
