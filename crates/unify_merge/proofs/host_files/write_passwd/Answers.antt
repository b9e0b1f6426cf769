use Rattle.std.proofs.Common.{◌≡◌, ◌∷◌, [], Some, refl}
use Rattle.std.specs.List.{slice_get}
use Rattle.hosts_join.specs.declared.host.Host.{Host}
use Rattle.unify_laws.specs.HostTexts.{passwd_file}
use Rattle.unify_merge.specs.Ledger.{BrokeOff}
use Rattle.unify_merge.proofs.BreakingOff.{broken_none, on_err}
use Rattle.unify_merge.proofs.host_files.write_passwd.Goals as goal

pub returns-in_err-text-clause-left : goal.returns-in_err-text-clause-left
returns-in_err-text-clause-left g c =
    let v = c.args.solved.now in
    let old = g.F.ReadFiles.ledger c.args.files.now in
    let own = λ (here : Host). passwd_file here v.joined v.merged.mappings c.args.host.now ∷ [] in
    on_err c.from_residual.result ((here : Host) → slice_get v.hosts c.args.index ≡ Some here → BrokeOff (own here) old old) (λ here at. broken_none (own here) old old refl)
