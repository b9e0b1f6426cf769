use Rattle.std.proofs.Common.{◌≡◌, ◌∷◌, [], Some, ap, ◌∙◌}
use Rattle.std.proofs.lemmas.Result.{on_err_weaker}
use Rattle.std.specs.List.{slice_get}
use Rattle.hosts_join.specs.declared.host.Host.{Host}
use Rattle.unify_laws.specs.HostTexts.{group_file, passwd_file}
use Rattle.unify_laws.proofs.Agreeing.{item_at}
use Rattle.unify_merge.specs.Ledger.{BrokeOff, Ledger, after_files}
use Rattle.unify_merge.proofs.BreakingOff.{broken_behind, broken_front, on_err, wrote}
use Rattle.unify_merge.proofs.HostFiles.{files_behind, on_ok_goes}
use Rattle.unify_merge.proofs.host_files.write_host.Goals as goal

pub write_group-requires : goal.write_group-requires
write_group-requires g c =
    let here = item_at c.args.solved.now.hosts c.args.index c.requires.within in
    record { clear = ap (λ (l : Ledger). l.is_clear) (c.in_ok-write_passwd.ensures.written here.0 here.1) ∙ c.requires.clear }

pub returns-clause-written : goal.returns-clause-written
returns-clause-written g c =
    let v = c.args.solved.now in
    let m = v.merged.mappings in
    let text = c.args.host.now in
    let old = g.F.ReadFiles.ledger c.args.files.now in
    on_ok_goes c.write_group.result _ _ (λ group here at.
    group ∙ ap (after_files (group_file v.joined m text ∷ [])) (c.in_ok-write_passwd.ensures.written here at) ∙ files_behind (passwd_file here v.joined m text ∷ []) (group_file v.joined m text ∷ []) old)
    c.write_group.ensures.written

pub returns-clause-left : goal.returns-clause-left
returns-clause-left g c =
    let v = c.args.solved.now in
    let m = v.merged.mappings in
    let text = c.args.host.now in
    let old = g.F.ReadFiles.ledger c.args.files.now in
    let mid = g.F.ReadFiles.ledger c.write_passwd.new.files in
    let new = g.F.ReadFiles.ledger c.write_group.new.files in
    let one = group_file v.joined m text in
    on_err_weaker c.write_group.result
    (λ left here at.
    let own = passwd_file here v.joined m text in
    broken_behind (own ∷ []) (one ∷ []) old mid new (wrote (own ∷ []) old mid (c.in_ok-write_passwd.ensures.written here at)) left)
    c.write_group.ensures.left

pub returns-in_err-write_passwd-clause-left : goal.returns-in_err-write_passwd-clause-left
returns-in_err-write_passwd-clause-left g c =
    let v = c.args.solved.now in
    let m = v.merged.mappings in
    let text = c.args.host.now in
    let old = g.F.ReadFiles.ledger c.args.files.now in
    let new = g.F.ReadFiles.ledger c.write_passwd.new.files in
    let one = group_file v.joined m text in
    on_err c.from_residual.result ((here : Host) → slice_get v.hosts c.args.index ≡ Some here → BrokeOff (passwd_file here v.joined m text ∷ one ∷ []) old new)
    (λ here at. broken_front (passwd_file here v.joined m text ∷ []) (one ∷ []) old new (c.in_err-write_passwd.ensures.left here at))
