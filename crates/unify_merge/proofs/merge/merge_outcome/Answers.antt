use Rattle.std.proofs.Common.{ap, ◌∙◌, inl}
use Rattle.std.proofs.lemmas.Result.{err_from_is_err_and}
use Rattle.unify.specs.declared.merging.Merged.{Merged}
use Rattle.unify_merge.specs.Failures.{failure_told}
use Rattle.unify_merge.specs.Merge.{Leaves}
use Rattle.unify_merge.proofs.BreakingOff.{on_err}
use Rattle.unify_merge.proofs.Leaving.{merge_leaves}
use Rattle.unify_merge.proofs.WholeMerge.{has_made, written_stopped}
use Rattle.unify_merge.proofs.merge.merge_outcome.Goals as goal

pub returns-clause-merged : goal.returns-clause-merged
returns-clause-merged g c =
    let h = c.in_ok-solved.ensures.solved in
    let w = c.in_ok-write_merged.ensures.written h.were h.was_read in
    let is = c.into_outcome.ensures ∙ ap (λ (m : Merged). m.outcome) c.in_ok-write_merged.ensures.merged in
    has_made c.args.hosts.now c.args.rules.now c.in_ok-solved.solved (g.F.ReadFiles.ledger c.args.files.now) (g.F.ReadFiles.ledger c.solve_hosts.new.files) (g.F.ReadFiles.ledger c.write_merged.new.files) c.into_outcome.result h c.in_ok-solved.ensures.reads
    (record { site = w.site; readings = w.readings; files = w.files; cost_is = ap (λ o. o.cost) is }) is

pub returns-in_err-write_merged-clause-stopped : goal.returns-in_err-write_merged-clause-stopped
returns-in_err-write_merged-clause-stopped g c =
    let p = err_from_is_err_and c.from_residual-in_err-write_merged.result c.from_residual-in_err-write_merged.ensures.1 in
    let h = c.in_ok-solved.ensures.solved in
    let now = c.write_merged.new.files in
    rw (p.1, p.2)
    (written_stopped c.args.hosts.now c.args.rules.now (g.F.ReadFiles.ledger c.args.files.now) (g.F.ReadFiles.ledger c.solve_hosts.new.files) (g.F.ReadFiles.ledger now) c.in_ok-solved.solved c.in_err-write_merged.field-0.0 h
    (c.in_err-write_merged.ensures.stopped h.were h.was_read))

pub returns-in_err-solved-clause-left : goal.returns-in_err-solved-clause-left
returns-in_err-solved-clause-left g c =
    on_err c.from_residual.result (Leaves c.args.hosts.now c.args.rules.now (g.F.ReadFiles.ledger c.args.files.now) (g.F.ReadFiles.ledger c.solve_hosts.new.files)) (inl c.in_err-solved.ensures.reads)

pub returns-in_err-write_merged-clause-left : goal.returns-in_err-write_merged-clause-left
returns-in_err-write_merged-clause-left g c =
    let texts = c.args.hosts.now in
    let rules = c.args.rules.now in
    let h = c.in_ok-solved.ensures.solved in
    let old = g.F.ReadFiles.ledger c.args.files.now in
    let mid = g.F.ReadFiles.ledger c.solve_hosts.new.files in
    let new = g.F.ReadFiles.ledger c.write_merged.new.files in
    on_err c.from_residual-in_err-write_merged.result (Leaves texts rules old new)
    (merge_leaves texts rules c.in_ok-solved.solved old mid new h c.in_ok-solved.ensures.reads (c.in_err-write_merged.ensures.left h.were h.was_read))

pub returns-in_err-write_merged-clause-calls : goal.returns-in_err-write_merged-clause-calls
returns-in_err-write_merged-clause-calls g c =
    let p = err_from_is_err_and c.from_residual-in_err-write_merged.result c.from_residual-in_err-write_merged.ensures.1 in
    rw (p.1, p.2) (c.in_err-write_merged.ensures.calls ∙ ap (failure_told c.in_err-write_merged.field-0.0) c.in_ok-solved.ensures.calls)
