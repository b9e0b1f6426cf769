use Rattle.unify_merge.proofs.rehearse.rehearse_plan.Goals as goal

pub read_and_end-requires : goal.read_and_end-requires
read_and_end-requires g c = (c.args.plan.now, c.in_ok-rehearsal.ensures)
