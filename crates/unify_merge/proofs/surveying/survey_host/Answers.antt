use Rattle.unify_merge.proofs.surveying.survey_host.Goals as goal

pub read_host-requires : goal.read_host-requires
read_host-requires g c = c.new-survey.ensures c.args.host.now

pub returns-clause-read : goal.returns-clause-read
returns-clause-read g c =
    let it = c.in_ok-read_host.ensures.read in
    (it.0, it.1, (it.2.0, it.2.1, c.in_ok-push_to.ensures.pushed it.2.0 it.2.2), it.3)
