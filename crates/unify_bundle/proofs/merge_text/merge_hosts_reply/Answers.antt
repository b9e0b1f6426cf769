use Rattle.std.proofs.Common.{refl}
use Rattle.std.specs.Prelude.{Ok}
use Rattle.unify_bundle.specs.Output.{IsMergeWithHostsTold}
use Rattle.unify_bundle.proofs.FaultAnswers.{refused_answers}
use Rattle.unify_bundle.proofs.merge_text.merge_hosts_reply.Goals as goal

pub returns-in_ok-site_text-in-Ok : goal.returns-in_ok-site_text-in-Ok
returns-in_ok-site_text-in-Ok c =
    let read = c.in-Ok.ensures in
    let text = c.in_ok-site_text-in-Ok in
    (Ok text.field-0.items, (read.0, read.1, c.in-Ok.files, read.2, text.ensures), refl)

pub returns-in-Err : goal.returns-in-Err
returns-in-Err c = refused_answers (IsMergeWithHostsTold c.args.hosts.now c.args.rules.now) c.in-Err.fault c.refused.result c.in-Err.ensures c.refused.ensures
