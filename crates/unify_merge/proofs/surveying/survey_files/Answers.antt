use Rattle.std.proofs.Common.{◌≡◌, Ok, ap, sym, ◌∙◌}
use Rattle.site_tables.specs.Others.{keep_read}
use Rattle.site_tables.specs.Survey.{surveyed_hosts}
use Rattle.unify_merge.proofs.Finding.{finding_stopped, were_found}
use Rattle.unify_merge.proofs.Readings.{if_err}
use Rattle.unify_merge.proofs.WholeMerge.{if_ok}
use Rattle.unify_merge.proofs.surveying.survey_files.Goals as goal

pub returns-clause-found : goal.returns-clause-found
returns-clause-found g c =
    let hosts = c.args.hosts.now in
    let keep = c.args.keep.now in
    let surveying = c.deref.result.now in
    let are : surveyed_hosts hosts (keep_read keep) ≡ Ok surveying = c.in_ok-surveying.ensures.read ∙ ap (λ hs. Ok hs) (sym c.deref.ensures.value) in
    let old = g.F.ReadFiles.ledger c.args.files.now in
    let new = g.F.ReadFiles.ledger c.survey_hosts.new.files in
    if_ok c.survey_hosts.result _ _ (λ unowned has. were_found hosts keep surveying are old new unowned has c.survey_hosts.ensures.reads) c.survey_hosts.ensures.found

pub returns-clause-stopped : goal.returns-clause-stopped
returns-clause-stopped g c =
    let hosts = c.args.hosts.now in
    let keep = c.args.keep.now in
    let surveying = c.deref.result.now in
    let are : surveyed_hosts hosts (keep_read keep) ≡ Ok surveying = c.in_ok-surveying.ensures.read ∙ ap (λ hs. Ok hs) (sym c.deref.ensures.value) in
    let old = g.F.ReadFiles.ledger c.args.files.now in
    let new = g.F.ReadFiles.ledger c.survey_hosts.new.files in
    if_err c.survey_hosts.result _ _ (λ fault stops. finding_stopped hosts keep surveying are old new fault stops) c.survey_hosts.ensures.stopped
