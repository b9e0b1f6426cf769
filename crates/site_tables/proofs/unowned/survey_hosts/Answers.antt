use Rattle.std.proofs.Common.{sym, ◌∙◌}
use Rattle.site_tables.proofs.Surveys.{sparing_are}
use Rattle.site_tables.proofs.unowned.survey_hosts.Goals as goal

pub returns-clause-read : goal.returns-clause-read
returns-clause-read c =
    let loaded = c.in_ok-hosts.ensures.read in
    let keeps = sym c.keeps_unowned.ensures ∙ c.if-not-keeps_unowned.false in
    sparing_are c.args.texts.now c.args.keep.now c.in_ok-check_list.field-0 loaded.0 c.in_ok-hosts.hosts.items c.in_ok-all_sparing.field-0.items keeps c.in_ok-check_list.ensures.exact loaded.1 loaded.2 c.in_ok-all_sparing.ensures
