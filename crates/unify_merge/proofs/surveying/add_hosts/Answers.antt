use Rattle.std.proofs.Common.{◌<◌, ◌++◌, ◌∷◌, [], length, refl, sym, ap, ◌∙◌, arith, append-nil, length-append}
use Rattle.std.proofs.lemmas.List.Elements.{All-nil, All-push}
use Rattle.std.proofs.lemmas.Result.{err_from_is_err_and}
use Rattle.idtext.specs.First.{each}
use Rattle.unify.proofs.Passing.{loaded_none}
use Rattle.site_tables.specs.Survey.{listed_of}
use Rattle.unify_merge.specs.FirstReading.{IsWithinLimit}
use Rattle.unify_merge.proofs.Readings.{read_more, reads_on}
use Rattle.unify_merge.proofs.Surveyed.{listed_more, numbers_more, survey_stopped}
use Rattle.unify_merge.proofs.surveying.add_hosts.Goals as goal

pub loop-index-init : goal.loop-index-init
unfolding each
loop-index-init g c = record {
  texts = [];
  one_each = refl;
  within = All-nil IsWithinLimit;
  read = sym (append-nil (g.F.ReadFiles.ledger c.args.files.now).read);
  listed = [];
  are_listed = ap (each listed_of) (loaded_none c.args.hosts.now);
  numbers = refl;
  only = refl;
  calls = refl;
}

pub returns-in_err-survey_host-clause-stopped : goal.returns-in_err-survey_host-clause-stopped
returns-in_err-survey_host-clause-stopped g c =
    let inv = c.loop-index.invariant in
    let p = err_from_is_err_and c.from_residual.result c.from_residual.ensures.1 in
    let within : c.loop-index.index < length c.args.hosts.now = omega (arith, c.loop-index-test.true) in
    rw (p.1, p.2)
    (survey_stopped c.args.hosts.now inv.texts inv.listed c.index-hosts-index.result c.loop-index.index (g.F.ReadFiles.ledger c.args.files.now) (g.F.ReadFiles.ledger c.loop-index.files) (g.F.ReadFiles.ledger c.survey_host.new.files)
    c.in_err-survey_host.field-0.0 inv.are_listed inv.one_each within c.index-hosts-index.is inv.read c.in_err-survey_host.ensures.stopped)

pub loop-index-preserved : goal.loop-index-preserved
loop-index-preserved g c =
    let inv = c.loop-index.invariant in
    let it = c.in_ok-survey_host.ensures.read in
    let host = c.index-hosts-index.result in
    let within : c.loop-index.index < length c.args.hosts.now = omega (arith, c.loop-index-test.true) in
    record {
      texts = inv.texts ++ it.0 ∷ [];
      one_each = omega (arith, inv.one_each, length-append inv.texts (it.0 ∷ []));
      within = All-push IsWithinLimit inv.texts it.0 inv.within it.3;
      read = read_more _ _ (g.F.ReadFiles.ledger c.survey_host.new.files).read c.loop-index.index inv.texts it.0 (sym inv.one_each) inv.read it.1;
      listed = inv.listed ++ (host, it.2.0) ∷ [];
      are_listed = listed_more c.args.hosts.now inv.texts inv.listed host c.loop-index.index it.0 it.2.0 inv.are_listed inv.one_each within c.index-hosts-index.is it.2.1;
      numbers = numbers_more c.args.found.now c.loop-index.found c.survey_host.new.found inv.listed host it.2.0 inv.numbers it.2.2;
      only = reads_on (g.F.ReadFiles.ledger c.args.files.now) (g.F.ReadFiles.ledger c.loop-index.files) (g.F.ReadFiles.ledger c.survey_host.new.files) inv.only c.in_ok-survey_host.ensures.reads;
      calls = c.in_ok-survey_host.ensures.calls ∙ inv.calls;
    }
