use Rattle.std.proofs.Common.{sym, subst}
use Rattle.survey.specs.Surveying.{AreOf}
use Rattle.survey.proofs.host_survey.HostSurvey.new.Goals as goal

pub returns : goal.returns
returns c = λ host. record {
  reading = c.new.ensures.stands;
  takes = c.new.ensures.most;
  going = c.new.ensures.going;
  sound = c.new.ensures.fault;
  waiting = c.new.ensures.waiting;
  numbers = subst (λ files. AreOf host files c.no_numbers.result) (sym c.new.ensures.files) (c.no_numbers.ensures host);
}
