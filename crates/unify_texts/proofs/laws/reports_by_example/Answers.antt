use Rattle.unify_texts.proofs.ReportExample.{differing_by_example, plain_by_example, users_by_example}
use Rattle.unify_texts.proofs.laws.reports_by_example.Goals as goal

pub returns : goal.returns
returns c = record { plain = plain_by_example; users = users_by_example; differing = differing_by_example }
