use Rattle.unify_laws.proofs.SiteTexts.{given_numbers_stand_by_texts, numbers_stand_by_texts}
use Rattle.unify_laws.proofs.laws.numbers_stand_by_texts.Goals as goal

pub returns : goal.returns
returns c = record { may = numbers_stand_by_texts; given = given_numbers_stand_by_texts }
