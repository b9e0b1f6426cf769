use Rattle.unify_merge.proofs.surveying.survey_piece.Goals as goal

pub returns-in-Ok-clause-stands : goal.returns-in-Ok-clause-stands
returns-in-Ok-clause-stands c = λ text s. c.in-Ok.ensures.stands 16777216 text s
