use Rattle.std.proofs.Common.{ap}
use Rattle.unify_texts.specs.declared.bundle_line.FileName.TheVariants as file
use Rattle.unify_texts.specs.Told.{in_file}
use Rattle.unify_merge.proofs.surveying.survey_end.Goals as goal

pub returns-in-Ok-clause-read : goal.returns-in-Ok-clause-read
returns-in-Ok-clause-read c = λ text s.
    let it = c.in-Ok.ensures 16777216 text s in
    (it.0, ap (in_file c.args.host.now.name file.Mtree) it.1, it.2)
