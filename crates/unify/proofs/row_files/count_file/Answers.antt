use Rattle.unify.proofs.row_files.count_file.Goals as goal

pub count_at-requires : goal.count_at-requires
count_at-requires c =
    let here = c.requires.room in (c.args.host.now, c.args.file.now, here.0, c.in-Some.ensures.owns, here.1, here.2)

pub returns-clause-counted : goal.returns-clause-counted
returns-clause-counted c = λ yes files is. c.count_at.ensures c.args.host.now c.args.file.now files c.in-Some.ensures.owns is
