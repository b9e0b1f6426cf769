use Rattle.mergedfiles.proofs.SameRows.{kept-at}
use Rattle.mergedfiles.proofs.alike.note.Goals as goal

pub returns-clause-kept : goal.returns-clause-kept
returns-clause-kept c = kept-at c.args.seen.now.items c.args.index c.index.result.now c.seen_with.result c.requires c.index.ensures c.seen_with.ensures.kept
