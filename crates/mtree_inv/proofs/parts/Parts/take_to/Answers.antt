use Rattle.mtree_inv.specs.Parts.{most_of, files_of_parts, reading_of}
use Rattle.mtree_inv.specs.Walked.{kept_of}
use Rattle.mtree_inv.specs.OpenLines.{open_line}
use Rattle.mtree_inv.proofs.ReadLemmas.{line-taken, line-failed}
use Rattle.mtree_inv.proofs.parts.Parts.take_to.Goals as goal

pub returns-in-Ok-clause-taken : goal.returns-in-Ok-clause-taken
returns-in-Ok-clause-taken c =
    line-taken (most_of c.args.self.now) c.args.at (kept_of c.args.self.now.walk) (open_line c.args.self.now.in_progress) c.args.rest.now c.split_at.result.0.now
    c.requires.within c.requires.first c.requires.newline c.split_at.ensures.front (reading_of c.take_ended.new.self) c.in-Ok.ensures.taken

pub returns-in-Err-clause-taken : goal.returns-in-Err-clause-taken
returns-in-Err-clause-taken c =
    line-failed (most_of c.args.self.now) c.args.at (kept_of c.args.self.now.walk) (open_line c.args.self.now.in_progress) c.args.rest.now c.split_at.result.0.now
    c.requires.within c.requires.first c.requires.newline c.split_at.ensures.front (files_of_parts c.take_ended.new.self) c.in-Err.fault c.in-Err.ensures.taken
