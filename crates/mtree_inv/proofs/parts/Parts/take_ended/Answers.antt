use Rattle.mtree_inv.specs.Reading.{with_run}
use Rattle.mtree_inv.specs.Parts.{most_of, reading_of}
use Rattle.mtree_inv.proofs.ReadLemmas.{newline-grows}
use Rattle.mtree_inv.proofs.parts.Parts.take_ended.Goals as goal

pub returns-then-is_err-clause-taken : goal.returns-then-is_err-clause-taken
returns-then-is_err-clause-taken c = newline-grows (most_of c.args.self.now) (with_run (reading_of c.args.self.now) c.args.line.now)
