use Rattle.std.proofs.Common.{true, false, ap}
use Rattle.mtree_inv.specs.Parts.{most_of}
use Rattle.mtree_inv.specs.Walked.{kept_of}
use Rattle.mtree_inv.specs.OpenLines.{open_line}
use Rattle.mtree_inv.proofs.ReadLemmas.{end-nothing, end-byte, end-joined, end-backslash, end-result}
use Rattle.mtree_inv.proofs.parts.Parts.take_last.Goals as goal

pub returns-in-Nothing-clause-taken : goal.returns-in-Nothing-clause-taken
returns-in-Nothing-clause-taken c = end-nothing (most_of c.args.self.now) (kept_of c.args.self.now.walk) (open_line c.args.self.now.in_progress) c.in-Nothing.is

pub returns-in-Byte-clause-taken : goal.returns-in-Byte-clause-taken
returns-in-Byte-clause-taken c =
    end-result (most_of c.args.self.now) (kept_of c.args.self.now.walk) (kept_of c.take_line.new.self.walk) (open_line c.args.self.now.in_progress) (open_line c.take_line.new.self.in_progress) false c.take_line.result
    (end-byte (most_of c.args.self.now) (kept_of c.args.self.now.walk) (open_line c.args.self.now.in_progress) c.in-Byte.is)
    c.take_line.ensures.exact c.take_line.ensures.err (ap open_line c.take_line.ensures.line)

pub returns-in-Joined-clause-taken : goal.returns-in-Joined-clause-taken
returns-in-Joined-clause-taken c =
    end-result (most_of c.args.self.now) (kept_of c.args.self.now.walk) (kept_of c.take_line-in-Joined.new.self.walk) (open_line c.args.self.now.in_progress) (open_line c.take_line-in-Joined.new.self.in_progress) true c.take_line-in-Joined.result
    (end-joined (most_of c.args.self.now) (kept_of c.args.self.now.walk) (open_line c.args.self.now.in_progress) c.in-Joined.is)
    c.take_line-in-Joined.ensures.exact c.take_line-in-Joined.ensures.err (ap open_line c.take_line-in-Joined.ensures.line)

pub returns-in-Backslash-clause-taken : goal.returns-in-Backslash-clause-taken
returns-in-Backslash-clause-taken c =
    end-result (most_of c.args.self.now) (kept_of c.args.self.now.walk) (kept_of c.take_line-in-Backslash.new.self.walk) (open_line c.args.self.now.in_progress) (open_line c.take_line-in-Backslash.new.self.in_progress) true c.take_line-in-Backslash.result
    (end-backslash (most_of c.args.self.now) (kept_of c.args.self.now.walk) (open_line c.args.self.now.in_progress) c.in-Backslash.is)
    c.take_line-in-Backslash.ensures.exact c.take_line-in-Backslash.ensures.err (ap open_line c.take_line-in-Backslash.ensures.line)
