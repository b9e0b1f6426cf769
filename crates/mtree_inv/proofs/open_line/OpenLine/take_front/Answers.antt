use Rattle.std.proofs.Common.{length, sym, ap, ◌∙◌, arith}
use Rattle.std.proofs.lemmas.Bool.{eqb-true, eqb-false}
use Rattle.mtree_inv.specs.OpenLines.{open_line}
use Rattle.mtree_inv.specs.Reading.{with_backslash}
use Rattle.mtree_inv.proofs.OpenLemmas.{bytes-none, front-plain, ok-then}
use Rattle.mtree_inv.proofs.open_line.OpenLine.take_front.Goals as goal

pub returns-then-is_empty : goal.returns-then-is_empty
returns-then-is_empty c =
    ap with_backslash (bytes-none (open_line c.args.self.now) c.args.front.now (eqb-true (length c.args.front.now) 0 (sym c.is_empty.ensures ∙ c.if-is_empty.true)))

pub returns : goal.returns
returns c =
    ok-then c.plain.result
    (λ is. ap with_backslash is ∙ front-plain (open_line c.args.self.now) c.args.front.now (omega (arith, eqb-false (length c.args.front.now) 0 (sym c.is_empty.ensures ∙ c.if-is_empty.false))))
    c.plain.ensures
