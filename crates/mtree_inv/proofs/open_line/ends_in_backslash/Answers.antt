use Rattle.std.proofs.Common.{length, sym, ◌∙◌, arith}
use Rattle.std.proofs.lemmas.Bool.{eqb-false}
use Rattle.mtree_inv.proofs.OpenLemmas.{last-is}
use Rattle.mtree_inv.proofs.open_line.ends_in_backslash.Goals as goal

pub returns-then-not-is_empty : goal.returns-then-not-is_empty
returns-then-not-is_empty c = last-is c.args.bytes.now (omega (arith, eqb-false (length c.args.bytes.now) 0 (sym c.is_empty.ensures ∙ c.if-not-is_empty.true)))
