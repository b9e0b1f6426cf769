use Rattle.std.proofs.Common.{◌≡◌, length, sym, ◌∙◌, arith, subst}
use Rattle.std.specs.Prelude.{OnOk}
use Rattle.std.proofs.lemmas.Bool.{eqb-false}
use Rattle.mtree_inv.specs.OpenLines.{open_line}
use Rattle.mtree_inv.proofs.OpenLemmas.{bytes-plain, bytes-backslash}
use Rattle.mtree_inv.proofs.open_line.OpenLine.take.Goals as goal

pub returns-then-not-ends_in_backslash : goal.returns-then-not-ends_in_backslash
returns-then-not-ends_in_backslash c =
    subst (λ new. OnOk c.plain.result (open_line c.plain.new.self ≡ new))
    (bytes-plain (open_line c.args.self.now) c.args.bytes.now (omega (arith, eqb-false (length c.args.bytes.now) 0 (sym c.is_empty.ensures ∙ c.if-is_empty.false)))
    (sym c.ends_in_backslash.ensures ∙ c.if-not-ends_in_backslash.true))
    c.plain.ensures

pub returns : goal.returns
returns c =
    subst (λ new. OnOk c.backslash.result (open_line c.backslash.new.self ≡ new))
    (c.in_ok-take_front.ensures
    ∙ bytes-backslash (open_line c.args.self.now) c.split_at.result.0.now c.args.bytes.now (sym c.ends_in_backslash.ensures ∙ c.if-not-ends_in_backslash.false) c.split_at.ensures.front)
    c.backslash.ensures
