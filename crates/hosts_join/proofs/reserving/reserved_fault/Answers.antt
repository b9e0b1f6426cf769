use Rattle.std.proofs.Common.{◌<◌, ◌^◌, sym, ◌∙◌, arith}
use Rattle.std.proofs.lemmas.Bool.{not-true}
use Rattle.hosts_join.specs.Views.{pair_of}
use Rattle.hosts_join.proofs.ReservedLemmas.{pin-unreserved}
use Rattle.hosts_join.proofs.reserving.reserved_fault.Goals as goal

pub returns-then-has : goal.returns-then-has
returns-then-has c =
    let n = c.args.claim.now.number in
    let fits : n < 2 ^ 32 = omega arith in
    sym (pin-unreserved c.args.kind c.args.reserved.now (pair_of c.args.claim.now) (not-true _ (sym (c.requires n fits) ∙ sym c.has.ensures ∙ c.if-has.true)))
