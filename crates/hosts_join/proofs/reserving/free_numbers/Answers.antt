use Rattle.std.proofs.Common.{◌||◌, ◌∙◌, ap}
use Rattle.hosts_join.specs.RangeLists.{lies_in_some}
use Rattle.hosts_join.specs.Rules.{is_reserved}
use Rattle.hosts_join.proofs.ReservedLemmas.{unreserved}
use Rattle.hosts_join.proofs.reserving.free_numbers.Goals as goal

pub returns : goal.returns
returns c =
    let rs = c.args.reserved.now in
    unreserved c.of.result c.as_slice.result.now rs
    (λ v. ap (λ xs. lies_in_some xs v) c.as_slice.ensures.value ∙ c.in_ok-ranges.ensures.numbers v ∙ ap (λ xs. lies_in_some xs v || is_reserved rs v) c.new.ensures.items) c.of.ensures
