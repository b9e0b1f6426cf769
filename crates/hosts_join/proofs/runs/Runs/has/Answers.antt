use Rattle.std.proofs.Common.{List, leb, ap, ◌∙◌, rules}
use Rattle.std.proofs.lemmas.List.Sorted.{IsPartitionPoint-from_clause}
use Rattle.logindefs.specs.declared.ranges.IdRange.{IdRange}
use Rattle.hosts_join.specs.RangeLists.{lies_in_some}
use Rattle.hosts_join.proofs.RunLemmas.{lies-begun, lies-none, parts}
use Rattle.hosts_join.proofs.runs.Runs.has.Goals as goal

pub returns-then-begun-gt0 : goal.returns-then-begun-gt0
returns-then-begun-gt0 c =
    let parted = IsPartitionPoint-from_clause (λ (run : IdRange). leb run.low c.args.number) c.deref.result.now c.partition_point-begun.result c.partition_point-begun.ensures.partitioned
    (parts c.deref.result.now c.self.inside.runs.items c.args.number c.deref.ensures.value c.self.invariant.in_order) (λ a r q k. search rules) in
    lies-begun c.self.inside.runs.items c.deref.result.now c.args.number c.partition_point-begun.result c.index.result.now c.deref.ensures.value c.self.invariant.in_order
    c.partition_point-begun.ensures.bound parted c.if-begun-gt0.true c.index.ensures
    ∙ c.self.invariant.same c.args.number ∙ ap (λ (ranges : List IdRange). lies_in_some ranges c.args.number) c.self.view_is

pub returns-else-begun-gt0 : goal.returns-else-begun-gt0
returns-else-begun-gt0 c =
    let parted = IsPartitionPoint-from_clause (λ (run : IdRange). leb run.low c.args.number) c.deref.result.now c.partition_point-begun.result c.partition_point-begun.ensures.partitioned
    (parts c.deref.result.now c.self.inside.runs.items c.args.number c.deref.ensures.value c.self.invariant.in_order) (λ a r q k. search rules) in
    lies-none c.self.inside.runs.items c.deref.result.now c.args.number c.partition_point-begun.result c.deref.ensures.value parted c.if-begun-gt0.false
    ∙ c.self.invariant.same c.args.number ∙ ap (λ (ranges : List IdRange). lies_in_some ranges c.args.number) c.self.view_is
