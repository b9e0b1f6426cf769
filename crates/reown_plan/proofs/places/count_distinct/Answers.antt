use Rattle.std.proofs.Common.{map, subst, ◌∙◌, sym, arith}
use Rattle.std.specs.Cmp.Lexicographic.{bytes_decides}
use Rattle.std.proofs.lemmas.Bool.{true≢false}
use Rattle.std.proofs.lemmas.List.{length-map}
use Rattle.reown_plan.specs.PlanData.{PlanRecord}
use Rattle.reown_plan.specs.Records.{record_of}
use Rattle.reown_plan.specs.Places.{paths_in}
use Rattle.reown_plan.proofs.Sorting.{IsLeast, least_at_first, least_same, least_other, first_distinct}
use Rattle.reown_plan.proofs.places.count_distinct.Goals.{then-eq, else-eq}
use Rattle.reown_plan.proofs.places.count_distinct.Goals as goal

pub loop-k-init : goal.loop-k-init
loop-k-init c =
    let records = c.args.records.now in
    let paths = paths_in (map record_of records) in
    let many = length-map (map record_of records) (λ (r : PlanRecord). r.path) ∙ length-map records record_of in
    subst (IsLeast paths c.args.places.now 1) many (least_at_first paths c.args.places.now)

pub loop-k-preserved : goal.loop-k-preserved
loop-k-preserved c =
    let paths = paths_in (map record_of c.args.records.now) in
    let before = c.path_of.result.now in
    let here = c.path_of-in-loop-k.result.now in
    elim c.if-eq.branch [
      | then-eq w ↦
          let same = (bytes_decides before here).0 (sym c.eq.ensures ∙ w.if-eq.true) in
          least_same paths c.args.places.now c.loop-k.k c.loop-k.count c.if-eq.count (omega arith) (omega arith) c.loop-k.invariant (sym c.path_of.ensures ∙ same ∙ c.path_of-in-loop-k.ensures) (w.count-is ∙ w.min-count.ensures)
      | else-eq w ↦
          least_other paths c.args.places.now c.loop-k.k c.loop-k.count c.if-eq.count (omega arith) (omega arith) c.loop-k.invariant
          (λ e. true≢false (sym ((bytes_decides before here).1 (c.path_of.ensures ∙ e ∙ sym c.path_of-in-loop-k.ensures)) ∙ sym c.eq.ensures ∙ w.if-eq.false)) w.count-is
    ]

pub returns : goal.returns
returns c = first_distinct (paths_in (map record_of c.args.records.now)) c.args.places.now c.requires c.loop-k.k c.loop-k.count (omega arith) c.loop-k.invariant
