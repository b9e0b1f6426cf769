use Rattle.std.proofs.Common.{◌-◌, map, length, arith}
use Rattle.std.proofs.lemmas.List.{length-map}
use Rattle.reown_plan.specs.Records.{record_of}
use Rattle.reown_plan.proofs.Faults.{told}
use Rattle.reown_plan.proofs.Repeats.{repeat_shorter, repeat_fault, all_distinct}
use Rattle.reown_plan.proofs.plan.distinct_places.Goals as goal

pub overflow_sub-result : goal.overflow_sub-result
overflow_sub-result c =
    let records = map record_of c.args.records.now in
    repeat_shorter c.args.text.now c.requires.0 records c.requires.1 c.args.rest.now c.behind_records-behind.result.now c.count_distinct-count.result c.requires.2 c.requires.3 c.count_distinct-count.ensures
    (omega (arith, length-map c.args.records.now record_of, c.if-count-records.true)) c.behind_records-behind.ensures

pub returns-then-count-records-clause-fault : goal.returns-then-count-records-clause-fault
returns-then-count-records-clause-fault c = λ offset e.
    let records = map record_of c.args.records.now in
    told c.args.text.now (length c.args.text.now - length c.behind_records-behind.result.now) offset e
    (repeat_fault c.args.text.now c.requires.0 records c.requires.1 c.args.rest.now c.behind_records-behind.result.now c.count_distinct-count.result c.requires.2 c.requires.3 c.count_distinct-count.ensures
    (omega (arith, length-map c.args.records.now record_of, c.if-count-records.true)) c.behind_records-behind.ensures)

pub returns-clause-distinct : goal.returns-clause-distinct
returns-clause-distinct c =
    let records = map record_of c.args.records.now in
    all_distinct records c.count_distinct-count.result c.count_distinct-count.ensures (omega (arith, length-map c.args.records.now record_of, c.if-count-records.false))
