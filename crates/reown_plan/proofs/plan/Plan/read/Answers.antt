use Rattle.std.proofs.Common.{◌++◌, map, sym, ap, subst, ◌∙◌, append_assoc}
use Rattle.reown_plan.specs.Fronts.{IsFront}
use Rattle.reown_plan.specs.PlanData.{HaveDistinctPaths}
use Rattle.reown_plan.specs.Records.{record_of}
use Rattle.reown_plan.specs.Spelling.{head, lines, end, no_head}
use Rattle.reown_plan.proofs.Faults.{told}
use Rattle.reown_plan.proofs.Repeats.{fault_complete, read_complete}
use Rattle.reown_plan.proofs.Wholes.{spelling_parts}
use Rattle.reown_plan.proofs.plan.Plan.read.Goals as goal

pub returns-in_default-clause-fault : goal.returns-in_default-clause-fault
returns-in_default-clause-fault c = λ offset e. told c.args.text.now 0 offset e (no_head (λ host rest name h. c.in_default.ensures.complete host rest name h))

pub returns-in_default-clause-complete : goal.returns-in_default-clause-complete
returns-in_default-clause-complete c = λ plan lawful e. absurd (c.in_default.ensures.complete plan.host (lines plan.records ++ end) lawful.host (e ∙ spelling_parts plan))

pub distinct_places-requires : goal.distinct_places-requires
distinct_places-requires c =
    let host = c.in-Some.host.now in
    let read = c.in_ok-read.ensures in
    let front : IsFront c.args.text.now host (map record_of c.in_ok-read.read.records.items) c.in_ok-read.read.behind.now =
    record {
      name = c.in-Some.ensures.lawful;
      lawful = read.lawful;
      read = c.in-Some.ensures.spelled ∙ ap (λ l. head host ++ l) read.spelled ∙ sym (append_assoc (head host) (lines (map record_of c.in_ok-read.read.records.items)) c.in_ok-read.read.behind.now);
    } in
    (host, c.in_ok-read.read.behind.now, subst (λ rs. IsFront c.args.text.now host (map record_of rs) c.in_ok-read.read.behind.now) (sym c.deref.ensures.value) front, c.in-Some.ensures.spelled)

pub returns-in_err-places-clause-complete : goal.returns-in_err-places-clause-complete
returns-in_err-places-clause-complete c = λ plan lawful e. fault_complete c.args.text.now plan lawful e c.from_residual-in_err-places.result c.in_err-places.field-0.0 c.from_residual-in_err-places.ensures.1 c.in_err-places.ensures.fault

pub check_end-requires-clause-front : goal.check_end-requires-clause-front
check_end-requires-clause-front c =
    let host = c.in-Some.host.now in
    let read = c.in_ok-read.ensures in
    let front : IsFront c.args.text.now host (map record_of c.in_ok-read.read.records.items) c.in_ok-read.read.behind.now =
    record {
      name = c.in-Some.ensures.lawful;
      lawful = read.lawful;
      read = c.in-Some.ensures.spelled ∙ ap (λ l. head host ++ l) read.spelled ∙ sym (append_assoc (head host) (lines (map record_of c.in_ok-read.read.records.items)) c.in_ok-read.read.behind.now);
    } in
    (host, subst (λ rs. IsFront c.args.text.now host (map record_of rs) c.in_ok-read.read.behind.now) (sym c.deref-2.ensures.value) front)

pub returns-in_err-check_end-clause-complete : goal.returns-in_err-check_end-clause-complete
returns-in_err-check_end-clause-complete c = λ plan lawful e.
    fault_complete c.args.text.now plan lawful e c.from_residual-in_err-check_end.result c.in_err-check_end.field-0.0 c.from_residual-in_err-check_end.ensures.1 c.in_err-check_end.ensures.fault

pub returns-clause-complete : goal.returns-clause-complete
returns-clause-complete c = λ plan lawful e.
    let text = c.args.text.now in
    let host = c.in-Some.host.now in
    let records = map record_of c.in_ok-read.read.records.items in
    let read = c.in_ok-read.ensures in
    let front : IsFront text host records end =
    record {
      name = c.in-Some.ensures.lawful;
      lawful = read.lawful;
      read = c.in-Some.ensures.spelled ∙ ap (λ l. head host ++ l) (read.spelled ∙ ap (λ l. lines records ++ l) c.in_ok-check_end.ensures.end) ∙ sym (append_assoc (head host) (lines records) end);
    } in
    read_complete text plan lawful e host records front (subst (λ rs. HaveDistinctPaths (map record_of rs)) c.deref.ensures.value c.in_ok-places.ensures.distinct)
