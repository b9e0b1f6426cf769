use Rattle.std.proofs.Common.{◌∙◌, ◌∷◌, ◌++◌, [], ◌<◌, get_or, map, take, length, ap, arith}
use Rattle.std.proofs.lemmas.List.{get_or-map, length-map, take_more}
use Rattle.std.specs.Option.{option_map}
use Rattle.reown_plan.specs.PlanData.{PlanRecord}
use Rattle.reown_plan.specs.Records.{record_of}
use Rattle.reown_runner.proofs.Lists.{slice_get-map, slice_get-read}
use Rattle.reown_files.specs.Lawful.{all_asked}
use Rattle.reown_files.proofs.Laws.{nothing, given_at}
use Rattle.reown_files.proofs.restoring.set_all_back.Goals as goal

pub loop-i-preserved : goal.loop-i-preserved
loop-i-preserved g c =
    let rs = c.args.records.now in
    let i = c.loop-i.i in
    let below : i < length rs = c.loop-i-test.true in
    let below_map : i < length (map record_of rs) = omega (arith, length-map rs record_of) in
    let more = take_more (map record_of rs) i nothing below_map ∙ ap (λ (r : PlanRecord). take i (map record_of rs) ++ r ∷ []) (get_or-map record_of rs i _ nothing below) in
    record {
      asked = ap (λ xs. all_asked xs (g.D.Disk.calls c.set_back.new.disk)) more ∙ c.in-Ok.ensures.asked (take i (map record_of rs)) c.loop-i.invariant.asked;
      modes = c.in-Ok.ensures.modes ∙ c.loop-i.invariant.modes;
      checked = c.set_back.ensures.checked (map record_of rs) c.loop-i.invariant.checked;
      kept = λ r. c.in-Ok.ensures.kept r (c.loop-i.invariant.kept r);
      read = c.set_back.ensures.read ∙ c.loop-i.invariant.read;
      unchanged = c.set_back.ensures.unchanged c.loop-i.invariant.unchanged;
      lawful = c.set_back.ensures.lawful (map record_of rs) (given_at rs i _ below) c.loop-i.invariant.read c.loop-i.invariant.unchanged c.loop-i.invariant.lawful;
      replayed = c.set_back.ensures.replayed ∙ c.loop-i.invariant.replayed;
    }

pub returns-in-Err-clause-lawful : goal.returns-in-Err-clause-lawful
returns-in-Err-clause-lawful g c =
    c.set_back.ensures.lawful (map record_of c.args.records.now) (given_at c.args.records.now c.loop-i.i _ c.loop-i-test.true) c.loop-i.invariant.read c.loop-i.invariant.unchanged c.loop-i.invariant.lawful

pub returns-in-Err-clause-refused : goal.returns-in-Err-clause-refused
returns-in-Err-clause-refused g c =
    let rs = c.args.records.now in
    let i = c.loop-i.i in
    (record_of (get_or rs i _), slice_get-map record_of rs i ∙ ap (option_map record_of) (slice_get-read rs i _ c.loop-i-test.true), c.in-Err.ensures.failed)
