use Rattle.std.proofs.Common.{◌≡◌, ◌++◌, map, All, sym, subst}
use Rattle.reown_plan.specs.Records.{record_of}
use Rattle.reown_plan.specs.Spelling.{lines, IsLawfulRecord}
use Rattle.reown_plan.proofs.Lines.{lawful_more}
use Rattle.reown_plan.proofs.Repeats.{front_more}
use Rattle.reown_plan.proofs.records.read_records.Goals as goal

pub records-preserved : goal.records-preserved
records-preserved c =
    let planned = c.in-Some.planned in
    let old = c.records.records.items in
    let pushed = c.in_ok-push.ensures.items in
    record {
      read = subst (λ rs. c.args.text.now ≡ lines (map record_of rs) ++ c.in-Some.after.now) (sym pushed) (front_more old planned c.args.text.now c.records.rest.now c.in-Some.after.now c.records.invariant.read c.in-Some.ensures.spelled);
      lawful = subst (λ rs. All IsLawfulRecord (map record_of rs)) (sym pushed) (lawful_more old planned c.records.invariant.lawful c.in-Some.ensures.lawful);
    }
