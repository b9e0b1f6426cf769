use Rattle.std.proofs.Common.{◌≡◌, ◌∙◌, ◌∷◌, ◌<◌, List, get_or, map, length, refl, sym, ap, subst, arith}
use Rattle.std.specs.Option.{option_map}
use Rattle.std.specs.Result.{is_ok}
use Rattle.std.proofs.lemmas.List.{get_or-map, length-map}
use Rattle.reown_plan.specs.PlanData.{PlanRecord}
use Rattle.reown_plan.specs.Records.{record_of}
use Rattle.reown_runner.proofs.Lists.{slice_get-map, slice_get-read}
use Rattle.reown_files.specs.Calls.{Called, CheckedLinks}
use Rattle.reown_files.specs.Failed.{Last, FailsOn}
use Rattle.reown_files.specs.Lawful.{is_mode_kept, is_unchanged, no_mode_failed, were_read}
use Rattle.reown_files.specs.Replay.{replay}
use Rattle.reown_files.proofs.Laws.{nothing, checks_on, met_behind_links, lawful_links}
use Rattle.reown_files.proofs.looking.check_all_links.Goals as goal

pub loop-i-preserved : goal.loop-i-preserved
loop-i-preserved g c =
    let rs = c.args.records.now in
    let below : c.loop-i.i < length rs = omega arith in
    let below_map : c.loop-i.i < length (map record_of rs) = omega (arith, length-map rs record_of) in
    record {
      checked = checks_on (map record_of rs) c.loop-i.i (g.D.Disk.calls c.loop-i.disk) (g.D.Disk.calls c.check_links.new.self) (is_ok c.check_links.result) below_map
          (subst (λ (r : PlanRecord). g.D.Disk.calls c.check_links.new.self ≡ CheckedLinks r.path (is_ok c.check_links.result) ∷ g.D.Disk.calls c.loop-i.disk) (sym (get_or-map record_of rs c.loop-i.i _ nothing below)) c.check_links.ensures)
          (ap is_ok c.in_default.is) c.loop-i.invariant.checked;
      modes = ap no_mode_failed c.check_links.ensures ∙ c.loop-i.invariant.modes;
      unchanged = ap is_unchanged c.check_links.ensures ∙ c.loop-i.invariant.unchanged;
      met = λ plan h. met_behind_links _ _ (g.D.Disk.calls c.loop-i.disk) (g.D.Disk.calls c.check_links.new.self) plan c.check_links.ensures (c.loop-i.invariant.met plan h);
      kept = λ r. ap (λ (cs : List Called). is_mode_kept cs r) c.check_links.ensures ∙ c.loop-i.invariant.kept r;
      lawful = λ mark plan met h.
          lawful_links mark plan _ _ (g.D.Disk.calls c.loop-i.disk) (g.D.Disk.calls c.check_links.new.self) c.check_links.ensures (c.loop-i.invariant.met plan met) (c.loop-i.invariant.lawful mark plan met h);
      read = λ mark. ap (were_read mark) c.check_links.ensures ∙ c.loop-i.invariant.read mark;
      replayed = ap replay c.check_links.ensures ∙ c.loop-i.invariant.replayed;
    }

pub returns-in-Err-clause-refused : goal.returns-in-Err-clause-refused
returns-in-Err-clause-refused g c =
    let rs = c.args.records.now in
    let i = c.loop-i.i in
    let below : i < length rs = omega arith in
    let r = record_of (get_or rs i _) in
    (r, slice_get-map record_of rs i ∙ ap (option_map record_of) (slice_get-read rs i _ below), subst (Last (FailsOn r.path c.in-Err.trouble)) (sym c.check_links.ensures) (refl, ap is_ok c.in-Err.is))

pub returns-in-Err-clause-lawful : goal.returns-in-Err-clause-lawful
returns-in-Err-clause-lawful g c = λ mark plan met h.
    lawful_links mark plan _ _ (g.D.Disk.calls c.loop-i.disk) (g.D.Disk.calls c.check_links.new.self) c.check_links.ensures (c.loop-i.invariant.met plan met) (c.loop-i.invariant.lawful mark plan met h)

pub returns-in-Err-clause-kept : goal.returns-in-Err-clause-kept
returns-in-Err-clause-kept g c = λ r. ap (λ (cs : List Called). is_mode_kept cs r) c.check_links.ensures ∙ c.loop-i.invariant.kept r
