use Rattle.std.proofs.Common.{◌≡◌, ◌∙◌, [], ◌∷◌, ◌<◌, Bool, get_or, map, length, refl, sym, ap, subst, arith}
use Rattle.reown_plan.specs.PlanData.{PlanRecord}
use Rattle.std.specs.Result.{is_ok}
use Rattle.std.proofs.lemmas.List.{get_or-map, length-map}
use Rattle.std.specs.Option.{option_map}
use Rattle.reown_runner.proofs.Lists.{slice_get-map, slice_get-read}
use Rattle.reown_plan.specs.Records.{record_of}
use Rattle.reown_files.specs.Calls.{Kept}
use Rattle.reown_files.specs.Lawful.{is_begun, is_lawful, no_mode_failed}
use Rattle.reown_files.specs.Replay.{replay}
use Rattle.reown_files.proofs.Laws.{nothing, keeps_on, one_more_call}
use Rattle.reown_files.proofs.giving.keep_all.Goals as goal

pub loop-i-preserved : goal.loop-i-preserved
loop-i-preserved g c =
    let rs = c.args.records.now in
    let below : c.loop-i.i < length rs = omega arith in
    let below_map : c.loop-i.i < length (map record_of rs) = omega (arith, length-map rs record_of) in
    record {
      kept = keeps_on (map record_of rs) c.loop-i.i (g.D.Disk.calls c.loop-i.disk) (g.D.Disk.calls c.keep.new.self) (is_ok c.keep.result) below_map
          (subst (λ (r : PlanRecord). g.D.Disk.calls c.keep.new.self ≡ Kept r.path r.after (is_ok c.keep.result) ∷ g.D.Disk.calls c.loop-i.disk) (sym (get_or-map record_of rs c.loop-i.i _ nothing below)) c.keep.ensures)
          (ap is_ok c.in-Ok.is) c.loop-i.invariant.kept;
      modes = ap no_mode_failed c.keep.ensures ∙ c.loop-i.invariant.modes;
      lawful = λ mark plan h. ap (is_lawful mark plan) c.keep.ensures ∙ c.loop-i.invariant.lawful mark plan h;
      begun = λ plan h. ap (is_begun plan) c.keep.ensures ∙ c.loop-i.invariant.begun plan h;
      replayed = ap replay c.keep.ensures ∙ c.loop-i.invariant.replayed;
      grows = one_more_call (g.D.Disk.calls c.args.disk.now) (g.D.Disk.calls c.loop-i.disk) (g.D.Disk.calls c.keep.new.self) _ c.loop-i.invariant.grows c.keep.ensures;
    }

pub returns-in-Err-clause-lawful : goal.returns-in-Err-clause-lawful
returns-in-Err-clause-lawful g c = λ mark plan h. ap (is_lawful mark plan) c.keep.ensures ∙ c.loop-i.invariant.lawful mark plan h

pub returns-in-Err-clause-modes : goal.returns-in-Err-clause-modes
returns-in-Err-clause-modes g c = ap no_mode_failed c.keep.ensures ∙ c.loop-i.invariant.modes

pub returns-in-Err-clause-begun : goal.returns-in-Err-clause-begun
returns-in-Err-clause-begun g c = λ plan h. ap (is_begun plan) c.keep.ensures ∙ c.loop-i.invariant.begun plan h

pub returns-in-Err-clause-replayed : goal.returns-in-Err-clause-replayed
returns-in-Err-clause-replayed g c = ap replay c.keep.ensures ∙ c.loop-i.invariant.replayed

pub returns-in-Err-clause-grows : goal.returns-in-Err-clause-grows
returns-in-Err-clause-grows g c = one_more_call (g.D.Disk.calls c.args.disk.now) (g.D.Disk.calls c.loop-i.disk) (g.D.Disk.calls c.keep.new.self) _ c.loop-i.invariant.grows c.keep.ensures

pub loop-i-init : goal.loop-i-init
loop-i-init g c = record { kept = refl; modes = refl; lawful = λ mark plan h. h; begun = λ plan h. h; replayed = refl; grows = ([], refl) }

pub returns-in-Err-clause-failure : goal.returns-in-Err-clause-failure
returns-in-Err-clause-failure g c =
    let rs = c.args.records.now in
    let i = c.loop-i.i in
    let below : i < length rs = omega arith in
    let old = g.D.Disk.calls c.loop-i.disk in
    let r = record_of (get_or rs i _) in
    (r, slice_get-map record_of rs i ∙ ap (option_map record_of) (slice_get-read rs i _ below), (old, c.keep.ensures ∙ ap (λ (b : Bool). Kept r.path r.after b ∷ old) (ap is_ok c.in-Err.is)))
