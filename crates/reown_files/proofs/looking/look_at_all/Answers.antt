use Rattle.std.proofs.Common.{◌≡◌, ℕ, Option, inl, inr, ◌∙◌, rules, ◌+◌, ◌<◌, List, [], ◌∷◌, Some, get_or, refl, sym, ap, subst, arith, map, take, length}
use Rattle.std.proofs.lemmas.List.{length-append, get_or-map, get_or-take, length-map, length-take-le}
use Rattle.reown_plan.specs.PlanData.{PlanRecord}
use Rattle.reown_plan.specs.Records.{record_of}
use Rattle.reown_plan.specs.declared.plan.Owner.{Owner}
use Rattle.reown_files.specs.Stages.{MayHave}
use Rattle.reown_files.specs.Calls.{Called, Met}
use Rattle.reown_files.specs.Failed.{Last, FailsOn}
use Rattle.reown_files.specs.Opening.{IsRefusal}
use Rattle.std.specs.Option.{option_map}
use Rattle.reown_runner.proofs.Lists.{slice_get-map, slice_get-read}
use Rattle.reown_files.specs.Lawful.{is_mode_kept, is_unchanged, no_mode_failed, were_read}
use Rattle.reown_files.specs.Replay.{replay, with_owner, found_of}
use Rattle.reown_files.proofs.Halves.{AreAllowedTo, one_more_allowed}
use Rattle.reown_files.proofs.Laws.{nothing, meets_on}
use Rattle.reown_files.proofs.Meetings.{unmet_on, lawful_met}
use Rattle.reown_files.proofs.Replays.{met_more}
use Rattle.reown_files.proofs.looking.look_at_all.Goals as goal

-- the owner that a file was met at
met_as : (old new : List Called) (path : List ℕ) (after : Owner) (found : Option Owner) (owner : Owner) → new ≡ Met path after found ∷ old → found ≡ Some owner → new ≡ Met path after (Some owner) ∷ old
met_as old new path after found owner e is = e ∙ ap (λ f. Met path after f ∷ old) is

pub loop-i-preserved : goal.loop-i-preserved
loop-i-preserved g c =
    let rs = c.args.records.now in
    let records = map record_of rs in
    let i = c.loop-i.i in
    let owner = c.in_ok-owner.owner in
    let met = met_as (g.D.Disk.calls c.loop-i.disk) (g.D.Disk.calls c.meet.new.self) _ _ _ owner c.in-Ok.ensures.met c.in_ok-owner.ensures.found in
    let held = replay (g.D.Disk.calls c.loop-i.disk) in
    let below : i < length rs = omega arith in
    let below_map : i < length records = omega (arith, length-map rs record_of) in
    let old = g.D.Disk.calls c.loop-i.disk in
    let new = g.D.Disk.calls c.meet.new.self in
    let met_here = subst (λ (r : PlanRecord). new ≡ Met r.path r.after (Some owner) ∷ old) (sym (get_or-map record_of rs i _ nothing below)) met in
    let left : (d : PlanRecord) → MayHave c.args.stage (get_or records i d) owner =
    λ d. subst (λ (r : PlanRecord). MayHave c.args.stage r owner) (sym (get_or-map record_of rs i _ d below)) c.in_ok-owner.ensures.allowed in
    record {
      as_many = ap (λ (os : List Owner). length os) c.in_ok-push.ensures.items ∙ length-append c.loop-i.owners.items (owner ∷ []) ∙ ap (λ n. n + 1) c.loop-i.invariant.as_many;
      allowed = subst (λ (os : List Owner). AreAllowedTo c.args.stage records os (i + 1)) (sym c.in_ok-push.ensures.items) (one_more_allowed c.args.stage records c.loop-i.owners.items i c.loop-i.invariant.as_many owner left c.loop-i.invariant.allowed);
      met = λ path.
          ap (λ (cs : List Called). (replay cs).owner path) met
          ∙ ap (λ (r : PlanRecord). (with_owner r.path (Some owner) held).owner path) (sym (get_or-map record_of rs i _ nothing below))
          ∙ met_more records c.requires.distinct i below_map c.loop-i.owners.items owner held c.loop-i.invariant.as_many c.loop-i.invariant.met path
          ∙ ap (λ (os : List Owner). found_of (take (i + 1) records) os path) (sym c.in_ok-push.ensures.items);
      all_met = meets_on records i old new (Some owner) below_map met_here c.loop-i.invariant.all_met;
      kept = λ r. ap (λ (cs : List Called). is_mode_kept cs r) met ∙ c.loop-i.invariant.kept r;
      mark = ap (λ (cs : List Called). (replay cs).mark) met ∙ c.loop-i.invariant.mark;
      begun = ap (λ (cs : List Called). (replay cs).begun) met ∙ c.loop-i.invariant.begun;
      modes = ap no_mode_failed met ∙ c.loop-i.invariant.modes;
      unchanged = λ h. ap is_unchanged met ∙ c.loop-i.invariant.unchanged h;
      first = unmet_on records i below_map old new (Some owner) met_here c.loop-i.invariant.first c.requires.distinct;
      lawful = λ mark h. lawful_met records i below_map old new (Some owner) met_here c.loop-i.invariant.first mark (c.loop-i.invariant.lawful mark h);
      read = λ mark h. ap (were_read mark) met ∙ c.loop-i.invariant.read mark h;
    }

pub returns-in_err-owner-clause-lawful : goal.returns-in_err-owner-clause-lawful
returns-in_err-owner-clause-lawful g c = λ mark h.
    let rs = c.args.records.now in
    let i = c.loop-i.i in
    let below : i < length rs = omega arith in
    let old = g.D.Disk.calls c.loop-i.disk in
    let new = g.D.Disk.calls c.meet.new.self in
    let found = c.in-Ok.found in
    let met_here = subst (λ (r : PlanRecord). new ≡ Met r.path r.after found ∷ old) (sym (get_or-map record_of rs i _ nothing below)) c.in-Ok.ensures.met in
    lawful_met (map record_of rs) i (omega (arith, length-map rs record_of)) old new found met_here c.loop-i.invariant.first mark (c.loop-i.invariant.lawful mark h)

pub returns-in_err-push-clause-lawful : goal.returns-in_err-push-clause-lawful
returns-in_err-push-clause-lawful g c = λ mark h.
    let rs = c.args.records.now in
    let i = c.loop-i.i in
    let below : i < length rs = omega arith in
    let old = g.D.Disk.calls c.loop-i.disk in
    let new = g.D.Disk.calls c.meet.new.self in
    let found = c.in-Ok.found in
    let met_here = subst (λ (r : PlanRecord). new ≡ Met r.path r.after found ∷ old) (sym (get_or-map record_of rs i _ nothing below)) c.in-Ok.ensures.met in
    lawful_met (map record_of rs) i (omega (arith, length-map rs record_of)) old new found met_here c.loop-i.invariant.first mark (c.loop-i.invariant.lawful mark h)

pub returns-in_err-owner-clause-refused : goal.returns-in_err-owner-clause-refused
returns-in_err-owner-clause-refused g c =
    let rs = c.args.records.now in
    let i = c.loop-i.i in
    let below : i < length rs = omega arith in
    let refused : IsRefusal c.args.stage (map record_of rs) (g.D.Disk.calls c.meet.new.self) c.in_err-owner.field-0.0 = inr (record {
      i = i;
      r = record_of (get_or rs i _);
      found = c.in-Ok.found;
      before = g.D.Disk.calls c.loop-i.disk;
      here = slice_get-map record_of rs i ∙ ap (option_map record_of) (slice_get-read rs i _ below);
      last = c.in-Ok.ensures.met;
      unfit = c.in_err-owner.ensures.refused;
      fit = record {
        owners = c.loop-i.owners.items;
        as_many = c.loop-i.invariant.as_many ∙ sym (length-take-le i (map record_of rs) (omega (arith, length-map rs record_of)));
        met = c.loop-i.invariant.met;
        allowed = λ k d o within.
            let before : k < i = omega (arith, length-take-le i (map record_of rs) (omega (arith, length-map rs record_of))) in
            subst (λ (r : PlanRecord). MayHave c.args.stage r (get_or c.loop-i.owners.items k o)) (sym (get_or-take i (map record_of rs) k d before)) (c.loop-i.invariant.allowed k d o before);
      };
    }) in
    search (rules, refused)

pub returns-in-Err-clause-refused : goal.returns-in-Err-clause-refused
returns-in-Err-clause-refused g c =
    let rs = c.args.records.now in
    let i = c.loop-i.i in
    let below : i < length rs = omega arith in
    let r = record_of (get_or rs i _) in
    inl (r, slice_get-map record_of rs i ∙ ap (option_map record_of) (slice_get-read rs i _ below), subst (Last (FailsOn r.path c.in-Err.trouble)) (sym c.in-Err.ensures.failed) (refl, refl))
