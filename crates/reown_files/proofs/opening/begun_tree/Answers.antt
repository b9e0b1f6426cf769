use Rattle.std.proofs.Common.{◌∙◌, ◌||◌, sym, ap, subst, cond, map, length, List, Some, None}
use Rattle.std.proofs.lemmas.List.{length-map}
use Rattle.reown_plan.specs.declared.plan.Owner.{Owner}
use Rattle.reown_plan.specs.Records.{record_of}
use Rattle.reown_runner.specs.Memory.{Mem, known_mem}
use Rattle.reown_files.specs.Calls.{Called}
use Rattle.reown_files.specs.Replay.{Held, replay, found_of}
use Rattle.reown_runner.specs.Halfway.{AreHalfway}
use Rattle.reown_files.specs.Opening.{MetFit}
use Rattle.reown_files.specs.Stages.{AreAllowed}
use Rattle.reown_files.specs.declared.stage.Stage.{Stage}
use Rattle.reown_files.proofs.Halves.{all_half}
use Rattle.reown_files.proofs.Replays.{found_held}
use Rattle.reown_files.proofs.Stages.{stage_told, fit_stays}
use Rattle.reown_files.proofs.opening.begun_tree.Goals as goal

pub returns-clause-replayed : goal.returns-clause-replayed
returns-clause-replayed g c =
    let mark = c.args.plan.now in
    let records = map record_of c.args.records.now in
    let owners = c.deref.result.now in
    let same = c.deref.ensures.value in
    let chain = c.begin.ensures.replayed ∙ c.check_all_links.ensures.replayed in
    record {
      owner = λ path.
          ap (λ (m : Mem). (known_mem m).owner path) c.in_ok-held.ensures.starts
          ∙ found_held records owners (cond c.in-Ok.is_marked (Some mark) None) path (ap (λ (os : List Owner). length os) same ∙ c.in_ok-owners.ensures.as_many ∙ sym (length-map c.args.records.now record_of))
          ∙ ap (λ (os : List Owner). found_of records os path) same ∙ sym (c.in_ok-owners.ensures.met path) ∙ sym (ap (λ (k : Held). k.owner path) chain);
      mark =
          ap (λ (m : Mem). m.mark_now) c.in_ok-held.ensures.starts
          ∙ sym (ap (λ (k : Held). k.mark) chain ∙ c.look_at_all.ensures.mark ∙ ap (λ (cs : List Called). (replay cs).mark) c.in-Ok-read_modes.ensures.told ∙ ap (λ (cs : List Called). (replay cs).mark) c.in-Ok.ensures.met);
    }

pub held_tree-requires-clause-halfway : goal.held_tree-requires-clause-halfway
held_tree-requires-clause-halfway g c =
    let records = map record_of c.args.records.now in
    let marked = c.in-Ok.is_marked in
    let begun = c.in-Ok-read_modes.has_modes || c.args.was_begun in
    subst (λ (os : List Owner). AreHalfway records os marked) (sym c.deref.ensures.value)
    (all_half marked begun records c.in_ok-owners.owners.items (subst (λ (s : Stage). AreAllowed s records c.in_ok-owners.owners.items) c.of-stage.ensures c.in_ok-owners.ensures.allowed))

pub returns-clause-fit : goal.returns-clause-fit
returns-clause-fit g c =
    let plan = c.args.plan.now in
    let records = map record_of c.args.records.now in
    let calls = g.D.Disk.calls c.begin.new.disk in
    let chain = c.begin.ensures.replayed ∙ c.check_all_links.ensures.replayed in
    let mark = ap (λ (k : Held). k.mark) chain ∙ c.look_at_all.ensures.mark ∙ ap (λ (cs : List Called). (replay cs).mark) c.in-Ok-read_modes.ensures.told ∙ ap (λ (cs : List Called). (replay cs).mark) c.in-Ok.ensures.met in
    let begun = ap (λ (k : Held). k.begun) chain ∙ c.look_at_all.ensures.begun ∙ ap (λ (cs : List Called). (replay cs).begun) c.in-Ok-read_modes.ensures.told in
    let stage = c.of-stage.ensures ∙ stage_told c.args.was_begun plan c.in-Ok.is_marked c.in-Ok-read_modes.has_modes (replay calls) mark begun in
    subst (λ (s : Stage). MetFit s records calls) stage
    (fit_stays c.of-stage.result records (g.D.Disk.calls c.look_at_all.new.disk) calls chain (record {
      owners = c.in_ok-owners.owners.items;
      as_many = c.in_ok-owners.ensures.as_many ∙ sym (length-map c.args.records.now record_of);
      met = c.in_ok-owners.ensures.met;
      allowed = c.in_ok-owners.ensures.allowed;
    }))
