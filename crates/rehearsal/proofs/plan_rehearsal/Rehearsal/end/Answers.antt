use Rattle.std.proofs.Common.{ap, sym, ◌∙◌}
use Rattle.reown_plan.specs.PlanData.{PlanData}
use Rattle.reown_plan.specs.Places.{paths_in}
use Rattle.reown_runner.specs.PlanTree.{found_among}
use Rattle.rehearsal.proofs.PlanRehearsals.{all_noted}
use Rattle.rehearsal.proofs.plan_rehearsal.Rehearsal.end.Goals as goal

pub carry_out-requires : goal.carry_out-requires
carry_out-requires c =
    let text = c.requires.1 in
    let s = c.requires.2 in
    let paths = paths_in c.args.self.now.plan.now.records in
    let found = s.found ∙ ap (λ (p : PlanData). found_among c.args.self.now.reader.files (paths_in p.records)) (sym s.lent) in
    let all = all_noted c.args.self.now.reader c.finish.new.self text c.args.self.now.tree c.note_waiting.new.tree paths s.sound s.takes s.waiting (c.in-Ok.ensures.told text s.reading) c.in-Ok.ensures.grow found c.note_waiting.ensures.noted in
    (all.files, all.few, all.noted)
