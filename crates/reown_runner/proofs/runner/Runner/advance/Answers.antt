use Rattle.std.proofs.Common.{◌≡◌, refl, sym, ◌∙◌, ap, subst, Result, Ok, Err, IsOk, ◌≤◌, ◌-◌}
use Rattle.reown_plan.specs.PlanData.{HaveDistinctPaths}
use Rattle.reown_runner.specs.declared.runner.Place.{Place}
use Rattle.reown_runner.specs.declared.runner.Place.TheVariants.{Done}
use Rattle.reown_runner.specs.declared.runner.RunFault.{RunFault}
use Rattle.reown_runner.specs.Tree.{cells_of, Does, IsMarkedOnlyFor}
use Rattle.reown_runner.specs.RunnerData.{RunnerData}
use Rattle.reown_runner.specs.Step.{turn, IsAdvance, IsPlaceOf, IsAsked, advances_left}
use Rattle.reown_runner.proofs.Sound.{sound_after, only_device}
use Rattle.reown_runner.proofs.Histories.{host_advances}
use Rattle.reown_runner.proofs.Count.{nearer, one_nearer, spends, spends_err}
use Rattle.reown_runner.proofs.runner.Runner.advance.Goals as goal

pub returns-in-Ok-clause-step : goal.returns-in-Ok-clause-step
returns-in-Ok-clause-step g c =
    let old = g.T.Tree.known c.args.tree.now in
    subst (λ (w : RunnerData). IsAdvance (turn w.records w.place old.owner (cells_of w.mark old).mark) (λ operation. Does operation (cells_of w.mark old) (cells_of w.mark (g.T.Tree.known c.next_place.new.tree))) (Ok c.in-Ok.place)) c.self.view_is c.in-Ok.ensures.step

pub returns-in-Err-clause-step : goal.returns-in-Err-clause-step
returns-in-Err-clause-step g c =
    let old = g.T.Tree.known c.args.tree.now in
    subst (λ (w : RunnerData). IsAdvance (turn w.records w.place old.owner (cells_of w.mark old).mark) (λ operation. Does operation (cells_of w.mark old) (cells_of w.mark (g.T.Tree.known c.next_place.new.tree))) (Err c.in-Err.fault)) c.self.view_is c.in-Err.ensures.step

pub returns-in-Ok-clause-nearer : goal.returns-in-Ok-clause-nearer
returns-in-Ok-clause-nearer g c =
    let old = g.T.Tree.known c.args.tree.now in
    let step = subst (λ (w : RunnerData). IsAdvance (turn w.records w.place old.owner (cells_of w.mark old).mark) (λ operation. Does operation (cells_of w.mark old) (cells_of w.mark (g.T.Tree.known c.next_place.new.tree))) (Ok c.in-Ok.place)) c.self.view_is c.in-Ok.ensures.step in
    let fits = subst (λ (w : RunnerData). IsPlaceOf w.records w.place) c.self.view_is c.self.invariant.1 in
    subst (λ p. advances_left c.args.self.now.records p ≤ advances_left c.args.self.now.records c.args.self.now.place - 1) (sym step.2) (nearer c.args.self.now.records old.owner c.args.self.now.place (cells_of c.args.self.now.mark old).mark step.0 fits step.1)

pub returns-in-Ok-clause-by_one : goal.returns-in-Ok-clause-by_one
returns-in-Ok-clause-by_one g c = λ unset.
    let old = g.T.Tree.known c.args.tree.now in
    let step = subst (λ (w : RunnerData). IsAdvance (turn w.records w.place old.owner (cells_of w.mark old).mark) (λ operation. Does operation (cells_of w.mark old) (cells_of w.mark (g.T.Tree.known c.next_place.new.tree))) (Ok c.in-Ok.place)) c.self.view_is c.in-Ok.ensures.step in
    let fits = subst (λ (w : RunnerData). IsPlaceOf w.records w.place) c.self.view_is c.self.invariant.1 in
    ap (advances_left c.args.self.now.records) step.2 ∙ one_nearer c.args.self.now.records old.owner c.args.self.now.place (cells_of c.args.self.now.mark old).mark step.0 fits unset step.1

pub returns-in-Ok-clause-safe : goal.returns-in-Ok-clause-safe
returns-in-Ok-clause-safe g c = λ inventory safe.
    let old = g.T.Tree.known c.args.tree.now in
    let new = g.T.Tree.known c.next_place.new.tree in
    let step = subst (λ (w : RunnerData). IsAdvance (turn w.records w.place old.owner (cells_of w.mark old).mark) (λ operation. Does operation (cells_of w.mark old) (cells_of w.mark new)) (Ok c.in-Ok.place)) c.self.view_is c.in-Ok.ensures.step in
    let distinct = subst (λ (w : RunnerData). HaveDistinctPaths w.records) c.self.view_is c.self.invariant.0 in
    sound_after inventory c.args.self.now.records distinct (cells_of c.args.self.now.mark old) (cells_of c.args.self.now.mark new) (g.met.T.Tree.readable c.args.tree.now c.args.self.now.mark) c.args.self.now.place (Ok c.in-Ok.place) safe step

pub returns-in-Err-clause-safe : goal.returns-in-Err-clause-safe
returns-in-Err-clause-safe g c = λ inventory safe.
    let old = g.T.Tree.known c.args.tree.now in
    let new = g.T.Tree.known c.next_place.new.tree in
    let step = subst (λ (w : RunnerData). IsAdvance (turn w.records w.place old.owner (cells_of w.mark old).mark) (λ operation. Does operation (cells_of w.mark old) (cells_of w.mark new)) (Err c.in-Err.fault)) c.self.view_is c.in-Err.ensures.step in
    let distinct = subst (λ (w : RunnerData). HaveDistinctPaths w.records) c.self.view_is c.self.invariant.0 in
    sound_after inventory c.args.self.now.records distinct (cells_of c.args.self.now.mark old) (cells_of c.args.self.now.mark new) (g.met.T.Tree.readable c.args.tree.now c.args.self.now.mark) c.args.self.now.place (Err c.in-Err.fault) safe step

pub returns-in-Err-clause-device : goal.returns-in-Err-clause-device
returns-in-Err-clause-device g c = λ inventory safe.
    let old = g.T.Tree.known c.args.tree.now in
    let new = g.T.Tree.known c.next_place.new.tree in
    let step = subst (λ (w : RunnerData). IsAdvance (turn w.records w.place old.owner (cells_of w.mark old).mark) (λ operation. Does operation (cells_of w.mark old) (cells_of w.mark new)) (Err c.in-Err.fault)) c.self.view_is c.in-Err.ensures.step in
    let distinct = subst (λ (w : RunnerData). HaveDistinctPaths w.records) c.self.view_is c.self.invariant.0 in
    only_device inventory c.args.self.now.records distinct (cells_of c.args.self.now.mark old) (cells_of c.args.self.now.mark new) (g.met.T.Tree.readable c.args.tree.now c.args.self.now.mark) c.args.self.now.place c.in-Err.fault safe step

pub returns-in-Ok-clause-stands : goal.returns-in-Ok-clause-stands
returns-in-Ok-clause-stands g c = λ s stands.
    let old = g.T.Tree.known c.args.tree.now in
    let new = g.T.Tree.known c.next_place.new.tree in
    let step = subst (λ (w : RunnerData). IsAdvance (turn w.records w.place old.owner (cells_of w.mark old).mark) (λ operation. Does operation (cells_of w.mark old) (cells_of w.mark new)) (Ok c.in-Ok.place)) c.self.view_is c.in-Ok.ensures.step in
    let asked = subst (λ (w : RunnerData). IsAsked (turn w.records w.place old.owner (cells_of w.mark old).mark) old.asked new.asked) c.self.view_is c.next_place.ensures.asked in
    let answer : Result Place RunFault = Ok c.in-Ok.place in
    let rests : c.args.self.now.place ≡ Done → IsOk answer × (new.asked ≡ old.asked) = λ done.
    (let h = c.in-Ok.ensures.rests (ap (λ (w : RunnerData). w.place) c.self.view_is ∙ done) in (h.0, ap (λ t. (g.T.Tree.known t).asked) h.1)) in
    host_advances c.args.self.now.mark c.args.self.now.records c.args.self.now.place c.in-Ok.place old new answer refl asked rests step s stands

pub returns-in-Err-clause-stands : goal.returns-in-Err-clause-stands
returns-in-Err-clause-stands g c = λ s stands.
    let old = g.T.Tree.known c.args.tree.now in
    let new = g.T.Tree.known c.next_place.new.tree in
    let step = subst (λ (w : RunnerData). IsAdvance (turn w.records w.place old.owner (cells_of w.mark old).mark) (λ operation. Does operation (cells_of w.mark old) (cells_of w.mark new)) (Err c.in-Err.fault)) c.self.view_is c.in-Err.ensures.step in
    let asked = subst (λ (w : RunnerData). IsAsked (turn w.records w.place old.owner (cells_of w.mark old).mark) old.asked new.asked) c.self.view_is c.next_place.ensures.asked in
    let answer : Result Place RunFault = Err c.in-Err.fault in
    let rests : c.args.self.now.place ≡ Done → IsOk answer × (new.asked ≡ old.asked) = λ done.
    (let h = c.in-Err.ensures.rests (ap (λ (w : RunnerData). w.place) c.self.view_is ∙ done) in (h.0, ap (λ t. (g.T.Tree.known t).asked) h.1)) in
    host_advances c.args.self.now.mark c.args.self.now.records c.args.self.now.place c.args.self.now.place old new answer refl asked rests step s stands

pub returns-in-Ok-clause-spends : goal.returns-in-Ok-clause-spends
returns-in-Ok-clause-spends g c =
    let old = g.T.Tree.known c.args.tree.now in
    let step = subst (λ (w : RunnerData). IsAdvance (turn w.records w.place old.owner (cells_of w.mark old).mark) (λ operation. Does operation (cells_of w.mark old) (cells_of w.mark (g.T.Tree.known c.next_place.new.tree))) (Ok c.in-Ok.place)) c.self.view_is c.in-Ok.ensures.step in
    let fits = subst (λ (w : RunnerData). IsPlaceOf w.records w.place) c.self.view_is c.self.invariant.1 in
    let asked = subst (λ (w : RunnerData). IsAsked (turn w.records w.place old.owner (cells_of w.mark old).mark) old.asked (g.T.Tree.known c.next_place.new.tree).asked) c.self.view_is c.next_place.ensures.asked in
    let near = subst (λ p. advances_left c.args.self.now.records p ≤ advances_left c.args.self.now.records c.args.self.now.place - 1) (sym step.2) (nearer c.args.self.now.records old.owner c.args.self.now.place (cells_of c.args.self.now.mark old).mark step.0 fits step.1) in
    spends c.args.self.now.records old.owner c.args.self.now.place (cells_of c.args.self.now.mark old).mark c.in-Ok.place old.asked (g.T.Tree.known c.next_place.new.tree).asked fits asked near

pub returns-in-Err-clause-spends_err : goal.returns-in-Err-clause-spends_err
returns-in-Err-clause-spends_err g c =
    let old = g.T.Tree.known c.args.tree.now in
    let fits = subst (λ (w : RunnerData). IsPlaceOf w.records w.place) c.self.view_is c.self.invariant.1 in
    let asked = subst (λ (w : RunnerData). IsAsked (turn w.records w.place old.owner (cells_of w.mark old).mark) old.asked (g.T.Tree.known c.next_place.new.tree).asked) c.self.view_is c.next_place.ensures.asked in
    spends_err c.args.self.now.records old.owner c.args.self.now.place (cells_of c.args.self.now.mark old).mark old.asked (g.T.Tree.known c.next_place.new.tree).asked fits asked

pub returns-in-Ok-clause-other : goal.returns-in-Ok-clause-other
returns-in-Ok-clause-other g c = subst (λ (w : RunnerData). IsMarkedOnlyFor w.mark (g.T.Tree.known c.args.tree.now) (g.T.Tree.known c.next_place.new.tree)) c.self.view_is c.next_place.ensures.other

pub returns-in-Err-clause-other : goal.returns-in-Err-clause-other
returns-in-Err-clause-other g c = subst (λ (w : RunnerData). IsMarkedOnlyFor w.mark (g.T.Tree.known c.args.tree.now) (g.T.Tree.known c.next_place.new.tree)) c.self.view_is c.next_place.ensures.other
