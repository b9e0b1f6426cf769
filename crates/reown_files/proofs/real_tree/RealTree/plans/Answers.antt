use Rattle.std.proofs.Common.{◌≡◌, ◌∙◌, ℕ, List, Option, None, Some, map, slice_get, sym, ap}
use Rattle.std.specs.List.{position}
use Rattle.std.specs.Option.{option_and_then}
use Rattle.std.specs.Str.{bytes_eq}
use Rattle.reown_plan.specs.PlanData.{PlanRecord}
use Rattle.reown_plan.specs.Records.{record_of}
use Rattle.reown_files.specs.Real.{RealData}
use Rattle.reown_files.specs.Lawful.{is_planned}
use Rattle.reown_files.proofs.real_tree.RealTree.plans.Goals as goal

pub returns-in-Some-clause-planned : goal.returns-in-Some-clause-planned
returns-in-Some-clause-planned g c = λ e.
    ap (λ (r : RealData). is_planned r.records c.args.path.now c.args.before c.args.after) (sym c.self.view_is) ∙ c.has_change.ensures.planned e

pub returns-in-Some-clause-outside : goal.returns-in-Some-clause-outside
returns-in-Some-clause-outside g c = λ e i r at here.
    let records = map record_of c.self.inside.records.now in
    let same = ap (λ (d : RealData). d.records) c.self.view_is in
    let path = λ (r : PlanRecord). r.path in
    let found : position (bytes_eq c.args.path.now) (map path records) ≡ Some c.in-Some.i =
    ap (position (bytes_eq c.args.path.now)) (sym c.self.invariant.0) ∙ sym c.index_of.ensures.place ∙ c.in-Some.is in
    let there : position (bytes_eq c.args.path.now) (map path records) ≡ Some i = ap (λ (rs : List PlanRecord). position (bytes_eq c.args.path.now) (map path rs)) same ∙ at in
    let one : slice_get records c.in-Some.i ≡ slice_get records i = ap (λ (o : Option ℕ). option_and_then (slice_get records) o) (sym found ∙ there) in
    c.has_change.ensures.other e r (one ∙ ap (λ (rs : List PlanRecord). slice_get rs i) same ∙ here)

pub returns-in-None-clause-outside : goal.returns-in-None-clause-outside
returns-in-None-clause-outside g c = λ e i r at here.
    let records = map record_of c.self.inside.records.now in
    let same = ap (λ (d : RealData). d.records) c.self.view_is in
    let path = λ (r : PlanRecord). r.path in
    let found : position (bytes_eq c.args.path.now) (map path records) ≡ None =
    ap (position (bytes_eq c.args.path.now)) (sym c.self.invariant.0) ∙ sym c.index_of.ensures.place ∙ c.in-None.is in
    absurd (let none : Some i ≡ None = sym (ap (λ (rs : List PlanRecord). position (bytes_eq c.args.path.now) (map path rs)) same ∙ at) ∙ found in cc)
