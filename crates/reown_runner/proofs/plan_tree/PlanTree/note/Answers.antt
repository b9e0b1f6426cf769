use Rattle.std.proofs.Common.{◌≡◌, Some, None, not, set, get_or, sym, ap, subst, ◌∙◌}
use Rattle.std.specs.List.{position}
use Rattle.std.specs.Str.{bytes_eq}
use Rattle.std.proofs.lemmas.List.{get_or_default}
use Rattle.reown_plan.specs.Owners.{owner_of}
use Rattle.reown_plan.specs.Places.{AreDistinctPaths}
use Rattle.reown_plan.proofs.Repeats.{distinct_paths}
use Rattle.reown_runner.specs.PlanTree.{FilesOfPlan}
use Rattle.reown_runner.proofs.PlanTrees.{none_of, some_of, noted_none, noted_there, noted_new, with_none, with_there, with_new}
use Rattle.reown_runner.proofs.plan_tree.PlanTree.note.Goals as goal

pub returns-in_default-clause-found : goal.returns-in_default-clause-found
returns-in_default-clause-found c = λ files is.
    let t = c.args.self.now in
    let at = ap (λ p. position (bytes_eq p) t.paths) (sym c.bytes.ensures) ∙ sym c.in_default.ensures.place in
    c.in_default.ensures.same ∙ noted_none t files c.args.file.now is at

pub returns-then-is_none-clause-found : goal.returns-then-is_none-clause-found
returns-then-is_none-clause-found c = λ files is.
    let t = c.args.self.now in
    let file = c.args.file.now in
    let place = c.in-Some.place in
    let found = c.in-Some.ensures in
    let view = c.self.view_is ∙ found.same in
    let distinct = subst AreDistinctPaths (ap (λ (x : FilesOfPlan). x.paths) view) (distinct_paths c.self.inside.plan.now.records c.self.invariant.1) in
    let at = ap (λ p. position (bytes_eq p) t.paths) (sym c.bytes.ensures) ∙ sym found.place in
    let none = none_of c.index.result.now (c.is_none.ensures ∙ ap not c.if-is_none.true) in
    let was : get_or t.owners place None ≡ None =
    get_or_default t.owners place None c.index.result.now found.within ∙ ap (λ (x : FilesOfPlan). get_or x.owners place c.index.result.now) (sym view) ∙ sym c.index.ensures ∙ none in
    ap (λ (x : FilesOfPlan). record x { owners = set x.owners place (Some (owner_of file)) }) view ∙ noted_new t files file is distinct place at was

pub returns-else-is_none-clause-found : goal.returns-else-is_none-clause-found
returns-else-is_none-clause-found c = λ files is.
    let t = c.args.self.now in
    let place = c.in-Some.place in
    let found = c.in-Some.ensures in
    let view = c.self.view_is ∙ found.same in
    let distinct = subst AreDistinctPaths (ap (λ (x : FilesOfPlan). x.paths) view) (distinct_paths c.self.inside.plan.now.records c.self.invariant.1) in
    let at = ap (λ p. position (bytes_eq p) t.paths) (sym c.bytes.ensures) ∙ sym found.place in
    let there = some_of c.index.result.now (c.is_none.ensures ∙ ap not c.if-is_none.false) in
    let was : get_or t.owners place None ≡ Some there.0 =
    get_or_default t.owners place None c.index.result.now found.within ∙ ap (λ (x : FilesOfPlan). get_or x.owners place c.index.result.now) (sym view) ∙ sym c.index.ensures ∙ there.1 in
    found.same ∙ noted_there t files c.args.file.now is distinct place there.0 at was

pub returns-in_default-clause-noted : goal.returns-in_default-clause-noted
returns-in_default-clause-noted c =
    let t = c.args.self.now in
    let at = ap (λ p. position (bytes_eq p) t.paths) (sym c.bytes.ensures) ∙ sym c.in_default.ensures.place in
    c.in_default.ensures.same ∙ with_none t c.args.file.now at

pub returns-then-is_none-clause-noted : goal.returns-then-is_none-clause-noted
returns-then-is_none-clause-noted c =
    let t = c.args.self.now in
    let file = c.args.file.now in
    let place = c.in-Some.place in
    let found = c.in-Some.ensures in
    let view = c.self.view_is ∙ found.same in
    let at = ap (λ p. position (bytes_eq p) t.paths) (sym c.bytes.ensures) ∙ sym found.place in
    let none = none_of c.index.result.now (c.is_none.ensures ∙ ap not c.if-is_none.true) in
    let was : get_or t.owners place None ≡ None =
    get_or_default t.owners place None c.index.result.now found.within ∙ ap (λ (x : FilesOfPlan). get_or x.owners place c.index.result.now) (sym view) ∙ sym c.index.ensures ∙ none in
    ap (λ (x : FilesOfPlan). record x { owners = set x.owners place (Some (owner_of file)) }) view ∙ with_new t file place at was

pub returns-else-is_none-clause-noted : goal.returns-else-is_none-clause-noted
returns-else-is_none-clause-noted c =
    let t = c.args.self.now in
    let place = c.in-Some.place in
    let found = c.in-Some.ensures in
    let view = c.self.view_is ∙ found.same in
    let at = ap (λ p. position (bytes_eq p) t.paths) (sym c.bytes.ensures) ∙ sym found.place in
    let there = some_of c.index.result.now (c.is_none.ensures ∙ ap not c.if-is_none.false) in
    let was : get_or t.owners place None ≡ Some there.0 =
    get_or_default t.owners place None c.index.result.now found.within ∙ ap (λ (x : FilesOfPlan). get_or x.owners place c.index.result.now) (sym view) ∙ sym c.index.ensures ∙ there.1 in
    found.same ∙ with_there t c.args.file.now place at there.0 was
