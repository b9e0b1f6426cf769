use Rattle.std.proofs.Common.{◌<◌, map, length, sym, ap, subst, ◌∙◌, arith}
use Rattle.std.specs.List.{position}
use Rattle.std.specs.Str.{bytes_eq}
use Rattle.std.specs.Cmp.Lexicographic.{bytes_decides}
use Rattle.std.proofs.lemmas.List.{length-map}
use Rattle.reown_plan.specs.PlanData.{PlanData, PlanRecord}
use Rattle.reown_plan.specs.Places.{paths_in, AreDistinctPaths}
use Rattle.reown_plan.specs.Records.{record_of}
use Rattle.reown_plan.proofs.Bisection.{place_is}
use Rattle.reown_plan.proofs.Repeats.{distinct_paths, path_there}
use Rattle.reown_plan.proofs.plan.Plan.place_of.Goals as goal

pub find_place-requires-clause-distinct : goal.find_place-requires-clause-distinct
find_place-requires-clause-distinct c =
    subst (λ rs. AreDistinctPaths (paths_in (map record_of rs))) (sym c.deref-in_default.ensures.value) (distinct_paths (map record_of c.self.inside.records.items) c.self.invariant.0)

pub returns-in-Some-clause-place : goal.returns-in-Some-clause-place
returns-in-Some-clause-place c =
    let items = c.self.inside.records.items in
    let slice = c.deref.result.now in
    let planned = c.in-Some.planned.now in
    let look = c.in-Some.ensures.lookup in
    let distinct : AreDistinctPaths (paths_in (map record_of slice)) = subst (λ rs. AreDistinctPaths (paths_in (map record_of rs))) (sym c.deref.ensures.value) (distinct_paths (map record_of items) c.self.invariant.0) in
    let same = path_there slice c.args.likely planned look.3.0 look.1 ∙ (bytes_decides planned.path.now c.args.path.now).0 (sym c.eq.ensures ∙ c.if-eq.true) in
    let below : c.args.likely < length (paths_in (map record_of slice)) = omega (arith, length-map slice record_of, length-map (map record_of slice) (λ (r : PlanRecord). r.path), look.3.0) in
    let found = place_is (paths_in (map record_of slice)) c.args.path.now distinct c.args.likely below same in
    sym (ap (λ (p : PlanData). position (bytes_eq c.args.path.now) (paths_in p.records)) (sym c.self.view_is)
    ∙ ap (λ rs. position (bytes_eq c.args.path.now) (paths_in (map record_of rs))) (sym c.deref.ensures.value) ∙ found)
