use Rattle.std.proofs.Common.{◌≡◌, ◌+◌, ◌<◌, ◌≤◌, ℕ, List, length, get_or, Ok, refl, ap, ◌∙◌, arith}
use Rattle.std.proofs.lemmas.List.{take_all}
use Rattle.mtree_inv.specs.declared.entry.Entry.{Entry}
use Rattle.hosts_join.specs.declared.host.Host.{Host}
use Rattle.unify.specs.declared.counting.Cost.{Cost}
use Rattle.unify_texts.specs.declared.map_text.MapText.{MapText}
use Rattle.unify.specs.Cost.{cost_of}
use Rattle.site_tables.specs.Loading.{loaded_from}
use Rattle.unify.specs.Passes.{read_in}
use Rattle.unify.specs.RowFiles.{RowFiles}
use Rattle.unify.specs.Turns.{Pass, pass_of, seen}
use Rattle.unify.proofs.Ended.{AreFilesAt, IsOver, cost_before, cost_room, files_at, one_host_more, read_length}
use Rattle.unify.proofs.Sites.{total_is}
use Rattle.unify.proofs.map_cost.MappedSite.cost.Goals as goal
use Rattle.unify.proofs.map_cost.MappedSite.cost.Goals.{After-fields_on-here, After-index}

-- the cost is that of the hosts before the index
abbrev IsCostBefore : Pass → MapText → Cost → ℕ → Type 0
IsCostBefore p names cost index = (read : List (Host × List Entry)) → read_in (seen p) ≡ Ok read → cost ≡ cost_before names read index

pub loop-index-init : goal.loop-index-init
loop-index-init c = λ read are. refl

-- the files of the host at the index
files_on : (c : After-index) (read : List (Host × List Entry)) → read_in (seen (pass_of c.self.inside.0.0)) ≡ Ok read → AreFilesAt read c.loop-index.index c.index.result.now c.rows-item.result
files_on c read are =
    let p = pass_of c.self.inside.0.0 in
    let over : IsOver (seen p) = rw (← c.self.view_is) at c.requires.none_left in
    let index = c.loop-index.index in
    let rows_are = c.rows-item.is ∙ ap (λ (rs : List RowFiles). get_or rs index c.rows-item.result) c.deref-rows-items.ensures.value in
    let left : index < length p.passed = omega (arith, c.loop-index-test.true, ap length c.deref-rows-items.ensures.value) in
    files_at p c.self.invariant.counting over read are index c.index.result.now c.rows-item.result left c.index.ensures rows_are

pub fields_on-here-requires-clause-counted : goal.fields_on-here-requires-clause-counted
fields_on-here-requires-clause-counted c =
    let inv = c.self.invariant.counting in
    let at = files_on (goal.at.fields_on-here-requires-clause-counted c).After-index inv.read inv.accepted in
    (at.files, at.rows_are, at.few)

-- there is room for what changes on it
room : (c : After-fields_on-here) → AreFilesAt c.self.invariant.counting.read c.loop-index.index c.index.result.now c.rows-item.result → (c.loop-index.cost.users + c.fields_on-here.result.users ≤ 1073741824) × (c.loop-index.cost.groups + c.fields_on-here.result.groups ≤ 1073741824)
room c at =
    let p = pass_of c.self.inside.0.0 in
    let over : IsOver (seen p) = rw (← c.self.view_is) at c.requires.none_left in
    let names = c.self.inside.0.1.0 in
    let so_far : IsCostBefore p names c.loop-index.cost c.loop-index.index = rw (← c.self.view_is) at c.loop-index.invariant in
    let inv = c.self.invariant.counting in
    cost_room names inv.read c.loop-index.index c.index.result.now c.rows-item.result c.loop-index.cost c.fields_on-here.result at (so_far inv.read inv.accepted) (c.fields_on-here.ensures at.files at.rows_are) (loaded_from p.hosts p.taken.ended) inv.accepted (omega (arith, read_length (seen p) inv.read over inv.accepted, inv.few))

pub overflow_add-cost : goal.overflow_add-cost
overflow_add-cost c =
    let at = goal.at.overflow_add-cost c in
    let inv = c.self.invariant.counting in
    omega (arith, (room at.After-fields_on-here (files_on at.After-index inv.read inv.accepted)).0)

pub overflow_add-cost-in-loop-index : goal.overflow_add-cost-in-loop-index
overflow_add-cost-in-loop-index c =
    let at = goal.at.overflow_add-cost-in-loop-index c in
    let inv = c.self.invariant.counting in
    omega (arith, (room at.After-fields_on-here (files_on at.After-index inv.read inv.accepted)).1)

pub loop-index-preserved : goal.loop-index-preserved
loop-index-preserved c =
    let p = pass_of c.self.inside.0.0 in
    let index = c.loop-index.index in
    let names = c.self.inside.0.1.0 in
    let so_far : IsCostBefore p names c.loop-index.cost index = rw (← c.self.view_is) at c.loop-index.invariant in
    rw (← c.self.view_is) (λ read are.
    let at = files_on (goal.at.loop-index-preserved c).After-index read are in
    one_host_more names read index c.index.result.now c.rows-item.result c.loop-index.cost c.fields_on-here.result at (so_far read are) (c.fields_on-here.ensures at.files at.rows_are))

pub returns : goal.returns
returns c =
    let p = pass_of c.self.inside.0.0 in
    let over : IsOver (seen p) = rw (← c.self.view_is) at c.requires.none_left in
    let index = c.loop-index.index in
    let names = c.self.inside.0.1.0 in
    let so_far : IsCostBefore p names c.loop-index.cost index = rw (← c.self.view_is) at c.loop-index.invariant in
    let inv = c.self.invariant.counting in
    let all : length inv.read ≤ index = omega (arith, read_length (seen p) inv.read over inv.accepted, inv.ended_are, over, c.loop-index-test.false, ap length c.deref-rows-items.ensures.value) in
    rw (← c.self.view_is) (total_is names (read_in (seen p)) inv.read c.loop-index.cost inv.accepted (so_far inv.read inv.accepted ∙ ap (cost_of names) (take_all index inv.read all)))
