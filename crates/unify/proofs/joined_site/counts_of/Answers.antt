use Rattle.std.proofs.Common.{◌≡◌, ◌<◌, ◌≤◌, ℕ, List, Ok, length, get_or, refl, sym, ap, subst, ◌∙◌, arith}
use Rattle.std.proofs.lemmas.List.{take_all}
use Rattle.std.proofs.lemmas.Option.{slice_get_read}
use Rattle.hosts_join.specs.Site.{Joined}
use Rattle.mtree_inv.specs.declared.entry.Entry.{Entry}
use Rattle.hosts_join.specs.declared.host.Host.{Host}
use Rattle.ownership.specs.Counts as counters
use Rattle.ownership.specs.Counts.{Counted}
use Rattle.site_tables.specs.Begun.{AreTogether}
use Rattle.unify.specs.Passes.{read_in}
use Rattle.unify.specs.Reading.{added_from}
use Rattle.unify.specs.RowFiles.{RowFiles}
use Rattle.unify.specs.Turns.{Pass, pass_of, seen}
use Rattle.unify.proofs.BetweenPasses.{few_here, files_before, files_here, more_files, of_host, room_before, row_counts}
use Rattle.unify.proofs.Ended.{IsOver, files_at, read_length}
use Rattle.unify.proofs.joined_site.counts_of.Goals as goal

-- the counters are those of the hosts before the index
abbrev AreCountersBefore : Pass → Joined → Counted → ℕ → Type 0
AreCountersBefore p site counts index = (read : List (Host × List Entry)) → read_in (seen p) ≡ Ok read → counters.StandsFor site counts (files_before read index)

pub add_host-requires-clause-counted : goal.add_host-requires-clause-counted
add_host-requires-clause-counted c =
    let p = pass_of c.inventories.inside in
    let over : IsOver (seen p) = rw (← c.inventories.view_is) at c.requires.none_left in
    let site = c.args.site.now in
    let index = c.loop-index.index in
    let host = c.index-host.result.now in
    let rows = c.rows-item.result in
    let rows_are = c.rows-item.is ∙ ap (λ (rs : List RowFiles). get_or rs index rows) c.deref-rows-items.ensures.value in
    let left : index < length p.passed = omega (arith, c.loop-index-test.true, ap length c.deref-rows-items.ensures.value) in
    let users = c.as_slice.ensures.value ∙ ap (λ (r : RowFiles). r.users) c.rows.view_is in
    let groups = c.as_slice-in-loop-index.ensures.value ∙ ap (λ (r : RowFiles). r.groups) c.rows.view_is in
    let inv = c.inventories.invariant.counting in
    let read = inv.read in
    let at = files_at p inv over read inv.accepted index host rows left c.index-host.ensures rows_are in
    (files_here index host rows read at, of_host index host rows read at, row_counts index host rows read at c.as_slice.result.now c.as_slice-in-loop-index.result.now users groups, few_here index host rows read at)

pub add_host-requires-clause-known : goal.add_host-requires-clause-known
add_host-requires-clause-known c =
    let p = pass_of c.inventories.inside in
    let over : IsOver (seen p) = rw (← c.inventories.view_is) at c.requires.none_left in
    let index = c.loop-index.index in
    let host = c.index-host.result.now in
    let together : AreTogether p.hosts c.args.site.now = rw (← c.inventories.view_is) at c.requires.together in
    let left : index < length p.passed = omega (arith, c.loop-index-test.true, ap length c.deref-rows-items.ensures.value) in
    let within : index < length p.hosts = omega (arith, left, c.inventories.invariant.counting.ended_are, over) in
    together.known index host (slice_get_read p.hosts (length p.hosts) index host refl within c.index-host.ensures)

pub add_host-requires-clause-room : goal.add_host-requires-clause-room
add_host-requires-clause-room c =
    let p = pass_of c.inventories.inside in
    let over : IsOver (seen p) = rw (← c.inventories.view_is) at c.requires.none_left in
    let site = c.args.site.now in
    let index = c.loop-index.index in
    let so_far : AreCountersBefore p site c.loop-index.counting index = rw (← c.inventories.view_is) at c.loop-index.invariant.counted in
    let together : AreTogether p.hosts site = rw (← c.inventories.view_is) at c.requires.together in
    let inv = c.inventories.invariant.counting in
    room_before (seen p) site c.loop-index.counting inv.read index over inv.accepted together.few (so_far inv.read inv.accepted)

pub loop-index-preserved : goal.loop-index-preserved
loop-index-preserved c =
    let p = pass_of c.inventories.inside in
    let over : IsOver (seen p) = rw (← c.inventories.view_is) at c.requires.none_left in
    let site = c.args.site.now in
    let index = c.loop-index.index in
    let so_far : AreCountersBefore p site c.loop-index.counting index = rw (← c.inventories.view_is) at c.loop-index.invariant.counted in
    let host = c.index-host.result.now in
    let rows = c.rows-item.result in
    let rows_are = c.rows-item.is ∙ ap (λ (rs : List RowFiles). get_or rs index rows) c.deref-rows-items.ensures.value in
    let left : index < length p.passed = omega (arith, c.loop-index-test.true, ap length c.deref-rows-items.ensures.value) in
    let users = c.as_slice.ensures.value ∙ ap (λ (r : RowFiles). r.users) c.rows.view_is in
    let groups = c.as_slice-in-loop-index.ensures.value ∙ ap (λ (r : RowFiles). r.groups) c.rows.view_is in
    record {
      made = c.add_host.ensures.made;
      counted = rw (← c.inventories.view_is) (λ read are.
          let at = files_at p c.inventories.invariant.counting over read are index host rows left c.index-host.ensures rows_are in
          subst (counters.StandsFor site c.add_host.new.self) (sym (more_files index host rows read at))
          (c.in_ok-add_host.ensures.added (files_before read index) (files_here index host rows read at) (so_far read are) (of_host index host rows read at) (row_counts index host rows read at c.as_slice.result.now c.as_slice-in-loop-index.result.now users groups)));
    }

pub returns-clause-made : goal.returns-clause-made
returns-clause-made c = c.finish.ensures.made c.args.site.now c.loop-index.invariant.made

pub returns-clause-counted : goal.returns-clause-counted
returns-clause-counted c =
    let p = pass_of c.inventories.inside in
    let over : IsOver (seen p) = rw (← c.inventories.view_is) at c.requires.none_left in
    let site = c.args.site.now in
    let index = c.loop-index.index in
    let so_far : AreCountersBefore p site c.loop-index.counting index = rw (← c.inventories.view_is) at c.loop-index.invariant.counted in
    rw (← c.inventories.view_is) (λ read are.
    let all : length read ≤ index = omega (arith, read_length (seen p) read over are, c.inventories.invariant.counting.ended_are, over, c.loop-index-test.false, ap length c.deref-rows-items.ensures.value) in
    c.finish.ensures.counted site (added_from 0 read)
    (subst (λ (hs : List (Host × List Entry)). counters.StandsFor site c.loop-index.counting (added_from 0 hs)) (take_all index read all) (so_far read are)))
