use Rattle.std.proofs.Common.{◌≡◌, ℕ, ◌+◌, List, [], ◌++◌, length, Some, Ok, refl, sym, ap, subst, ◌∙◌, append_assoc}
use Rattle.std.specs.Prelude.{IfSome}
use Rattle.std.specs.List.{slice_get}
use Rattle.mtree_inv.specs.declared.entry.Entry.{Entry}
use Rattle.hosts_join.specs.declared.host.Host.{Host}
use Rattle.reown_plan.specs.Spelling.{end}
use Rattle.unify_texts.specs.Told.{told}
use Rattle.unify_texts.specs.declared.fault.Fault.TheVariants.{InventoryChanged, Memory}
use Rattle.unify.specs.declared.plan_turn.Stop.TheVariants as stop
use Rattle.unify.specs.PlanTurns.{IsSolving, TurnsFor, pass_of, seen}
use Rattle.unify.specs.RowFiles.{row_files}
use Rattle.unify.specs.SecondPass.{HaveSameCounts, IsUnfinished, WereFirst, second_files, whole_plan}
use Rattle.unify.specs.Taken.{Taken}
use Rattle.unify.proofs.SecondPasses.{IsTurnOf, accepted_unfinished, accepted_whole, after_seen, after_solving, again_stopped, changed_told, first_rows, for_next, fresh_turn, stopped_seen, turn_of, was_unmet}
use Rattle.unify.proofs.solved_pass.Solved.end_host.Goals as goal
use Rattle.unify.proofs.solved_pass.Solved.end_host.Goals.{After-index-host, After-note}

turn_is : (c : After-index-host) → IsTurnOf (pass_of c.self.inside) c.index-host.result.now
turn_is c = turn_of (pass_of c.self.inside) c.index-host.result.now c.self.invariant (rw (← c.self.view_is) at c.requires.left) c.index-host.ensures

pub finish_plan-requires-clause-goes : goal.finish_plan-requires-clause-goes
finish_plan-requires-clause-goes c =
    let taken = c.self.inside.log.taken in
    let is = turn_is (goal.at.finish_plan-requires-clause-goes c).After-index-host in
    λ none. (taken.text, taken.planned, is.inv.turns c.index-host.result.now is.here none)

pub finish_plan-requires-clause-of_site : goal.finish_plan-requires-clause-of_site
finish_plan-requires-clause-of_site c =
    let is = turn_is (goal.at.finish_plan-requires-clause-of_site c).After-index-host in
    record { known = is.inv.behind.whole.known c.self.inside.ended c.index-host.result.now is.here; for_site = is.inv.behind.for_site }

pub returns-in-Err : goal.returns-in-Err
returns-in-Err c =
    let p = pass_of c.self.inside in
    let host = c.index-host.result.now in
    let is = turn_is (goal.at.returns-in-Err c).After-index-host in
    let turn = c.finish_plan.new.turn in
    let Differ : Host → List Entry → Type 0 = λ h were. (files : List Entry) → second_files h p.taken.text ≡ Ok files → HaveSameCounts h were files → ⊥ in
    let Appended : ℕ → Host → Type 0 = λ k h. (more : List ℕ) × (c.finish_plan.new.plan.items ≡ c.args.plan.now.items ++ more) × IsUnfinished h p.joined p.merged k p.taken.text (p.taken.planned ++ more) in
    record {
      told = rw (← c.self.view_is) (λ other were next. for_next is (λ h. WereFirst (seen p) h were → IfSome (told c.stopped.result) (λ f. (f ≡ InventoryChanged h.name) × Differ h were))
          (λ turns first. changed_told host c.in-Err.stop c.stopped.result (Differ host were) c.stopped.ensures
          (c.in-Err.ensures.told p.taken.text p.taken.planned were turns (first_rows is c.index-first.result.now were c.index-first.ensures first))) other next);
      planned = rw (← c.self.view_is) (for_next is (Appended (length p.taken.ended))
          (λ turns. subst (λ k. Appended k host) (sym c.self.invariant.ended_are) (c.in-Err.ensures.stands p.taken.text p.taken.planned turns)));
      ended = tt;
      stopped = rw (← c.self.view_is) (stopped_seen is turn c.in-Err.stop c.stopped.result c.in-Err.ensures.stopped c.stopped.ensures);
      again = rw (← c.self.view_is) (again_stopped is turn c.in-Err.stop c.stopped.result (c.finish_plan.new.plan ≡ c.args.plan.now) c.stopped.ensures c.in-Err.ensures.again);
    }

pub returns-in-Err-next_turn : goal.returns-in-Err-next_turn
returns-in-Err-next_turn c =
    let p = pass_of c.self.inside in
    let host = c.index-host.result.now in
    let is = turn_is (goal.at.returns-in-Err-next_turn c).After-index-host in
    let Appended : ℕ → Host → Type 0 = λ k h. (more : List ℕ) × (c.next_turn.new.plan.items ≡ c.args.plan.now.items ++ more) × IsUnfinished h p.joined p.merged k p.taken.text (p.taken.planned ++ more) in
    record {
      told = λ other were next first. tt;
      planned = rw (← c.self.view_is) (for_next is (Appended (length p.taken.ended))
          (λ turns. subst (λ k. Appended k host) (sym c.self.invariant.ended_are)
          (let so_far = c.in_default.ensures.stands p.taken.text p.taken.planned turns in (so_far.0, c.in-Err-next_turn.ensures.plan ∙ so_far.1, accepted_unfinished host p.joined p.merged p.ended p.taken.text (p.taken.planned ++ so_far.0) so_far.2))));
      ended = tt;
      stopped = rw (← c.self.view_is) (stopped_seen is (record c.next_turn.new.turn { stop = Some stop.Memory }) stop.Memory Memory refl refl);
      again = rw (← c.self.view_is, was_unmet is c.in_default.field-0 (c.finish_plan.new.turn ≡ p.turn) (c.finish_plan.new.plan ≡ c.args.plan.now) c.in_default.ensures.again) tt;
    }

fresh : (c : After-note) → (next : Host) → slice_get (pass_of c.self.inside).hosts (c.self.inside.ended + 1) ≡ Some next
    → TurnsFor next (pass_of c.self.inside).joined (pass_of c.self.inside).merged (c.self.inside.ended + 1) c.next_turn.new.turn [] []
fresh c next at =
    let p = pass_of c.self.inside in
    let turn = c.next_turn.new.turn in
    let rows : (next : Host) → slice_get p.hosts (p.ended + 1) ≡ Some next → turn.rows ≡ row_files next [] = rw c.as_slice.ensures.value at c.in_default-next_turn.ensures.rows in
    fresh_turn next p.joined p.merged (p.ended + 1) turn c.in_default-next_turn.ensures.fresh (rows next at)

pub invariant_of-self-2 : goal.invariant_of-self-2
invariant_of-self-2 c =
    let p = pass_of c.self.inside in
    let at = goal.at.invariant_of-self-2 c in
    let turn = c.next_turn.new.turn in
    subst (λ (t : Taken). IsSolving (record p { ended = p.ended + 1; turn = turn; taken = t })) (sym c.note.ensures)
    (after_solving (turn_is at.After-index-host) c.in_default.field-0 (c.finish_plan.new.turn ≡ p.turn) (c.finish_plan.new.plan ≡ c.args.plan.now) c.in_default.ensures.again turn (fresh at.After-note))

pub returns : goal.returns
returns c =
    let p = pass_of c.self.inside in
    let host = c.index-host.result.now in
    let at = goal.at.returns c in
    let is = turn_is at.After-index-host in
    let turn = c.next_turn.new.turn in
    let u = c.in_default.field-0 in
    let same = c.finish_plan.new.turn ≡ p.turn in
    let kept = c.finish_plan.new.plan ≡ c.args.plan.now in
    let again = c.in_default.ensures.again in
    let Appended : ℕ → Host → Type 0 = λ k h. (more : List ℕ) × (c.next_turn.new.plan.items ≡ c.args.plan.now.items ++ more)
    × ((files : List Entry) × (second_files h p.taken.text ≡ Ok files) × (p.taken.planned ++ more ≡ whole_plan h p.joined p.merged k files)) in
    record {
      told = rw (← c.self.view_is) (λ other were next. for_next is (λ h. WereFirst (seen p) h were → (files : List Entry) × (second_files h p.taken.text ≡ Ok files) × HaveSameCounts h were files)
          (λ turns first. c.in_default.ensures.told p.taken.text p.taken.planned were turns (first_rows is c.index-first.result.now were c.index-first.ensures first)) other next);
      planned = rw (← c.self.view_is) (for_next is (Appended (length p.taken.ended))
          (λ turns. subst (λ k. Appended k host) (sym c.self.invariant.ended_are)
          (let so_far = c.in_default.ensures.stands p.taken.text p.taken.planned turns in
          (so_far.0 ++ end, c.in_default-next_turn.ensures.plan ∙ ap (λ t. t ++ end) so_far.1 ∙ append_assoc c.args.plan.now.items so_far.0 end, (so_far.2.files, so_far.2.are, accepted_whole host p.joined p.merged p.ended p.taken.text p.taken.planned so_far.0 so_far.2)))));
      ended = rw (← c.self.view_is) (ap (λ (t : Taken). seen (record p { ended = p.ended + 1; turn = turn; taken = t })) c.note.ensures ∙ after_seen is u same kept again turn (fresh at.After-note) c.in_default-next_turn.ensures.fresh.goes);
      stopped = tt;
      again = rw (← c.self.view_is, was_unmet is u same kept again) tt;
    }
