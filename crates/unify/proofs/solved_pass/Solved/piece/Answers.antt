use Rattle.std.proofs.Common.{◌≡◌, ℕ, List, ◌++◌, drop, length, Ok, Err, sym, subst, arith}
use Rattle.std.specs.Prelude.{IfSome}
use Rattle.hosts_join.specs.declared.host.Host.{Host}
use Rattle.unify_texts.specs.Told.{told}
use Rattle.unify.specs.Passes.{is_read}
use Rattle.unify.specs.PlanTurns.{IsSolving, pass_of, seen}
use Rattle.unify.specs.SecondPass.{IsPlannedSoFar, IsUnfinished, owned_lines, second_lines}
use Rattle.unify.specs.Taken.{Taken}
use Rattle.unify.proofs.SecondPasses.{IsTurnOf, again_stopped, fed_solving, fed_told, for_next, lines_changed, lines_known, stopped_seen, turned, turn_of, was_unmet}
use Rattle.unify.proofs.solved_pass.Solved.piece.Goals as goal
use Rattle.unify.proofs.solved_pass.Solved.piece.Goals.{After-index-host, After-note}

turn_is : (c : After-index-host) → IsTurnOf (pass_of c.self.inside) c.index-host.result.now
turn_is c = turn_of (pass_of c.self.inside) c.index-host.result.now c.self.invariant (rw (← c.self.view_is) at c.requires.left) c.index-host.ensures

pub feed_plan-requires-clause-goes : goal.feed_plan-requires-clause-goes
feed_plan-requires-clause-goes c =
    let taken = c.self.inside.log.taken in
    let is = turn_is (goal.at.feed_plan-requires-clause-goes c).After-index-host in
    λ none. (taken.text, taken.planned, is.inv.turns c.index-host.result.now is.here none)

pub feed_plan-requires-clause-of_site : goal.feed_plan-requires-clause-of_site
feed_plan-requires-clause-of_site c =
    let is = turn_is (goal.at.feed_plan-requires-clause-of_site c).After-index-host in
    record { known = is.inv.behind.whole.known c.self.inside.ended c.index-host.result.now is.here; for_site = is.inv.behind.for_site }

pub returns-in-Err : goal.returns-in-Err
returns-in-Err c =
    let p = pass_of c.self.inside in
    let host = c.index-host.result.now in
    let is = turn_is (goal.at.returns-in-Err c).After-index-host in
    let turn = c.feed_plan.new.turn in
    let text = p.taken.text ++ c.args.bytes.now in
    let Appended : ℕ → Host → Type 0 = λ k h. (more : List ℕ) × (c.feed_plan.new.plan.items ≡ c.args.plan.now.items ++ more) × IsUnfinished h p.joined p.merged k text (p.taken.planned ++ more) in
    record {
      told = rw (← c.self.view_is) (for_next is (λ h. IfSome (told c.stopped.result) (λ f. is_read (second_lines h text) ≡ Err f))
          (λ turns. lines_changed host (owned_lines host text) c.in-Err.stop c.stopped.result c.stopped.ensures (c.in-Err.ensures.told p.taken.text p.taken.planned turns)));
      planned = rw (← c.self.view_is) (for_next is (Appended (length p.taken.ended))
          (λ turns. subst (λ k. Appended k host) (sym c.self.invariant.ended_are) (c.in-Err.ensures.stands p.taken.text p.taken.planned turns)));
      stopped = rw (← c.self.view_is) (stopped_seen is turn c.in-Err.stop c.stopped.result c.in-Err.ensures.stopped c.stopped.ensures);
      again = rw (← c.self.view_is) (again_stopped is turn c.in-Err.stop c.stopped.result (c.feed_plan.new.plan ≡ c.args.plan.now) c.stopped.ensures c.in-Err.ensures.again);
    }

noted : (c : After-note) → c.note.new.self.taken ≡ record c.self.inside.log.taken { text = c.self.inside.log.taken.text ++ c.args.bytes.now; planned = c.self.inside.log.taken.planned ++ drop (length c.args.plan.now.items) c.feed_plan.new.plan.items }
noted c =
    let before : c.len-before.result ≡ length c.args.plan.now.items = omega (arith, c.len-before.ensures, c.args.plan.now.ok.0) in
    rw (before, c.deref.ensures.value) at c.note.ensures

pub invariant_of-self-2 : goal.invariant_of-self-2
invariant_of-self-2 c =
    let p = pass_of c.self.inside in
    let at = goal.at.invariant_of-self-2 c in
    let is = turn_is at.After-index-host in
    let turn = c.feed_plan.new.turn in
    subst (λ (t : Taken). IsSolving (record (turned is turn) { taken = t })) (sym (noted at.After-note))
    (fed_solving is c.in_default.field-0 (turn ≡ p.turn) (c.feed_plan.new.plan ≡ c.args.plan.now) c.in_default.ensures.again turn c.args.bytes.now c.args.plan.now.items c.feed_plan.new.plan.items c.in_default.ensures.stands)

pub returns : goal.returns
returns c =
    let p = pass_of c.self.inside in
    let host = c.index-host.result.now in
    let at = goal.at.returns c in
    let is = turn_is at.After-index-host in
    let bytes = c.args.bytes.now in
    let text = p.taken.text ++ bytes in
    let turn = c.feed_plan.new.turn in
    let old = c.args.plan.now.items in
    let new = c.feed_plan.new.plan.items in
    let u = c.in_default.field-0 in
    let same = turn ≡ p.turn in
    let kept = c.feed_plan.new.plan ≡ c.args.plan.now in
    let again = c.in_default.ensures.again in
    let told = fed_told is u same kept again turn bytes old new c.in_default.ensures.stands c.in_default.ensures.begun in
    let Told : Taken → Host → Type 0 = λ t h. (more : List ℕ) × (new ≡ old ++ more) × (seen (record (turned is turn) { taken = t }) ≡ record (seen p) { text = text; planned = p.taken.planned ++ more }) × IsPlannedSoFar (seen (record (turned is turn) { taken = t })) h in
    record {
      told = rw (← c.self.view_is) (for_next is (λ h. is_read (second_lines h text) ≡ Ok (tt {0}))
          (λ turns. let read = c.in_default.ensures.told p.taken.text p.taken.planned turns in lines_known host (owned_lines host text) read.0 read.1));
      planned = rw (← c.self.view_is) (λ other next.
          let now = for_next is (Told c.note.new.self.taken) (λ turns. subst (λ (t : Taken). Told t host) (sym (noted at.After-note)) told) other next in
          (now.0, now.1, (now.2, now.3)));
      stopped = tt;
      again = rw (← c.self.view_is, was_unmet is u same kept again) tt;
    }
