use Rattle.std.proofs.Common.{◌≡◌, ◌++◌, Ok, Err, sym, ap, subst, ◌∙◌, arith}
use Rattle.std.specs.Prelude.{IfSome}
use Rattle.std.proofs.lemmas.Result.{err_from_is_err_and}
use Rattle.unify_texts.specs.Told.{told}
use Rattle.site_tables.specs.Hosts.{lines_of}
use Rattle.unify.specs.Passes.{is_read}
use Rattle.unify.specs.Taken.{Taken}
use Rattle.unify.specs.Turns.{AreComing, pass_of, seen}
use Rattle.unify.proofs.Passing.{IsTurnOf, again_as, fed_coming, fed_seen, for_next, going, met_new, refused_coming, turned, turn_of, was_unmet}
use Rattle.unify.proofs.inventories.Inventories.piece.Goals as goal
use Rattle.unify.proofs.inventories.Inventories.piece.Goals.{After-index-host}

turn_is : (c : After-index-host) → IsTurnOf (pass_of c.self.inside) c.index-host.result.now
turn_is c = turn_of (pass_of c.self.inside) c.len-index.result c.index-host.result.now c.self.invariant (omega (arith, c.len-index.ensures, c.self.inside.passed.ok.0)) (rw (← c.self.view_is) at c.requires.left) c.index-host.ensures

pub feed_turn-requires : goal.feed_turn-requires
feed_turn-requires c = going (turn_is (goal.at.feed_turn-requires c).After-index-host)

pub invariant_of-self : goal.invariant_of-self
invariant_of-self c = let f = c.in_err-feed_turn.ensures.failed in refused_coming (turn_is (goal.at.invariant_of-self c).After-index-host) c.feed_turn.new.turn f.0 f.1

pub returns-in_err-feed_turn : goal.returns-in_err-feed_turn
returns-in_err-feed_turn c =
    let text = c.self.inside.log.taken.text in
    let is = turn_is (goal.at.returns-in_err-feed_turn c).After-index-host in
    let turn = c.feed_turn.new.turn in
    let q = err_from_is_err_and c.from_residual.result c.from_residual.ensures.1 in
    let e = c.in_err-feed_turn.field-0.0 in
    record {
      told = rw (q.1, q.2, ← c.self.view_is) (for_next is (λ h. IfSome (told e) (λ f. is_read (lines_of h (text ++ c.args.bytes.now)) ≡ Err f)) (λ turns. c.in_err-feed_turn.ensures.told text turns));
      come = rw q.1 tt;
      met = rw (q.1, q.2, ← c.self.view_is) (met_new is turn e c.in_err-feed_turn.ensures.met);
      again = rw (q.1, q.2, ← c.self.view_is) (again_as is turn (Err e) c.in_err-feed_turn.ensures.again);
    }

pub invariant_of-self-2 : goal.invariant_of-self-2
invariant_of-self-2 c =
    let is = turn_is (goal.at.invariant_of-self-2 c).After-index-host in
    let turn = c.feed_turn.new.turn in
    subst (λ (t : Taken). AreComing (record (turned is turn) { taken = t })) (sym c.note.ensures) (fed_coming is turn c.args.bytes.now c.in_ok-feed_turn.ensures.again c.in_ok-feed_turn.ensures.stands)

pub returns : goal.returns
returns c =
    let text = c.self.inside.log.taken.text in
    let is = turn_is (goal.at.returns c).After-index-host in
    let turn = c.feed_turn.new.turn in
    let bytes = c.args.bytes.now in
    let again = c.in_ok-feed_turn.ensures.again in
    record {
      told = rw (← c.self.view_is) (for_next is (λ h. is_read (lines_of h (text ++ bytes)) ≡ Ok (tt {0})) (λ turns. c.in_ok-feed_turn.ensures.told text turns));
      come = rw (← c.self.view_is) (ap (λ (t : Taken). seen (record (turned is turn) { taken = t })) c.note.ensures ∙ fed_seen is turn bytes again c.in_ok-feed_turn.ensures.stands);
      met = rw (← c.self.view_is, was_unmet is turn again) tt;
      again = rw (← c.self.view_is, was_unmet is turn again) tt;
    }
