use Rattle.std.proofs.Common.{◌+◌, ◌-◌, ◌/◌, ◌<◌, map, length, sym, ap, ◌∙◌, arith}
use Rattle.std.specs.Ordering.{nat_cmp}
use Rattle.std.specs.Cmp.Lexicographic.{slice_cmp}
use Rattle.reown_plan.specs.Places.{paths_in}
use Rattle.reown_plan.specs.Records.{record_of}
use Rattle.reown_plan.proofs.Bisection.{before_less, behind_greater, place_found, place_absent}
use Rattle.reown_plan.proofs.places.find_place.Goals as goal

pub loop-low-preserved-in-Less : goal.loop-low-preserved-in-Less
loop-low-preserved-in-Less c =
    let middle = c.loop-low.low + (c.loop-low.high - c.loop-low.low) / 2 in
    record {
      ordered = omega arith;
      within = c.loop-low.invariant.within;
      before = before_less (paths_in (map record_of c.args.records.now)) c.args.places.now c.args.path.now c.requires.places middle (omega arith) (ap (λ p. slice_cmp nat_cmp p c.args.path.now) (sym c.path_of.ensures) ∙ sym c.in-Less.ensures);
      after = c.loop-low.invariant.after;
    }

pub returns-in-Equal : goal.returns-in-Equal
returns-in-Equal c =
    let middle = c.loop-low.low + (c.loop-low.high - c.loop-low.low) / 2 in
    sym (place_found (paths_in (map record_of c.args.records.now)) c.args.places.now c.args.path.now c.requires.places c.requires.distinct middle (omega arith) (ap (λ p. slice_cmp nat_cmp p c.args.path.now) (sym c.path_of.ensures) ∙ sym c.in-Equal.ensures))

pub loop-low-preserved : goal.loop-low-preserved
loop-low-preserved c =
    let middle = c.loop-low.low + (c.loop-low.high - c.loop-low.low) / 2 in
    let below : middle < length c.args.places.now = omega arith in
    record {
      ordered = omega arith;
      within = omega arith;
      before = c.loop-low.invariant.before;
      after = behind_greater (paths_in (map record_of c.args.records.now)) c.args.places.now c.args.path.now c.requires.places middle below (ap (λ p. slice_cmp nat_cmp p c.args.path.now) (sym c.path_of.ensures) ∙ sym c.in-Greater.ensures);
    }

pub returns : goal.returns
returns c =
    sym (place_absent (paths_in (map record_of c.args.records.now)) c.args.places.now c.args.path.now c.requires.places c.loop-low.low c.loop-low.invariant.before (λ k up below. c.loop-low.invariant.after k (omega arith) below))
