use Rattle.unify.proofs.KnownOwners.{known_gives, owner_gets}
use Rattle.unify.proofs.plan_turn.find_owner.Goals as goal

pub returns-then-is_of-clause-found : goal.returns-then-is_of-clause-found
returns-then-is_of-clause-found c = λ yes.
    let same = c.is_of.ensures.same c.if-is_of.true in known_gives c.args.whose.now c.args.file.now c.args.known.now c.requires.known same.0 same.1 same.2

pub returns-clause-known : goal.returns-clause-known
returns-clause-known c = record { rows = c.in-Some.ensures.places; gets = owner_gets c.args.whose.now c.args.file.now c.in-Some.places c.new.result c.new.ensures c.in-Some.ensures.numbers.0 c.in-Some.ensures.numbers.1 }
