use Rattle.std.proofs.Common.{None, [], refl, subst, sym}
use Rattle.idtext.specs.First.{first_fault}
use Rattle.unify.specs.Turns.{AreCounted}
use Rattle.unify.proofs.turn.new_turn.Goals as goal

pub returns : goal.returns
unfolding first_fault
returns c = λ host none.
    let counted : AreCounted host c.args.rows None [] = (refl, none) in
    record {
      reading = c.new.ensures.stands;
      most = c.new.ensures.most;
      going = c.new.ensures.going;
      sound = c.new.ensures.fault;
      waiting = c.new.ensures.waiting;
      counted = subst (AreCounted host c.args.rows None) (sym c.new.ensures.files) counted;
    }
