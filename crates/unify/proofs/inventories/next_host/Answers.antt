use Rattle.std.proofs.Common.{◌≡◌, ◌+◌, ◌∙◌, None, Some, [], length, refl, subst, sym, arith}
use Rattle.std.specs.List.{slice_get}
use Rattle.idtext.specs.First.{first_fault}
use Rattle.unify.specs.Turns.{AreCounted}
use Rattle.unify.proofs.inventories.next_host.Goals as goal

pub returns-clause-next : goal.returns-clause-next
unfolding first_fault
returns-clause-next c = λ host here.
    let index : c.len.result + 1 ≡ length c.args.passed.now.items + 1 = omega (arith, c.len.ensures, c.args.passed.now.ok.0) in
    let rows = c.replace-rows.ensures.after ∙ c.in_ok-next.ensures host (subst (λ k. slice_get c.args.hosts.now k ≡ Some host) (sym index) here) in
    let counted : AreCounted host c.replace-rows.new.dest None [] = (refl, rows) in
    record {
      reading = c.begin_next.ensures.stands;
      most = c.begin_next.ensures.most;
      going = c.begin_next.ensures.going;
      sound = c.begin_next.ensures.fault;
      waiting = c.begin_next.ensures.waiting;
      counted = subst (AreCounted host c.replace-rows.new.dest None) (sym c.begin_next.ensures.files) counted;
    }
