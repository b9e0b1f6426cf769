use Rattle.std.proofs.Common.{Option, subst, sym}
use Rattle.std.specs.Prelude.{IfSome}
use Rattle.unify.specs.declared.row_files.OwnerPlaces.{OwnerPlaces}
use Rattle.unify.specs.Places.{ArePlaces}
use Rattle.unify.proofs.row_files.next_places.Goals as goal

pub returns-in-Some-clause-owns : goal.returns-in-Some-clause-owns
returns-in-Some-clause-owns c =
    let each : ArePlaces c.args.host.now c.in-Some.places = subst (λ (o : Option OwnerPlaces). IfSome o (ArePlaces c.args.host.now)) c.in-Some.is c.requires in
    let same = c.are_of.ensures.same c.if-are_of.true in
    each c.args.file.now (sym same.0) (sym same.1)
