use Rattle.mtree_inv.proofs.PlaceLemmas.{found_beside}
use Rattle.mtree_inv.proofs.cuts.make_room.Goals as goal

pub returns-in_err-places-clause-found : goal.returns-in_err-places-clause-found
returns-in_err-places-clause-found c = λ i cut at.
    found_beside c.args.places.now.items c.args.others.now.entries c.all_settled.new.others.entries cut i (λ told. c.all_settled.ensures.others i cut at told) (c.requires.found i cut at)
