use Rattle.unify.proofs.merging.merge_counted.Goals as goal

pub solve_site-requires : goal.solve_site-requires
solve_site-requires c =
    let holds = c.requires.2 in
    rw holds.joined_is holds.made

pub texts_of-requires-clause-holds : goal.texts_of-requires-clause-holds
texts_of-requires-clause-holds c = (c.requires.0, c.requires.2)

pub returns : goal.returns
returns c = λ whole holds. record {
  certificate = c.in_ok-certified.certified.certificate;
  answered = c.in_ok-certified.ensures.answered whole holds.joined_is holds.counted_are;
  printed = c.in_ok-outcome.ensures whole holds;
}
