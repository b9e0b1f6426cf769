use Rattle.std.proofs.Common.{◌≡◌, ◌∙◌, refl, sym, ap}
use Rattle.hosts_join.specs.Rules.{claims, claim_fault}
use Rattle.hosts_join.specs.Settled.{joined_from}
use Rattle.hosts_join.specs.Views.{pairs_of}
use Rattle.hosts_join.proofs.names.pools_beside.Goals as goal

pub returns-clause-pools : goal.returns-clause-pools
returns-clause-pools c =
    let given : pairs_of c.in_ok-claims.claims.items ≡ claims (joined_from c.args.hosts.now c.args.index.now c.args.pins.now c.args.reserved.now) = c.in_ok-claims.ensures in
    record {
      regular = λ v. c.in_ok-pools.ensures.regular v ∙ (rw (c.as_slice-2.ensures.value, given) refl);
      system = λ v. c.in_ok-pools.ensures.system v ∙ (rw (c.as_slice-2.ensures.value, given) refl);
    }

pub returns-clause-good : goal.returns-clause-good
returns-clause-good c =
    let given : pairs_of c.in_ok-claims.claims.items ≡ claims (joined_from c.args.hosts.now c.args.index.now c.args.pins.now c.args.reserved.now) = c.in_ok-claims.ensures in
    ap (claim_fault c.args.kind c.args.reserved.now) (sym given) ∙ ap (λ xs. claim_fault c.args.kind c.args.reserved.now (pairs_of xs)) (sym c.as_slice.ensures.value) ∙ c.in_ok-check_claims.ensures.good
