use Rattle.std.proofs.Common.{◌∙◌, sym, ap}
use Rattle.std.proofs.lemmas.Result.{err_from_is_err_and}
use Rattle.idtext.proofs.FirstLemmas.{none_of_both}
use Rattle.hosts_join.specs.declared.fault.PoolClass.TheVariants as pool
use Rattle.hosts_join.specs.Rules.{claims}
use Rattle.hosts_join.specs.Settled.{joined_from, small_among}
use Rattle.hosts_join.specs.Told.{told}
use Rattle.hosts_join.proofs.Refusals.{small-same, is-enough, joined-claim, joined-small, not-clashing, accepted}
use Rattle.hosts_join.proofs.names.settle.Goals as goal

pub returns-in_err-pools-clause-exact : goal.returns-in_err-pools-clause-exact
returns-in_err-pools-clause-exact c =
    let a = joined_from c.args.hosts.now c.args.index.now c.args.pins.now c.args.reserved.now in
    let p = err_from_is_err_and c.from_residual-in_err-pools.result c.from_residual-in_err-pools.ensures.1 in
    rw (p.1, p.2) (joined-claim c.args.kind a c.in_ok-classes.ensures.agreed (told c.in_err-pools.field-0.0) c.in_err-pools.ensures.fault)

pub returns-in-Some-clause-exact : goal.returns-in-Some-clause-exact
returns-in-Some-clause-exact c =
    let a = joined_from c.args.hosts.now c.args.index.now c.args.pins.now c.args.reserved.now in
    let small = sym (small-same c.args.kind a c.in_ok-classes.classes.items c.in_ok-pools.pools c.in_ok-classes.ensures.classes c.in_ok-pools.ensures.pools)
    ∙ ap (λ classes. small_among c.args.kind classes c.in_ok-pools.pools) (sym c.as_slice-2.ensures.value) ∙ sym c.small_pool.ensures ∙ c.in-Some.is in
    joined-small c.args.kind a c.in_ok-classes.ensures.agreed c.in_ok-pools.ensures.good c.in-Some.fault small

pub returns-clause-exact : goal.returns-clause-exact
returns-clause-exact c =
    let a = joined_from c.args.hosts.now c.args.index.now c.args.pins.now c.args.reserved.now in
    let none = sym (small-same c.args.kind a c.in_ok-classes.classes.items c.in_ok-pools.pools c.in_ok-classes.ensures.classes c.in_ok-pools.ensures.pools)
    ∙ ap (λ classes. small_among c.args.kind classes c.in_ok-pools.pools) (sym c.as_slice-2.ensures.value) ∙ sym c.small_pool.ensures ∙ c.in_default.is in
    accepted c.args.kind a c.in_ok-classes.ensures.agreed c.in_ok-pools.ensures.good none

pub returns-clause-settled : goal.returns-clause-settled
returns-clause-settled c =
    let a = joined_from c.args.hosts.now c.args.index.now c.args.pins.now c.args.reserved.now in
    let none = sym (small-same c.args.kind a c.in_ok-classes.classes.items c.in_ok-pools.pools c.in_ok-classes.ensures.classes c.in_ok-pools.ensures.pools)
    ∙ ap (λ classes. small_among c.args.kind classes c.in_ok-pools.pools) (sym c.as_slice-2.ensures.value) ∙ sym c.small_pool.ensures ∙ c.in_default.is in
    let both = none_of_both _ _ none in
    record {
      classes = c.in_ok-classes.ensures.classes;
      pools = c.in_ok-pools.ensures.pools;
      apart = not-clashing c.args.kind c.args.reserved.now (claims a) c.in_ok-pools.ensures.good;
      enough_regular = is-enough c.args.kind a pool.Regular both.0;
      enough_system = is-enough c.args.kind a pool.System both.1;
      order = c.in_ok-order.ensures;
    }
