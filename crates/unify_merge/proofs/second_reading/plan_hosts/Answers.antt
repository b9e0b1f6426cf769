use Rattle.std.proofs.Common.{◌≡◌, Some, refl, sym, ap, ◌∙◌, arith}
use Rattle.std.specs.List.{slice_get}
use Rattle.std.proofs.lemmas.Result.{err_from_is_err_and}
use Rattle.std.proofs.lemmas.Option.{slice_get-get_or}
use Rattle.hosts_join.specs.declared.texts.HostText.{HostText}
use Rattle.unify_laws.proofs.Agreeing.{item_at}
use Rattle.unify_merge.proofs.AllPlanned.{all_planned, host_at, planning_stopped, read_len, same_again, turn_of}
use Rattle.unify_merge.proofs.Planned.{none_planned, one_planned}
use Rattle.unify_merge.proofs.second_reading.plan_hosts.Goals as goal

pub loop-index-init : goal.loop-index-init
loop-index-init g c = record {
  clear = c.requires.clear;
  ended = c.requires.start;
  site = refl;
  fresh = c.requires.fresh;
  so_far = λ read was. none_planned c.args.hosts.now c.args.solved.now read (g.F.ReadFiles.ledger c.args.files.now);
  calls = refl;
}

pub returns-in_err-plan_named-clause-stopped : goal.returns-in_err-plan_named-clause-stopped
returns-in_err-plan_named-clause-stopped g c =
    let inv = c.loop-index.invariant in
    let index = c.loop-index.index in
    let solved = c.args.solved.now in
    let p = err_from_is_err_and c.from_residual.result c.from_residual.ensures.1 in
    let now = c.plan_named.new.files in
    rw (p.1, p.2) (λ read was.
    let here = item_at read index (omega (arith, c.loop-index-test.true, c.requires.each, read_len solved read was)) in
    planning_stopped c.args.hosts.now solved read index here.0.0 here.0.1 (g.F.ReadFiles.ledger c.args.files.now) (g.F.ReadFiles.ledger c.loop-index.files) (g.F.ReadFiles.ledger now) c.in_err-plan_named.field-0.0
    (inv.so_far read was) was here.1
    (c.in_err-plan_named.ensures.stopped here.0.0 here.0.1 (turn_of solved c.loop-index.solved read index here.0.0 here.0.1 inv.site inv.ended was here.1 inv.fresh)))

pub loop-index-preserved : goal.loop-index-preserved
loop-index-preserved g c =
    let inv = c.loop-index.invariant in
    let index = c.loop-index.index in
    let solved = c.args.solved.now in
    let names = c.args.hosts.now in
    let named : slice_get names index ≡ Some c.index-hosts-index.result = slice_get-get_or names index _ c.loop-index-test.true ∙ ap (λ (h : HostText). Some h) (sym c.index-hosts-index.is) in
    record {
      clear = c.in_ok-plan_named.ensures.clear;
      ended = c.in_ok-plan_named.ensures.ended;
      site = same_again solved c.loop-index.solved c.plan_named.new.solved inv.site c.in_ok-plan_named.ensures.site;
      fresh = c.in_ok-plan_named.ensures.fresh;
      so_far = λ read was.
          let here = item_at read index (omega (arith, c.loop-index-test.true, c.requires.each, read_len solved read was)) in
          let turn = turn_of solved c.loop-index.solved read index here.0.0 here.0.1 inv.site inv.ended was here.1 inv.fresh in
          one_planned names solved c.loop-index.solved read index c.index-hosts-index.result here.0.0 here.0.1 (g.F.ReadFiles.ledger c.args.files.now) (g.F.ReadFiles.ledger c.loop-index.files) (g.F.ReadFiles.ledger c.plan_named.new.files) (inv.so_far read was)
          inv.site inv.ended named (host_at solved read index here.0.0 here.0.1 was here.1) here.1 (c.in_ok-plan_named.ensures.planned here.0.0 here.0.1 turn);
      calls = c.in_ok-plan_named.ensures.calls ∙ inv.calls;
    }

pub returns-clause-planned : goal.returns-clause-planned
returns-clause-planned g c = λ read was.
    let inv = c.loop-index.invariant in
    all_planned c.args.hosts.now c.args.solved.now read c.loop-index.index (g.F.ReadFiles.ledger c.args.files.now) (g.F.ReadFiles.ledger c.loop-index.files) (inv.so_far read was) was (omega (arith, c.loop-index-test.false, c.requires.each))

pub returns-in_err-plan_named-clause-left : goal.returns-in_err-plan_named-clause-left
returns-in_err-plan_named-clause-left g c =
    let inv = c.loop-index.invariant in
    let index = c.loop-index.index in
    let names = c.args.hosts.now in
    let p = err_from_is_err_and c.from_residual.result c.from_residual.ensures.1 in
    let host = c.index-hosts-index.result in
    let named : slice_get names index ≡ Some host = slice_get-get_or names index _ c.loop-index-test.true ∙ ap (λ (h : HostText). Some h) (sym c.index-hosts-index.is) in
    rw p.1 (λ read was. record {
      index = index;
      name = host;
      here = named;
      middle = g.F.ReadFiles.ledger c.loop-index.files;
      so_far = inv.so_far read was;
      begun = c.in_err-plan_named.ensures.begun;
      next = c.in_err-plan_named.ensures.left;
    })
