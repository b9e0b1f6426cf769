use Rattle.std.proofs.Common.{◌<◌, ◌≤◌, length, not, ap, ◌∙◌, arith}
use Rattle.kept_accounts.specs.Keeping.{is_among}
use Rattle.kept_accounts.proofs.PickedLemmas.{picked-place, picked-end}
use Rattle.kept_accounts.proofs.kept_names.add_kept.Goals as goal

pub loop-place-preserved : goal.loop-place-preserved
loop-place-preserved g c = λ rows picked.
    let within : c.loop-place.place < length (g.K.Kind.listed c.args.host.now) = omega (arith, c.count-place-end.ensures) in
    picked-place (λ row. not (is_among c.args.moving.now row.0)) rows (g.K.Kind.listed c.args.host.now) c.loop-place.place _ _ _ _ within c.name-name.ensures
    (ap not (c.has.ensures ∙ ap (is_among c.args.moving.now) c.name-name.ensures)) c.in_ok-add_if.ensures (c.loop-place.invariant rows picked)

pub returns : goal.returns
returns g c = λ rows picked.
    let all : length (g.K.Kind.listed c.args.host.now) ≤ c.loop-place.place = omega (arith, c.count-place-end.ensures) in
    picked-end (λ row. not (is_among c.args.moving.now row.0)) rows (g.K.Kind.listed c.args.host.now) c.loop-place.place _ all (c.loop-place.invariant rows picked)
