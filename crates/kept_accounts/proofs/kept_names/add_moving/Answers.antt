use Rattle.std.proofs.Common.{◌<◌, ◌≤◌, length, get_or, not, arith}
use Rattle.hosts_join.specs.Accounts.{no_row}
use Rattle.kept_accounts.specs.Picked.{lets_stay}
use Rattle.kept_accounts.proofs.PickedLemmas.{picked-place, picked-end, told-moves}
use Rattle.kept_accounts.proofs.kept_names.add_moving.Goals as goal

pub loop-place-preserved : goal.loop-place-preserved
loop-place-preserved g c = λ rows picked.
    let listed = g.K.Kind.listed c.args.host.now in
    let within : c.loop-place.place < length listed = omega (arith, c.count-place-end.ensures) in
    picked-place (λ r. not (lets_stay c.args.keep.now r)) rows listed c.loop-place.place _ _ _ _ within c.name-name.ensures
    (told-moves c.args.keep.now (get_or listed c.loop-place.place no_row) c.name-name.result.now c.number.result c.lets_stay-stays.result c.lets_stay-stays.ensures c.name-name.ensures c.number.ensures)
    c.in_ok-add_if.ensures (c.loop-place.invariant rows picked)

pub returns : goal.returns
returns g c = λ rows picked.
    let all : length (g.K.Kind.listed c.args.host.now) ≤ c.loop-place.place = omega (arith, c.count-place-end.ensures) in
    picked-end (λ r. not (lets_stay c.args.keep.now r)) rows (g.K.Kind.listed c.args.host.now) c.loop-place.place _ all (c.loop-place.invariant rows picked)
