use Rattle.std.proofs.Common.{◌≡◌, ◌+◌, ◌<◌, ◌++◌, ◌∷◌, [], List, length, take, sym, ◌∙◌, ap, arith}
use Rattle.std.proofs.lemmas.List.{take_more, map-append}
use Rattle.hosts_join.specs.Accounts as spec
use Rattle.hosts_join.specs.Views.{pair_of, pairs_of}
use Rattle.hosts_join.proofs.MembersLemmas.{got}
use Rattle.hosts_join.proofs.names.copy_pins.Goals as goal

pub loop-place-preserved : goal.loop-place-preserved
loop-place-preserved c =
    let pins = c.args.pins.now in
    let k = c.loop-place.place in
    let p = pair_of c.at.result in
    let here : k < length pins = omega (arith, c.len-place-end.ensures, c.loop-place-test.true) in
    let read = got pins k p p c.at.ensures in
    let more = take_more pins k p here in
    let more' : take (k + 1) pins ≡ take k pins ++ p ∷ [] = rw read at more in
    ap pairs_of c.in_ok-push.ensures.items ∙ map-append pair_of c.loop-place.copy.items (c.at.result ∷ []) ∙ ap (λ (ps : List spec.Pair). ps ++ p ∷ []) c.loop-place.invariant ∙ sym more'
