use Rattle.std.proofs.Common.{◌≡◌, cond, not, ◌<◌, ◌+◌, List, [], ◌∷◌, ◌++◌, length, take, get_or, sym, ◌∙◌, ap, arith, true, false}
use Rattle.hosts_join.proofs.members.claims.Goals.{then-not-has_name+in_ok-push, else-not-has_name}
use Rattle.std.proofs.lemmas.List.{map-append, append-nil, append_assoc}
use Rattle.hosts_join.specs.Accounts as spec
use Rattle.hosts_join.specs.Index.{accounts_in}
use Rattle.hosts_join.specs.Rules as rules
use Rattle.hosts_join.specs.Views.{pair_of, pairs_of}
use Rattle.hosts_join.proofs.MembersLemmas.{filter-more, got}
use Rattle.hosts_join.proofs.members.claims.Goals as goal

pub loop-place-preserved : goal.loop-place-preserved
loop-place-preserved c =
    let names = accounts_in c.args.index.now in
    let pins = c.args.pins.now in
    let k = c.loop-place.place in
    let p = pair_of c.at-pin.result in
    let here : k < length pins = omega (arith, c.len-place-end.ensures, c.loop-place-test.true) in
    let read : get_or pins k p ≡ p = got pins k p p c.at-pin.ensures in
    let more = filter-more (λ p. not (rules.is_name names p.name)) pins k p here in
    let more' : rules.absent_pins names (take (k + 1) pins) ≡ rules.absent_pins names (take k pins) ++ cond (not (rules.is_name names p.name)) (p ∷ []) [] = rw read at more in
    let before = rules.pinned_names pins names in
    rw more' (elim c.if-not-has_name.branch [
      | then-not-has_name+in_ok-push w ↦
          let out : rules.is_name names p.name ≡ false = sym c.has_name.ensures ∙ w.if-not-has_name.true in
          rw (out, w.claims-is) (ap pairs_of w.in_ok-push.ensures.items ∙ map-append pair_of c.loop-place.claims.items (c.at-pin.result ∷ []) ∙ ap (λ (ps : List spec.Pair). ps ++ p ∷ []) c.loop-place.invariant ∙ append_assoc before (rules.absent_pins names (take k pins)) (p ∷ []))
      | else-not-has_name w ↦
          let there : rules.is_name names p.name ≡ true = sym c.has_name.ensures ∙ w.if-not-has_name.false in
          rw (there, w.claims-is) (c.loop-place.invariant ∙ ap (λ ps. before ++ ps) (sym (append-nil (rules.absent_pins names (take k pins)))))
    ])
