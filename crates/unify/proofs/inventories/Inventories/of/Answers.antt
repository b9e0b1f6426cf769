use Rattle.std.proofs.Common.{◌≡◌, List, Some, [], subst, sym, ap, ◌∙◌}
use Rattle.std.specs.List.{slice_get}
use Rattle.unify.specs.RowFiles.{RowFiles}
use Rattle.unify.specs.Taken.{Taken}
use Rattle.unify.specs.Turns.{AreComing, seen}
use Rattle.unify.proofs.Passing.{IsNew, coming_start, start_seen}
use Rattle.unify.proofs.inventories.Inventories.of.Goals as goal

pub invariant_of-result : goal.invariant_of-result
invariant_of-result c =
    let hosts = c.args.hosts.items in
    let turn = c.new_turn.result in
    let new : IsNew hosts 0 turn = λ host here. c.new_turn.ensures host (c.in_ok-rows.ensures host (subst (λ hs. slice_get hs 0 ≡ Some host) (sym c.deref.ensures.value) here)) in
    subst (λ (ps : List RowFiles). AreComing (record { hosts = hosts; passed = ps; turn = turn; taken = c.new-2.result.taken })) (sym c.new.ensures.items)
    (subst (λ (t : Taken). AreComing (record { hosts = hosts; passed = []; turn = turn; taken = t })) (sym c.new-2.ensures) (coming_start hosts turn c.requires.few c.requires.lawful new))

pub returns : goal.returns
returns c =
    let hosts = c.args.hosts.items in
    let turn = c.new_turn.result in
    let new : IsNew hosts 0 turn = λ host here. c.new_turn.ensures host (c.in_ok-rows.ensures host (subst (λ hs. slice_get hs 0 ≡ Some host) (sym c.deref.ensures.value) here)) in
    ap (λ (ps : List RowFiles). seen (record { hosts = hosts; passed = ps; turn = turn; taken = c.new-2.result.taken })) c.new.ensures.items
    ∙ ap (λ (t : Taken). seen (record { hosts = hosts; passed = []; turn = turn; taken = t })) c.new-2.ensures ∙ start_seen hosts turn new
