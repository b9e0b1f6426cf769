use Rattle.std.proofs.Common.{◌∷◌, [], map, ap, sym, subst, ◌∙◌}
use Rattle.std.specs.List.{All}
use Rattle.std.proofs.lemmas.List.{map-append}
use Rattle.std.proofs.lemmas.List.Elements.{All-push}
use Rattle.hosts_join.specs.Heads.{HasItsHead, Headed, named}
use Rattle.hosts_join.specs.Index.{accounts_in}
use Rattle.hosts_join.proofs.NameOrder.{one-more-named}
use Rattle.hosts_join.proofs.order.names_with_places.Goals as goal

pub loop-place-preserved : goal.loop-place-preserved
loop-place-preserved c =
    let names = c.loop-place.names.items in
    let place = c.loop-place.place in
    let name = c.name-name.result in
    let headed : Headed = (c.head.result, (name, place)) in
    record {
      names = one-more-named (accounts_in c.args.index.now) place (map named names) (map named c.push.new.self.items) (name, place) c.loop-place.invariant.names
          (ap (map named) c.in_ok-push.ensures.items ∙ map-append named names (headed ∷ [])) (ap (λ n. (n, place)) c.name-name.ensures);
      heads = subst (All HasItsHead) (sym c.in_ok-push.ensures.items) (All-push HasItsHead names headed c.loop-place.invariant.heads c.head.ensures);
    }
