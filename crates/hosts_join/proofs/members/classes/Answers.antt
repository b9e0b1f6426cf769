use Rattle.std.proofs.Common.{◌≡◌, ◌<◌, List, [], ◌∷◌, ◌++◌, length, map, take, get_or, sym, ◌∙◌, ap, arith, refl, Some, None}
use Rattle.std.specs.Option.{option_map}
use Rattle.std.proofs.lemmas.List.{take_more, map-append}
use Rattle.hosts_join.specs.Accounts.{no_account}
use Rattle.hosts_join.specs.declared.Source.{Source}
use Rattle.hosts_join.specs.declared.Class.{Class}
use Rattle.hosts_join.specs.declared.fault.SiteFault.TheVariants.{PinDisagrees}
use Rattle.hosts_join.specs.Index.{accounts_in}
use Rattle.hosts_join.specs.Rules as rules
use Rattle.hosts_join.specs.Views.{entry_of}
use Rattle.hosts_join.proofs.MembersLemmas.{first_some-push, first_some-at}
use Rattle.hosts_join.proofs.members.classes.Goals as goal

-- what the call was asked is what the definition reads
pub returns-in-Err-clause-disagreed : goal.returns-in-Err-clause-disagreed
returns-in-Err-clause-disagreed c =
    let names = accounts_in c.args.index.now in
    let k = c.loop-place.place in
    let n = get_or names k no_account in
    let kind = c.args.kind in
    let hosts = map entry_of c.args.hosts.now in
    let same : rules.sources_among c.number.result c.spots.result.now ≡ rules.sources c.args.pins.now n = rw (c.number.ensures, c.spots.ensures, c.name-name.ensures) refl in
    let d : rules.disagreement (rules.sources c.args.pins.now n) ≡ Some (c.in-Err.first, c.in-Err.second) = ap rules.disagreement (sym same) ∙ c.in-Err.ensures.disagreed in
    let told : rules.disagrees kind hosts c.args.pins.now n ≡ Some (PinDisagrees kind n.name (rules.host_name hosts c.in-Err.first) (rules.host_name hosts c.in-Err.second)) = ap (option_map (λ (d : Source × Source). PinDisagrees kind n.name (rules.host_name hosts d.0) (rules.host_name hosts d.1))) d in
    rw (c.new.ensures, c.name-name.ensures, c.host_name.ensures, c.host_name-in-Err.ensures) (first_some-at (rules.disagrees kind hosts c.args.pins.now) names k no_account _ (omega (arith, c.len-place-end.ensures, c.loop-place-test.true)) c.loop-place.invariant.agreed told)

pub loop-place-preserved : goal.loop-place-preserved
loop-place-preserved c =
    let names = accounts_in c.args.index.now in
    let k = c.loop-place.place in
    let n = get_or names k no_account in
    let hosts = map entry_of c.args.hosts.now in
    let here : k < length names = omega (arith, c.len-place-end.ensures, c.loop-place-test.true) in
    let more = take_more names k no_account here in
    let same : rules.sources_among c.number.result c.spots.result.now ≡ rules.sources c.args.pins.now n = rw (c.number.ensures, c.spots.ensures, c.name-name.ensures) refl in
    let class : c.in-Ok.class ≡ rules.class_of c.args.pins.now n = c.in-Ok.ensures.class ∙ (rw (same, c.spots.ensures) refl) in
    let agrees : rules.disagreement (rules.sources c.args.pins.now n) ≡ None = ap rules.disagreement (sym same) ∙ c.in-Ok.ensures.agreed in
    let told : rules.disagrees c.args.kind hosts c.args.pins.now n ≡ None = ap (option_map (λ (d : Source × Source). PinDisagrees c.args.kind n.name (rules.host_name hosts d.0) (rules.host_name hosts d.1))) agrees in
    record {
      classes = c.in_ok-push-in-Ok.ensures.items ∙ ap (λ (cs : List Class). cs ++ c.in-Ok.class ∷ []) c.loop-place.invariant.classes ∙ ap (λ (x : Class). map (rules.class_of c.args.pins.now) (take k names) ++ x ∷ []) class ∙ sym (map-append (rules.class_of c.args.pins.now) (take k names) (n ∷ [])) ∙ ap (map (rules.class_of c.args.pins.now)) (sym more);
      agreed = ap (rules.first_some (rules.disagrees c.args.kind hosts c.args.pins.now)) more ∙ first_some-push (rules.disagrees c.args.kind hosts c.args.pins.now) (take k names) n c.loop-place.invariant.agreed told;
    }
