use Rattle.std.proofs.Common.{◌≡◌, ◌+◌, ◌<◌, ◌≤◌, [], ◌∷◌, ◌++◌, length, take, get_or, None, Some, sym, ◌∙◌, ap, arith}
use Rattle.std.proofs.lemmas.List.{take_all, take_more, take-map, map-append, get_or-map, length-map}
use Rattle.hosts_join.specs.Rules.{first_some, pin_reserved}
use Rattle.hosts_join.specs.Views.{pair_of, pairs_of}
use Rattle.hosts_join.specs.declared.Pair.{Pair}
use Rattle.hosts_join.specs.declared.fault.SiteFault.{SiteFault}
use Rattle.hosts_join.proofs.MembersLemmas.{first_some-push, first_some-at}
use Rattle.hosts_join.proofs.Refusals.{of-told}
use Rattle.hosts_join.proofs.reserving.check_reserved.Goals as goal

abbrev no_pair : Pair
no_pair = record { name = record { ref_ptr = (0, 0); now = [] }; number = 0 }

pub loop-claim-preserved : goal.loop-claim-preserved
loop-claim-preserved c =
    let claims = c.args.claims.now in
    let k = c.loop-claim.claim-index in
    let p = get_or claims k no_pair in
    let refused = pin_reserved c.args.kind c.args.reserved.now in
    let more : pairs_of (take (k + 1) claims) ≡ pairs_of (take k claims) ++ pair_of p ∷ [] = ap pairs_of (take_more claims k no_pair c.loop-claim-test.true) ∙ map-append pair_of (take k claims) (p ∷ []) in
    ap (first_some refused) more ∙ first_some-push refused (pairs_of (take k claims)) (pair_of p) c.loop-claim.invariant (sym c.reserved_fault.ensures ∙ c.in_default.is)

pub returns-in-Some-clause-fault : goal.returns-in-Some-clause-fault
returns-in-Some-clause-fault c =
    let claims = c.args.claims.now in
    let k = c.loop-claim.claim-index in
    let refused = pin_reserved c.args.kind c.args.reserved.now in
    let here : k < length claims = c.loop-claim-test.true in
    let there : k < length (pairs_of claims) = omega (arith, here, length-map claims pair_of) in
    let before : first_some refused (take k (pairs_of claims)) ≡ None = ap (first_some refused) (take-map pair_of k claims) ∙ c.loop-claim.invariant in
    let said : refused (get_or (pairs_of claims) k (pair_of no_pair)) ≡ Some c.in-Some.fault = ap refused (get_or-map pair_of claims k no_pair (pair_of no_pair) here) ∙ sym c.reserved_fault.ensures ∙ c.in-Some.is in
    of-told (λ (f : SiteFault). first_some refused (pairs_of claims) ≡ Some f) c.in-Some.fault (first_some-at refused (pairs_of claims) k (pair_of no_pair) c.in-Some.fault there before said)

pub returns-clause-good : goal.returns-clause-good
returns-clause-good c =
    let claims = c.args.claims.now in
    let all : length claims ≤ c.loop-claim.claim-index = c.loop-claim-test.false in
    ap (λ xs. first_some (pin_reserved c.args.kind c.args.reserved.now) (pairs_of xs)) (sym (take_all c.loop-claim.claim-index claims all)) ∙ c.loop-claim.invariant
