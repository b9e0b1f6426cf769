use Rattle.std.proofs.Common.{◌≡◌, ℕ, ◌+◌, ◌++◌, ◌∷◌, [], List, sym, ap, ◌∙◌, refl, take, get_or, arith, None, Some, nat_eq, Option, Bor, Bool, true, false, cond}
use Rattle.std.proofs.lemmas.List.{take_more, map-append}
use Rattle.hosts_join.specs.declared.Pair.{Pair}
use Rattle.std.specs.HashMap.{HashMap, get, IsEmpty}
use Rattle.hosts_join.specs.Views.{pair_of, pairs_of, text_of}
use Rattle.hosts_join.specs.Rules.{repeats, least}
use Rattle.hosts_join.proofs.Repeats.{clash_of-again, clash_of-apart, firsts-stay, firsts-new, first_name, lesser_last}
use Rattle.hosts_join.specs.Clash.{clash_seen}
use Rattle.std.proofs.lemmas.Bool.{lt-ltb, le-ltb}
use Rattle.hosts_join.proofs.clash.find_clash.Goals as goal
use Rattle.hosts_join.proofs.clash.find_clash.Goals.{in-Some+in-None-least, in-Some+in-Some-least+then-clash-so_far, in-Some+in-Some-least+else-clash-so_far, in-None+in_ok-insert-in-None}

empty-get : {X S : Type 0} (v : ℕ) (m : HashMap ℕ X S) → IsEmpty m → get nat_eq m v ≡ None
empty-get v m e = rw e refl

texts : (b : Bool) (n : Bor (List ℕ)) (o : Option (Bor (List ℕ))) (f : Option (List ℕ)) → text_of o ≡ f → text_of (cond b (Some n) o) ≡ cond b (Some n.now) f
texts true n o f e = refl
texts false n o f e = e

pub loop-claim-init : goal.loop-claim-init
unfolding repeats least
loop-claim-init c = record { firsts = λ v. ap text_of (empty-get v c.new-firsts.result c.new-firsts.ensures.empty); least = refl }

pub loop-claim-preserved : goal.loop-claim-preserved
loop-claim-preserved c =
    let claims = c.args.claims.now in
    let k = c.loop-claim.claim-index in
    let d : Pair = record { name = record { ref_ptr = (0, 0); now = [] }; number = 0 } in
    let p = pair_of (get_or claims k d) in
    let more : pairs_of (take (k + 1) claims) ≡ pairs_of (take k claims) ++ p ∷ [] = ap pairs_of (take_more claims k d (omega arith)) ∙ map-append pair_of (take k claims) (get_or claims k d ∷ []) in
    let ps = pairs_of (take k claims) in
    let inv = c.loop-claim.invariant.firsts in
    let so_far = c.loop-claim.invariant.least in
    let got : (o : Option (Bor (List ℕ))) → c.copied.result ≡ o → first_name ps p.number ≡ text_of o = λ o e. sym (inv p.number) ∙ ap text_of (sym c.get.ensures.value ∙ sym c.copied.ensures ∙ e) in
    elim c.match-copied.branch [
      | in-Some+in-None-least w ↦
          let there = got _ w.in-Some.is in
          rw (more, w.firsts-is, w.least-is) (record { firsts = λ v. inv v ∙ sym (firsts-stay ps p _ v there); least = sym (clash_of-again ps p _ there ∙ ap (λ o. Some (lesser_last o (record { number = p.number; first = w.in-Some.first.now; second = p.name }))) (sym so_far ∙ ap clash_seen w.in-None-least.is)) })
      | in-Some+in-Some-least+then-clash-so_far w ↦
          let there = got _ w.in-Some.is in
          rw (more, w.firsts-is, w.least-is) (record { firsts = λ v. inv v ∙ sym (firsts-stay ps p _ v there); least = sym (clash_of-again ps p _ there ∙ ap (λ o. Some (lesser_last o (record { number = p.number; first = w.in-Some.first.now; second = p.name }))) (sym so_far ∙ ap clash_seen w.in-Some-least.is) ∙ rw (lt-ltb p.number w.in-Some-least.so_far.number w.if-clash-so_far.true) refl) })
      | in-Some+in-Some-least+else-clash-so_far w ↦
          let there = got _ w.in-Some.is in
          rw (more, w.firsts-is, w.least-is) (record { firsts = λ v. inv v ∙ sym (firsts-stay ps p _ v there); least = sym (clash_of-again ps p _ there ∙ ap (λ o. Some (lesser_last o (record { number = p.number; first = w.in-Some.first.now; second = p.name }))) (sym so_far ∙ ap clash_seen w.in-Some-least.is) ∙ rw (le-ltb p.number w.in-Some-least.so_far.number w.if-clash-so_far.false) (ap clash_seen (sym w.in-Some-least.is))) })
      | in-None+in_ok-insert-in-None w ↦
          let none = got _ w.in-None.is in
          rw (more, w.firsts-is, w.least-is) (record { firsts = λ v. ap text_of (w.in_ok-insert-in-None.ensures.updates.0 v) ∙ texts (nat_eq p.number v) (get_or claims k d).name (get nat_eq c.loop-claim.firsts v) _ (inv v) ∙ sym (firsts-new ps p v none); least = so_far ∙ sym (clash_of-apart ps p none) })
    ]
