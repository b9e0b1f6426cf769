use Rattle.std.proofs.Common.{◌≡◌, ℕ, ◌<◌, List, [], ◌∷◌, ◌++◌, length, take, get_or, sym, ◌∙◌, ap, arith, refl}
use Rattle.std.proofs.lemmas.List.{map-append, append-nil, get_or-map, length-map}
use Rattle.hosts_join.specs.Accounts as spec
use Rattle.hosts_join.specs.Accounts.{no_account}
use Rattle.hosts_join.specs.declared.Class.{Class}
use Rattle.hosts_join.specs.declared.Class.TheVariants.{Regular, System, Pinned}
use Rattle.hosts_join.proofs.members.pinned_names.Goals.{in-Pinned+in_ok-push, in_default}
use Rattle.hosts_join.specs.Index.{accounts_in}
use Rattle.hosts_join.specs.Rules as rules
use Rattle.hosts_join.specs.Views.{pair_of, pairs_of}
use Rattle.hosts_join.proofs.MembersLemmas.{flat_map-more}
use Rattle.hosts_join.proofs.members.pinned_names.Goals as goal

no-pin : (c : Class) (n : List ℕ) → ((v : ℕ) → c ≡ Pinned v → ⊥) → rules.pinned_to c n ≡ []
no-pin (Pinned v) n h = absurd (h v refl)
no-pin Regular n h = refl
no-pin System n h = refl

pub loop-place-preserved : goal.loop-place-preserved
loop-place-preserved c =
    let names = accounts_in c.args.index.now in
    let pins = c.args.pins.now in
    let k = c.loop-place.place in
    let here : k < length names = omega (arith, c.loop-place-test.true, ap length c.requires.classes, length-map names (rules.class_of pins)) in
    let n = get_or names k no_account in
    let more = flat_map-more (λ n. rules.pinned_to (rules.class_of pins n) n.name) names k no_account here in
    let class : get_or c.args.classes.now k (Pinned 0) ≡ rules.class_of pins n = ap (λ (cs : List Class). get_or cs k (Pinned 0)) c.requires.classes ∙ get_or-map (rules.class_of pins) names k no_account (Pinned 0) here in
    rw more (elim c.match-classes-place.branch [
      | in-Pinned+in_ok-push w ↦
          let class' = sym class ∙ w.in-Pinned.is in
          rw (class', w.claims-is) (ap pairs_of w.in_ok-push.ensures.items ∙ map-append pair_of c.loop-place.claims.items (record { name = w.name.result; number = w.in-Pinned.number } ∷ []) ∙ ap (λ (ps : List spec.Pair). ps ++ record { name = w.name.result.now; number = w.in-Pinned.number } ∷ []) c.loop-place.invariant ∙ ap (λ (m : List ℕ). rules.pinned_names pins (take k names) ++ record { name = m; number = w.in-Pinned.number } ∷ []) w.name.ensures)
      | in_default w ↦
          let none = no-pin (rules.class_of pins n) n.name (λ v e. w.in_default.not-Pinned v (class ∙ e)) in
          rw (none, w.claims-is) (c.loop-place.invariant ∙ sym (append-nil _))
    ])
