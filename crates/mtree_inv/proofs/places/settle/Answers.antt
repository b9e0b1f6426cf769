use Rattle.std.proofs.Common.{◌*◌, ◌/◌, ◌-◌, ◌≡◌, ◌<◌, ℕ, length, refl, ap, subst, ◌∙◌, inr, arith, length-set, get_or-set_same, get_or-set_other}
use Rattle.std.specs.Prelude.{Some, slice_set}
use Rattle.mtree_inv.specs.declared.places.Place.{Place}
use Rattle.mtree_inv.specs.Cuts.{Cut}
use Rattle.mtree_inv.specs.Places.{all_hashes, most_probes, AreTaken, other_at}
use Rattle.mtree_inv.proofs.PlaceLemmas.{other_at-new, other_at-other, found_still, found_beside}
use Rattle.mtree_inv.proofs.places.settle.Goals as goal

others : (c : goal.In_ok-insert) (i : ℕ) (cut : Cut) → other_at c.args.others.now.entries cut ≡ Some i → (cut ≡ c.args.cut.now → i ≡ c.args.index)
    → other_at c.insert.new.self.entries cut ≡ Some i
others c = other_at-other _ c.args.cut.now c.in_ok-key_of.ensures c.args.index c.args.others.now.entries c.insert.new.self.entries c.in_ok-insert.ensures.entries

pub returns-in_default-free_place-clause-settled : goal.returns-in_default-free_place-clause-settled
returns-in_default-free_place-clause-settled c = record {
  roomy = c.requires;
  probes = most_probes;
  taken = subst (λ (n : ℕ). AreTaken c.args.places.now n most_probes) (c.start_of-start.ensures.start ∙ ap (λ (h : ℕ). h * (length c.args.places.now - most_probes) / all_hashes) c.hash.ensures) c.in_default-free_place.ensures;
  there = inr (refl, other_at-new _ c.args.cut.now c.in_ok-key_of.ensures c.args.index c.args.others.now.entries c.insert.new.self.entries c.in_ok-insert.ensures.entries);
}

pub returns-in_default-free_place-clause-found : goal.returns-in_default-free_place-clause-found
returns-in_default-free_place-clause-found c = λ i cut found one.
    found_beside c.args.places.now c.args.others.now.entries c.insert.new.self.entries cut i (λ at. others c i cut at one) found

pub returns-in_default-free_place-clause-others : goal.returns-in_default-free_place-clause-others
returns-in_default-free_place-clause-others c = others c

pub returns-clause-found : goal.returns-clause-found
returns-clause-found c = λ i cut found one.
    let at = c.in-Some-free_place.at in
    let h = c.in-Some-free_place.ensures in
    let places = c.args.places.now in
    let place : Place = record { hash = c.half_of.result; number = c.in-Some.number } in
    let free : Place = record { hash = 0; number = 0 } in
    let within : at < length places = omega (arith, h.1, h.2, c.start_of-start.ensures.within) in
    found_still places (slice_set places at place) c.args.others.now.entries at (length-set places at place)
    (λ n apart. get_or-set_other places at n place free apart) h.4 c.half_of.result c.args.index
    (get_or-set_same places at place free within ∙ ap (λ (m : ℕ). (let p : Place = record { hash = c.half_of.result; number = m } in p)) c.in-Some.ensures) cut i found
