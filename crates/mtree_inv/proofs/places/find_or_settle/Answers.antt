use Rattle.std.proofs.Common.{◌∙◌, ℕ, sym, ap, length-set, get_or-set_same, get_or-set_other}
use Rattle.std.proofs.lemmas.Bool.{and_parts}
use Rattle.std.specs.Prelude.{slice_set}
use Rattle.mtree_inv.specs.declared.places.Place.{Place}
use Rattle.mtree_inv.specs.Places.{place_at}
use Rattle.mtree_inv.proofs.PlaceLemmas.{new_at_free, found_still, found_beside, place_when_known, found_when_known}
use Rattle.mtree_inv.proofs.FollowLemmas.{apart_at_free, apart_when_known}
use Rattle.mtree_inv.proofs.places.find_or_settle.Goals as goal

abbrev free : Place
free = record { hash = 0; number = 0 }

pub returns-in-Free-clause-place : goal.returns-in-Free-clause-place
returns-in-Free-clause-place c =
    let h = c.in-Free.ensures in
    new_at_free c.args.rows.now c.args.places.now c.args.others.now.entries c.requires.found c.args.cut.now h.0 h.1
    (ap (λ (n : ℕ). (place_at c.args.places.now n).number) (sym h.2) ∙ h.3) h.5

pub returns-in-Free-clause-found : goal.returns-in-Free-clause-found
returns-in-Free-clause-found c = λ i cut stands.
    let h = c.in-Free.ensures in
    let places = c.args.places.now in
    let at = c.in-Free.at in
    let place : Place = record { hash = c.in-Free.hash; number = c.in-Some.number } in
    found_still places (slice_set places at place) c.args.others.now.entries at (length-set places at place)
    (λ n apart. get_or-set_other places at n place free apart) h.3 c.in-Free.hash c.len.result
    (get_or-set_same places at place free h.7 ∙ ap (λ (m : ℕ). (let p : Place = record { hash = c.in-Free.hash; number = m } in p)) c.in-Some.ensures) cut i (c.requires.found i cut stands)

pub returns-in-Full-clause-place : goal.returns-in-Full-clause-place
returns-in-Full-clause-place c =
    place_when_known c.args.rows.now c.args.places.now c.args.others.now.entries c.requires.found c.args.cut.now c.in-Full.ensures.1
    _ c.other_or_last.result c.other_or_last.ensures.known c.other_or_last.ensures.new

pub returns-in-Full-clause-settled : goal.returns-in-Full-clause-settled
returns-in-Full-clause-settled c =
    found_when_known c.args.places.now c.other_or_last.new.others.entries c.args.cut.now _ c.requires.roomy c.in-Full.ensures.0
    _ c.other_or_last.result c.other_or_last.ensures.new

pub returns-in-Full-clause-found : goal.returns-in-Full-clause-found
returns-in-Full-clause-found c = λ i cut stands.
    found_beside c.args.places.now c.args.others.now.entries c.other_or_last.new.others.entries cut i (λ told. c.other_or_last.ensures.others i cut stands told) (c.requires.found i cut stands)

pub returns-in-Free-clause-apart : goal.returns-in-Free-clause-apart
returns-in-Free-clause-apart c = λ stays.
    let h = c.in-Free.ensures in
    let both = and_parts c.args.are_apart.now c.in-Free.is_alone stays in (
      both.0,
      apart_at_free c.args.rows.now c.args.places.now c.args.others.now.entries c.requires.found c.args.cut.now h.0 h.1
          (ap (λ (n : ℕ). (place_at c.args.places.now n).number) (sym h.2) ∙ h.3) (h.8 both.1) c.args.others.now.entries,
    )

pub returns-in-Full-clause-apart : goal.returns-in-Full-clause-apart
returns-in-Full-clause-apart c = λ stays.
    let both = and_parts c.args.are_apart.now c.in-Full.is_alone stays in (
      both.0,
      apart_when_known c.args.rows.now c.args.places.now c.args.others.now.entries c.requires.found c.args.cut.now (c.in-Full.ensures.2 both.1)
          c.other_or_last.new.others.entries c.other_or_last.ensures.others _ c.other_or_last.result c.other_or_last.ensures.new,
    )
