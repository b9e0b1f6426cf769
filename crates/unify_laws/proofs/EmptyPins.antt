-- An empty pins text is as none.
use Rattle.std.proofs.Common.{◌≡◌, [], None, Ok, refl, ap, ◌∙◌}
use Rattle.idtext.specs.First.{first_fault, unless}
use Rattle.idtext.proofs.PieceLemmas.{lines-empty}
use Rattle.hosts_join.specs.PinPairs.{no_pins}
use Rattle.hosts_join.specs.PinsText.{pins_of, pins_on, pins_fault}
use Rattle.unify.specs.Reading.{site_read}
use Rattle.unify_laws.specs.Laws.{EmptyPinsAreNone}

no_fault : first_fault pins_fault [] [] ≡ None
unfolding first_fault
no_fault = refl

pub none_read : pins_of [] ≡ Ok no_pins
unfolding pins_of
none_read = ap (λ ls. unless (first_fault pins_fault [] ls) (pins_on ls)) lines-empty ∙ ap (λ f. unless f (pins_on [])) no_fault

pub empty_pins_are_none : EmptyPinsAreNone
unfolding site_read
empty_pins_are_none texts keep = simp none_read
