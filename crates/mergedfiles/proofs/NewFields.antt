-- The fields that hold new numbers.
use Rattle.std.proofs.Common.{◌≡◌, ℕ, ◌<◌, ◌≤◌, List, length, arith, Option, Some, None, refl, ap, ◌∙◌, sym, subst}
use Rattle.std.specs.Option.{option_and_then, option_map}
use Rattle.std.specs.Str.{bytes_eq}
use Rattle.idtext.specs.Numbers.{id_of}
use Rattle.idtext.proofs.NumberLemmas.{decimal-back}
use Rattle.hosts_join.specs.Accounts.{Account, Accounts, place_of}
use Rattle.hosts_join.specs.Kinds.{group_at}
use Rattle.hosts_join.specs.declared.host.Host.{Host}
use Rattle.ownership.specs.Mappings.{IsMapping, number_at, number_under}
use Rattle.mergedfiles.specs.HostFiles.{new_number, new_primary, number_field}
use Rattle.mergedfiles.proofs.Places.{place-within}
use Rattle.mergedfiles.proofs.ReadLines.{IsPlain, decimal-plain}

-- a field that holds the number, and neither a colon nor a newline
abbrev pub Holds : List ℕ → ℕ → Type 0
Holds field number = (id_of field ≡ Some number) × IsPlain field

new-field : (m : List ℕ) (place : Option ℕ) (field : List ℕ) (was : ℕ) → ((i : ℕ) → place ≡ Some i → number_at m i ≤ 4294967294) → Holds field was → Holds (number_field (option_map (number_at m) place) field) (number_under m place was)
new-field m None field was small holds = holds
new-field m (Some i) field was small holds = (decimal-back (number_at m i) (small i refl), decimal-plain (number_at m i) (small i refl))

module _ (a : Accounts) (m : List ℕ) (mapping : IsMapping m) (len : length m ≡ length a.names) where
  small : (name : List ℕ) (i : ℕ) → place_of a.names name ≡ Some i → number_at m i ≤ 4294967294
  small name i e =
      let within : i < length a.names = place-within (λ (x : Account). bytes_eq name x.name) a.names i e in
      mapping.ids i 0 (omega (arith, within, len))

  -- the field of a name's number
  pub name-field : (name field : List ℕ) (was : ℕ) → Holds field was → Holds (number_field (new_number a m name) field) (number_under m (place_of a.names name) was)
  name-field name field was holds = new-field m (place_of a.names name) field was (small name) holds

  small-at : (o : Option (List ℕ)) (i : ℕ) → option_and_then (place_of a.names) o ≡ Some i → number_at m i ≤ 4294967294
  small-at None i e = absurd (cc)
  small-at (Some name) i e = small name i e

  number-at : (o : Option (List ℕ)) → option_and_then (new_number a m) o ≡ option_map (number_at m) (option_and_then (place_of a.names) o)
  number-at None = refl
  number-at (Some name) = refl

  -- the field of a primary group's number
  pub primary-field : (host : Host) (field : List ℕ) (was : ℕ) → Holds field was → Holds (number_field (new_primary host a m field) field) (number_under m (option_and_then (place_of a.names) (group_at host.groups was)) was)
  primary-field host field was holds =
      let group = group_at host.groups was in
      let same : new_primary host a m field ≡ option_map (number_at m) (option_and_then (place_of a.names) group) =
      ap (λ o. option_and_then (new_number a m) (option_and_then (group_at host.groups) o)) holds.0 ∙ number-at group in
      subst (λ (o : Option ℕ). Holds (number_field o field) (number_under m (option_and_then (place_of a.names) group) was)) (sym same)
      (new-field m (option_and_then (place_of a.names) group) field was (small-at group) holds)
