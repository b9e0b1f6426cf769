-- Some name is kept on some host exactly where it reserves its number there.
use Rattle.std.proofs.Common.{◌≡◌, suc, Bool, true, List, [], ◌∷◌, refl, arith, inl, inr}
use Rattle.std.specs.Prelude.{◌||◌}
use Rattle.std.specs.List.{list_any}
use Rattle.std.proofs.lemmas.Bool.{cases_Bool, or_left, or_right}
use Rattle.hosts_join.specs.declared.reserving.Reserved.{Reserved}
use Rattle.hosts_join.specs.declared.reserving.Reserver.{Reserver}
use Rattle.hosts_join.specs.declared.reserving.Reserver.TheVariants as by
use Rattle.hosts_join.proofs.StandingRows.{contains-any}
use Rattle.logindefs.specs.declared.ranges.IdRange.{IdRange}
use Rattle.unify_texts.specs.ReservedLines.{is_by_name}
use Rattle.unify_texts.specs.KeptNames.{HasKeptName, KeepsSome, KeptNamesAreSeen}

abbrev by_name : Reserved → Bool
by_name r = is_by_name r.by

further : (r : Reserved) (rs : List Reserved) → HasKeptName rs → HasKeptName (r ∷ rs)
further r rs has = let less = has.there.1 in record {
  host = has.host;
  name = has.name;
  numbers = has.numbers;
  there = (suc has.there.0, omega (arith, less), has.there.2);
}

first : (numbers : IdRange) (who : Reserver) (rs : List Reserved) → (is_by_name who || list_any by_name rs) ≡ true → (list_any by_name rs ≡ true → HasKeptName rs) → HasKeptName (record { numbers = numbers; by = who } ∷ rs)
first numbers by.Range rs h later = further (record { numbers = numbers; by = by.Range }) rs (later h)
first numbers (by.Name host name) rs h later = record { host = host; name = name; numbers = numbers; there = (0, omega arith, refl) }
first numbers (by.Unowned host) rs h later = further (record { numbers = numbers; by = by.Unowned host }) rs (later h)

has_kept : (rs : List Reserved) → list_any by_name rs ≡ true → HasKeptName rs
has_kept [] h = absurd (cc)
has_kept (r ∷ rs) h = first r.numbers r.by rs h (has_kept rs)

is_seen : (rs : List Reserved) → HasKeptName rs → list_any by_name rs ≡ true
is_seen rs has = contains-any by_name rs (record { numbers = has.numbers; by = by.Name has.host has.name }) refl has.there

pub kept_names_seen : KeptNamesAreSeen
kept_names_seen site = (kept, seen)
  where
    us : List Reserved
    us = site.users.reserved

    gs : List Reserved
    gs = site.groups.reserved

    kept : (list_any by_name us || list_any by_name gs) ≡ true → KeepsSome site
    kept h = elim (cases_Bool (list_any by_name us)) [ inl it ↦ inl (has_kept us it) | inr away ↦ inr (has_kept gs (rw away at h)) ]

    seen : KeepsSome site → (list_any by_name us || list_any by_name gs) ≡ true
    seen (inl has) = or_left (list_any by_name us) (list_any by_name gs) (is_seen us has)
    seen (inr has) = or_right (list_any by_name us) (list_any by_name gs) (is_seen gs has)
