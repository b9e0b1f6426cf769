-- What is kept of the owners of a host's files.
-- Words of the code and not of the subject: only private contracts and invariants cite them.
use Rattle.std.specs.Prelude.{◌≡◌, ℕ, List, length, All, None, IfSome}
use Rattle.hosts_join.specs.Site.{Joined}
use Rattle.hosts_join.specs.declared.host.Host.{Host}
use Rattle.reown_plan.specs.OwnerChange.{IsChange, OwnerChange}
use Rattle.reown_plan.specs.declared.plan.Owner.{Owner}
use Rattle.unify.specs.declared.known_owners.KnownOwner.{KnownOwner}
use Rattle.unify.specs.declared.merging.Merged.{Merged}
use Rattle.unify.specs.declared.row_files.OwnerPlaces.{OwnerPlaces}
use Rattle.unify.specs.Places.{ArePlaces}

-- nothing was found of any owner
pub record NoneIsKnown (owners : List KnownOwner) : Type 0 where
  pub many : length owners ≡ 8192
  pub none : All (λ o. o.change ≡ None) owners

-- the owner whose rows stand at the places
abbrev pub owner_at : OwnerPlaces → Owner
owner_at places = record { uid = places.uid; gid = places.gid }

-- the rows of the owner stand there on the host with the index, and its files get this
pub record IsKnownAs (host : Host) (joined : Joined) (merged : Merged) (index : ℕ)
    (places : OwnerPlaces) (change : OwnerChange) : Type 0 where
  pub rows : ArePlaces host places
  pub gets : IsChange joined merged.mappings index (owner_at places) change

-- what was found is so
abbrev pub IsKnown : Host → Joined → Merged → ℕ → KnownOwner → Type 0
IsKnown host joined merged index owner =
    IfSome owner.change (IsKnownAs host joined merged index owner.places)

pub record AreKnown (host : Host) (joined : Joined) (merged : Merged) (index : ℕ)
    (owners : List KnownOwner) : Type 0 where
  pub many : length owners ≡ 8192
  pub each : All (IsKnown host joined merged index) owners
