-- What was found of an owner of files.
use Rattle.std.proofs.Common.{◌≡◌, Option, Some, None, sym, subst}
use Rattle.std.specs.Prelude.{IsSome}
use Rattle.std.proofs.lemmas.Bool.{true≢false}
use Rattle.mtree_inv.specs.declared.entry.Entry.{Entry}
use Rattle.reown_plan.specs.OwnerChange.{IsChange, OwnerChange}
use Rattle.reown_plan.specs.Owners.{owner_of}
use Rattle.reown_plan.specs.declared.plan.Owner.{Owner}
use Rattle.unify.specs.KnownOwners.{owner_at}
use Rattle.unify.specs.Places.{Owns}
use Rattle.unify.specs.PlannedHosts.{GivesOf, IsKnownOf}
use Rattle.unify.specs.declared.known_owners.KnownOwner.{KnownOwner}
use Rattle.unify.specs.declared.plan_turn.PlannedHost.{PlannedHost}
use Rattle.unify.specs.declared.row_files.OwnerPlaces.{OwnerPlaces}

-- the owner at the places is that of a file with these numbers
owner_same : (places : OwnerPlaces) (file : Entry) → places.uid ≡ file.uid → places.gid ≡ file.gid → owner_at places ≡ owner_of file
owner_same places file uid gid = λ i. record { uid = uid i; gid = gid i }

module _ (whose : PlannedHost) (file : Entry) where
  -- what the owner gets is what the file's owner gets
  pub gives_owner : (places : OwnerPlaces) (change : OwnerChange) → IsChange whose.site.now whose.merged.now.mappings whose.index (owner_at places) change → places.uid ≡ file.uid → places.gid ≡ file.gid → GivesOf whose file (Some change)
  gives_owner places change gets uid gid =
      subst (λ (o : Owner). IsChange whose.site.now whose.merged.now.mappings whose.index o change) (owner_same places file uid gid) gets

  -- and the other way
  pub owner_gets : (places : OwnerPlaces) (change : OwnerChange) → IsChange whose.site.now whose.merged.now.mappings whose.index (owner_of file) change → places.uid ≡ file.uid → places.gid ≡ file.gid → IsChange whose.site.now whose.merged.now.mappings whose.index (owner_at places) change
  owner_gets places change gets uid gid =
      subst (λ (o : Owner). IsChange whose.site.now whose.merged.now.mappings whose.index o change) (sym (owner_same places file uid gid)) gets

  given : (places : OwnerPlaces) (change : Option OwnerChange) → IsKnownOf whose (record { places = places; change = change }) → IsSome change → places.uid ≡ file.uid → places.gid ≡ file.gid → Owns whose.host.now places file × GivesOf whose file change
  given places (Some change) known some uid gid = (known.rows file (sym uid) (sym gid), gives_owner places change known.gets uid gid)
  given places None known some uid gid = absurd (true≢false (sym some))

  -- an owner that is known, of a file with its numbers
  pub known_gives : (known : KnownOwner) → IsKnownOf whose known → IsSome known.change → known.places.uid ≡ file.uid → known.places.gid ≡ file.gid → Owns whose.host.now known.places file × GivesOf whose file known.change
  known_gives known is some uid gid = given known.places known.change is some uid gid

  -- the change that is there
  pub change_given : (known change : Option OwnerChange) → known ≡ change → GivesOf whose file known → GivesOf whose file change
  change_given known change is gives = subst (GivesOf whose file) is gives
