-- Words of private contracts: what the places say of a cut.
use Rattle.std.specs.Prelude.{◌≡◌, ◌<◌, ℕ, ◌+◌, true, List, length, Some, slice_get}
use Rattle.mtree_inv.specs.declared.places.Place.{Place}
use Rattle.mtree_inv.specs.declared.places.Probed.{Probed}
use Rattle.mtree_inv.specs.declared.places.Probed.TheVariants.{At, Free, Full}
use Rattle.mtree_inv.specs.Cuts.{Cut}
use Rattle.mtree_inv.specs.Places.{most_probes, half, hash_of, place_at, start_of, AreTaken}
use Rattle.mtree_inv.specs.Places.{IsToldNowhere, IsAlone}

abbrev pub IsAnswer : List Cut → List Place → Cut → Probed → Type 0
IsAnswer cuts places cut (At i) = slice_get cuts i ≡ Some cut
-- the place is the first free one, and none before it tells of the cut
IsAnswer cuts places cut (Free at hash is_alone) =
    (k : ℕ) × (k < most_probes) × (at ≡ start_of (length places) cut + k)
    × ((place_at places at).number ≡ 0) × AreTaken places (start_of (length places) cut) k
    × IsToldNowhere cuts places cut k × (hash ≡ half (hash_of cut)) × (at < length places)
    × (is_alone ≡ true → IsAlone cuts places cut k)
-- all are taken, and none tells of it
IsAnswer cuts places cut (Full is_alone) =
    AreTaken places (start_of (length places) cut) most_probes
    × IsToldNowhere cuts places cut most_probes
    × (is_alone ≡ true → IsAlone cuts places cut most_probes)
