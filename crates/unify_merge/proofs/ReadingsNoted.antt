-- What a ledger notes of a reading.
use Rattle.std.proofs.Common.{[], ◌∷◌, refl}
use Rattle.std.specs.Fmt.{digits}
use Rattle.unify_merge.specs.InventoryLimit.{InventoryLimitByDigit}
use Rattle.unify_merge.specs.LedgerLaws.{LedgersNoteReadings}

pub readings-noted : LedgersNoteReadings
readings-noted l host [] back some more = absurd (some refl)
readings-noted l host (b ∷ front) [] some more = absurd (more refl)
readings-noted l host (b ∷ front) (c ∷ back) some more = record { so_far = refl; whole = refl }

pub inventory-limit : InventoryLimitByDigit
unfolding digits
inventory-limit = refl
