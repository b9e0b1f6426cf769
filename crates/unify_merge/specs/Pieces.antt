-- One piece of a reading.
-- Source: this project's own rule.
use Rattle.std.specs.Prelude.{◌≡◌, ℕ, ◌+◌, ◌<◌, Bool, true, false, List, ◌++◌, length}
use Rattle.unify_merge.specs.Ledger.{Ledger, Reading, reading_so_far, after_reading}
use Rattle.unify_merge.specs.declared.fault.MergeFault.{MergeFault}
use Rattle.unify_merge.specs.declared.fault.MergeFault.TheVariants.{Failed, TooLarge, Refused}

-- the reading goes on with bytes, or comes to its end
-- left, less: how many bytes more it may have before and after them
abbrev pub GoesOn : Reading → List ℕ → ℕ → ℕ → Ledger → Ledger → Bool → Type 0
GoesOn r bytes left less old new true =
    (new ≡ reading_so_far r.host (r.text ++ bytes) old) × (less + length bytes ≡ left)
    × (less < left)
GoesOn r bytes left less old new false = new ≡ after_reading r.host r.text old

-- the call failed, or more bytes came than may come
abbrev pub EndsEarly : Reading → List ℕ → ℕ → Ledger → Ledger → MergeFault → Type 0
EndsEarly r bytes left old new (Failed e) = new ≡ old
EndsEarly r bytes left old new TooLarge =
    (new ≡ reading_so_far r.host (r.text ++ bytes) old) × (left < length bytes)
EndsEarly r bytes left old new (Refused e) = ⊥
