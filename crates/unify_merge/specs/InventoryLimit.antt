-- How many bytes an inventory may have, digit by digit, and that none that is read has more.
-- Source: this project's own formats.
use Rattle.std.specs.Prelude.{◌≡◌, ◌≤◌, ◌++◌, ℕ, List, codes, decimal, length}
use Rattle.std.specs.List.{All}
use Rattle.hosts_join.specs.declared.texts.HostText.{HostText}
use Rattle.unify.specs.declared.counting.Cost.{Cost}
use Rattle.unify_merge.specs.FirstReading.{most_inventory_bytes}
use Rattle.unify_merge.specs.Ledger.{Ledger, Reading}
use Rattle.unify_merge.specs.Rehearse.{HasRehearsed}
use Rattle.unify_merge.specs.Surveyed.{HasCheckedFiles, HasCountedFiles, HasMergedFiles}

abbrev pub InventoryLimitByDigit : Type 0
InventoryLimitByDigit = decimal most_inventory_bytes ≡ codes "4294967295"

-- the readings that came to their ends in between have no more bytes each
abbrev pub HasReadWithinLimit : Ledger → Ledger → Type 0
HasReadWithinLimit old new = (more : List Reading) × (new.read ≡ old.read ++ more)
    × All (λ (r : Reading). length r.text ≤ most_inventory_bytes) more

-- so it is of each command, and of the survey before it
pub record ReadingsAreWithinLimit : Type 0 where
  pub merges : (hosts : List HostText) (pins keep : List ℕ) (old new : Ledger) (cost : Cost)
      → HasMergedFiles hosts pins keep old new cost → HasReadWithinLimit old new
  pub checks : (hosts : List HostText) (pins keep certificate : List ℕ) (old new : Ledger)
      (cost : ℕ) → HasCheckedFiles hosts pins keep certificate old new cost
      → HasReadWithinLimit old new
  pub counts : (hosts : List HostText) (keep map : List ℕ) (old new : Ledger) (cost : Cost)
      → HasCountedFiles hosts keep map old new cost → HasReadWithinLimit old new
  pub rehearsals : (plan : List ℕ) (old new : Ledger) (n : ℕ) → HasRehearsed plan old new n
      → HasReadWithinLimit old new
