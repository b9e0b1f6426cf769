-- No inventory that is read has more bytes than it may have.
use Rattle.std.proofs.Common.{◌≡◌, ◌≤◌, ◌+◌, ◌++◌, ◌∷◌, [], ℕ, List, length, refl, ap, ◌∙◌, append_assoc}
use Rattle.std.specs.List.{All}
use Rattle.std.proofs.lemmas.List.Elements.{All-append, All-cons, All-head, All-nil, All-tail}
use Rattle.hosts_join.specs.declared.texts.HostText.{HostText}
use Rattle.kept_accounts.specs.Reserving.{UnownedNumbers}
use Rattle.site_tables.specs.Rules.{rules_by}
use Rattle.unify.specs.declared.counting.Cost.{Cost}
use Rattle.site_tables.specs.declared.rules.SiteRules.{SiteRules}
use Rattle.unify_merge.specs.FirstReading.{AreWithinLimit, IsWithinLimit, WereEachRead, most_inventory_bytes, readings_from}
use Rattle.unify_merge.specs.InventoryLimit.{HasReadWithinLimit, ReadingsAreWithinLimit}
use Rattle.unify_merge.specs.Ledger.{Ledger, Reading}
use Rattle.unify_merge.specs.Merge.{HasMerged}
use Rattle.unify_merge.specs.Rehearse.{HasRehearsed}
use Rattle.unify_merge.specs.Surveyed.{WereFound}

abbrev IsShort : Reading → Type 0
IsShort r = length r.text ≤ most_inventory_bytes

short_from : (host : ℕ) (texts : List (List ℕ)) → AreWithinLimit texts → All IsShort (readings_from host texts)
short_from host [] within = All-nil IsShort
short_from host (text ∷ texts) within =
    All-cons IsShort (record { host = host; text = text }) (readings_from (host + 1) texts) (All-head IsWithinLimit text texts within) (short_from (host + 1) texts (All-tail IsWithinLimit text texts within))

-- as these texts
read_within : (old new : Ledger) (texts : List (List ℕ)) → AreWithinLimit texts → new.read ≡ old.read ++ readings_from 0 texts → HasReadWithinLimit old new
read_within old new texts within read = (readings_from 0 texts, read, short_from 0 texts within)

-- and then more
within_on : (old mid new : Ledger) → HasReadWithinLimit old mid → HasReadWithinLimit mid new → HasReadWithinLimit old new
within_on old mid new one two =
    (one.0 ++ two.0, two.1 ∙ ap (λ rs. rs ++ two.0) one.1 ∙ append_assoc old.read one.0 two.0, All-append IsShort one.0 two.0 one.2 two.2)

found_within : (hosts : List HostText) (keep : List ℕ) (old mid : Ledger) (unowned : UnownedNumbers) → WereFound hosts keep old mid unowned → HasReadWithinLimit old mid
found_within hosts keep old mid unowned found = read_within old mid found.texts found.within found.readings

checked_within : (hosts : List HostText) (texts : List (List ℕ)) (mid new : Ledger) → WereEachRead hosts texts mid new → HasReadWithinLimit mid new
checked_within hosts texts mid new read = read_within mid new texts read.within read.readings

merged_within : (hosts : List HostText) (rules : SiteRules) (mid new : Ledger) (cost : Cost) → HasMerged hosts rules mid new cost → HasReadWithinLimit mid new
merged_within hosts rules mid new cost m =
    let once : Ledger = record mid { read = mid.read ++ readings_from 0 m.first } in
    within_on mid once new (read_within mid once m.first m.first_read.within refl) (read_within once new m.second m.second_read.within m.readings)

rehearsed_within : (plan : List ℕ) (old new : Ledger) (n : ℕ) → HasRehearsed plan old new n → HasReadWithinLimit old new
rehearsed_within plan old new n (told, reads, (text, read, is, within)) = read_within old new (text ∷ []) (All-cons IsWithinLimit text [] within (All-nil IsWithinLimit)) read

pub within_limit : ReadingsAreWithinLimit
within_limit = record {
  merges = λ hosts pins keep old new cost after.
      within_on old after.middle new (found_within hosts keep old after.middle after.unowned after.surveyed) (merged_within hosts (rules_by pins keep after.unowned) after.middle new cost after.holds);
  checks = λ hosts pins keep certificate old new cost after.
      within_on old after.middle new (found_within hosts keep old after.middle after.unowned after.surveyed) (checked_within hosts after.holds.texts after.middle new after.holds.were_read);
  counts = λ hosts keep map old new cost after.
      within_on old after.middle new (found_within hosts keep old after.middle after.unowned after.surveyed) (checked_within hosts after.holds.texts after.middle new after.holds.were_read);
  rehearsals = rehearsed_within;
}
