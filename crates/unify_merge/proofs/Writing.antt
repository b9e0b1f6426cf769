-- A file that is written.
use Rattle.std.proofs.Common.{◌≡◌, ◌++◌, ℕ, List, Some, ap}
use Rattle.unify_merge.specs.Ledger.{Ledger, with_bytes, written_on}
use Rattle.unify_merge.specs.SecondReading.{IsWithinFile}

-- it goes on
pub written_more : (l : Ledger) (name text more : List ℕ) → l.writing ≡ Some (record { name = name; text = text }) → (with_bytes more l).writing ≡ Some (record { name = name; text = text ++ more })
written_more l name text more is = ap (λ o. (written_on more o l).writing) is

-- no file was begun or finished, and nothing was cleared away
pub within_file : (old new : Ledger) → new.is_clear ≡ old.is_clear → new.begun ≡ old.begun → new.finished ≡ old.finished → new.settled ≡ old.settled → IsWithinFile old new
within_file old new clear begun finished settled = λ j. record { read = new.read; reading = new.reading; is_clear = clear j; begun = begun j; finished = finished j; settled = settled j; writing = new.writing }
