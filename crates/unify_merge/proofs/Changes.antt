-- Why a second reading of an inventory ended early.
use Rattle.std.proofs.Common.{◌≡◌, ℕ, List, Result, Ok, Err, ap, subst, inl, inr}
use Rattle.std.specs.Prelude.{IfSome}
use Rattle.mtree_inv.specs.declared.entry.Entry.{Entry}
use Rattle.hosts_join.specs.declared.host.Host.{Host}
use Rattle.unify_texts.specs.Told.{told}
use Rattle.unify_texts.specs.declared.fault.Fault.{Fault}
use Rattle.unify_texts.specs.declared.fault.Fault.TheVariants.{InventoryChanged}
use Rattle.unify.specs.Passes.{is_read}
use Rattle.unify.specs.SecondPass.{or_changed, owned_lines, second_lines}
use Rattle.unify_merge.specs.Ledger.{Ledger, Reading}
use Rattle.unify_merge.specs.Pieces.{EndsEarly}
use Rattle.unify_merge.specs.FirstReading.{HasRead, IsReading}
use Rattle.unify_merge.specs.SecondReading.{StopsEnd, StopsPiece, StopsSecond}
use Rattle.unify_merge.specs.declared.fault.MergeFault.{MergeFault}
use Rattle.unify_merge.specs.declared.fault.MergeFault.TheVariants.{Failed, TooLarge, Refused}
use Rattle.unify_merge.proofs.Stops.{if_told}

-- any fault is told as a change
is_change : (host : Host) (r : Result (List Entry) Fault) (f : Fault) → is_read (or_changed host r) ≡ Err f → f ≡ InventoryChanged host.name
is_change host (Ok files) f h = absurd (cc)
is_change host (Err e) f h =
    let is : ◌≡◌ {A = Result (Unit {0}) Fault} (Err (InventoryChanged host.name)) (Err f) = h in
    (cc)

pub piece_stopped : (host : Host) (text : List ℕ) (e : Fault) → IfSome (told e) (λ f. is_read (second_lines host text) ≡ Err f) → StopsPiece host text (Refused e)
piece_stopped host text e fault = if_told (told e) _ _ (λ f is. (is_change host (owned_lines host text) f is, f, is)) fault

-- where a piece did not come, no reading came to its end
pub early_read : (r : Reading) (bytes : List ℕ) (left : ℕ) (old new : Ledger) (fault : MergeFault) → EndsEarly r bytes left old new fault → new.read ≡ old.read
early_read r bytes left old new (Failed e) early = ap (λ (l : Ledger). l.read) early
early_read r bytes left old new TooLarge early = ap (λ (l : Ledger). l.read) early.0
early_read r bytes left old new (Refused e) early = absurd early

-- its lines have a fault
pub second_lines_stop : (host : Host) (were : List Entry) (index : ℕ) (text : List ℕ) (before : List Reading) (l : Ledger) (fault : MergeFault) → IsReading before index text l → StopsPiece host text fault → StopsSecond host were index before l fault
second_lines_stop host were index text before l (Failed e) reading stops = stops
second_lines_stop host were index text before l TooLarge reading stops = absurd stops
second_lines_stop host were index text before l (Refused e) reading stops = if_told (told e) _ _ (λ f is. (is.0, (text, inl (reading, is.1, is.2)))) stops

-- the whole of it has, or it has other counts
pub second_whole_stop : (host : Host) (were : List Entry) (index : ℕ) (text : List ℕ) (before : List Reading) (l : Ledger) (fault : MergeFault) → HasRead before index text l → StopsEnd host were text fault → StopsSecond host were index before l fault
second_whole_stop host were index text before l (Failed e) read stops = stops
second_whole_stop host were index text before l TooLarge read stops = absurd stops
second_whole_stop host were index text before l (Refused e) read stops = if_told (told e) _ _ (λ f is. (is.0, (text, inr (read, is.1)))) stops

-- the same reading, told by other words
pub second_same : (host : Host) (were : List Entry) (i j : ℕ) (before other : List Reading) (l : Ledger) (fault : MergeFault) → i ≡ j → before ≡ other → StopsSecond host were i before l fault → StopsSecond host were j other l fault
second_same host were i j before other l fault same equal stops =
    subst (λ b. StopsSecond host were j b l fault) equal (subst (λ k. StopsSecond host were k before l fault) same stops)
