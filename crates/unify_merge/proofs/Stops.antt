-- Why a reading of an inventory ended early.
use Rattle.std.proofs.Common.{◌≡◌, ◌+◌, ◌<◌, ◌++◌, ℕ, List, length, Option, Some, None, Err, ap, arith, inl, inr, length-append}
use Rattle.std.specs.Prelude.{IfSome}
use Rattle.hosts_join.specs.declared.host.Host.{Host}
use Rattle.unify_texts.specs.Told.{told}
use Rattle.unify_texts.specs.declared.fault.Fault.{Fault}
use Rattle.site_tables.specs.Hosts.{files_of, lines_of}
use Rattle.unify.specs.Passes.{is_read}
use Rattle.unify_merge.specs.Ledger.{Ledger, Reading}
use Rattle.unify_merge.specs.Pieces.{EndsEarly}
use Rattle.unify_merge.specs.FirstReading.{HasRead, IsReading, IsTooLarge, StopsFirst, StopsFor, most_inventory_bytes}
use Rattle.unify_merge.specs.declared.fault.MergeFault.{MergeFault}
use Rattle.unify_merge.specs.declared.fault.MergeFault.TheVariants.{Failed, TooLarge, Refused}

-- what holds of a fault that is told
pub if_told : (o : Option Fault) (P Q : Fault → Type 0) → ((f : Fault) → P f → Q f) → IfSome o P → IfSome o Q
if_told None P Q goes p = tt
if_told (Some f) P Q goes p = goes f p

-- more bytes than there may be
is_too_large : (host left : ℕ) (text bytes : List ℕ) (l : Ledger) → left + length text ≡ most_inventory_bytes → l.reading ≡ Some (record { host = host; text = text ++ bytes }) → left < length bytes → IsTooLarge l
is_too_large host left text bytes l may reading over = (host, text ++ bytes, reading, omega (arith, may, over, length-append text bytes))

-- a fault of one kind is one of another
pub stops_map : (P Q : Fault → Type 0) (l : Ledger) (fault : MergeFault) → ((f : Fault) → P f → Q f) → StopsFor P l fault → StopsFor Q l fault
stops_map P Q l (Failed e) goes stops = stops
stops_map P Q l TooLarge goes stops = stops
stops_map P Q l (Refused e) goes stops = if_told (told e) P Q goes stops

-- a piece did not come
pub piece_ended : (IsFault : Fault → Type 0) (host left : ℕ) (text bytes : List ℕ) (old new : Ledger) (fault : MergeFault) → left + length text ≡ most_inventory_bytes
    → EndsEarly (record { host = host; text = text }) bytes left old new fault → StopsFor IsFault new fault
piece_ended IsFault host left text bytes old new (Failed e) may early = tt
piece_ended IsFault host left text bytes old new TooLarge may early = is_too_large host left text bytes new may (ap (λ (l : Ledger). l.reading) early.0) early.1
piece_ended IsFault host left text bytes old new (Refused e) may early = absurd early

-- its lines have a fault
pub first_lines : (host : Host) (index : ℕ) (text : List ℕ) (before : List Reading) (l : Ledger) (e : Fault) → IsReading before index text l → IfSome (told e) (λ f. is_read (lines_of host text) ≡ Err f) → StopsFirst host index before l (Refused e)
first_lines host index text before l e reading fault = if_told (told e) _ _ (λ f is. (text, inl (reading, is))) fault

-- the whole of it has
pub first_whole : (host : Host) (index : ℕ) (text : List ℕ) (before : List Reading) (l : Ledger) (e : Fault) → HasRead before index text l → IfSome (told e) (λ f. is_read (files_of (record { host = host; mtree = text })) ≡ Err f) → StopsFirst host index before l (Refused e)
first_whole host index text before l e read fault = if_told (told e) _ _ (λ f is. (text, inr (read, is))) fault
