-- Readings one after the other.
use Rattle.std.proofs.Common.{◌≡◌, ◌+◌, ◌++◌, ◌∷◌, [], ℕ, List, length, Ok, Err, Some, sym, ap, subst, ◌∙◌, arith, Result, append_assoc}
use Rattle.std.specs.Prelude.{IfErr, OnOk}
use Rattle.std.specs.List.{slice_get}
use Rattle.idtext.specs.First.{each}
use Rattle.mtree_inv.specs.declared.entry.Entry.{Entry}
use Rattle.hosts_join.specs.declared.host.Host.{Host}
use Rattle.unify.specs.Count.{site_of}
use Rattle.site_tables.specs.Loading.{loaded_from}
use Rattle.unify_merge.specs.Ledger.{Ledger, Reading}
use Rattle.unify_merge.specs.FirstReading.{IsFirstFault, ReadsOnly, StopsCounting, StopsFirst, readings_from}
use Rattle.unify_merge.specs.declared.fault.MergeFault.{MergeFault}
use Rattle.unify_merge.proofs.Stops.{stops_map}

-- what follows from a success, or from each error
pub on_ok : {T E : Type 0} (r : Result T E) (P Q : Type 0) → (P → Q) → OnOk r P → OnOk r Q
on_ok (Ok x) P Q goes p = goes p
on_ok (Err e) P Q goes p = tt

pub if_err : {T E : Type 0} (r : Result T E) (P Q : E → Type 0) → ((e : E) → P e → Q e) → IfErr r P → IfErr r Q
if_err (Ok x) P Q goes p = tt
if_err (Err e) P Q goes p = goes e p

-- one reading more
pub readings_push : (k h : ℕ) (texts : List (List ℕ)) (text : List ℕ) → h ≡ k + length texts → readings_from k (texts ++ text ∷ []) ≡ readings_from k texts ++ record { host = h; text = text } ∷ []
readings_push k h [] text is =
    let same : k ≡ h = omega (arith, is) in
    ap (λ (i : ℕ). record { host = i; text = text } ∷ []) same
readings_push k h (t ∷ texts) text is = ap (λ rs. record { host = k; text = t } ∷ rs) (readings_push (k + 1) h texts text (omega (arith, is)))

pub read_more : (old mid new : List Reading) (h : ℕ) (texts : List (List ℕ)) (text : List ℕ) → h ≡ length texts → mid ≡ old ++ readings_from 0 texts → new ≡ mid ++ record { host = h; text = text } ∷ [] → new ≡ old ++ readings_from 0 (texts ++ text ∷ [])
read_more old mid new h texts text is before now =
    let r : Reading = record { host = h; text = text } in
    now ∙ ap (λ rs. rs ++ r ∷ []) before ∙ append_assoc old (readings_from 0 texts) (r ∷ []) ∙ ap (λ rs. old ++ rs) (sym (readings_push 0 h texts text (omega (arith, is))))

pub reads_on : (old mid new : Ledger) → ReadsOnly old mid → ReadsOnly mid new → ReadsOnly old new
reads_on old mid new one two = two ∙ ap (λ (l : Ledger). record l { read = new.read; reading = new.reading }) one

-- the same reading, told by other words
pub first_same : (host : Host) (i j : ℕ) (before other : List Reading) (l : Ledger) (fault : MergeFault) → i ≡ j → before ≡ other → StopsFirst host i before l fault → StopsFirst host j other l fault
first_same host i j before other l fault same equal stops =
    subst (λ b. StopsFirst host j b l fault) equal (subst (λ k. StopsFirst host k before l fault) same stops)

-- the reading of one inventory ended early, and so did that of all
pub counting_stopped : (hosts : List Host) (texts : List (List ℕ)) (read : List (Host × List Entry)) (host : Host) (old mid new : Ledger) (fault : MergeFault) → each site_of (loaded_from hosts texts) ≡ Ok read
    → slice_get hosts (length texts) ≡ Some host → mid.read ≡ old.read ++ readings_from 0 texts → StopsFirst host (length texts) mid.read new fault → StopsCounting hosts old new fault
counting_stopped hosts texts read host old mid new fault accepted here readings stops = stops_map _ _ new fault (λ f is. record {
  texts = texts;
  read = read;
  accepted = accepted;
  host = host;
  here = here;
  fault = subst (λ b. IsFirstFault host (length texts) b new f) readings is;
}) stops
