-- A rehearsal goes by the whole inventory.
use Rattle.std.proofs.Common.{◌≢◌, ℕ, List, Ok, Err, sym, ap, subst, inl, inr}
use Rattle.std.specs.Prelude.{IfSome, Option}
use Rattle.unify_texts.specs.declared.fault.Fault.{Fault}
use Rattle.unify_texts.specs.declared.fault.Fault.TheVariants.{Memory}
use Rattle.unify_texts.proofs.FaultsTold.{faults_are_told}
use Rattle.unify_merge.specs.Ledger.{Ledger}
use Rattle.unify_merge.specs.Rehearse.{IsRehearsalFault, StopsRehearsal}
use Rattle.unify_merge.specs.RehearsalsRead.{RefusedRehearsalsTellTheirFault, RehearsalsReadToTheEnd}
use Rattle.unify_merge.specs.declared.fault.MergeFault.TheVariants.{Refused}

pub rehearsals_read : RehearsalsReadToTheEnd
rehearsals_read text old new n (plan, reads, (mtree, read, is, within)) = (mtree, read, record { plan = Ok plan; reads = reads; answered = is })

fault_of : (text : List ℕ) (old new : Ledger) (f : Fault) → f ≢ Memory → StopsRehearsal text old new (Refused f) → IsRehearsalFault text old new f
fault_of text old new f other stops = subst (λ (o : Option Fault). IfSome o (IsRehearsalFault text old new)) (faults_are_told.commands.others f other) stops

pub refused_rehearsals : RefusedRehearsalsTellTheirFault
refused_rehearsals text old new f other stops =
    elim (fault_of text old new f other stops) [
      | inl (offset, reads, is, same) ↦ inl (same, λ mtree. record { plan = Err offset; reads = reads; answered = ap Err (sym is) })
      | inr (plan, reads, (mtree, inl (reading, refused))) ↦ inr (mtree, inr (reading.1, λ more. record { plan = Ok plan; reads = reads; answered = refused more }))
      | inr (plan, reads, (mtree, inr (read, is))) ↦ inr (mtree, inl (read, record { plan = Ok plan; reads = reads; answered = is }))
    ]
