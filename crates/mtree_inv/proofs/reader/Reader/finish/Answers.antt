use Rattle.std.proofs.Common.{◌≡◌, ℕ, refl, sym, ap, ◌∙◌, subst, true}
use Rattle.std.specs.Prelude.{None, Some, Ok, Err, IfSome}
use Rattle.mtree_inv.specs.contracts.reader.Reader.{the_view}
use Rattle.mtree_inv.specs.Inventory.{inventory}
use Rattle.mtree_inv.specs.Standing.{ReaderValue, AreLeftBy, StandsFor, files, files_before_fault}
use Rattle.idtext.specs.Faults.{fault_told}
use Rattle.mtree_inv.specs.Parts.{files_of_parts}
use Rattle.mtree_inv.proofs.StandLemmas.{going_at, stands_by, finished_whole, finished_failed, finished_told, finished_left, none_then}
use Rattle.mtree_inv.proofs.reader.Reader.finish.Goals as goal

pub returns-in-Ok-clause-stands : goal.returns-in-Ok-clause-stands
returns-in-Ok-clause-stands c = λ text h.
    let reader = the_view c.self.inside in
    let open_still = ap (λ (r : ReaderValue). r.is_finished) c.self.view_is ∙ c.requires in
    let going = going_at reader text c.in_default.is open_still (subst (λ (r : ReaderValue). StandsFor r text) (sym c.self.view_is) h) in
    let new = the_view (record { parts = c.take_end.new.self; past = c.self.inside.past; fault = c.self.inside.fault; is_finished = true }) in
    stands_by new text None true c.in_default.is refl
    (ap (λ (n : ℕ). inventory n text) c.take_end.ensures.most ∙ finished_whole reader new text going c.in-Ok.ensures.taken refl refl)

pub returns-in-Ok-clause-told : goal.returns-in-Ok-clause-told
returns-in-Ok-clause-told c = λ text h.
    let reader = the_view c.self.inside in
    let open_still = ap (λ (r : ReaderValue). r.is_finished) c.self.view_is ∙ c.requires in
    let going = going_at reader text c.in_default.is open_still (subst (λ (r : ReaderValue). StandsFor r text) (sym c.self.view_is) h) in
    let new = the_view (record { parts = c.take_end.new.self; past = c.self.inside.past; fault = c.self.inside.fault; is_finished = true }) in
    none_then c.args.self.now.fault
    (subst (λ (r : ReaderValue). inventory r.most text ≡ Ok (files new)) c.self.view_is (finished_whole reader new text going c.in-Ok.ensures.taken refl refl))

pub returns-in-Err-clause-stands : goal.returns-in-Err-clause-stands
returns-in-Err-clause-stands c = λ text h.
    let reader = the_view c.self.inside in
    let open_still = ap (λ (r : ReaderValue). r.is_finished) c.self.view_is ∙ c.requires in
    let going = going_at reader text c.in_default.is open_still (subst (λ (r : ReaderValue). StandsFor r text) (sym c.self.view_is) h) in
    let new = the_view (record { parts = c.take_end.new.self; past = c.self.inside.past; fault = Some c.in-Err.fault; is_finished = c.self.inside.is_finished }) in
    finished_failed reader new text c.self.inside.is_finished c.in-Err.fault going c.take_end.ensures.most c.in-Err.ensures.taken

pub returns-in-Err-clause-told : goal.returns-in-Err-clause-told
returns-in-Err-clause-told c = λ text h.
    let reader = the_view c.self.inside in
    let open_still = ap (λ (r : ReaderValue). r.is_finished) c.self.view_is ∙ c.requires in
    let going = going_at reader text c.in_default.is open_still (subst (λ (r : ReaderValue). StandsFor r text) (sym c.self.view_is) h) in
    none_then c.args.self.now.fault
    (subst (λ (r : ReaderValue). IfSome (fault_told c.in-Err.fault) (λ f. inventory r.most text ≡ Err f)) c.self.view_is
    (finished_told reader (files_of_parts c.take_end.new.self) text c.in-Err.fault going c.in-Err.ensures.taken))

pub returns-in-Err-clause-read : goal.returns-in-Err-clause-read
returns-in-Err-clause-read c = λ text h.
    let reader = the_view c.self.inside in
    let open_still = ap (λ (r : ReaderValue). r.is_finished) c.self.view_is ∙ c.requires in
    let going = going_at reader text c.in_default.is open_still (subst (λ (r : ReaderValue). StandsFor r text) (sym c.self.view_is) h) in
    let left = files_of_parts c.take_end.new.self in
    none_then c.args.self.now.fault
    (subst (λ (r : ReaderValue). AreLeftBy c.in-Err.fault left (files_before_fault r.most text)) c.self.view_is
    (finished_left reader left text c.in-Err.fault going c.in-Err.ensures.taken))
