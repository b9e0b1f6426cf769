use Rattle.std.proofs.Common.{◌≡◌, ℕ, List, refl, sym, ap, ◌∙◌, subst, false, ◌++◌}
use Rattle.std.specs.Prelude.{None, Some, Ok, Err, IfSome}
use Rattle.mtree_inv.specs.contracts.reader.Reader.{the_view}
use Rattle.mtree_inv.specs.Logical.{whole_lines}
use Rattle.mtree_inv.specs.Inventory.{accepted_files, inventory_of_lines, inventory}
use Rattle.mtree_inv.specs.Standing.{ReaderValue, AreLeftBy, StandsFor, files}
use Rattle.idtext.specs.Faults.{fault_told}
use Rattle.mtree_inv.specs.Parts.{files_of_parts}
use Rattle.mtree_inv.proofs.StandLemmas.{going_at, stands_by, fed_whole, fed_going, fed_failed, fed_told, fed_ended, fed_left, none_then, stands_still}
use Rattle.mtree_inv.proofs.reader.Reader.feed.Goals as goal

pub returns-in-Ok-clause-stands : goal.returns-in-Ok-clause-stands
returns-in-Ok-clause-stands c = λ text h.
    let reader = the_view c.self.inside in
    let open_still = ap (λ (r : ReaderValue). r.is_finished) c.self.view_is ∙ c.requires in
    let going = going_at reader text c.in_default.is open_still (subst (λ (r : ReaderValue). StandsFor r text) (sym c.self.view_is) h) in
    let new = the_view (record { parts = c.take_piece.new.self; past = c.self.inside.past; fault = c.self.inside.fault; is_finished = c.self.inside.is_finished }) in
    stands_by new (text ++ c.args.piece.now) None false c.in_default.is open_still
    (fed_going reader new text c.args.piece.now going c.take_piece.ensures.most c.in-Ok.ensures.taken refl refl)

pub returns-in-Ok-clause-told : goal.returns-in-Ok-clause-told
returns-in-Ok-clause-told c = λ text h.
    let reader = the_view c.self.inside in
    let open_still = ap (λ (r : ReaderValue). r.is_finished) c.self.view_is ∙ c.requires in
    let going = going_at reader text c.in_default.is open_still (subst (λ (r : ReaderValue). StandsFor r text) (sym c.self.view_is) h) in
    let new = the_view (record { parts = c.take_piece.new.self; past = c.self.inside.past; fault = c.self.inside.fault; is_finished = c.self.inside.is_finished }) in
    none_then c.args.self.now.fault
    (subst (λ (r : ReaderValue). inventory_of_lines r.most (whole_lines (text ++ c.args.piece.now)) ≡ Ok (files new)) c.self.view_is
    (fed_whole reader new text c.args.piece.now going c.take_piece.ensures.most c.in-Ok.ensures.taken refl refl))

pub returns-in-Err-clause-stands : goal.returns-in-Err-clause-stands
returns-in-Err-clause-stands c = λ text h.
    let reader = the_view c.self.inside in
    let open_still = ap (λ (r : ReaderValue). r.is_finished) c.self.view_is ∙ c.requires in
    let going = going_at reader text c.in_default.is open_still (subst (λ (r : ReaderValue). StandsFor r text) (sym c.self.view_is) h) in
    let new = the_view (record { parts = c.take_piece.new.self; past = c.self.inside.past; fault = Some c.in-Err.fault; is_finished = c.self.inside.is_finished }) in
    fed_failed reader new text c.args.piece.now c.self.inside.is_finished c.in-Err.fault going c.take_piece.ensures.most c.in-Err.ensures.taken

pub returns-in-Err-clause-told : goal.returns-in-Err-clause-told
returns-in-Err-clause-told c = λ text h.
    let reader = the_view c.self.inside in
    let open_still = ap (λ (r : ReaderValue). r.is_finished) c.self.view_is ∙ c.requires in
    let going = going_at reader text c.in_default.is open_still (subst (λ (r : ReaderValue). StandsFor r text) (sym c.self.view_is) h) in
    none_then c.args.self.now.fault
    (subst (λ (r : ReaderValue). IfSome (fault_told c.in-Err.fault) (λ f. inventory_of_lines r.most (whole_lines (text ++ c.args.piece.now)) ≡ Err f)) c.self.view_is
    (fed_told reader (files_of_parts c.take_piece.new.self) text c.args.piece.now c.in-Err.fault going c.in-Err.ensures.taken))

pub returns-in-Err-clause-ended : goal.returns-in-Err-clause-ended
returns-in-Err-clause-ended c = λ text h.
    let reader = the_view c.self.inside in
    let open_still = ap (λ (r : ReaderValue). r.is_finished) c.self.view_is ∙ c.requires in
    let going = going_at reader text c.in_default.is open_still (subst (λ (r : ReaderValue). StandsFor r text) (sym c.self.view_is) h) in
    none_then c.args.self.now.fault
    (subst (λ (r : ReaderValue). IfSome (fault_told c.in-Err.fault) (λ f. (more : List ℕ) → inventory r.most ((text ++ c.args.piece.now) ++ more) ≡ Err f)) c.self.view_is
    (fed_ended reader (files_of_parts c.take_piece.new.self) text c.args.piece.now c.in-Err.fault going c.in-Err.ensures.taken))

pub returns-in-Err-clause-read : goal.returns-in-Err-clause-read
returns-in-Err-clause-read c = λ text h.
    let reader = the_view c.self.inside in
    let open_still = ap (λ (r : ReaderValue). r.is_finished) c.self.view_is ∙ c.requires in
    let going = going_at reader text c.in_default.is open_still (subst (λ (r : ReaderValue). StandsFor r text) (sym c.self.view_is) h) in
    let left = files_of_parts c.take_piece.new.self in
    none_then c.args.self.now.fault
    (subst (λ (r : ReaderValue). AreLeftBy c.in-Err.fault left (accepted_files r.most (whole_lines (text ++ c.args.piece.now)))) c.self.view_is
    (fed_left reader left text c.args.piece.now c.in-Err.fault going c.in-Err.ensures.taken))

pub returns-in-Some-clause-stands : goal.returns-in-Some-clause-stands
returns-in-Some-clause-stands c = λ text h.
    stands_still c.args.self.now text c.args.piece.now c.in-Some.fault (ap (λ (r : ReaderValue). r.fault) (sym c.self.view_is) ∙ c.in-Some.is) h
