use Rattle.std.proofs.Common.{◌≡◌, ℕ, List, Ok, None, sym, ap, subst, ◌∙◌, inl, refl}
use Rattle.mtree_inv.specs.Inventory.{inventory}
use Rattle.mtree_inv.specs.Standing.{ReaderValue}
use Rattle.mtree_inv.proofs.StandLemmas.{at_none}
use Rattle.mtree_inv.specs.declared.entry.Entry.{Entry}
use Rattle.unify.specs.Passes.{is_read}
use Rattle.unify.specs.Turns.{AreCounted, IsAccepted, TurnsFor, owner_told}
use Rattle.unify.proofs.Turns.{accepted_at_end, files_fail, grown_files, inventory_is, met_by_owner, met_by_reader, met_none, refused_at_end, room_after, sound_before}
use Rattle.unify.proofs.turn.end_turn.Goals as goal
use Rattle.unify.proofs.turn.end_turn.Goals.{After-count_new}

pub returns-in-Err-clause-told : goal.returns-in-Err-clause-told
returns-in-Err-clause-told c = λ text turns.
    rw c.read_fault.ensures (files_fail c.args.host.now c.args.turn.now.reader.most text c.in-Err.fault turns.most (at_none _ turns.sound (c.in-Err.ensures.told text turns.reading)))

pub returns-in-Err-clause-met : goal.returns-in-Err-clause-met
returns-in-Err-clause-met c = λ text turns.
    let told = files_fail c.args.host.now c.args.turn.now.reader.most text c.in-Err.fault turns.most (at_none _ turns.sound (c.in-Err.ensures.told text turns.reading)) in
    let kept = at_none _ turns.sound c.in-Err.ensures.fault in
    met_by_reader c.args.host.now text c.finish.new.self c.args.turn.now.unowned c.in-Err.fault kept.1 kept.0 told

pub count_new-requires : goal.count_new-requires
count_new-requires c =
    let turn = c.args.turn.now in
    let sound = sound_before turn.reader.fault (λ f. c.finish.new.self ≡ turn.reader) c.in_default.field-0 c.in_default.ensures.failed in
    let going = c.requires (met_none c.args.host.now turn.reader.is_finished turn.reader.fault turn.unowned (sym c.is_finished.ensures ∙ c.if-is_finished.false) sound) in
    room_after c.args.host.now turn c.finish.new.self going.0 going.0 going.1 (c.in_default.ensures.stands going.0 going.1.reading) c.in_default.ensures.most c.in_default.ensures.grow

-- the files of the whole text, as they were counted
counted : (c : After-count_new) (text : List ℕ) → TurnsFor c.args.host.now c.args.turn.now text
    → (inventory 16777216 text ≡ Ok c.finish.new.self.files) × AreCounted c.args.host.now c.count_new.new.turn.rows c.count_new.new.turn.unowned c.finish.new.self.files
counted c text turns =
    let turn = c.args.turn.now in
    let after = c.finish.new.self in
    let new = c.count_new.new.turn in
    let files = grown_files turn.reader.files after.files turn.reader.waiting after.waiting c.in_default.ensures.grow turns.waiting in (
      inventory_is text turn.reader.most after.files turns.most (at_none _ turns.sound (c.in_default.ensures.told text turns.reading)),
      subst (λ (fs : List Entry). AreCounted c.args.host.now new.rows new.unowned fs) (sym files) (c.count_new.ensures.counted turn.reader.files turns.counted),
    )

pub returns-in-Some-clause-told : goal.returns-in-Some-clause-told
returns-in-Some-clause-told c = λ text turns.
    let new = c.count_new.new.turn in
    let are = counted (goal.at.returns-in-Some-clause-told c).After-count_new text turns in
    refused_at_end c.args.host.now new.rows new.unowned c.in-Some.field-0 text c.finish.new.self.files c.tell_owner-in-Some.result c.in-Some.is are.1 are.0 c.tell_owner-in-Some.ensures

pub returns-in-Some-clause-met : goal.returns-in-Some-clause-met
returns-in-Some-clause-met c = λ text turns.
    let host = c.args.host.now in
    let new = c.count_new.new.turn in
    let finished = ap (λ (r : ReaderValue). r.is_finished) c.count_new.ensures.stays ∙ (at_none _ turns.sound c.in_default.ensures.fault).1 in
    let are = counted (goal.at.returns-in-Some-clause-met c).After-count_new text turns in
    met_by_owner host text new.reader.is_finished new.reader.fault new.unowned finished (refused_at_end host new.rows new.unowned c.in-Some.field-0 text c.finish.new.self.files (owner_told host new.unowned) c.in-Some.is are.1 are.0 (inl refl))

accepted : (c : After-count_new) (text : List ℕ) → TurnsFor c.args.host.now c.args.turn.now text → c.count_new.new.turn.unowned ≡ None → IsAccepted c.args.host.now c.count_new.new.turn text
accepted c text turns none = let are = counted c text turns in accepted_at_end c.args.host.now c.count_new.new.turn text c.finish.new.self.files none are.1 are.0

pub returns-clause-accepted : goal.returns-clause-accepted
returns-clause-accepted c = λ text turns. accepted (goal.at.returns-clause-accepted c).After-count_new text turns c.in_default-unowned.is

pub returns-clause-told : goal.returns-clause-told
returns-clause-told c = λ text turns. ap is_read (accepted (goal.at.returns-clause-told c).After-count_new text turns c.in_default-unowned.is).are
