use Rattle.std.proofs.Common.{[], ◌∷◌, ◌++◌, None, length, sym, ap, subst, ◌∙◌, arith, append_assoc, length-append}
use Rattle.mtree_inv.specs.Standing.{ReaderValue}
use Rattle.unify.specs.Turns.{AreCounted}
use Rattle.site_tables.specs.Hosts.{owner_fault}
use Rattle.unify.proofs.Turns.{counted_first, counted_one, is_owned_none}
use Rattle.unify.proofs.turn.count_waiting.Goals as goal

pub count_file-requires-clause-room : goal.count_file-requires-clause-room
count_file-requires-clause-room c =
    let room = c.loop-entry.invariant.room in
    (room.0, room.1, omega (arith, room.2))

pub loop-entry-preserved : goal.loop-entry-preserved
loop-entry-preserved c =
    let inv = c.loop-entry.invariant in
    let entry = c.in-Some.entry in
    let left = c.next_entry.new.self.waiting in
    let host = c.args.host.now in
    let new = c.count_file.new.rows in
    let owned = is_owned_none (owner_fault host [] entry) c.count_file.result c.count_file.ensures.owned c.if-not-count_file.false in
    let more = c.count_file.ensures.counted c.if-not-count_file.false in
    let come = ap length c.in-Some.ensures.next in
    rw c.reuse.ensures (record {
      stays = c.in-Some.ensures.stays ∙ ap (λ (r : ReaderValue). record r { waiting = left }) inv.stays;
      stands = λ text s. c.in-Some.ensures.stands text (inv.stands text s);
      done = inv.done ++ entry ∷ [];
      so_far = inv.so_far ∙ ap (λ ws. inv.done ++ ws) c.in-Some.ensures.next ∙ sym (append_assoc inv.done (entry ∷ []) left);
      counted = λ files s. subst (AreCounted host new None) (append_assoc files inv.done (entry ∷ [])) (counted_one host c.loop-entry.rows new (files ++ inv.done) entry (inv.counted files s) owned (more (files ++ inv.done)));
      before = c.count_file.ensures.before;
      room = (inv.room.0 ++ entry ∷ [], more inv.room.0 inv.room.1, omega (arith, inv.room.2, come, length-append inv.room.0 (entry ∷ [])));
    })

pub returns-then-not-count_file-clause-counted : goal.returns-then-not-count_file-clause-counted
returns-then-not-count_file-clause-counted c = λ files s.
    let inv = c.loop-entry.invariant in
    let left = c.next_entry.new.self.waiting in
    let whole = inv.so_far ∙ ap (λ ws. inv.done ++ ws) c.in-Some.ensures.next in
    counted_first c.args.host.now c.loop-entry.rows c.count_file.new.rows files inv.done left _ c.in-Some.entry c.count_file.result whole (inv.counted files s) c.count_file.ensures.owned c.if-not-count_file.true
