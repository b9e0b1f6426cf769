use Rattle.std.proofs.Common.{◌≡◌, [], ◌∷◌, ◌++◌, None, Err, length, sym, ap, ◌∙◌, arith, append_assoc, length-append, length-set}
use Rattle.std.proofs.lemmas.List.Elements.{All-push, All-set}
use Rattle.std.proofs.lemmas.Result.{err_from_is_err_and}
use Rattle.idtext.specs.First.{first_fault}
use Rattle.reown_plan.specs.Spelling.{lines}
use Rattle.reown_plan.specs.Target.{plan_of}
use Rattle.site_tables.specs.Hosts.{owner_fault}
use Rattle.unify.specs.KnownOwners.{IsKnown}
use Rattle.unify.specs.RowFiles.{row_files}
use Rattle.unify.proofs.PlanTurns.{first_at, lines_both, next_stays}
use Rattle.unify.proofs.plan_turn.plan_waiting.Goals as goal

pub plan_file-requires-clause-room : goal.plan_file-requires-clause-room
plan_file-requires-clause-room c =
    let inv = c.loop-file.invariant in
    let files = c.requires.room.0 in (
      files ++ inv.done,
      inv.counted files c.requires.room.1,
      omega (
        arith,
        c.requires.room.2,
        length-append files inv.done,
        ap length inv.so_far,
        length-append inv.done c.loop-file.turn.reader.waiting,
      ),
    )

pub loop-file-preserved : goal.loop-file-preserved
loop-file-preserved c =
    let inv = c.loop-file.invariant in
    let file = c.in-Some.file in
    let left = c.next_entry.new.self.waiting in
    let host = c.args.whose.now.host.now in
    let site = c.args.whose.now.site.now in
    let merged = c.args.whose.now.merged.now in
    let index = c.args.whose.now.index in
    let start = c.args.plan.now.items in
    rw c.reuse.ensures (record {
      stays = next_stays c.args.turn.now c.loop-file.turn c.next_entry.new.self c.plan_file.new.rows _ inv.stays c.in-Some.ensures.stays;
      stands = λ text s. c.in-Some.ensures.stands text (inv.stands text s);
      done = inv.done ++ file ∷ [];
      so_far = inv.so_far ∙ ap (λ ws. inv.done ++ ws) c.in-Some.ensures.next ∙ sym (append_assoc inv.done (file ∷ []) left);
      owned = All-push (λ f. owner_fault host [] f ≡ None) inv.done file inv.owned c.in_ok-plan_file.ensures.owned;
      counted = λ files s. c.in_ok-plan_file.ensures.counted (files ++ inv.done) (inv.counted files s) ∙ ap (row_files host) (append_assoc files inv.done (file ∷ []));
      owners = record {
        many = length-set _ _ _ ∙ inv.owners.many;
        each = All-set (IsKnown host site merged index) _ _ _ c.plan_file.ensures.owner inv.owners.each;
      };
      planned = c.in_ok-plan_file.ensures.plan
          ∙ ap (λ t. t ++ lines (plan_of site merged.mappings index (file ∷ []))) inv.planned
          ∙ append_assoc start (lines (plan_of site merged.mappings index inv.done)) (lines (plan_of site merged.mappings index (file ∷ [])))
          ∙ ap (λ t. start ++ t) (sym (lines_both site merged.mappings index inv.done (file ∷ [])));
    })

pub returns-in_err-plan_file-clause-changed : goal.returns-in_err-plan_file-clause-changed
returns-in_err-plan_file-clause-changed c = λ changed.
    let inv = c.loop-file.invariant in
    let file = c.in-Some.file in
    let host = c.args.whose.now.host.now in
    let p = err_from_is_err_and c.from_residual.result c.from_residual.ensures.1 in
    let found = c.in_err-plan_file.ensures.changed (ap (λ s. Err s) (sym p.2) ∙ sym p.1 ∙ changed) in
    let whole = inv.so_far ∙ ap (λ ws. inv.done ++ ws) c.in-Some.ensures.next in
    (found.0, ap (first_fault (owner_fault host) []) whole ∙ first_at (owner_fault host []) [] inv.done file c.next_entry.new.self.waiting found.0 inv.owned found.1)
