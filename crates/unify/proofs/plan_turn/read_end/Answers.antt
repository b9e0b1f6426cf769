use Rattle.std.proofs.Common.{◌≡◌, ℕ, List, [], ◌++◌, Ok, Err, sym, ap, subst, ◌∙◌, append-nil, append_assoc}
use Rattle.std.proofs.lemmas.Result.{err_from_is_err_and}
use Rattle.idtext.proofs.OkLemmas.{ok_same}
use Rattle.mtree_inv.proofs.StandLemmas.{at_none}
use Rattle.reown_plan.specs.Spelling.{lines}
use Rattle.reown_plan.specs.Target.{plan_of}
use Rattle.unify_texts.specs.declared.fault.Fault.TheVariants.{InventoryChanged}
use Rattle.unify.specs.PlanTurns.{TurnsFor}
use Rattle.unify.specs.RowFiles.{row_files}
use Rattle.unify.specs.SecondPass.{IsUnfinished, second_files}
use Rattle.unify.proofs.PlanTurns.{HasMore, begun_turn, head_left, head_more, memory-changed, more_after, not_both, owned_more, planned_done, room_more, rows_more, second_changed, second_owned, second_unowned, unfinished_more, unfinished_still, unfinished_turn, unowned_more}
use Rattle.unify.proofs.plan_turn.read_end.Goals as goal
use Rattle.unify.proofs.plan_turn.read_end.Goals.{In_ok-finish, In_ok-plan_waiting}

pub returns-in_err-begin_plan : goal.returns-in_err-begin_plan
returns-in_err-begin_plan c =
    let p = err_from_is_err_and c.from_residual.result c.from_residual.ensures.1 in
    record {
      told = λ text planned were turns stood. rw (p.1, p.2) (λ changed. absurd (memory-changed changed));
      stands = λ text planned turns. (
        [],
        c.in_err-begin_plan.ensures.plan ∙ sym (append-nil c.args.plan.now.items),
        rw p.1 (unfinished_still c.args.whose.now.host.now c.args.whose.now.site.now c.args.whose.now.merged.now c.args.whose.now.index c.args.turn.now text [] text planned (append-nil text) turns),
      );
    }

pub returns-in_err-finish : goal.returns-in_err-finish
returns-in_err-finish c =
    let p = err_from_is_err_and c.from_residual-in_err-finish.result c.from_residual-in_err-finish.ensures.1 in
    let host = c.args.whose.now.host.now in
    let site = c.args.whose.now.site.now in
    let merged = c.args.whose.now.merged.now in
    let old = c.args.turn.now in
    let turn = c.begin_plan.new.turn in
    let heading = head_left host old.is_begun in
    record {
      told = λ text planned were turns stood.
          let begun = begun_turn host site merged c.args.whose.now.index old turn text planned turns c.in_ok-begin_plan.ensures.turn in
          let told = at_none _ begun.sound (c.in_err-finish.ensures.told text begun.reading) in
          rw (p.1, p.2) (λ changed files is same. not_both (second_files host text) files (InventoryChanged host.name) (second_changed host turn.reader.most text c.in_err-finish.field-0.0 begun.most told changed) is);
      stands = λ text planned turns.
          let begun = begun_turn host site merged c.args.whose.now.index old turn text planned turns c.in_ok-begin_plan.ensures.turn in (
            heading,
            c.in_ok-begin_plan.ensures.plan ∙ head_more host old.is_begun c.args.plan.now.items,
            rw p.1 (unfinished_turn host site merged c.args.whose.now.index turn text [] text (planned ++ heading) (append-nil text) begun),
          );
    }

-- what the reader took with the end
more : (c : In_ok-finish) (text planned : List ℕ) → TurnsFor c.args.whose.now.host.now c.args.whose.now.site.now c.args.whose.now.merged.now c.args.whose.now.index c.args.turn.now text planned
    → HasMore c.args.whose.now.host.now c.args.whose.now.site.now c.args.whose.now.merged.now c.args.whose.now.index c.begin_plan.new.turn c.finish.new.self text text (planned ++ head_left c.args.whose.now.host.now c.args.turn.now.is_begun)
more c text planned turns = more_after c.args.whose.now.host.now c.args.whose.now.site.now c.args.whose.now.merged.now c.args.whose.now.index c.args.turn.now c.begin_plan.new.turn c.finish.new.self text text planned turns c.in_ok-begin_plan.ensures.turn c.in_ok-finish.ensures.most c.in_ok-finish.ensures.grow (c.in_ok-finish.ensures.stands text)

pub plan_waiting-requires-clause-room : goal.plan_waiting-requires-clause-room
plan_waiting-requires-clause-room c =
    let goes = c.requires.goes in
    room_more c.args.whose.now.host.now c.args.whose.now.site.now c.args.whose.now.merged.now c.args.whose.now.index c.begin_plan.new.turn c.finish.new.self goes.0 goes.0 _ (more (goal.at.plan_waiting-requires-clause-room c).In_ok-finish goes.0 goes.1 goes.2)

pub plan_waiting-requires-clause-owners : goal.plan_waiting-requires-clause-owners
plan_waiting-requires-clause-owners c = let goes = c.requires.goes in (more (goal.at.plan_waiting-requires-clause-owners c).In_ok-finish goes.0 goes.1 goes.2).turns.known

pub returns-in_err-plan_waiting : goal.returns-in_err-plan_waiting
returns-in_err-plan_waiting c =
    let at = (goal.at.returns-in_err-plan_waiting c).In_ok-finish in
    let p = err_from_is_err_and c.from_residual-in_err-plan_waiting.result c.from_residual-in_err-plan_waiting.ensures.1 in
    let host = c.args.whose.now.host.now in
    let site = c.args.whose.now.site.now in
    let merged = c.args.whose.now.merged.now in
    let index = c.args.whose.now.index in
    let turn = c.begin_plan.new.turn in
    let after = c.finish.new.self in
    let begun = c.args.turn.now.is_begun in
    let heading = head_left host begun in
    let done = c.in_err-plan_waiting.ensures.planned in
    let added = lines (plan_of site merged.mappings index done.0) in
    record {
      told = λ text planned were turns stood.
          let took = more at text planned turns in
          let read = at_none _ took.turns.sound (c.in_ok-finish.ensures.told text took.turns.reading) in
          rw (p.1, p.2)
          (λ changed files is same.
          let first = c.in_err-plan_waiting.ensures.changed (ap (λ s. Err s) changed) in
          not_both (second_files host text) files (InventoryChanged host.name)
          (second_unowned host turn.reader.most text after.files first.0 took.turns.most read (unowned_more host site merged index turn after text text (planned ++ heading) took first.0 first.1)) is);
      stands = λ text planned turns.
          let took = more at text planned turns in
          let sound = at_none _ took.turns.sound c.in_ok-finish.ensures.fault in (
            heading ++ added,
            done.3 ∙ ap (λ t. t ++ added) (c.in_ok-begin_plan.ensures.plan ∙ head_more host begun c.args.plan.now.items) ∙ append_assoc c.args.plan.now.items heading added,
            rw p.1 (subst (IsUnfinished host site merged index text) (append_assoc planned heading added) (unfinished_more host site merged index turn after text text (planned ++ heading) took done.0 done.1 done.2 sound.0)),
          );
    }

-- the files of the whole text
whole : (c : In_ok-plan_waiting) (text planned : List ℕ) → HasMore c.args.whose.now.host.now c.args.whose.now.site.now c.args.whose.now.merged.now c.args.whose.now.index c.begin_plan.new.turn c.finish.new.self text text planned → second_files c.args.whose.now.host.now text ≡ Ok c.finish.new.self.files
whole c text planned took =
    second_owned c.args.whose.now.host.now c.begin_plan.new.turn.reader.most text c.finish.new.self.files took.turns.most (at_none _ took.turns.sound (c.in_ok-finish.ensures.told text took.turns.reading))
    (owned_more c.args.whose.now.host.now c.args.whose.now.site.now c.args.whose.now.merged.now c.args.whose.now.index c.begin_plan.new.turn c.finish.new.self text text planned took c.in_ok-plan_waiting.ensures.owned)

pub returns-then-are_same : goal.returns-then-are_same
returns-then-are_same c =
    let at = goal.at.returns-then-are_same c in
    let host = c.args.whose.now.host.now in
    let site = c.args.whose.now.site.now in
    let merged = c.args.whose.now.merged.now in
    let index = c.args.whose.now.index in
    let turn = c.begin_plan.new.turn in
    let after = c.finish.new.self in
    let begun = c.args.turn.now.is_begun in
    let heading = head_left host begun in
    let done = c.in_ok-plan_waiting.ensures.planned in
    let added = lines (plan_of site merged.mappings index done.0) in
    record {
      told = λ text planned were turns stood.
          let took = more at.In_ok-finish text planned turns in
          let rows = rows_more host site merged index turn after text text (planned ++ heading) took c.plan_waiting.new.turn.rows c.in_ok-plan_waiting.ensures.counted in
          (after.files, whole at.In_ok-plan_waiting text (planned ++ heading) took, sym stood ∙ c.are_same.ensures.same c.if-are_same.true ∙ rows);
      stands = λ text planned turns.
          let took = more at.In_ok-finish text planned turns in (
            heading ++ added,
            done.3 ∙ ap (λ t. t ++ added) (c.in_ok-begin_plan.ensures.plan ∙ head_more host begun c.args.plan.now.items) ∙ append_assoc c.args.plan.now.items heading added,
            record {
              files = after.files;
              are = whole at.In_ok-plan_waiting text (planned ++ heading) took;
              planned_is = sym (append_assoc planned heading added) ∙ planned_done host site merged index turn after text text (planned ++ heading) took done.0 done.1 done.2 done.4;
            },
          );
    }

pub returns-else-are_same : goal.returns-else-are_same
returns-else-are_same c =
    let at = goal.at.returns-else-are_same c in
    let host = c.args.whose.now.host.now in
    let site = c.args.whose.now.site.now in
    let merged = c.args.whose.now.merged.now in
    let index = c.args.whose.now.index in
    let turn = c.begin_plan.new.turn in
    let after = c.finish.new.self in
    let begun = c.args.turn.now.is_begun in
    let heading = head_left host begun in
    let done = c.in_ok-plan_waiting.ensures.planned in
    let added = lines (plan_of site merged.mappings index done.0) in
    record {
      told = λ text planned were turns stood changed files is same.
          let took = more at.In_ok-finish text planned turns in
          let rows = rows_more host site merged index turn after text text (planned ++ heading) took c.plan_waiting.new.turn.rows c.in_ok-plan_waiting.ensures.counted in
          c.are_same.ensures.differ c.if-are_same.false (stood ∙ same ∙ ap (row_files host) (ok_same files after.files (sym is ∙ whole at.In_ok-plan_waiting text (planned ++ heading) took)) ∙ sym rows);
      stands = λ text planned turns.
          let took = more at.In_ok-finish text planned turns in
          let sound = at_none _ took.turns.sound c.in_ok-finish.ensures.fault in (
            heading ++ added,
            done.3 ∙ ap (λ t. t ++ added) (c.in_ok-begin_plan.ensures.plan ∙ head_more host begun c.args.plan.now.items) ∙ append_assoc c.args.plan.now.items heading added,
            subst (IsUnfinished host site merged index text) (append_assoc planned heading added) (unfinished_more host site merged index turn after text text (planned ++ heading) took done.0 done.1 done.2 sound.0),
          );
    }
