use Rattle.std.proofs.Common.{◌≡◌, [], ◌∷◌, ◌++◌, sym, ap, subst, ◌∙◌, append_assoc}
use Rattle.mtree_inv.specs.Standing.{ReaderValue}
use Rattle.reown_runner.specs.PlanTree.{FilesOfPlan, found_among}
use Rattle.rehearsal.proofs.plan_rehearsal.note_waiting.Goals as goal

pub loop-file-preserved : goal.loop-file-preserved
loop-file-preserved c =
    let inv = c.loop-file.invariant in
    let file = c.in-Some.file in
    let left = c.next_entry.new.self.waiting in
    let tree = c.loop-file.tree in
    rw c.reuse.ensures (record {
      stays = c.in-Some.ensures.stays ∙ ap (λ (r : ReaderValue). record r { waiting = left }) inv.stays;
      stands = λ text s. c.in-Some.ensures.stands text (inv.stands text s);
      done = inv.done ++ file ∷ [];
      so_far = inv.so_far ∙ ap (λ ws. inv.done ++ ws) c.in-Some.ensures.next ∙ sym (append_assoc inv.done (file ∷ []) left);
      noted = λ files paths s.
          (let before = inv.noted files paths s in
          let same = ap (λ (t : FilesOfPlan). t.paths) before in
          let after = c.note.ensures.found (files ++ inv.done) (subst (λ ps. tree ≡ found_among (files ++ inv.done) ps) (sym same) before) in
          subst (λ ps. c.note.new.self ≡ found_among ((files ++ inv.done) ++ file ∷ []) ps) same after ∙ ap (λ fs. found_among fs paths) (append_assoc files inv.done (file ∷ [])));
    })
