use Rattle.std.proofs.Common.{[], ◌∷◌, ◌++◌, sym, ap, subst, ◌∙◌, append_assoc}
use Rattle.mtree_inv.specs.Standing.{ReaderValue}
use Rattle.survey.specs.Surveying.{AreOf}
use Rattle.survey.proofs.noting.note_waiting.Goals as goal

pub loop-file-preserved : goal.loop-file-preserved
loop-file-preserved c =
    let inv = c.loop-file.invariant in
    let file = c.in-Some.file in
    let left = c.next_entry.new.self.waiting in
    rw c.reuse.ensures (record {
      stays = c.in-Some.ensures.stays ∙ ap (λ (r : ReaderValue). record r { waiting = left }) inv.stays;
      stands = λ text s. c.in-Some.ensures.stands text (inv.stands text s);
      done = inv.done ++ file ∷ [];
      so_far = inv.so_far ∙ ap (λ ws. inv.done ++ ws) c.in-Some.ensures.next ∙ sym (append_assoc inv.done (file ∷ []) left);
      noted = λ files s. subst (λ fs. AreOf c.args.host.now fs c.note_file.new.noted) (append_assoc files inv.done (file ∷ [])) (c.in_ok-note_file.ensures (files ++ inv.done) (inv.noted files s));
    })
