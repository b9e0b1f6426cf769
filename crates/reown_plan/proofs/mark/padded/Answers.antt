use Rattle.std.proofs.Common.{length, replicate, drop, ◌++◌, ◌∙◌, ap}
use Rattle.std.proofs.lemmas.List.{drop-replicate}
use Rattle.reown_plan.proofs.mark.padded.Goals as goal

pub returns : goal.returns
returns c =
    let name = c.args.name.now in
    ap (λ front. front ++ drop (length name) (replicate 64 0)) c.copy_from_slice.ensures.after ∙ ap (λ back. name ++ back) (drop-replicate (length name) 64 0)
