use Rattle.std.proofs.Common.{ℕ, List, [], ◌∷◌, ◌++◌, ◌∙◌, ap, rules}
use Rattle.reown_runner.proofs.Places.{paths_in-push, paths_in-kept}
use Rattle.reown_runner.proofs.paths.PathList.push.Goals as goal

pub returns-in_err-push-clause-err : goal.returns-in_err-push-clause-err
returns-in_err-push-clause-err c =
    let kept = paths_in-kept c.self.inside.bytes.items c.args.path.now c.extend_from_slice.new.self.items c.self.inside.spans.items c.push.new.self.items c.self.invariant c.in_ok-extend_from_slice.ensures.items c.in_err-push.ensures.items ∙ c.self.view_is in
    search (rules, kept)

pub returns-clause-ok : goal.returns-clause-ok
returns-clause-ok c =
    paths_in-push c.self.inside.bytes.items c.args.path.now c.extend_from_slice.new.self.items c.self.inside.spans.items c.push.new.self.items (record { start = c.len-start.result; end = c.len-end.result }) c.self.invariant c.in_ok-extend_from_slice.ensures.items c.in_ok-push.ensures.items (c.len-start.ensures ∙ c.self.inside.bytes.ok.0) (c.len-end.ensures ∙ c.extend_from_slice.new.self.ok.0)
    ∙ ap (λ (paths : List (List ℕ)). paths ++ c.args.path.now ∷ []) c.self.view_is
