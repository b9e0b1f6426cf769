use Rattle.std.proofs.Common.{◌++◌, length, ap, ◌∙◌}
use Rattle.kept_names.specs.Kept.{findings}
use Rattle.kept_names.specs.Tally.{counts_by, more_lines, tally_of}
use Rattle.kept_names.specs.Telling.{counts_text, first_lines}
use Rattle.kept_names.proofs.AddUp.{counts-same}
use Rattle.kept_names.proofs.reply.verify_reply.Goals as goal

pub returns-clause-output : goal.returns-clause-output
returns-clause-output c =
    let renumbering = c.args.renumbering.now in
    let before = c.args.before.now in
    let after = c.args.after.now in
    let found-is = c.deref.ensures.value ∙ c.in_ok-found.ensures.exact in
    let tally-is = c.in_ok-tally.ensures.0 ∙ ap tally_of found-is in
    c.in_ok-output.ensures
    ∙ ap (λ files. counts_text (counts_by (length files) c.in_ok-tally.tally)) c.entries.ensures.files
    ∙ ap (λ t. counts_text (counts_by (length before) t)) tally-is
    ∙ ap counts_text (counts-same renumbering before after)

pub returns-clause-errors : goal.returns-clause-errors
returns-clause-errors c =
    let renumbering = c.args.renumbering.now in
    let most = c.args.most in
    let found-is = c.deref.ensures.value ∙ c.in_ok-found.ensures.exact in
    let tally-is = c.in_ok-tally.ensures.0 ∙ ap tally_of found-is in
    c.in_ok-push_rest.ensures
    ∙ ap (λ t. t ++ more_lines most c.in_ok-tally.tally)
    (c.in_ok-tally.ensures.1
    ∙ ap (λ e. e ++ first_lines renumbering most c.deref.result.now) c.new-errors.ensures.items
    ∙ ap (first_lines renumbering most) found-is)
    ∙ ap
    (λ t. first_lines renumbering most (findings renumbering c.args.before.now c.args.after.now)
    ++ more_lines most t) tally-is
