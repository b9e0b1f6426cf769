use Rattle.std.proofs.Common.{sym, ap, ◌∙◌, subst}
use Rattle.idtext.specs.First.{Gives}
use Rattle.mtree_inv.specs.Kinds.{kind_of_words}
use Rattle.mtree_inv.specs.Machine.{step}
use Rattle.mtree_inv.specs.Views.{code_told}
use Rattle.mtree_inv.specs.Walked.{kept_of}
use Rattle.mtree_inv.proofs.CommentLemmas.{other-kind}
use Rattle.mtree_inv.proofs.walk.Walk.line.Goals as goal

pub returns-in-Some-clause-exact : goal.returns-in-Some-clause-exact
returns-in-Some-clause-exact c =
    subst (λ kind. Gives (λ _. kept_of c.words.new.self) code_told c.words.result (step c.args.self.now.files.most (kept_of c.args.self.now) kind))
    (sym (other-kind c.args.text.now (sym c.begins_with.ensures ∙ c.if-begins_with.false) ∙ ap kind_of_words c.in-Some.ensures.words))
    c.words.ensures.exact

pub returns-in-None-clause-exact : goal.returns-in-None-clause-exact
unfolding step
returns-in-None-clause-exact c =
    ap (step c.args.self.now.files.most (kept_of c.args.self.now))
    (other-kind c.args.text.now (sym c.begins_with.ensures ∙ c.if-begins_with.false) ∙ ap kind_of_words c.in-None.ensures.words)
