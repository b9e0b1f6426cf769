use Rattle.std.proofs.Common.{arith, sym, ◌∙◌}
use Rattle.idtext.proofs.WordLemmas.{words-none, words-found}
use Rattle.mtree_inv.proofs.keywords.first_keyword.Goals as goal

pub returns-then-start-rest-clause-words : goal.returns-then-start-rest-clause-words
returns-then-start-rest-clause-words c =
    sym c.without_indent-rest.ensures.words
    ∙ words-none c.without_indent-rest.result.now (λ k less. c.white_len-start.ensures.run k (omega (arith, less, c.if-start-rest.true)))

pub returns-clause-words : goal.returns-clause-words
returns-clause-words c =
    sym c.without_indent-rest.ensures.words
    ∙ words-found c.white_len-start.result c.black_len-len.result c.without_indent-rest.result.now c.split_at.result.1.now c.split_at-2.result.0.now c.split_at-2.result.1.now
    c.split_at.ensures.back c.split_at-2.ensures.front c.split_at-2.ensures.back
    (omega (arith, c.white_len-start.ensures.within, c.if-start-rest.false)) c.white_len-start.ensures.run c.white_len-start.ensures.end
    c.black_len-len.ensures.within c.black_len-len.ensures.run c.black_len-len.ensures.end
