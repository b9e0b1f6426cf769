use Rattle.std.proofs.Common.{◌++◌, ◌∷◌, [], sym, ap, ◌∙◌}
use Rattle.unify_merge.specs.Ledger.{Ledger}
use Rattle.unify_merge.proofs.Readings.{first_same, if_err, on_ok}
use Rattle.unify_merge.proofs.first_reading.count_host.Goals as goal

pub returns-clause-counted : goal.returns-clause-counted
returns-clause-counted g c =
    let opened = ap (λ (l : Ledger). l.read) c.in_ok-open.ensures.opened in
    on_ok c.count_reading.result _ _ (λ it. (it.0, it.1, it.2 ∙ (λ j. opened j ++ record { host = sym c.requires.next j; text = it.0 } ∷ []), it.3)) c.count_reading.ensures.counted

pub returns-clause-stopped : goal.returns-clause-stopped
returns-clause-stopped g c =
    let opened = ap (λ (l : Ledger). l.read) c.in_ok-open.ensures.opened in
    if_err c.count_reading.result _ _ (λ fault stopped host here.
    first_same host _ _ _ _ (g.F.ReadFiles.ledger c.count_reading.new.files) fault (sym c.requires.next) opened (stopped host (rw c.requires.next at here)))
    c.count_reading.ensures.stopped
