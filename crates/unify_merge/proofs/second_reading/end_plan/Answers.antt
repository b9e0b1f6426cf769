use Rattle.std.proofs.Common.{◌≡◌, ◌++◌, ℕ, List, sym, ap, subst, ◌∙◌}
use Rattle.std.proofs.lemmas.Result.{err_from_is_err_and}
use Rattle.idtext.proofs.OkLemmas.{ok_same}
use Rattle.mtree_inv.specs.declared.entry.Entry.{Entry}
use Rattle.unify.specs.SecondPass.{HaveSameCounts}
use Rattle.unify_merge.specs.Ledger.{with_bytes}
use Rattle.unify_merge.proofs.second_reading.end_plan.Goals as goal

pub returns-in_err-end_host-clause-told : goal.returns-in_err-end_host-clause-told
returns-in_err-end_host-clause-told g c =
    let p = err_from_is_err_and c.from_residual.result c.from_residual.ensures.1 in
    rw (p.1, p.2) (λ host were next first. c.in_err-end_host.ensures.told host were next first)

pub returns-clause-planned : goal.returns-clause-planned
returns-clause-planned g c = λ host were next first.
    let told = c.in_ok-end_host.ensures.told host were next first in
    let p = c.in_ok-end_host.ensures.planned host next in
    let more = p.0 in
    let same : told.0 ≡ p.2.0 = ok_same told.0 p.2.0 (sym told.1 ∙ p.2.1) in
    let written : c.deref.result.now ≡ more = c.deref.ensures.value ∙ p.1 ∙ ap (λ (xs : List ℕ). xs ++ more) c.clear.ensures.items in (
      more,
      c.in_ok-append.ensures.written ∙ ap (λ bytes. with_bytes bytes (g.F.ReadFiles.ledger c.args.files.now)) written,
      p.2.0,
      record { accepted = p.2.1; same = subst (λ (found : List Entry). HaveSameCounts host were found) same told.2 },
      p.2.2,
    )
