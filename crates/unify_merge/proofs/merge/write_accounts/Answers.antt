use Rattle.std.proofs.Common.{◌≡◌, ◌∷◌, [], sym, subst, ◌∙◌}
use Rattle.std.proofs.lemmas.Result.{on_err_weaker}
use Rattle.std.specs.Prelude.{codes}
use Rattle.unify.specs.declared.site_files.NamedText.{NamedText}
use Rattle.unify_merge.specs.Ledger.{BrokeOff, after_files}
use Rattle.unify_merge.specs.Merge.{account_files}
use Rattle.unify_merge.proofs.BreakingOff.{broken_behind, broken_front, on_err, wrote}
use Rattle.unify_merge.proofs.merge.write_accounts.Goals as goal

pub returns-in_err-write_file-clause-left : goal.returns-in_err-write_file-clause-left
returns-in_err-write_file-clause-left g c =
    let o = c.args.outcome.now in
    let old = g.F.ReadFiles.ledger c.args.files.now in
    let new = g.F.ReadFiles.ledger c.write_file.new.files in
    let passwd : NamedText = record { name = codes "passwd"; text = o.passwd } in
    let group : NamedText = record { name = codes "group"; text = o.group } in
    let left : BrokeOff (passwd ∷ []) old new = subst (λ text. BrokeOff (record { name = codes "passwd"; text = text } ∷ []) old new) c.bytes.ensures c.in_err-write_file.ensures.left in
    on_err c.from_residual.result (BrokeOff (account_files o) old new)
    (subst (λ keeps. BrokeOff (account_files (record o { keeps_names = keeps })) old new) (sym c.if-outcome.false) (broken_front (passwd ∷ []) (group ∷ []) old new left))

pub returns-clause-left : goal.returns-clause-left
returns-clause-left g c =
    let o = c.args.outcome.now in
    let old = g.F.ReadFiles.ledger c.args.files.now in
    let one = g.F.ReadFiles.ledger c.write_file.new.files in
    let new = g.F.ReadFiles.ledger c.write_file-2.new.files in
    let passwd : NamedText = record { name = codes "passwd"; text = o.passwd } in
    let group : NamedText = record { name = codes "group"; text = o.group } in
    let written : one ≡ after_files (passwd ∷ []) old = c.in_ok-write_file.ensures.written ∙ (λ j. after_files (record { name = codes "passwd"; text = c.bytes.ensures j } ∷ []) old) in
    on_err_weaker c.write_file-2.result
    (λ left. subst (λ keeps. BrokeOff (account_files (record o { keeps_names = keeps })) old new) (sym c.if-outcome.false)
    (broken_behind (passwd ∷ []) (group ∷ []) old one new (wrote (passwd ∷ []) old one written) (subst (λ text. BrokeOff (record { name = codes "group"; text = text } ∷ []) one new) c.bytes-2.ensures left)))
    c.write_file-2.ensures.left
