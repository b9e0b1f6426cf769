use Rattle.std.proofs.Common.{◌≡◌, ◌∷◌, [], subst, ◌∙◌}
use Rattle.std.proofs.lemmas.Result.{on_err_weaker}
use Rattle.std.specs.Prelude.{codes}
use Rattle.unify.specs.declared.site_files.NamedText.{NamedText}
use Rattle.unify_merge.specs.Ledger.{BrokeOff, after_files}
use Rattle.unify_merge.specs.Merge.{account_files, first_files}
use Rattle.unify_merge.proofs.BreakingOff.{broken_behind, broken_front, on_err, wrote}
use Rattle.unify_merge.proofs.merge.write_first.Goals as goal

pub returns-in_err-write_accounts-clause-left : goal.returns-in_err-write_accounts-clause-left
returns-in_err-write_accounts-clause-left g c =
    let o = c.args.outcome.now in
    let map_file : NamedText = record { name = codes "map"; text = o.map } in
    let last : NamedText = record { name = codes "certificate"; text = o.certificate } in
    let old = g.F.ReadFiles.ledger c.args.files.now in
    let new = g.F.ReadFiles.ledger c.write_accounts.new.files in
    on_err c.from_residual.result (BrokeOff (first_files o) old new) (broken_front (account_files o) (map_file ∷ last ∷ []) old new c.in_err-write_accounts.ensures.left)

pub returns-in_err-write_file-clause-left : goal.returns-in_err-write_file-clause-left
returns-in_err-write_file-clause-left g c =
    let o = c.args.outcome.now in
    let map_file : NamedText = record { name = codes "map"; text = o.map } in
    let last : NamedText = record { name = codes "certificate"; text = o.certificate } in
    let old = g.F.ReadFiles.ledger c.args.files.now in
    let one = g.F.ReadFiles.ledger c.write_accounts.new.files in
    let new = g.F.ReadFiles.ledger c.write_file.new.files in
    let left : BrokeOff (map_file ∷ []) one new = subst (λ text. BrokeOff (record { name = codes "map"; text = text } ∷ []) one new) c.bytes.ensures c.in_err-write_file.ensures.left in
    on_err c.from_residual-in_err-write_file.result (BrokeOff (first_files o) old new)
    (broken_behind (account_files o) (map_file ∷ last ∷ []) old one new c.in_ok-write_accounts.ensures.written (broken_front (map_file ∷ []) (last ∷ []) one new left))

pub returns-clause-left : goal.returns-clause-left
returns-clause-left g c =
    let o = c.args.outcome.now in
    let map_file : NamedText = record { name = codes "map"; text = o.map } in
    let last : NamedText = record { name = codes "certificate"; text = o.certificate } in
    let old = g.F.ReadFiles.ledger c.args.files.now in
    let one = g.F.ReadFiles.ledger c.write_accounts.new.files in
    let two = g.F.ReadFiles.ledger c.write_file.new.files in
    let new = g.F.ReadFiles.ledger c.write_file-2.new.files in
    let written : two ≡ after_files (map_file ∷ []) one = c.in_ok-write_file.ensures.written ∙ (λ j. after_files (record { name = codes "map"; text = c.bytes.ensures j } ∷ []) one) in
    on_err_weaker c.write_file-2.result
    (λ left. broken_behind (account_files o) (map_file ∷ last ∷ []) old one new c.in_ok-write_accounts.ensures.written
    (broken_behind (map_file ∷ []) (last ∷ []) one two new (wrote (map_file ∷ []) one two written) (subst (λ text. BrokeOff (record { name = codes "certificate"; text = text } ∷ []) two new) c.bytes-2.ensures left)))
    c.write_file-2.ensures.left
