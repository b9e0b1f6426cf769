use Rattle.kept_accounts.proofs.PickedLemmas.{is_among-added}
use Rattle.kept_accounts.proofs.kept_names.add_if.Goals as goal

pub returns-in_ok-add : goal.returns-in_ok-add
returns-in_ok-add c =
    is_among-added c.args.names.now c.add.new.self c.args.name.now c.in_ok-add.field-0 c.args.wanted c.in_ok-add.ensures.new c.in_ok-add.ensures.ok c.if-wanted.true
