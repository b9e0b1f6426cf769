use Rattle.std.proofs.Common.{◌≡◌, true, false, sym, ◌∙◌, nat_eq, refl}
use Rattle.std.specs.List.{list_any}
use Rattle.std.proofs.lemmas.Bool.{not-true, not-false, cond-false}
use Rattle.hosts_join.specs.Accounts.{Pair}
use Rattle.hosts_join.proofs.PinLemmas.{used-is, table-push}
use Rattle.hosts_join.proofs.pins.PinTable.add.Goals as goal

pub returns-then-not-new-clause-new : goal.returns-then-not-new-clause-new
returns-then-not-new-clause-new c =
    let used : list_any (nat_eq c.args.number) c.args.self.now.numbers.keys ≡ true = not-false _ (sym c.in_ok-new.ensures.added ∙ c.if-not-new.true) in
    let used' : list_any (λ (p : Pair). nat_eq c.args.number p.number) c.args.self.now.pairs ≡ true = sym (used-is c.args.number c.args.self.now.pairs _ c.requires.table.numbers_are) ∙ used in
    rw used' refl

pub returns-clause-new : goal.returns-clause-new
returns-clause-new c =
    let free : list_any (nat_eq c.args.number) c.args.self.now.numbers.keys ≡ false = not-true _ (sym c.in_ok-new.ensures.added ∙ c.if-not-new.false) in
    let free' : list_any (λ (p : Pair). nat_eq c.args.number p.number) c.args.self.now.pairs ≡ false = sym (used-is c.args.number c.args.self.now.pairs _ c.requires.table.numbers_are) ∙ free in
    rw free' c.add.ensures.new

pub returns-clause-table : goal.returns-clause-table
returns-clause-table c =
    let free : list_any (nat_eq c.args.number) c.args.self.now.numbers.keys ≡ false = not-true _ (sym c.in_ok-new.ensures.added ∙ c.if-not-new.false) in
    let keys = c.in_ok-new.ensures.keys ∙ cond-false _ _ _ free in
    table-push c.add.result c.args.self.now.pairs (record { pairs = c.add.new.self; numbers = c.insert_full.new.self }) c.args.name.now c.args.number c.args.self.now.numbers.keys
    c.requires.table.numbers_are c.requires.table.lawful c.requires.id free keys c.add.ensures.new c.add.ensures.ok
