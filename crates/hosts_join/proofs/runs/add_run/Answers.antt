use Rattle.std.proofs.Common.{◌++◌, ◌∷◌, [], List, ap, ◌∙◌}
use Rattle.logindefs.specs.declared.ranges.IdRange.{IdRange}
use Rattle.hosts_join.proofs.RunLemmas.{longer-apart, longer-behind, longer-added, further-apart}
use Rattle.hosts_join.proofs.runs.add_run.Goals as goal

pub returns-then-range-last-clause-apart : goal.returns-then-range-last-clause-apart
returns-then-range-last-clause-apart c =
    longer-apart c.args.runs.now.items c.pop.new.self.items c.push-then-range-last.new.self.items c.in-Some.last c.max-high.result c.in-Some.ensures.items c.in_ok-push-2.ensures.items c.requires.apart

pub returns-then-range-last-clause-behind : goal.returns-then-range-last-clause-behind
returns-then-range-last-clause-behind c =
    longer-behind c.args.runs.now.items c.pop.new.self.items c.push-then-range-last.new.self.items c.in-Some.last c.args.range c.max-high.result c.in-Some.ensures.items c.in_ok-push-2.ensures.items c.requires.behind

pub returns-then-range-last-clause-added : goal.returns-then-range-last-clause-added
returns-then-range-last-clause-added c =
    longer-added c.args.runs.now.items c.pop.new.self.items c.push-then-range-last.new.self.items c.in-Some.last c.args.range c.max-high.result c.in-Some.ensures.items c.in_ok-push-2.ensures.items c.max-high.ensures c.requires.behind c.if-range-last.true

pub returns-clause-apart : goal.returns-clause-apart
returns-clause-apart c =
    further-apart c.args.runs.now.items c.pop.new.self.items c.push-3.new.self.items c.in-Some.last c.args.range c.in-Some.ensures.items
    (c.in_ok-push-4.ensures.items ∙ ap (λ (runs : List IdRange). runs ++ c.args.range ∷ []) c.in_ok-push-3.ensures.items)
    c.requires.apart c.requires.behind c.if-range-last.false
