use Rattle.std.proofs.Common.{◌≡◌, ◌++◌, take}
use Rattle.survey.specs.Unowned.{on_host}
use Rattle.survey.proofs.noting.push_each.Given as goal

abbrev pub invariant-loop-number : goal.invariant-loop-number
invariant-loop-number l = l.found.items ≡ l.initial.found.items ++ on_host l.host (take l.number-index l.numbers)
