use Rattle.std.proofs.Common.{◌≡◌, take, false}
use Rattle.std.specs.List.{list_any}
use Rattle.kept_names.specs.Telling.{is_fault}
use Rattle.kept_names.proofs.reply.status_of.Given as goal

abbrev pub invariant-loop-finding : goal.invariant-loop-finding
invariant-loop-finding l = list_any (λ f. is_fault f.what) (take l.finding-index l.found) ≡ false
