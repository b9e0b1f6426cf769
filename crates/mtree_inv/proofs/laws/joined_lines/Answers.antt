use Rattle.mtree_inv.proofs.JoinLemmas.{other_alone, joins_next, two_are_one, last_cuts}
use Rattle.mtree_inv.proofs.laws.joined_lines.Goals as goal

pub returns : goal.returns
returns c = record { other = other_alone; next = joins_next; two = two_are_one; last = last_cuts }
