use Rattle.accounts.proofs.MemberLemmas.{members_exact, members_in_order}
use Rattle.accounts.proofs.laws.lists_have_their_members.Goals as goal

pub returns : goal.returns
returns c = record { exactly = members_exact; in_order = members_in_order }
