use Rattle.site_tables.proofs.TextLaws.{hosts_are_of_their_texts}
use Rattle.site_tables.proofs.laws.hosts_are_of_their_texts.Goals as goal

pub returns : goal.returns
returns c = hosts_are_of_their_texts
