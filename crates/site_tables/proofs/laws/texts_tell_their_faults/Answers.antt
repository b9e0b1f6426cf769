use Rattle.site_tables.proofs.ToldLaws.{texts_tell_their_faults}
use Rattle.site_tables.proofs.laws.texts_tell_their_faults.Goals as goal

pub returns : goal.returns
returns c = texts_tell_their_faults
