use Rattle.certcheck.proofs.Spelled.{none_begins_another, reads_what_is_spelled, spelled_is_read}
use Rattle.certcheck.proofs.laws.certificates_are_spelled.Goals as goal

pub returns-clause-read : goal.returns-clause-read
returns-clause-read c = reads_what_is_spelled

pub returns-clause-spelled : goal.returns-clause-spelled
returns-clause-spelled c = spelled_is_read

pub returns-clause-apart : goal.returns-clause-apart
returns-clause-apart c = none_begins_another
