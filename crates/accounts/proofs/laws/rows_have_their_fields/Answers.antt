use Rattle.accounts.proofs.FieldLemmas.{user_fields, group_fields}
use Rattle.accounts.proofs.laws.rows_have_their_fields.Goals as goal

pub returns : goal.returns
returns c = record { passwd = user_fields; group = group_fields }
