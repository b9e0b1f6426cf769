-- The bytes that a text with escapes stands for.
use Rattle.std.proofs.Common.{ap}
use Rattle.idtext.specs.Escapes.{bytes_of}
use Rattle.idtext.specs.Laws.{BytesStandForThemselves}
use Rattle.idtext.proofs.EscapeLemmas.{characters-empty}
use Rattle.idtext.proofs.NoFormLemmas.{are-no-forms}

pub bytes-stand : BytesStandForThemselves
bytes-stand = record {
  nothing = ap bytes_of characters-empty;
  plain = λ b rest unlike. ap bytes_of (are-no-forms.plain b rest unlike);
  backslash = λ c rest octal_not unlike. ap bytes_of (are-no-forms.other c rest octal_not unlike);
  form = λ text byte stands rest. ap bytes_of (stands rest);
}
