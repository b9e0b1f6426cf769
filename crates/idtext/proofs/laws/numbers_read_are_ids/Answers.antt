use Rattle.idtext.proofs.DigitLemmas.{c_number-digits, decimal-digits}
use Rattle.idtext.proofs.NumberLemmas.{numeral-id, c_number-id, decimal-back}
use Rattle.idtext.proofs.laws.numbers_read_are_ids.Goals as goal

pub returns : goal.returns
returns c = record {
  decimals = numeral-id 10;
  c_numbers = c_number-id;
  back = decimal-back;
  decimal_digits = decimal-digits;
  c_digits = c_number-digits;
}
