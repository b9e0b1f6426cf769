-- The examples of texts and their ranges.
use Rattle.std.proofs.Common.{refl}
use Rattle.idtext.specs.First.{first_fault}
use Rattle.idtext.specs.Numbers.{numeral}
use Rattle.idtext.specs.Pieces.{pieces, lines}
use Rattle.idtext.specs.Words.{words}
use Rattle.logindefs.specs.Examples.{DefaultsHold, AllEightAreRead, LastValuesCount, SystemEndsBelowRegular}
use Rattle.logindefs.specs.Examples.{FirstOfTwoIsTold, GreatestIsRead, KindsMayShare, LetterIsRefused, OthersArePassedOver, SharedGidIsRefused, SharedUidIsRefused, TooGreatIsRefused}
use Rattle.logindefs.specs.Parameters.{latest, parameter_named, setting_of, without_quotes_in_front}
use Rattle.logindefs.specs.Ranges.{apart, ranges_by, ranges_of}

pub defaults-hold : DefaultsHold
unfolding first_fault numeral pieces lines words latest parameter_named setting_of without_quotes_in_front apart ranges_by ranges_of
defaults-hold = refl

pub all_eight-read : AllEightAreRead
unfolding first_fault numeral pieces lines words latest parameter_named setting_of without_quotes_in_front apart ranges_by ranges_of
all_eight-read = refl

pub last-count : LastValuesCount
unfolding first_fault numeral pieces lines words latest parameter_named setting_of without_quotes_in_front apart ranges_by ranges_of
last-count = refl

pub system-below : SystemEndsBelowRegular
unfolding first_fault numeral pieces lines words latest parameter_named setting_of without_quotes_in_front apart ranges_by ranges_of
system-below = refl

pub letter-refused : LetterIsRefused
unfolding first_fault numeral pieces lines words latest parameter_named setting_of without_quotes_in_front apart ranges_by ranges_of
letter-refused = refl

pub first-told : FirstOfTwoIsTold
unfolding first_fault numeral pieces lines words latest parameter_named setting_of without_quotes_in_front apart ranges_by ranges_of
first-told = refl

pub too_great-refused : TooGreatIsRefused
unfolding first_fault numeral pieces lines words latest parameter_named setting_of without_quotes_in_front apart ranges_by ranges_of
too_great-refused = refl

pub greatest-read : GreatestIsRead
unfolding first_fault numeral pieces lines words latest parameter_named setting_of without_quotes_in_front apart ranges_by ranges_of
greatest-read = refl

pub others-passed : OthersArePassedOver
unfolding first_fault numeral pieces lines words latest parameter_named setting_of without_quotes_in_front apart ranges_by ranges_of
others-passed = refl

pub uid-refused : SharedUidIsRefused
unfolding first_fault numeral pieces lines words latest parameter_named setting_of without_quotes_in_front apart ranges_by ranges_of
uid-refused = refl

pub gid-refused : SharedGidIsRefused
unfolding first_fault numeral pieces lines words latest parameter_named setting_of without_quotes_in_front apart ranges_by ranges_of
gid-refused = refl

pub kinds-share : KindsMayShare
unfolding first_fault numeral pieces lines words latest parameter_named setting_of without_quotes_in_front apart ranges_by ranges_of
kinds-share = refl
