-- The ranges of a host by example, in the words of login.defs itself.
-- Source: login.defs(5) of the shadow suite, the items UID_MIN, UID_MAX, SYS_UID_MIN, SYS_UID_MAX
-- and the same for GID, and their defaults; the texts are this project's own.
use Rattle.std.specs.Prelude.{◌≡◌, ℕ, List, [], ◌∷◌, ◌++◌, Ok, codes}
use Rattle.idtext.specs.declared.faults.TextCode.TheVariants.{BadNumber, RangesOverlap}
use Rattle.idtext.specs.Faults.{refused}
use Rattle.logindefs.specs.declared.ranges.IdRange.{IdRange}
use Rattle.logindefs.specs.Ranges.{ranges_of}

-- a line with its newline
abbrev ended : List ℕ → List ℕ
ended line = line ++ 10 ∷ []

-- the numbers from low to high
abbrev between : ℕ → ℕ → IdRange
between low high = record { low = low; high = high }

-- an empty text leaves the defaults
abbrev pub DefaultsHold : Type 0
DefaultsHold = ranges_of [] ≡ Ok (record {
  uid = between 1000 60000;
  sys_uid = between 101 999;
  gid = between 1000 60000;
  sys_gid = between 101 999;
})

-- a text of all eight parameters: numbers in decimal, in octal and in hexadecimal, one of them in
-- double quotes, another parameter, a comment, and words after a value
abbrev pub all_eight : List ℕ
all_eight =
    ended (codes "# UID_MIN 1") ++ ended (codes "UID_MIN 2000") ++ ended (codes "UID_MAX  50000")
    ++ ended (codes "SYS_UID_MIN 0144") ++ ended (codes "SYS_UID_MAX 0x3e7 and no more")
    ++ ended (codes "UMASK 077") ++ ended (codes "  GID_MIN " ++ 34 ∷ codes "3000" ++ 34 ∷ [])
    ++ ended (codes "GID_MAX 0XEA61") ++ ended (codes "SYS_GID_MIN" ++ 9 ∷ codes "300")
    ++ codes "SYS_GID_MAX 400"

abbrev pub AllEightAreRead : Type 0
AllEightAreRead = ranges_of all_eight ≡ Ok (record {
  uid = between 2000 50000;
  sys_uid = between 100 999;
  gid = between 3000 60001;
  sys_gid = between 300 400;
})

-- after it, each parameter once more: the last value of each counts
abbrev pub given_again : List ℕ
given_again =
    10 ∷ ended (codes "UID_MIN 2001") ++ ended (codes "UID_MAX 50001")
    ++ ended (codes "SYS_UID_MIN 102") ++ ended (codes "SYS_UID_MAX 998")
    ++ ended (codes "GID_MIN 3001") ++ ended (codes "GID_MAX 60002")
    ++ ended (codes "SYS_GID_MIN 301") ++ ended (codes "SYS_GID_MAX 401")

abbrev pub LastValuesCount : Type 0
LastValuesCount = ranges_of (all_eight ++ given_again) ≡ Ok (record {
  uid = between 2001 50001;
  sys_uid = between 102 998;
  gid = between 3001 60002;
  sys_gid = between 301 401;
})

-- a system maximum that is not given is the number below the regular minimum, of users and of
-- groups each by its own
abbrev pub SystemEndsBelowRegular : Type 0
SystemEndsBelowRegular =
    ranges_of (ended (codes "UID_MIN 500") ++ ended (codes "GID_MIN 700")) ≡ Ok (record {
      uid = between 500 60000;
      sys_uid = between 101 499;
      gid = between 700 60000;
      sys_gid = between 101 699;
    })

-- ---- texts that are refused, and their neighbours that are not

-- a letter O for a zero is no number, whatever comes after it
abbrev pub LetterIsRefused : Type 0
LetterIsRefused =
    ranges_of (ended (codes "# minima") ++ ended (codes "UID_MIN 5O00") ++ codes "UID_MIN 5000")
    ≡ refused 2 BadNumber

-- of two values that are none the first is told
abbrev pub FirstOfTwoIsTold : Type 0
FirstOfTwoIsTold =
    ranges_of (ended [] ++ ended (codes "GID_MAX 08") ++ ended (codes "UID_MIN -1"))
    ≡ refused 2 BadNumber

-- 4294967295 is too great, and 4294967294 is not
abbrev pub TooGreatIsRefused : Type 0
TooGreatIsRefused = ranges_of (codes "UID_MAX 4294967295") ≡ refused 1 BadNumber

abbrev pub GreatestIsRead : Type 0
GreatestIsRead = ranges_of (codes "UID_MAX 4294967294") ≡ Ok (record {
  uid = between 1000 4294967294;
  sys_uid = between 101 999;
  gid = between 1000 60000;
  sys_gid = between 101 999;
})

-- a name alone says nothing, a value may be wrong that none of the eight is given, and so may a
-- word after a value
abbrev pub OthersArePassedOver : Type 0
OthersArePassedOver =
    ranges_of (ended (codes "UID_MIN") ++ ended (codes "UID_MIN_ 5O00")
    ++ ended (codes " # UID_MIN 5O00") ++ ended (codes "uid_min 5O00")
    ++ ended (codes "UID_MIN 2000 5O00")) ≡ Ok (record {
      uid = between 2000 60000;
      sys_uid = between 101 1999;
      gid = between 1000 60000;
      sys_gid = between 101 999;
    })

-- one number in the regular and in the system range is refused, of users and of groups
abbrev pub SharedUidIsRefused : Type 0
SharedUidIsRefused = ranges_of (codes "SYS_UID_MAX 1000") ≡ refused 0 RangesOverlap

abbrev pub SharedGidIsRefused : Type 0
SharedGidIsRefused = ranges_of (codes "SYS_GID_MAX 1000") ≡ refused 0 RangesOverlap

-- a regular range of users and the system range of groups may share numbers, and the other way
abbrev pub KindsMayShare : Type 0
KindsMayShare =
    ranges_of (ended (codes "UID_MIN 500") ++ codes "GID_MAX 70000") ≡ Ok (record {
      uid = between 500 60000;
      sys_uid = between 101 499;
      gid = between 1000 70000;
      sys_gid = between 101 999;
    })
