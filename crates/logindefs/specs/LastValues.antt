-- Which value of a parameter counts, in the words of its lines.
-- Source: login.defs(5) of the shadow suite, DESCRIPTION (a parameter's name and its value are the
-- words of its line) and the items UID_MIN, UID_MAX, SYS_UID_MIN, SYS_UID_MAX and the same for GID;
-- that of two values the later one counts is this project's own rule.
use Rattle.std.specs.Prelude.{◌≡◌, ℕ, List, ◌∷◌, ◌++◌, Some, None, All, codes}
use Rattle.idtext.specs.Numbers.{c_number_of}
use Rattle.idtext.specs.Words.{words}
use Rattle.logindefs.specs.declared.parameters.Parameter.{Parameter}
use Rattle.logindefs.specs.declared.parameters.Parameter.TheVariants.{UidMin, UidMax, SysUidMin}
use Rattle.logindefs.specs.declared.parameters.Parameter.TheVariants.{SysUidMax, GidMin, GidMax}
use Rattle.logindefs.specs.declared.parameters.Parameter.TheVariants.{SysGidMin, SysGidMax}
use Rattle.logindefs.specs.Parameters.{latest, without_quotes}

-- the name of a parameter
abbrev pub name_of : Parameter → List ℕ
name_of UidMin = codes "UID_MIN"
name_of UidMax = codes "UID_MAX"
name_of SysUidMin = codes "SYS_UID_MIN"
name_of SysUidMax = codes "SYS_UID_MAX"
name_of GidMin = codes "GID_MIN"
name_of GidMax = codes "GID_MAX"
name_of SysGidMin = codes "SYS_GID_MIN"
name_of SysGidMax = codes "SYS_GID_MAX"

-- the first word of the line is the name of the parameter, and its second word is the value
abbrev pub GivesTo : Parameter → List ℕ → List ℕ → Type 0
GivesTo parameter line value =
    (more : List (List ℕ)) × (words line ≡ name_of parameter ∷ value ∷ more)

-- the line gives the parameter no value: it is a comment, or blank, or of another name, or has the
-- name alone
abbrev pub GivesNone : Parameter → List ℕ → Type 0
GivesNone parameter line = (value : List ℕ) → ¬ GivesTo parameter line value

-- the number of a parameter is that of the last line that gives it one, whatever stands before it,
-- and be it 0
abbrev pub LastValueCounts : Type 0
LastValueCounts =
    (parameter : Parameter) (before after : List (List ℕ)) (line value : List ℕ) (number : ℕ)
    → GivesTo parameter line value → c_number_of (without_quotes value) ≡ Some number
    → All (GivesNone parameter) after
    → latest parameter (before ++ line ∷ after) ≡ Some number

-- a parameter has no number where no line gives it one
abbrev pub NoneIsGiven : Type 0
NoneIsGiven =
    (parameter : Parameter) (lines : List (List ℕ)) → All (GivesNone parameter) lines
    → latest parameter lines ≡ None
