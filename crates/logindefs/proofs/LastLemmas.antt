-- Which value of a parameter counts.
use Rattle.std.proofs.Common.{◌≡◌, ℕ, Bool, true, false, cond, List, [], ◌∷◌, Option, Some, None, refl, sym, ap, ◌∙◌, inl, inr, bytes_eq, zero, suc}
use Rattle.std.specs.Prelude.{◌==◌, codes}
use Rattle.std.proofs.lemmas.Bool.{cases_Bool, eqb-true, eq-eqb}
use Rattle.std.proofs.lemmas.List.Elements.{All-head, All-tail}
use Rattle.std.proofs.lemmas.Option.{same_Some}
use Rattle.std.proofs.lemmas.Slice.Eq.{bytes_eq-Decides}
use Rattle.idtext.specs.First.{or_else}
use Rattle.idtext.specs.Numbers.{c_number_of}
use Rattle.idtext.specs.Words.{words}
use Rattle.logindefs.specs.declared.parameters.Parameter.{Parameter}
use Rattle.logindefs.specs.declared.parameters.Parameter.TheVariants.{UidMin, UidMax, SysUidMin, SysUidMax, GidMin, GidMax, SysGidMin, SysGidMax}
use Rattle.logindefs.specs.LastValues.{GivesNone, GivesTo, LastValueCounts, NoneIsGiven, name_of}
use Rattle.logindefs.specs.Parameters.{given_by, latest, parameter_named, place_of, set_by, set_to, setting_of, without_quotes}

-- ---- names

named-of : (p : Parameter) → parameter_named (name_of p) ≡ Some p
unfolding parameter_named
named-of UidMin = refl
named-of UidMax = refl
named-of SysUidMin = refl
named-of SysUidMax = refl
named-of GidMin = refl
named-of GidMax = refl
named-of SysGidMin = refl
named-of SysGidMax = refl

named_or : (b : Bool) (p : Parameter) (o : Option Parameter) (q : Parameter) (word : List ℕ) → cond b (Some p) o ≡ Some q → (b ≡ true → word ≡ name_of p) → (o ≡ Some q → word ≡ name_of q) → word ≡ name_of q
named_or true p o q word e is other = is refl ∙ ap name_of (same_Some p q e)
named_or false p o q word e is other = other e

name-named : (word : List ℕ) (q : Parameter) → parameter_named word ≡ Some q → word ≡ name_of q
unfolding parameter_named
name-named word q e =
    named_or (bytes_eq word (codes "UID_MIN")) UidMin _ q word e (bytes_eq-Decides word (codes "UID_MIN")).0 (λ e.
    named_or (bytes_eq word (codes "UID_MAX")) UidMax _ q word e (bytes_eq-Decides word (codes "UID_MAX")).0 (λ e.
    named_or (bytes_eq word (codes "SYS_UID_MIN")) SysUidMin _ q word e (bytes_eq-Decides word (codes "SYS_UID_MIN")).0 (λ e.
    named_or (bytes_eq word (codes "SYS_UID_MAX")) SysUidMax _ q word e (bytes_eq-Decides word (codes "SYS_UID_MAX")).0 (λ e.
    named_or (bytes_eq word (codes "GID_MIN")) GidMin _ q word e (bytes_eq-Decides word (codes "GID_MIN")).0 (λ e.
    named_or (bytes_eq word (codes "GID_MAX")) GidMax _ q word e (bytes_eq-Decides word (codes "GID_MAX")).0 (λ e.
    named_or (bytes_eq word (codes "SYS_GID_MIN")) SysGidMin _ q word e (bytes_eq-Decides word (codes "SYS_GID_MIN")).0 (λ e.
    named_or (bytes_eq word (codes "SYS_GID_MAX")) SysGidMax _ q word e (bytes_eq-Decides word (codes "SYS_GID_MAX")).0 (λ e. absurd (cc)))))))))

-- the parameter at a place
abbrev parameter_at : ℕ → Parameter
parameter_at zero = UidMin
parameter_at (suc zero) = UidMax
parameter_at (suc (suc zero)) = SysUidMin
parameter_at (suc (suc (suc zero))) = SysUidMax
parameter_at (suc (suc (suc (suc zero)))) = GidMin
parameter_at (suc (suc (suc (suc (suc zero))))) = GidMax
parameter_at (suc (suc (suc (suc (suc (suc zero)))))) = SysGidMin
parameter_at (suc (suc (suc (suc (suc (suc (suc k))))))) = SysGidMax

at-place : (p : Parameter) → parameter_at (place_of p) ≡ p
at-place UidMin = refl
at-place UidMax = refl
at-place SysUidMin = refl
at-place SysUidMax = refl
at-place GidMin = refl
at-place GidMax = refl
at-place SysGidMin = refl
at-place SysGidMax = refl

same-place : (p q : Parameter) → (place_of p == place_of q) ≡ true → q ≡ p
same-place p q e = sym (at-place q) ∙ ap parameter_at (sym (eqb-true (place_of p) (place_of q) e)) ∙ at-place p

-- ---- one line

given-number : (p : Parameter) (line value : List ℕ) (n : ℕ) → GivesTo p line value → c_number_of (without_quotes value) ≡ Some n → given_by p (setting_of line) ≡ Some n
unfolding setting_of
given-number p line value n gives is =
    ap (λ ws. given_by p (set_by ws)) gives.1
    ∙ ap (λ named. given_by p (set_to named value)) (named-of p)
    ∙ ap (λ b. cond b (c_number_of (without_quotes value)) None) (eq-eqb (place_of p) (place_of p) refl)
    ∙ is

set-none : (p : Parameter) (line name value : List ℕ) (more : List (List ℕ)) (named : Option Parameter) → words line ≡ name ∷ value ∷ more → parameter_named name ≡ named → GivesNone p line → given_by p (set_to named value) ≡ None
set-none p line name value more None w is none = refl
set-none p line name value more (Some q) w is none = elim (cases_Bool (place_of p == place_of q)) [
  | inl same ↦ absurd (none value (more, w ∙ ap (λ x. x ∷ value ∷ more) (name-named name q is ∙ ap name_of (same-place p q same))))
  | inr other ↦ ap (λ b. cond b (c_number_of (without_quotes value)) None) other
]

words-none : (p : Parameter) (line : List ℕ) (ws : List (List ℕ)) → words line ≡ ws → GivesNone p line → given_by p (set_by ws) ≡ None
words-none p line [] w none = refl
words-none p line (name ∷ []) w none = refl
words-none p line (name ∷ value ∷ more) w none = set-none p line name value more (parameter_named name) w refl none

given-none : (p : Parameter) (line : List ℕ) → GivesNone p line → given_by p (setting_of line) ≡ None
unfolding setting_of
given-none p line none = words-none p line (words line) refl none

-- ---- all lines

pub none_given : NoneIsGiven
unfolding latest
none_given p [] all = refl
none_given p (line ∷ more) all =
    ap (λ later. or_else later (given_by p (setting_of line))) (none_given p more (All-tail (GivesNone p) line more all))
    ∙ given-none p line (All-head (GivesNone p) line more all)

pub last_counts : LastValueCounts
unfolding latest
last_counts p [] after line value n gives is all =
    ap (λ later. or_else later (given_by p (setting_of line))) (none_given p after all)
    ∙ given-number p line value n gives is
last_counts p (first ∷ before) after line value n gives is all =
    ap (λ later. or_else later (given_by p (setting_of first))) (last_counts p before after line value n gives is all)
