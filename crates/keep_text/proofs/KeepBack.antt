-- What was read from a keep text.
use Rattle.std.proofs.Common.{◌≡◌, ◌≤◌, ℕ, Bool, true, false, List, [], ◌∷◌, ◌++◌, Option, Some, None, refl, sym, subst, append_assoc, append-nil, arith, drop, bytes_eq}
use Rattle.std.specs.Prelude.{IfSome, if◌then◌else◌, nat_le, codes}
use Rattle.std.specs.List.{list_any}
use Rattle.std.proofs.lemmas.Bool.{leb-true, not-true}
use Rattle.std.proofs.lemmas.List.Elements.{All-nil, All-push}
use Rattle.idtext.specs.First.{first_fault}
use Rattle.idtext.specs.Names.{is_lawful_name, is_skipped}
use Rattle.idtext.specs.Numbers.{greatest_id, id_of}
use Rattle.idtext.specs.Pieces.{begins_with, lines as lines_of}
use Rattle.idtext.specs.Spaces.{cut_at_last_space}
use Rattle.idtext.proofs.FirstLemmas.{none_of_both}
use Rattle.idtext.proofs.NumberLemmas.{numeral-id}
use Rattle.idtext.proofs.OkLemmas.{unless_ok}
use Rattle.accounts.proofs.LawLemmas.{distinct-push}
use Rattle.logindefs.specs.declared.ranges.IdRange.{IdRange}
use Rattle.hosts_join.specs.declared.Which.{Which}
use Rattle.hosts_join.specs.declared.Which.TheVariants.{User, Group}
use Rattle.hosts_join.proofs.Grouping.{bytes_refl}
use Rattle.keep_text.specs.declared.keep_line.Said.{Said}
use Rattle.keep_text.specs.declared.keep_line.Said.TheVariants.{Name, Range, Unowned}
use Rattle.keep_text.specs.declared.keep_line.KeepLine.{KeepLine}
use Rattle.keep_text.specs.declared.keep_line.KeepLine.TheVariants.{Skipped, Wrong, Given}
use Rattle.keep_text.specs.declared.keep_text.Kept.{Kept}
use Rattle.keep_text.specs.declared.keep_text.KeepText.{KeepText}
use Rattle.keep_text.specs.declared.keep_text.KeepFault.{KeepFault}
use Rattle.keep_text.specs.KeepLines.{between, keep_line_of, named, ranged}
use Rattle.keep_text.specs.KeepTexts.{is_new, keep_fault, keep_of, kept_on, may_stand}
use Rattle.keep_text.specs.KeepTaken.{with_line, with_said}
use Rattle.keep_text.specs.KeepLaws.{IsLawfulKeep, IsLawfulKept, ReadKeepsAreLawful}
use Rattle.keep_text.proofs.KeepLoop.{line_more}

-- ---- one line

-- its name is lawful, its range is of ids and not empty
abbrev pub IsSound : Said → Type 0
IsSound (Name name) = is_lawful_name name ≡ true
IsSound (Range range) = (range.low ≤ range.high) × (range.high ≤ greatest_id)
IsSound Unowned = Unit {0}

abbrev pub IsSoundLine : KeepLine → Type 0
IsSoundLine Skipped = Unit {0}
IsSoundLine Wrong = Unit {0}
IsSoundLine (Given which said) = IsSound said

either : (b : Bool) (x y : KeepLine) → IsSoundLine x → IsSoundLine y → IsSoundLine (if b then x else y)
either true x y p q = p
either false x y p q = q

if_so : (b : Bool) (x : KeepLine) → (b ≡ true → IsSoundLine x) → IsSoundLine (if b then x else Wrong)
if_so true x p = p refl
if_so false x p = tt

named-sound : (which : Which) (name : List ℕ) → IsSoundLine (named which name)
named-sound which name = if_so (is_lawful_name name) (Given which (Name name)) (λ lawful. lawful)

between-sound : (which : Which) (low high : Option ℕ) → IfSome high (λ id. id ≤ greatest_id) → IsSoundLine (between which low high)
between-sound which None high id = tt
between-sound which (Some low) None id = tt
between-sound which (Some low) (Some high) id = if_so (nat_le low high) (Given which (Range (record { low = low; high = high }))) (λ le. (leb-true low high le, id))

ranged-sound : (which : Which) (ends : Option (List ℕ × List ℕ)) → IsSoundLine (ranged which ends)
ranged-sound which None = tt
ranged-sound which (Some ends) = between-sound which (id_of ends.0) (id_of ends.1) (numeral-id 10 ends.1)

pub line-sound : (line : List ℕ) → IsSoundLine (keep_line_of line)
unfolding keep_line_of
line-sound line =
    either (is_skipped line) Skipped _ tt
    (either (begins_with (codes "user ") line) (named User (drop 5 line)) _ (named-sound User (drop 5 line))
    (either (begins_with (codes "group ") line) (named Group (drop 6 line)) _ (named-sound Group (drop 6 line))
    (either (begins_with (codes "users ") line) (ranged User (cut_at_last_space (drop 6 line))) _ (ranged-sound User (cut_at_last_space (drop 6 line)))
    (either (begins_with (codes "groups ") line) (ranged Group (cut_at_last_space (drop 7 line))) _ (ranged-sound Group (cut_at_last_space (drop 7 line)))
    (either (bytes_eq line (codes "unowned users")) (Given User Unowned) _ tt
    (either (bytes_eq line (codes "unowned groups")) (Given Group Unowned) Wrong tt tt))))))

-- ---- all lines

said_lawful : (kept : Kept) (said : Said) → IsLawfulKept kept → is_new kept said ≡ true → IsSound said → IsLawfulKept (with_said kept said)
said_lawful kept (Name name) l new sound = record {
  names_are_lawful = All-push (λ (n : List ℕ). is_lawful_name n ≡ true) kept.names name l.names_are_lawful sound;
  names_differ = distinct-push bytes_eq bytes_refl kept.names name (not-true (list_any (bytes_eq name) kept.names) new) l.names_differ;
  ranges_are_of_ids = l.ranges_are_of_ids;
}
said_lawful kept (Range range) l new sound = record {
  names_are_lawful = l.names_are_lawful;
  names_differ = l.names_differ;
  ranges_are_of_ids = All-push (λ (r : IdRange). (r.low ≤ r.high) × (r.high ≤ greatest_id)) kept.ranges range l.ranges_are_of_ids sound;
}
said_lawful kept Unowned l new sound = record { names_are_lawful = l.names_are_lawful; names_differ = l.names_differ; ranges_are_of_ids = l.ranges_are_of_ids }

line_lawful : (keep : KeepText) (line : KeepLine) → IsLawfulKeep keep → may_stand keep line ≡ true → IsSoundLine line → IsLawfulKeep (with_line keep line)
line_lawful keep Skipped l good sound = l
line_lawful keep Wrong l good sound = l
line_lawful keep (Given User said) l good sound = record { users = said_lawful keep.users said l.users good sound; groups = l.groups }
line_lawful keep (Given Group said) l good sound = record { users = l.users; groups = said_lawful keep.groups said l.groups good sound }

pub passed : (b : Bool) (f : KeepFault) → (if b then None else Some f) ≡ None → b ≡ true
passed true f h = refl
passed false f h = absurd (cc)

lines_lawful : (lines before : List (List ℕ)) → IsLawfulKeep (kept_on before) → first_fault keep_fault before lines ≡ None → IsLawfulKeep (kept_on (before ++ lines))
unfolding first_fault
lines_lawful [] before l none = subst (λ (ls : List (List ℕ)). IsLawfulKeep (kept_on ls)) (sym (append-nil before)) l
lines_lawful (line ∷ lines) before l none =
    let both = none_of_both (keep_fault before line) (first_fault keep_fault (before ++ line ∷ []) lines) none in
    let good = passed (may_stand (kept_on before) (keep_line_of line)) _ both.0 in
    let one = subst IsLawfulKeep (sym (line_more before line)) (line_lawful (kept_on before) (keep_line_of line) l good (line-sound line)) in
    subst (λ (ls : List (List ℕ)). IsLawfulKeep (kept_on ls)) (append_assoc before (line ∷ []) lines) (lines_lawful lines (before ++ line ∷ []) one both.1)

nothing_lawful : IsLawfulKeep (kept_on [])
nothing_lawful =
    let none : IsLawfulKept (kept_on []).users = record {
      names_are_lawful = All-nil (λ (n : List ℕ). is_lawful_name n ≡ true);
      names_differ = λ i j d hi hj e. absurd (omega (arith, hi));
      ranges_are_of_ids = All-nil (λ (r : IdRange). (r.low ≤ r.high) × (r.high ≤ greatest_id));
    } in
    record { users = none; groups = none }

pub read_keeps_are_lawful : ReadKeepsAreLawful
unfolding keep_of
read_keeps_are_lawful text keep is =
    let fine = unless_ok (first_fault keep_fault [] (lines_of text)) (kept_on (lines_of text)) keep is in
    subst IsLawfulKeep fine.1 (lines_lawful (lines_of text) [] nothing_lawful fine.0)
