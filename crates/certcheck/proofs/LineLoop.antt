-- Reading the lines of a certificate.
use Rattle.std.proofs.Common.{◌≡◌, ℕ, ◌+◌, min, true, false, List, [], ◌∷◌, ◌++◌, length, Option, Some, None, sym, ap, ◌∙◌, append_assoc, append-nil, arith, length-append}
use Rattle.std.specs.List.{flat_map}
use Rattle.std.specs.Option.{option_map}
use Rattle.std.proofs.lemmas.Bool.{cond-true, cond-false}
use Rattle.idtext.specs.First.{first_fault}
use Rattle.idtext.specs.Faults.{line_number}
use Rattle.idtext.specs.Pieces.{lines as lines_of}
use Rattle.idtext.proofs.FirstLemmas.{judged_next, judged_fails, judged_done}
use Rattle.hosts_join.specs.declared.Which.TheVariants.{User, Group}
use Rattle.certcheck.specs.declared.line.Item.{Item}
use Rattle.certcheck.specs.declared.reading.Parts.{Parts}
use Rattle.certcheck.specs.Items.{item_view}
use Rattle.certcheck.specs.Views.{rows_of}
use Rattle.certcheck.specs.Reading as spec
use Rattle.certcheck.specs.Reading.{item_of, rows_in, all_z_in, item_before, may_follow, line_fault}
use Rattle.certcheck.specs.Certificate.{Row, Side}
use Rattle.certcheck.specs.LinesRead.{AreRead}
use Rattle.certcheck.proofs.Growing.{item_push, more}

-- seen are the lines so far, rest those that are left
pub record SoFar (text : List ℕ) (seen rest : List (List ℕ)) (parts : Parts) (before : Option Item) (number : ℕ) : Type 0 where
  pub whole : lines_of text ≡ seen ++ rest
  pub judged : first_fault line_fault seen rest ≡ first_fault line_fault [] (lines_of text)
  pub read : AreRead seen parts before number

pub saturated : (n m k : ℕ) → n ≡ min k 18446744073709551615 → m ≡ min (n + 1) 18446744073709551615 → m ≡ min (k + 1) 18446744073709551615
saturated n m k p q = omega arith

pub so_far_fails : (text : List ℕ) (seen left rest : List (List ℕ)) (parts : Parts) (before : Option Item) (number next : ℕ) (line : List ℕ) → SoFar text seen left parts before number → left ≡ line ∷ rest → next ≡ min (number + 1) 18446744073709551615 → may_follow (option_map item_view before) (item_of line) ≡ false → first_fault line_fault [] (lines_of text) ≡ Some next
so_far_fails text seen left rest parts before number next line so_far is counts bad =
    let bad' : may_follow (item_before seen) (item_of line) ≡ false = ap (λ b. may_follow b (item_of line)) (sym so_far.read.last) ∙ bad in
    let numbered : line_number (length seen) ≡ next = sym (saturated number next (length seen) so_far.read.counted counts) in
    judged_fails line_fault seen line rest next (first_fault line_fault [] (lines_of text)) (cond-false _ None (Some (line_number (length seen))) bad' ∙ ap (λ (n : ℕ). Some n) numbered) (ap (λ ls. first_fault line_fault seen ls) (sym is) ∙ so_far.judged)

pub so_far_more : (text : List ℕ) (seen left rest : List (List ℕ)) (parts after : Parts) (before : Option Item) (item : Item) (number next : ℕ) (line : List ℕ) → SoFar text seen left parts before number → left ≡ line ∷ rest → next ≡ min (number + 1) 18446744073709551615 → Some (item_view item) ≡ item_of line → may_follow (option_map item_view before) (Some (item_view item)) ≡ true
    → rows_of after.users.items ≡ rows_of parts.users.items ++ rows_in User (Some (item_view item)) → after.users_z.items ≡ parts.users_z.items ++ all_z_in User (Some (item_view item)) → rows_of after.groups.items ≡ rows_of parts.groups.items ++ rows_in Group (Some (item_view item)) → after.groups_z.items ≡ parts.groups_z.items ++ all_z_in Group (Some (item_view item))
    → SoFar text (seen ++ line ∷ []) rest after (Some item) next
so_far_more text seen left rest parts after before item number next line so_far is counts says fine u uz g gz =
    let good : may_follow (item_before seen) (item_of line) ≡ true = ap (λ b. may_follow b (item_of line)) (sym so_far.read.last) ∙ ap (may_follow (option_map item_view before)) (sym says) ∙ fine in
    record {
      whole = so_far.whole ∙ ap (λ ls. seen ++ ls) is ∙ sym (append_assoc seen (line ∷ []) rest);
      judged = judged_next line_fault seen line rest (first_fault line_fault [] (lines_of text)) (cond-true _ None (Some (line_number (length seen))) good) (ap (λ ls. first_fault line_fault seen ls) (sym is) ∙ so_far.judged);
      read = record {
        users = u ∙ ap (λ rs. rs ++ rows_in User (Some (item_view item))) so_far.read.users ∙ ap (λ i. flat_map (λ l. rows_in User (item_of l)) seen ++ rows_in User i) says ∙ more (λ l. rows_in User (item_of l)) seen line;
        users_z = uz ∙ ap (λ rs. rs ++ all_z_in User (Some (item_view item))) so_far.read.users_z ∙ ap (λ i. flat_map (λ l. all_z_in User (item_of l)) seen ++ all_z_in User i) says ∙ more (λ l. all_z_in User (item_of l)) seen line;
        groups = g ∙ ap (λ rs. rs ++ rows_in Group (Some (item_view item))) so_far.read.groups ∙ ap (λ i. flat_map (λ l. rows_in Group (item_of l)) seen ++ rows_in Group i) says ∙ more (λ l. rows_in Group (item_of l)) seen line;
        groups_z = gz ∙ ap (λ rs. rs ++ all_z_in Group (Some (item_view item))) so_far.read.groups_z ∙ ap (λ i. flat_map (λ l. all_z_in Group (item_of l)) seen ++ all_z_in Group i) says ∙ more (λ l. all_z_in Group (item_of l)) seen line;
        last = says ∙ sym (item_push seen line);
        counted = rw length-append (saturated number next (length seen) so_far.read.counted counts);
      };
    }

pub so_far_all : (text : List ℕ) (seen left : List (List ℕ)) (parts : Parts) (before : Option Item) (number : ℕ) → SoFar text seen left parts before number → left ≡ [] → (lines_of text ≡ seen) × (first_fault line_fault [] (lines_of text) ≡ None)
so_far_all text seen left parts before number so_far none = (
  so_far.whole ∙ ap (λ ls. seen ++ ls) none ∙ append-nil seen,
  judged_done line_fault seen (first_fault line_fault [] (lines_of text)) (ap (λ ls. first_fault line_fault seen ls) (sym none) ∙ so_far.judged),
)

pub no_follow : (b : Option spec.Item) (o : Option spec.Item) → o ≡ None → may_follow b o ≡ false
no_follow None o e = ap (may_follow None) e
no_follow (Some b) o e = ap (may_follow (Some b)) e

pub side_equal : (rows rows' : List Row) (z z' : List (ℕ × ℕ)) → rows ≡ rows' → z ≡ z' → ◌≡◌ {A = Side} (record { rows = rows; z = z }) (record { rows = rows'; z = z' })
side_equal rows rows' z z' er ez = ap (λ rs. record { rows = rs; z = z }) er ∙ ap (λ x. record { rows = rows'; z = x }) ez
