-- Reading a keep text line by line.
use Rattle.std.proofs.Common.{◌≡◌, ℕ, ◌+◌, min, Bool, true, false, ◌||◌, List, [], ◌∷◌, ◌++◌, length, Some, None, Ok, Err, refl, sym, ap, ◌∙◌, append-nil, arith, length-append}
use Rattle.std.specs.List.{flat_map, list_any}
use Rattle.std.proofs.lemmas.List.Concat.{flat_map-append}
use Rattle.std.proofs.lemmas.List.Folds.{list_any-append}
use Rattle.std.proofs.Math.Bool.{or-true, or-false}
use Rattle.idtext.specs.Faults.{line_number}
use Rattle.idtext.specs.Pieces.{lines as lines_of}
use Rattle.idtext.proofs.FirstLemmas.{Reads, reads_none, reads_fails, reads_more, reads_all}
use Rattle.hosts_join.specs.declared.Which.TheVariants.{User, Group}
use Rattle.keep_text.specs.declared.keep_line.Said.{Said}
use Rattle.keep_text.specs.declared.keep_line.Said.TheVariants.{Name, Range, Unowned}
use Rattle.keep_text.specs.declared.keep_line.KeepLine.{KeepLine}
use Rattle.keep_text.specs.declared.keep_line.KeepLine.TheVariants.{Skipped, Wrong, Given}
use Rattle.keep_text.specs.declared.keep_text.Kept.{Kept}
use Rattle.keep_text.specs.declared.keep_text.KeepText.{KeepText}
use Rattle.keep_text.specs.declared.keep_text.KeepFault.TheVariants.{BadKeep}
use Rattle.keep_text.specs.KeepLines.{keep_line_of}
use Rattle.keep_text.specs.KeepTexts.{keep_of, keep_fault, kept_on, kept_by, may_stand, nothing_kept, of_users, of_groups, name_said, range_said, is_unowned}
use Rattle.keep_text.specs.KeepTaken.{with_line, with_said}

-- ---- one line more

same_kept : (a b : Kept) → a.names ≡ b.names → a.ranges ≡ b.ranges → a.unowned ≡ b.unowned → a ≡ b
same_kept a b p q r = λ i. record { names = p i; ranges = q i; unowned = r i }

-- where an item gives nothing, or one thing
gives_none : {X A : Type 0} (f : X → List A) (xs : List X) (x : X) → f x ≡ [] → flat_map f (xs ++ x ∷ []) ≡ flat_map f xs
gives_none f xs x none = flat_map-append f xs (x ∷ []) ∙ ap (λ ys. flat_map f xs ++ (ys ++ [])) none ∙ append-nil (flat_map f xs)

pub more : {X A : Type 0} (f : X → List A) (xs : List X) (x : X) → flat_map f (xs ++ x ∷ []) ≡ flat_map f xs ++ f x
more f xs x = flat_map-append f xs (x ∷ []) ∙ ap (λ ys. flat_map f xs ++ ys) (append-nil (f x))

still : {X : Type 0} (p : X → Bool) (xs : List X) (x : X) → p x ≡ false → list_any p (xs ++ x ∷ []) ≡ list_any p xs
still p xs x fails = list_any-append p xs (x ∷ []) ∙ ap (λ (b : Bool). list_any p xs || (b || false)) fails ∙ or-false (list_any p xs)

now_true : {X : Type 0} (p : X → Bool) (xs : List X) (x : X) → p x ≡ true → list_any p (xs ++ x ∷ []) ≡ true
now_true p xs x holds = list_any-append p xs (x ∷ []) ∙ ap (λ (b : Bool). list_any p xs || (b || false)) holds ∙ or-true (list_any p xs)

pub said_more : (all : List Said) (said : Said) → kept_by (all ++ said ∷ []) ≡ with_said (kept_by all) said
said_more all (Name name) = same_kept _ _ (more name_said all (Name name)) (gives_none range_said all (Name name) refl) (still is_unowned all (Name name) refl)
said_more all (Range range) = same_kept _ _ (gives_none name_said all (Range range) refl) (more range_said all (Range range)) (still is_unowned all (Range range) refl)
said_more all Unowned = same_kept _ _ (gives_none name_said all Unowned refl) (gives_none range_said all Unowned refl) (now_true is_unowned all Unowned refl)

abbrev pub both : List Said → List Said → KeepText
both users groups = record { users = kept_by users; groups = kept_by groups }

taken : (users groups : List Said) (line : KeepLine) → both (users ++ of_users line) (groups ++ of_groups line) ≡ with_line (both users groups) line
taken users groups Skipped = λ i. both (append-nil users i) (append-nil groups i)
taken users groups Wrong = λ i. both (append-nil users i) (append-nil groups i)
taken users groups (Given User said) = λ i. record { users = said_more users said i; groups = kept_by (append-nil groups i) }
taken users groups (Given Group said) = λ i. record { users = kept_by (append-nil users i); groups = said_more groups said i }

abbrev users_on : List ℕ → List Said
users_on line = of_users (keep_line_of line)

abbrev groups_on : List ℕ → List Said
groups_on line = of_groups (keep_line_of line)

pub line_more : (seen : List (List ℕ)) (line : List ℕ) → kept_on (seen ++ line ∷ []) ≡ with_line (kept_on seen) (keep_line_of line)
line_more seen line = (λ i. both (more users_on seen line i) (more groups_on seen line i)) ∙ taken (flat_map users_on seen) (flat_map groups_on seen) (keep_line_of line)

-- ---- line by line

-- seen are the lines so far, and rest those that are left
pub record Reading (text : List ℕ) (seen rest : List (List ℕ)) (number : ℕ) (keep : KeepText) : Type 0 where
  pub reads : Reads keep_fault kept_on (lines_of text) seen rest keep
  pub counted : number ≡ min (length seen) 18446744073709551615

saturated : (n m k : ℕ) → n ≡ min k 18446744073709551615 → m ≡ min (n + 1) 18446744073709551615 → m ≡ min (k + 1) 18446744073709551615
saturated n m k p q = omega arith

pub reading_starts : (text : List ℕ) (rest : List (List ℕ)) (keep : KeepText) → rest ≡ lines_of text → keep.users ≡ nothing_kept → keep.groups ≡ nothing_kept → Reading text [] rest 0 keep
reading_starts text rest keep is users groups =
    let made : keep ≡ kept_on [] = λ i. record { users = users i; groups = groups i } in
    record { reads = reads_none keep_fault kept_on (lines_of text) rest keep is made; counted = refl }

module _ {text : List ℕ} {seen left rest : List (List ℕ)} {number next : ℕ} {keep : KeepText} {line : List ℕ} (so_far : Reading text seen left number keep) (is : left ≡ line ∷ rest) (counts : next ≡ min (number + 1) 18446744073709551615) where
  same_seen : (good : Bool) → good ≡ may_stand keep (keep_line_of line) → may_stand (kept_on seen) (keep_line_of line) ≡ good
  same_seen good e = sym (e ∙ ap (λ k. may_stand k (keep_line_of line)) so_far.reads.made_is)

  pub reading_fails : false ≡ may_stand keep (keep_line_of line) → keep_of text ≡ Err (BadKeep next)
  unfolding keep_of
  reading_fails bad =
      let numbered : line_number (length seen) ≡ next = sym (saturated number next (length seen) so_far.counted counts) in
      let judged : keep_fault seen line ≡ Some (BadKeep next) = rw (same_seen false bad, numbered) refl in
      reads_fails keep_fault kept_on (lines_of text) seen left keep line rest (BadKeep next) so_far.reads is judged

  pub reading_goes_on : (after : KeepText) → true ≡ may_stand keep (keep_line_of line) → after ≡ with_line keep (keep_line_of line) → Reading text (seen ++ line ∷ []) rest next after
  reading_goes_on after good with =
      let judged : keep_fault seen line ≡ None = rw (same_seen true good) refl in
      let made : after ≡ kept_on (seen ++ line ∷ []) = with ∙ ap (λ k. with_line k (keep_line_of line)) so_far.reads.made_is ∙ sym (line_more seen line) in
      record {
        reads = reads_more keep_fault kept_on (lines_of text) seen left keep line rest after so_far.reads is judged made;
        counted = rw length-append (saturated number next (length seen) so_far.counted counts);
      }

pub reading_ends : {text : List ℕ} {seen left : List (List ℕ)} {number : ℕ} {keep : KeepText} → Reading text seen left number keep → left ≡ [] → keep_of text ≡ Ok keep
unfolding keep_of
reading_ends {text} {seen} {left} {number} {keep} so_far none = reads_all keep_fault kept_on (lines_of text) seen left keep so_far.reads none
