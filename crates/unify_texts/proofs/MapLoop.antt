-- Reading a map text line by line.
use Rattle.std.proofs.Common.{◌≡◌, ℕ, ◌+◌, min, true, false, List, [], ◌∷◌, ◌++◌, length, Some, None, Ok, Err, refl, sym, ap, ◌∙◌, append_assoc, append-nil, arith, length-append}
use Rattle.std.specs.List.{flat_map}
use Rattle.std.proofs.lemmas.List.Concat.{flat_map-append}
use Rattle.idtext.specs.First.{first_fault, unless}
use Rattle.idtext.specs.Faults.{line_number}
use Rattle.idtext.specs.Pieces.{lines as lines_of}
use Rattle.idtext.proofs.FirstLemmas.{judged_next, judged_fails, judged_done}
use Rattle.unify_texts.specs.declared.fault.Fault.TheVariants.{BadMap}
use Rattle.unify_texts.specs.declared.map_text.MapText.{MapText}
use Rattle.hosts_join.specs.PairLines.{pair_line_of, user_pair, group_pair}
use Rattle.unify_texts.specs.Maps.{map_of, map_fault, numbering_of, is_good_after}

-- seen are the lines so far, and rest those that are left
pub record Reading (text : List ℕ) (seen rest : List (List ℕ)) (number : ℕ) (map : MapText) : Type 0 where
  pub whole : lines_of text ≡ seen ++ rest
  pub counted : number ≡ min (length seen) 18446744073709551615
  pub judged : first_fault map_fault seen rest ≡ first_fault map_fault [] (lines_of text)
  pub made : map ≡ numbering_of seen

same_map : (a b : MapText) → a.users ≡ b.users → a.groups ≡ b.groups → a ≡ b
same_map a b p q = λ i. record { users = p i; groups = q i }

more : {X A : Type 0} (f : X → List A) (xs : List X) (x : X) → flat_map f xs ++ f x ≡ flat_map f (xs ++ x ∷ [])
more f xs x = sym (flat_map-append f xs (x ∷ []) ∙ ap (λ ys. flat_map f xs ++ ys) (append-nil (f x)))

saturated : (n m k : ℕ) → n ≡ min k 18446744073709551615 → m ≡ min (n + 1) 18446744073709551615 → m ≡ min (k + 1) 18446744073709551615
saturated n m k p q = omega arith

pub reading_starts : (text : List ℕ) (rest : List (List ℕ)) (map : MapText) → rest ≡ lines_of text → map.users ≡ [] → map.groups ≡ [] → Reading text [] rest 0 map
reading_starts text rest map is users groups = record {
  whole = sym is;
  counted = refl;
  judged = ap (λ ls. first_fault map_fault [] ls) is;
  made = same_map map (numbering_of []) users groups;
}

module _ {text : List ℕ} {seen left rest : List (List ℕ)} {number next : ℕ} {map : MapText} {line : List ℕ} (so_far : Reading text seen left number map) (is : left ≡ line ∷ rest) (counts : next ≡ min (number + 1) 18446744073709551615) where
  pub reading_fails : false ≡ is_good_after map (pair_line_of line) → map_of text ≡ Err (BadMap next)
  unfolding map_of
  reading_fails bad =
      let bad_seen : is_good_after (numbering_of seen) (pair_line_of line) ≡ false = sym (bad ∙ ap (λ m. is_good_after m (pair_line_of line)) so_far.made) in
      let numbered : line_number (length seen) ≡ next = sym (saturated number next (length seen) so_far.counted counts) in
      let judged : map_fault seen line ≡ Some (BadMap next) = rw (bad_seen, numbered) refl in
      ap (λ f. unless f (numbering_of (lines_of text)))
      (judged_fails map_fault seen line rest (BadMap next) (first_fault map_fault [] (lines_of text)) judged (ap (λ ls. first_fault map_fault seen ls) (sym is) ∙ so_far.judged))

  pub reading_goes_on : (after : MapText) → true ≡ is_good_after map (pair_line_of line) → after.users ≡ map.users ++ user_pair (pair_line_of line) → after.groups ≡ map.groups ++ group_pair (pair_line_of line) → Reading text (seen ++ line ∷ []) rest next after
  reading_goes_on after good users groups =
      let good_seen : is_good_after (numbering_of seen) (pair_line_of line) ≡ true = sym (good ∙ ap (λ m. is_good_after m (pair_line_of line)) so_far.made) in
      let judged : map_fault seen line ≡ None = rw good_seen refl in
      record {
        whole = so_far.whole ∙ ap (λ ls. seen ++ ls) is ∙ sym (append_assoc seen (line ∷ []) rest);
        counted = rw length-append (saturated number next (length seen) so_far.counted counts);
        judged = judged_next map_fault seen line rest (first_fault map_fault [] (lines_of text)) judged (ap (λ ls. first_fault map_fault seen ls) (sym is) ∙ so_far.judged);
        made = same_map after (numbering_of (seen ++ line ∷ []))
            (users ∙ ap (λ m. m.users ++ user_pair (pair_line_of line)) so_far.made ∙ more (λ l. user_pair (pair_line_of l)) seen line)
            (groups ∙ ap (λ m. m.groups ++ group_pair (pair_line_of line)) so_far.made ∙ more (λ l. group_pair (pair_line_of l)) seen line);
      }

pub reading_ends : {text : List ℕ} {seen left : List (List ℕ)} {number : ℕ} {map : MapText} → Reading text seen left number map → left ≡ [] → map_of text ≡ Ok map
unfolding map_of
reading_ends {text} {seen} {left} {number} {map} so_far none =
    let all : lines_of text ≡ seen = so_far.whole ∙ ap (λ ls. seen ++ ls) none ∙ append-nil seen in
    let fine = judged_done map_fault seen (first_fault map_fault [] (lines_of text)) (ap (λ ls. first_fault map_fault seen ls) (sym none) ∙ so_far.judged) in
    rw fine (ap (λ m. Ok m) (ap numbering_of all ∙ sym so_far.made))
