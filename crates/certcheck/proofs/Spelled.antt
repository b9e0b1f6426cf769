-- What is read from a text is spelled by it, and what is spelled is read.
use Rattle.std.proofs.Common.{◌≡◌, ℕ, ◌<◌, Bool, true, false, cond, codes, List, [], ◌∷◌, ◌++◌, map, length, Option, Some, None, Result, Ok, refl, sym, ap, ◌∙◌, arith, subst, append_assoc, append-nil}
use Rattle.std.specs.List.{All, flat_map}
use Rattle.std.proofs.lemmas.Bool.{cond-true, false≢true}
use Rattle.std.proofs.lemmas.List.Concat.{flat_map-append}
use Rattle.std.proofs.lemmas.List.Elements.{All-head, All-tail}
use Rattle.std.proofs.lemmas.Option.{none-some}
use Rattle.idtext.specs.First.{first_fault, or_else, unless}
use Rattle.idtext.specs.Pieces.{lines}
use Rattle.hosts_join.specs.declared.Which.{Which}
use Rattle.hosts_join.specs.declared.Which.TheVariants.{User, Group}
use Rattle.certcheck.specs.Certificate.{Row, IsRow}
use Rattle.ownership.specs.Potentials.{IsZ}
use Rattle.certcheck.specs.declared.certificate.Certificate.{Certificate}
use Rattle.certcheck.specs.Laws.{IsCertificate, NoneBeginsAnother, ReadsWhatIsSpelled, SpelledIsRead}
use Rattle.certcheck.specs.Reading.{Item, Head, RowItem, ZItem, End, certificate_in, end_fault, is_cut, is_end, item_before, item_of, line_fault, may_follow, rows_in, all_z_in, side_in}
use Rattle.certcheck.specs.Spelling.{row_line, side_text, spelling, z_line}
use Rattle.certcheck.proofs.Growing.{IsLawfulItem, item_push, line_fine, lines_give_side, no_item}
use Rattle.certcheck.proofs.ItemLines.{item_line, line_plain, line_reads, line_says, row_text, z_text}
use Rattle.certcheck.proofs.Least.{none_both}
use Rattle.certcheck.proofs.TextLines.{ArePlain, cut_back, ended, lines_front, lines_whole, text_of_lines}
use Rattle.certcheck.proofs.Turns.{Chain, given_by, items_chain, items_of, last_item, whole_chain}
use Rattle.certcheck.proofs.WholeText.{ended_read}
use Rattle.certcheck.proofs.LineLoop.{side_equal}

-- 1. Lines and what they say

abbrev pub AreSaid : List (List ℕ) → List Item → Type 0
AreSaid [] [] = Unit {0}
AreSaid [] (i ∷ is) = ⊥
AreSaid (l ∷ ls) [] = ⊥
AreSaid (l ∷ ls) (i ∷ is) = (item_of l ≡ Some i) × AreSaid ls is

said_given : {X : Type 0} (part : Option Item → List X) (ls : List (List ℕ)) (is : List Item) → AreSaid ls is → flat_map (λ l. part (item_of l)) ls ≡ flat_map (λ i. part (Some i)) is
said_given part [] [] h = refl
said_given part [] (i ∷ is) h = absurd h
said_given part (l ∷ ls) [] h = absurd h
said_given part (l ∷ ls) (i ∷ is) h = ap (λ o. part o ++ flat_map (λ m. part (item_of m)) ls) h.0 ∙ ap (λ xs. part (Some i) ++ xs) (said_given part ls is h.1)

pub said_lines : (ls : List (List ℕ)) (is : List Item) → AreSaid ls is → ls ≡ map item_line is
said_lines [] [] h = refl
said_lines [] (i ∷ is) h = absurd h
said_lines (l ∷ ls) [] h = absurd h
said_lines (l ∷ ls) (i ∷ is) h = ap (λ m. m ∷ ls) (line_says l i h.0) ∙ ap (λ ms. item_line i ∷ ms) (said_lines ls is h.1)

pub said_last : (ls : List (List ℕ)) (is : List Item) → AreSaid ls is → item_before ls ≡ last_item is
said_last [] [] h = refl
said_last [] (i ∷ is) h = absurd h
said_last (l ∷ ls) [] h = absurd h
said_last (l ∷ []) (i ∷ []) h = h.0
said_last (l ∷ []) (i ∷ j ∷ js) h = absurd h.1
said_last (l ∷ m ∷ ms) (i ∷ []) h = absurd h.1
said_last (l ∷ m ∷ ms) (i ∷ j ∷ js) h = said_last (m ∷ ms) (j ∷ js) h.1

said_side : (k : Which) (ls : List (List ℕ)) (is : List Item) → AreSaid ls is → side_in k ls ≡ record { rows = flat_map (λ i. rows_in k (Some i)) is; z = flat_map (λ i. all_z_in k (Some i)) is }
said_side k ls is h =
    ap (λ rs. record { rows = rs; z = flat_map (λ l. all_z_in k (item_of l)) ls }) (said_given (rows_in k) ls is h)
    ∙ ap (λ zs. record { rows = flat_map (λ i. rows_in k (Some i)) is; z = zs }) (said_given (all_z_in k) ls is h)

-- lines without a fault say items that may stand after one another
pub record Says (seen ls : List (List ℕ)) : Type 0 where
  pub items : List Item
  pub said : AreSaid ls items
  pub chain : Chain (item_before seen) items

pub fine_says : (seen ls : List (List ℕ)) → first_fault line_fault seen ls ≡ None → Says seen ls
unfolding first_fault
fine_says seen [] h = record { items = []; said = tt; chain = tt }
fine_says seen (l ∷ ls) h =
    let both = none_both (line_fault seen l) (first_fault line_fault (seen ++ l ∷ []) ls) h in
    one (item_of l) refl (line_fine seen l both.0) (fine_says (seen ++ l ∷ []) ls both.1)
  where
    one : (o : Option Item) → item_of l ≡ o → may_follow (item_before seen) (item_of l) ≡ true → Says (seen ++ l ∷ []) ls → Says seen (l ∷ ls)
    one None e fine rest = absurd (no_item (item_before seen) (ap (may_follow (item_before seen)) (sym e) ∙ fine))
    one (Some i) e fine rest =
        let P : Option Item → Type 0 = λ b. Chain b rest.items in
        record {
          items = i ∷ rest.items;
          said = (e, rest.said);
          chain = (ap (may_follow (item_before seen)) (sym e) ∙ fine, subst P (item_push seen l ∙ e) rest.chain);
        }

-- and the other way round
says_fine : (seen ls : List (List ℕ)) (is : List Item) → AreSaid ls is → Chain (item_before seen) is → first_fault line_fault seen ls ≡ None
unfolding first_fault
says_fine seen [] [] h chain = refl
says_fine seen [] (i ∷ is) h chain = absurd h
says_fine seen (l ∷ ls) [] h chain = absurd h
says_fine seen (l ∷ ls) (i ∷ is) h chain =
    let good : may_follow (item_before seen) (item_of l) ≡ true = ap (may_follow (item_before seen)) h.0 ∙ chain.0 in
    let P : Option Item → Type 0 = λ b. Chain b is in
    ap (λ o. or_else o (first_fault line_fault (seen ++ l ∷ []) ls)) (cond-true _ None _ good)
    ∙ says_fine (seen ++ l ∷ []) ls is h.1 (subst P (sym (item_push seen l ∙ h.0)) chain.1)

-- 2. The spelling, line by line

abbrev item_text : Item → List ℕ
item_text i = ended (item_line i)

flat_map-of : {A B C : Type 0} (f : B → List C) (g : A → B) (h : A → List C) (xs : List A) → ((x : A) → f (g x) ≡ h x) → flat_map f (map g xs) ≡ flat_map h xs
flat_map-of f g h [] same = refl
flat_map-of f g h (x ∷ xs) same = ap (λ ys. ys ++ flat_map f (map g xs)) (same x) ∙ ap (λ ys. h x ++ ys) (flat_map-of f g h xs same)

row_spelled : (word : List ℕ) (r : Row) → ended (word ++ row_text r) ≡ row_line word r
row_spelled word r = simp append_assoc

z_spelled : (word : List ℕ) (e : ℕ × ℕ) → ended (word ++ z_text e) ≡ z_line word e
z_spelled word e = simp append_assoc

five : (a b c d e : List Item) → flat_map item_text (a ++ (b ++ (c ++ (d ++ e)))) ≡ flat_map item_text a ++ (flat_map item_text b ++ (flat_map item_text c ++ (flat_map item_text d ++ flat_map item_text e)))
five a b c d e =
    flat_map-append item_text a _
    ∙ ap (λ xs. flat_map item_text a ++ xs) (flat_map-append item_text b _
    ∙ ap (λ xs. flat_map item_text b ++ xs) (flat_map-append item_text c _
    ∙ ap (λ xs. flat_map item_text c ++ xs) (flat_map-append item_text d e)))

abbrev lines_text : List ℕ → List ℕ → List ℕ → List ℕ → List ℕ
lines_text u v g h = codes "unify certificate 2\n" ++ (u ++ (v ++ (g ++ (h ++ codes "end\n"))))

lines_spelled : (c : Certificate) → flat_map item_text (items_of c) ≡ lines_text (flat_map (row_line (codes "user ")) c.users.rows) (flat_map (z_line (codes "zuser ")) c.users.z) (flat_map (row_line (codes "group ")) c.groups.rows) (flat_map (z_line (codes "zgroup ")) c.groups.z)
lines_spelled c =
    let u = flat_map-of item_text (λ r. RowItem User r) (row_line (codes "user ")) c.users.rows (row_spelled (codes "user ")) in
    let v = flat_map-of item_text (λ e. ZItem User e) (z_line (codes "zuser ")) c.users.z (z_spelled (codes "zuser ")) in
    let g = flat_map-of item_text (λ r. RowItem Group r) (row_line (codes "group ")) c.groups.rows (row_spelled (codes "group ")) in
    let h = flat_map-of item_text (λ e. ZItem Group e) (z_line (codes "zgroup ")) c.groups.z (z_spelled (codes "zgroup ")) in
    ap (λ xs. codes "unify certificate 2\n" ++ xs)
    (five (map (λ r. RowItem User r) c.users.rows) (map (λ e. ZItem User e) c.users.z) (map (λ r. RowItem Group r) c.groups.rows) (map (λ e. ZItem Group e) c.groups.z) (End ∷ [])
    ∙ ap (λ x. x ++ (flat_map item_text (map (λ e. ZItem User e) c.users.z) ++ (flat_map item_text (map (λ r. RowItem Group r) c.groups.rows) ++ (flat_map item_text (map (λ e. ZItem Group e) c.groups.z) ++ codes "end\n")))) u
    ∙ ap (λ x. flat_map (row_line (codes "user ")) c.users.rows ++ (x ++ (flat_map item_text (map (λ r. RowItem Group r) c.groups.rows) ++ (flat_map item_text (map (λ e. ZItem Group e) c.groups.z) ++ codes "end\n")))) v
    ∙ ap (λ x. flat_map (row_line (codes "user ")) c.users.rows ++ (flat_map (z_line (codes "zuser ")) c.users.z ++ (x ++ (flat_map item_text (map (λ e. ZItem Group e) c.groups.z) ++ codes "end\n")))) g
    ∙ ap (λ x. flat_map (row_line (codes "user ")) c.users.rows ++ (flat_map (z_line (codes "zuser ")) c.users.z ++ (flat_map (row_line (codes "group ")) c.groups.rows ++ (x ++ codes "end\n")))) h)

spelling_parts : (head u v g h end : List ℕ) → head ++ (u ++ v) ++ (g ++ h) ++ end ≡ head ++ (u ++ (v ++ (g ++ (h ++ end))))
spelling_parts head u v g h end = simp append_assoc

pub spelled_lines : (c : Certificate) → spelling c ≡ flat_map item_text (items_of c)
spelled_lines c = spelling_parts (codes "unify certificate 2\n") (flat_map (row_line (codes "user ")) c.users.rows) (flat_map (z_line (codes "zuser ")) c.users.z) (flat_map (row_line (codes "group ")) c.groups.rows) (flat_map (z_line (codes "zgroup ")) c.groups.z) (codes "end\n") ∙ sym (lines_spelled c)

pub mapped : (is : List Item) → flat_map ended (map item_line is) ≡ flat_map item_text is
mapped is = flat_map-of ended item_line item_text is (λ i. refl)

-- 3. What is read is spelled

pub ended_is : (o : Option Item) → is_end o ≡ true → o ≡ Some End
ended_is None h = absurd (false≢true h)
ended_is (Some Head) h = absurd (false≢true h)
ended_is (Some (RowItem k r)) h = absurd (false≢true h)
ended_is (Some (ZItem k e)) h = absurd (false≢true h)
ended_is (Some End) h = refl

-- no fault at the end
end_says : (text : List ℕ) (ls : List (List ℕ)) → end_fault text ls ≡ None → (is_cut text ≡ false) × (is_end (item_before ls) ≡ true)
end_says text ls h = both (is_cut text) (is_end (item_before ls)) _ _ h
  where
    both : (x y : Bool) (n m : ℕ) → cond x (Some n) (cond y None (Some m)) ≡ None → (x ≡ false) × (y ≡ true)
    both true y n m e = absurd (cc)
    both false true n m e = (refl, refl)
    both false false n m e = absurd (cc)

pub record IsRead (text : List ℕ) (c : Certificate) : Type 0 where
  pub fine : first_fault line_fault [] (lines text) ≡ None
  pub whole : is_cut text ≡ false
  pub ends : item_before (lines text) ≡ Some End
  pub value : ◌≡◌ {A = Certificate} (record { users = side_in User (lines text); groups = side_in Group (lines text) }) c

unless_says : (o : Option ℕ) (v c : Certificate) → unless o v ≡ Ok c → (o ≡ None) × (v ≡ c)
unless_says None v c h = (let same : v ≡ c = cc in (refl, same))
unless_says (Some n) v c h = absurd (cc)

pub read_says : (text : List ℕ) (c : Certificate) → certificate_in text ≡ Ok c → IsRead text c
unfolding certificate_in
read_says text c h =
    let both = unless_says (or_else (first_fault line_fault [] (lines text)) (end_fault text (lines text))) (record { users = side_in User (lines text); groups = side_in Group (lines text) }) c h in
    let parts = none_both (first_fault line_fault [] (lines text)) (end_fault text (lines text)) both.0 in
    let end = end_says text (lines text) parts.1 in
    record { fine = parts.0; whole = end.0; ends = ended_is (item_before (lines text)) end.1; value = both.1 }

pub reads_what_is_spelled : ReadsWhatIsSpelled
reads_what_is_spelled text c h =
    let read = read_says text c h in
    let says = fine_says [] (lines text) read.fine in
    let last : last_item says.items ≡ Some End = sym (said_last (lines text) says.items says.said) ∙ read.ends in
    let same : given_by says.items ≡ c =
    sym (ap (λ s. record { users = s; groups = side_in Group (lines text) }) (said_side User (lines text) says.items says.said)
    ∙ ap (λ s. record { users = record { rows = flat_map (λ i. rows_in User (Some i)) says.items; z = flat_map (λ i. all_z_in User (Some i)) says.items }; groups = s }) (said_side Group (lines text) says.items says.said)) ∙ read.value
    in
    let P : Certificate → Type 0 = λ x. IsCertificate x in (
      subst P read.value (record { users = lines_give_side User (lines text) read.fine; groups = lines_give_side Group (lines text) read.fine }),
      text_of_lines text read.whole ∙ ap (flat_map ended) (said_lines (lines text) says.items says.said) ∙ mapped says.items ∙ ap (flat_map item_text) (whole_chain says.items says.chain last ∙ ap items_of same) ∙ sym (spelled_lines c),
    )

-- 4. What is spelled is read

abbrev pub AreLawful : List Item → Type 0
AreLawful [] = Unit {0}
AreLawful (i ∷ is) = IsLawfulItem i × AreLawful is

lawful_both : (is js : List Item) → AreLawful is → AreLawful js → AreLawful (is ++ js)
lawful_both [] js one two = two
lawful_both (i ∷ is) js one two = (one.0, lawful_both is js one.1 two)

lawful_rows : (k : Which) (rows : List Row) → All IsRow rows → AreLawful (map (λ r. RowItem k r) rows)
lawful_rows k [] h = tt
lawful_rows k (r ∷ rs) h = (All-head IsRow r rs h, lawful_rows k rs (All-tail IsRow r rs h))

lawful_z : (k : Which) (z : List (ℕ × ℕ)) → All IsZ z → AreLawful (map (λ e. ZItem k e) z)
lawful_z k [] h = tt
lawful_z k (e ∷ es) h = (All-head IsZ e es h, lawful_z k es (All-tail IsZ e es h))

items_lawful : (c : Certificate) → IsCertificate c → AreLawful (items_of c)
items_lawful c is = (
  tt,
  lawful_both (map (λ r. RowItem User r) c.users.rows) _ (lawful_rows User c.users.rows is.users.rows_lawful)
      (lawful_both (map (λ e. ZItem User e) c.users.z) _ (lawful_z User c.users.z is.users.z_lawful)
      (lawful_both (map (λ r. RowItem Group r) c.groups.rows) _ (lawful_rows Group c.groups.rows is.groups.rows_lawful)
      (lawful_both (map (λ e. ZItem Group e) c.groups.z) (End ∷ []) (lawful_z Group c.groups.z is.groups.z_lawful) (tt, tt)))),
)

lawful_said : (is : List Item) → AreLawful is → AreSaid (map item_line is) is
lawful_said [] h = tt
lawful_said (i ∷ is) h = (line_reads i h.0, lawful_said is h.1)

pub lawful_plain : (is : List Item) → AreLawful is → ArePlain (map item_line is)
lawful_plain [] h = tt
lawful_plain (i ∷ is) h = (line_plain i h.0, lawful_plain is h.1)

last_behind : (is js : List Item) (i : Item) → last_item js ≡ Some i → last_item (is ++ js) ≡ Some i
last_behind [] js i h = h
last_behind (j ∷ is) js i h = behind (is ++ js) (last_behind is js i h)
  where
    behind : (ks : List Item) → last_item ks ≡ Some i → last_item (j ∷ ks) ≡ Some i
    behind [] e = absurd (none-some i e)
    behind (k ∷ ks) e = e

items_end : (c : Certificate) → last_item (items_of c) ≡ Some End
items_end c =
    let four = map (λ e. ZItem Group e) c.groups.z ++ End ∷ [] in
    let three = map (λ r. RowItem Group r) c.groups.rows ++ four in
    let two = map (λ e. ZItem User e) c.users.z ++ three in
    let one = map (λ r. RowItem User r) c.users.rows ++ two in
    last_behind (Head ∷ []) one End (last_behind (map (λ r. RowItem User r) c.users.rows) two End (last_behind (map (λ e. ZItem User e) c.users.z) three End (last_behind (map (λ r. RowItem Group r) c.groups.rows) four End (last_behind (map (λ e. ZItem Group e) c.groups.z) (End ∷ []) End refl))))

abbrev IsWhole : List ℕ → Type 0
IsWhole text = (0 < length text) × (is_cut text ≡ false)

whole_behind : (front back : List ℕ) → IsWhole back → IsWhole (front ++ back)
whole_behind front [] h = absurd (let some = h.0 in omega (arith, some))
whole_behind [] (b ∷ back) h = h
whole_behind (f ∷ front) (b ∷ back) h = (omega arith, cut_back (f ∷ front) b back ∙ h.1)

pub spelling_whole : (c : Certificate) → is_cut (spelling c) ≡ false
spelling_whole c = (whole_behind (codes "unify certificate 2\n" ++ side_text (codes "user ") (codes "zuser ") c.users ++ side_text (codes "group ") (codes "zgroup ") c.groups) (codes "end\n") (omega arith, refl)).1

-- what the items of a certificate give
made_given : {X Y : Type 0} (made : X → Item) (part : Item → List Y) (xs : List X) → ((x : X) → part (made x) ≡ []) → flat_map part (map made xs) ≡ []
made_given made part [] none = refl
made_given made part (x ∷ xs) none = ap (λ ys. ys ++ flat_map part (map made xs)) (none x) ∙ made_given made part xs none

made_back : {X : Type 0} (made : X → Item) (part : Item → List X) (xs : List X) → ((x : X) → part (made x) ≡ x ∷ []) → flat_map part (map made xs) ≡ xs
made_back made part [] one = refl
made_back made part (x ∷ xs) one = ap (λ ys. ys ++ flat_map part (map made xs)) (one x) ∙ ap (λ ys. x ∷ ys) (made_back made part xs one)

pieces_of : {Y : Type 0} (part : Item → List Y) (a b c d e : List Item) (u v w x y : List Y) → flat_map part a ≡ u → flat_map part b ≡ v → flat_map part c ≡ w → flat_map part d ≡ x → flat_map part e ≡ y → flat_map part (a ++ (b ++ (c ++ (d ++ e)))) ≡ u ++ (v ++ (w ++ (x ++ y)))
pieces_of part a b c d e u v w x y ea eb ec ed ee =
    flat_map-append part a _ ∙ ap (λ z. z ++ flat_map part (b ++ (c ++ (d ++ e)))) ea
    ∙ ap (λ z. u ++ z) (flat_map-append part b _ ∙ ap (λ z. z ++ flat_map part (c ++ (d ++ e))) eb
    ∙ ap (λ z. v ++ z) (flat_map-append part c _ ∙ ap (λ z. z ++ flat_map part (d ++ e)) ec
    ∙ ap (λ z. w ++ z) (flat_map-append part d e ∙ ap (λ z. z ++ flat_map part e) ed ∙ ap (λ z. x ++ z) ee)))

module _ (c : Certificate) where
  abbrev us : List Item
  us = map (λ r. RowItem User r) c.users.rows

  abbrev uz : List Item
  uz = map (λ e. ZItem User e) c.users.z

  abbrev gs : List Item
  gs = map (λ r. RowItem Group r) c.groups.rows

  abbrev gz : List Item
  gz = map (λ e. ZItem Group e) c.groups.z

  users_back : flat_map (λ i. rows_in User (Some i)) (items_of c) ≡ c.users.rows
  users_back = pieces_of (λ i. rows_in User (Some i)) us uz gs gz (End ∷ []) c.users.rows [] [] [] [] (made_back (λ r. RowItem User r) (λ i. rows_in User (Some i)) c.users.rows (λ r. refl)) (made_given (λ e. ZItem User e) (λ i. rows_in User (Some i)) c.users.z (λ e. refl)) (made_given (λ r. RowItem Group r) (λ i. rows_in User (Some i)) c.groups.rows (λ r. refl)) (made_given (λ e. ZItem Group e) (λ i. rows_in User (Some i)) c.groups.z (λ e. refl)) refl ∙ append-nil c.users.rows

  user_z_back : flat_map (λ i. all_z_in User (Some i)) (items_of c) ≡ c.users.z
  user_z_back = pieces_of (λ i. all_z_in User (Some i)) us uz gs gz (End ∷ []) [] c.users.z [] [] [] (made_given (λ r. RowItem User r) (λ i. all_z_in User (Some i)) c.users.rows (λ r. refl)) (made_back (λ e. ZItem User e) (λ i. all_z_in User (Some i)) c.users.z (λ e. refl)) (made_given (λ r. RowItem Group r) (λ i. all_z_in User (Some i)) c.groups.rows (λ r. refl)) (made_given (λ e. ZItem Group e) (λ i. all_z_in User (Some i)) c.groups.z (λ e. refl)) refl ∙ append-nil c.users.z

  groups_back : flat_map (λ i. rows_in Group (Some i)) (items_of c) ≡ c.groups.rows
  groups_back = pieces_of (λ i. rows_in Group (Some i)) us uz gs gz (End ∷ []) [] [] c.groups.rows [] [] (made_given (λ r. RowItem User r) (λ i. rows_in Group (Some i)) c.users.rows (λ r. refl)) (made_given (λ e. ZItem User e) (λ i. rows_in Group (Some i)) c.users.z (λ e. refl)) (made_back (λ r. RowItem Group r) (λ i. rows_in Group (Some i)) c.groups.rows (λ r. refl)) (made_given (λ e. ZItem Group e) (λ i. rows_in Group (Some i)) c.groups.z (λ e. refl)) refl ∙ append-nil c.groups.rows

  group_z_back : flat_map (λ i. all_z_in Group (Some i)) (items_of c) ≡ c.groups.z
  group_z_back = pieces_of (λ i. all_z_in Group (Some i)) us uz gs gz (End ∷ []) [] [] [] c.groups.z [] (made_given (λ r. RowItem User r) (λ i. all_z_in Group (Some i)) c.users.rows (λ r. refl)) (made_given (λ e. ZItem User e) (λ i. all_z_in Group (Some i)) c.users.z (λ e. refl)) (made_given (λ r. RowItem Group r) (λ i. all_z_in Group (Some i)) c.groups.rows (λ r. refl)) (made_back (λ e. ZItem Group e) (λ i. all_z_in Group (Some i)) c.groups.z (λ e. refl)) refl ∙ append-nil c.groups.z

spelled_said : (c : Certificate) → IsCertificate c → lines (spelling c) ≡ map item_line (items_of c)
spelled_said c is = ap lines (spelled_lines c ∙ sym (mapped (items_of c))) ∙ lines_whole (map item_line (items_of c)) (lawful_plain (items_of c) (items_lawful c is))

pub spelled_is_read : SpelledIsRead
spelled_is_read c is =
    let ls = lines (spelling c) in
    let P : List (List ℕ) → Type 0 = λ x. AreSaid x (items_of c) in
    let said : AreSaid ls (items_of c) = subst P (sym (spelled_said c is)) (lawful_said (items_of c) (items_lawful c is)) in
    let chain = items_chain c is.users.names_ascend is.users.numbers_ascend is.groups.names_ascend is.groups.numbers_ascend in
    let end : is_end (item_before ls) ≡ true = ap is_end (said_last ls (items_of c) said ∙ items_end c) in
    ended_read (spelling c) c.users c.groups (says_fine [] ls (items_of c) said chain) (spelling_whole c) end
    (sym (said_side User ls (items_of c) said ∙ side_equal _ _ _ _ (users_back c) (user_z_back c)))
    (sym (said_side Group ls (items_of c) said ∙ side_equal _ _ _ _ (groups_back c) (group_z_back c)))

-- 5. None begins another

-- after the end no line may stand
pub after_end : (o : Option Item) → may_follow (Some End) o ≡ false
after_end None = refl
after_end (Some Head) = refl
after_end (Some (RowItem User r)) = refl
after_end (Some (RowItem Group r)) = refl
after_end (Some (ZItem User e)) = refl
after_end (Some (ZItem Group e)) = refl
after_end (Some End) = refl

fault_behind : (seen ls : List (List ℕ)) (l : List ℕ) (more : List (List ℕ)) → item_before (seen ++ ls) ≡ Some End → first_fault line_fault seen (ls ++ l ∷ more) ≡ None → ⊥
unfolding first_fault
fault_behind seen [] l more end h =
    let last : item_before seen ≡ Some End = ap item_before (sym (append-nil seen)) ∙ end in
    let both = none_both (line_fault seen l) (first_fault line_fault (seen ++ l ∷ []) more) h in
    let fine = line_fine seen l both.0 in
    false≢true (sym (after_end (item_of l)) ∙ ap (λ b. may_follow b (item_of l)) (sym last) ∙ fine)
fault_behind seen (m ∷ ms) l more end h =
    let both = none_both (line_fault seen m) (first_fault line_fault (seen ++ m ∷ []) (ms ++ l ∷ more)) h in
    fault_behind (seen ++ m ∷ []) ms l more (ap item_before (append_assoc seen (m ∷ []) ms) ∙ end) both.1

-- a text that is not empty has a line
some_line : (text : List ℕ) → lines text ≡ [] → is_cut text ≡ false → text ≡ []
some_line text none whole = text_of_lines text whole ∙ ap (flat_map ended) none

whole_tail : (front : List ℕ) (b : ℕ) (back : List ℕ) → is_cut (front ++ b ∷ back) ≡ false → is_cut (b ∷ back) ≡ false
whole_tail front b back h = sym (cut_back front b back) ∙ h

no_rest : (c d : Certificate) (rest : List ℕ) → IsCertificate c → IsCertificate d → spelling d ≡ spelling c ++ rest → rest ≡ []
no_rest c d [] is isd h = refl
no_rest c d (b ∷ back) is isd h = absurd (behind (lines (b ∷ back)) refl)
  where
    read : IsRead (spelling d) d
    read = read_says (spelling d) d (spelled_is_read d isd)

    mine : IsRead (spelling c) c
    mine = read_says (spelling c) c (spelled_is_read c is)

    whole : is_cut (b ∷ back) ≡ false
    whole = whole_tail (spelling c) b back (ap is_cut (sym h) ∙ read.whole)

    split : lines (spelling d) ≡ lines (spelling c) ++ lines (b ∷ back)
    split = ap lines (h ∙ ap (λ t. t ++ b ∷ back) (spelled_lines c ∙ sym (mapped (items_of c)))) ∙ lines_front (map item_line (items_of c)) (b ∷ back) (lawful_plain (items_of c) (items_lawful c is)) ∙ ap (λ ls. ls ++ lines (b ∷ back)) (sym (spelled_said c is))

    behind : (ls : List (List ℕ)) → lines (b ∷ back) ≡ ls → ⊥
    behind [] e = (let wrong : b ∷ back ≡ [] = some_line (b ∷ back) e whole in cc)
    behind (l ∷ ls) e = fault_behind [] (lines (spelling c)) l ls mine.ends (ap (first_fault line_fault []) (sym (split ∙ ap (λ x. lines (spelling c) ++ x) e)) ∙ read.fine)

same_value : (c d : Certificate) → ◌≡◌ {A = Result Certificate ℕ} (Ok c) (Ok d) → c ≡ d
same_value c d h = cc

pub none_begins_another : NoneBeginsAnother
none_begins_another one other rest is also h =
    let none = no_rest one other rest is also h in
    let same : spelling other ≡ spelling one = h ∙ ap (λ t. spelling one ++ t) none ∙ append-nil (spelling one) in
    (same_value one other (sym (spelled_is_read one is) ∙ ap certificate_in (sym same) ∙ spelled_is_read other also), none)
