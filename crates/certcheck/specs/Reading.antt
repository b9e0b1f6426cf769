-- What a certificate text says, line by line. Each line is judged by the line before it.
-- Source: this project's own format.
use Rattle.std.specs.Prelude.{ℕ, ◌-◌, Bool, true, false, not, ◌&&◌, ◌==◌, nat_lt, nat_le, min}
use Rattle.std.specs.Prelude.{if◌then◌else◌, List, [], ◌∷◌, length, slice_index, drop, codes}
use Rattle.std.specs.Prelude.{decimal, flat_map, Option, Some, None, Result}
use Rattle.std.specs.Option.{option_and_then, option_map}
use Rattle.std.specs.Ordering.{nat_cmp, is_lt}
use Rattle.std.specs.Cmp.Lexicographic.{slice_cmp}
use Rattle.std.specs.Str.{bytes_eq}
use Rattle.std.specs.Str.Parse.{digits_value}
use Rattle.idtext.specs.Numbers.{greatest_id}
use Rattle.idtext.specs.First.{first_fault, or_else, unless}
use Rattle.idtext.specs.Faults.{line_number}
use Rattle.idtext.specs.Names.{is_lawful_name}
use Rattle.idtext.specs.Pieces.{begins_with, lines}
use Rattle.idtext.specs.Spaces.{cut_at_last_space}
use Rattle.hosts_join.specs.declared.Which.{Which}
use Rattle.hosts_join.specs.declared.Which.TheVariants.{User, Group}
use Rattle.certcheck.specs.Certificate.{Row, Side}
use Rattle.certcheck.specs.declared.certificate.Certificate.{Certificate}

-- the number of at most so much whose decimal digits the text is, without leading zeros
unfoldable pub spelled_number : ℕ → List ℕ → Option ℕ
spelled_number most text =
    if nat_le (digits_value 10 text) most && bytes_eq (decimal (digits_value 10 text)) text
    then Some (digits_value 10 text) else None

-- what a line is
pub data Item : Type 0 where
  Head : Item
  RowItem : Which → Row → Item
  ZItem : Which → ℕ × ℕ → Item
  End : Item

abbrev pub row_of_parts : List ℕ → Option ℕ → Option ℕ → Option Row
row_of_parts name (Some v) (Some y) =
    if is_lawful_name name then Some (record { name = name; number = v; y = y }) else None
row_of_parts name (Some v) None = None
row_of_parts name None y = None

-- NAME NUMBER Y, where the name may hold spaces
abbrev pub row_in : List ℕ → Option Row
row_in text =
    option_and_then
    (λ (p : List ℕ × List ℕ). option_and_then
    (λ (q : List ℕ × List ℕ). row_of_parts q.0 (spelled_number greatest_id q.1)
    (spelled_number 18446744073709551615 p.1)) (cut_at_last_space p.0)) (cut_at_last_space text)

abbrev pub z_of_parts : Option ℕ → Option ℕ → Option (ℕ × ℕ)
z_of_parts (Some v) (Some z) = if nat_lt 0 z then Some (v, z) else None
z_of_parts (Some v) None = None
z_of_parts None z = None

-- NUMBER Z
abbrev pub z_in : List ℕ → Option (ℕ × ℕ)
z_in text =
    option_and_then
    (λ (p : List ℕ × List ℕ). z_of_parts (spelled_number greatest_id p.0)
    (spelled_number 18446744073709551615 p.1)) (cut_at_last_space text)

abbrev pub row_item : Which → Option Row → Option Item
row_item kind o = option_map (λ r. RowItem kind r) o

abbrev pub z_item : Which → Option (ℕ × ℕ) → Option Item
z_item kind o = option_map (λ e. ZItem kind e) o

-- what the line says, where it is one of the lines of a certificate
unfoldable pub item_of : List ℕ → Option Item
item_of line =
    if bytes_eq line (codes "unify certificate 2") then Some Head
    else if bytes_eq line (codes "end") then Some End
    else if begins_with (codes "user ") line then row_item User (row_in (drop 5 line))
    else if begins_with (codes "zuser ") line then z_item User (z_in (drop 6 line))
    else if begins_with (codes "group ") line then row_item Group (row_in (drop 6 line))
    else if begins_with (codes "zgroup ") line then z_item Group (z_in (drop 7 line))
    else None

-- the order of the lines
abbrev pub rank : Item → ℕ
rank Head = 0
rank (RowItem User r) = 1
rank (ZItem User e) = 2
rank (RowItem Group r) = 3
rank (ZItem Group e) = 4
rank End = 5

-- two rows of one kind ascend by name, two z of one kind by number
abbrev pub ascends : Item → Item → Bool
ascends (RowItem k r) (RowItem l q) = is_lt (slice_cmp nat_cmp r.name q.name)
ascends (ZItem k e) (ZItem l f) = nat_lt e.0 f.0
ascends a b = false

-- whether an item may stand after another, or first
abbrev pub may_follow : Option Item → Option Item → Bool
may_follow before None = false
may_follow None (Some i) = rank i == 0
may_follow (Some b) (Some i) = if rank b == rank i then ascends b i else nat_lt (rank b) (rank i)

-- the last line so far
abbrev pub last_line : List (List ℕ) → Option (List ℕ)
last_line [] = None
last_line (l ∷ []) = Some l
last_line (l ∷ m ∷ ms) = last_line (m ∷ ms)

abbrev pub item_before : List (List ℕ) → Option Item
item_before ls = option_and_then item_of (last_line ls)

-- a line that may not stand where it stands
abbrev pub line_fault : List (List ℕ) → List ℕ → Option ℕ
line_fault before line =
    if may_follow (item_before before) (item_of line) then None
    else Some (line_number (length before))

abbrev pub is_end : Option Item → Bool
is_end (Some End) = true
is_end other = false

-- the last line has no newline
abbrev pub is_cut : List ℕ → Bool
is_cut text = not (length text == 0) && not (slice_index text (length text - 1) == 10)

-- after lawful lines: the last without its newline, or one missing
abbrev pub end_fault : List ℕ → List (List ℕ) → Option ℕ
end_fault text ls =
    if is_cut text then Some (min (length ls) 18446744073709551615) else if is_end (item_before ls)
    then None else Some (line_number (length ls))

abbrev pub rows_in : Which → Option Item → List Row
rows_in User (Some (RowItem User r)) = r ∷ []
rows_in Group (Some (RowItem Group r)) = r ∷ []
rows_in kind item = []

abbrev pub all_z_in : Which → Option Item → List (ℕ × ℕ)
all_z_in User (Some (ZItem User e)) = e ∷ []
all_z_in Group (Some (ZItem Group e)) = e ∷ []
all_z_in kind item = []

abbrev pub side_in : Which → List (List ℕ) → Side
side_in kind ls =
    record {
      rows = flat_map (λ l. rows_in kind (item_of l)) ls;
      z = flat_map (λ l. all_z_in kind (item_of l)) ls;
    }

-- the certificate that the text says, or the number of its first line that is wrong
unfoldable pub certificate_in : List ℕ → Result Certificate ℕ
certificate_in text =
    unless (or_else (first_fault line_fault [] (lines text)) (end_fault text (lines text)))
    (record { users = side_in User (lines text); groups = side_in Group (lines text) })
