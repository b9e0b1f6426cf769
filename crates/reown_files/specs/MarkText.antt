-- The file of the mark of a plan, and that of the modes that a run may lose.
-- Source: this project's own formats; for the bits of a mode inode(7).
use Rattle.std.specs.Prelude.{ℕ, List, [], ◌∷◌, ◌++◌, ◌+◌, ◌-◌, ◌*◌, ◌/◌, ◌%◌, ◌==◌, ◌&&◌, not}
use Rattle.std.specs.Prelude.{nat_lt, if◌then◌else◌, flat_map, codes, decimal, take, drop}
use Rattle.std.specs.Prelude.{slice_index, Option, None, Some, Result, Ok, Err, option_map}
use Rattle.std.specs.Prelude.{Bool, false, nat_eq, bytes_eq, length, reverse}
use Rattle.std.specs.Map.{lookup}
use Rattle.std.specs.List.{starts_with, ends_with}
use Rattle.std.specs.Option.{option_and_then}
use Rattle.idtext.specs.Escapes.{escaped, unescaped, has_bad_escape, is_octal}
use Rattle.reown_plan.specs.declared.mark.PlanMark.{PlanMark}
use Rattle.reown_files.specs.declared.answers.Trouble.{Trouble}
use Rattle.reown_files.specs.declared.answers.Trouble.TheVariants.{NotModes, OtherPlan}

-- ---- what a plan is known by

-- a digit to the base 16
abbrev pub hex_digit : ℕ → ℕ
hex_digit n = if nat_lt n 10 then 48 + n else 87 + n

-- two digits
abbrev pub hex_byte : ℕ → List ℕ
hex_byte byte = hex_digit (byte / 16) ∷ hex_digit (byte % 16) ∷ []

-- the bytes of a digest, two digits each
abbrev pub hex_text : List ℕ → List ℕ
hex_text digest = flat_map hex_byte digest

abbrev pub name_byte : ℕ → List ℕ
name_byte byte = if byte == 0 then [] else byte ∷ []

-- the name of a host, without the zero bytes after it
abbrev pub host_text : List ℕ → List ℕ
host_text host = flat_map name_byte host

-- its host, the length of its text, and the digest of that, to the end of a line
abbrev pub plan_text : PlanMark → List ℕ
plan_text plan =
    host_text plan.host ++ 32 ∷ decimal plan.length ++ 32 ∷ hex_text plan.digest ++ 10 ∷ []

-- ---- the mark

abbrev pub mark_head : List ℕ
mark_head = codes "unify applied 1 "

abbrev pub mark_text : PlanMark → List ℕ
mark_text plan = mark_head ++ plan_text plan

-- whether a text is the mark of this plan, if it is a mark at all
abbrev pub mark_read : PlanMark → List ℕ → Option Bool
mark_read plan text =
    if starts_with nat_eq text mark_head then Some (bytes_eq text (mark_text plan)) else None

-- the same of the text of a file that may not be there: where it is not, no mark is
abbrev pub mark_told : PlanMark → Option (List ℕ) → Option Bool
mark_told plan None = Some false
mark_told plan (Some text) = mark_read plan text

-- ---- modes

-- a mode as four octal digits
abbrev pub mode_text : ℕ → List ℕ
mode_text mode =
    (48 + mode / 512 % 8) ∷ (48 + mode / 64 % 8) ∷ (48 + mode / 8 % 8) ∷ (48 + mode % 8) ∷ []

-- a file of a plan, and the mode that is written down for it
abbrev pub Entry : Type 0
Entry = List ℕ × ℕ

abbrev pub entry : List ℕ → ℕ → Entry
entry path mode = (path, mode)

-- the mode that they have for a file: the last of them with its path counts
abbrev pub mode_in : List Entry → List ℕ → Option ℕ
mode_in entries path = lookup (bytes_eq path) (reverse entries)

-- what its line says
abbrev pub line_said : List ℕ → ℕ → List ℕ
line_said path mode = mode_text mode ++ 32 ∷ escaped path

abbrev pub line_text : List ℕ → ℕ → List ℕ
line_text path mode = line_said path mode ++ 10 ∷ []

abbrev pub lines_text : List Entry → List ℕ
lines_text entries = flat_map (λ e. line_text e.0 e.1) entries

abbrev pub modes_head : List ℕ
modes_head = codes "unify modes 1 "

abbrev pub modes_end : List ℕ
modes_end = codes "end\n"

abbrev pub head_text : PlanMark → List ℕ
head_text plan = modes_head ++ plan_text plan

-- the whole file, with these lines
abbrev pub modes_text : PlanMark → List ℕ → List ℕ
modes_text plan lines = head_text plan ++ lines ++ modes_end

-- ---- modes that are read: the file as a whole

abbrev pub has_end : List ℕ → Bool
has_end text = bytes_eq (drop (length text - length modes_end) text) modes_end

abbrev pub before_end : List ℕ → List ℕ
before_end text = take (length text - length modes_end) text

-- it begins as a file of modes does, and its last line is the one that says that it is not cut
abbrev pub is_whole : List ℕ → Bool
is_whole text =
    starts_with nat_eq text modes_head
    && (has_end text && ends_with nat_eq (before_end text) (10 ∷ []))

abbrev pub behind : List ℕ → List ℕ → Option (List ℕ)
behind head text =
    if bytes_eq (take (length head) text) head then Some (drop (length head) text) else None

-- the lines of files after this first line, if a text is whole; none where it begins with another
abbrev pub lines_in : List ℕ → List ℕ → Option (Option (List ℕ))
lines_in head text = if is_whole text then Some (behind head (before_end text)) else None

-- a mark is that of the plan of this text of modes: after their first words it has one line, and
-- the text begins with that line
abbrev pub has_ended : List ℕ → List ℕ → Bool
has_ended mark text =
    starts_with nat_eq mark mark_head
    && (starts_with nat_eq text modes_head
    && (ends_with nat_eq (drop (length mark_head) mark) (10 ∷ [])
    && starts_with nat_eq (drop (length modes_head) text) (drop (length mark_head) mark)))

-- what the plan with this first line goes by, where the file of the mark has this text: its own
-- lines of files; none where another plan wrote them that has ended; and nothing where that was
-- begun and has not ended
abbrev pub lines_judged : Bool → Option (Option (List ℕ)) → Result (Option (List ℕ)) Trouble
lines_judged ended None = Err NotModes
lines_judged ended (Some None) = if ended then Ok None else Err OtherPlan
lines_judged ended (Some (Some lines)) = Ok (Some lines)

abbrev pub modes_judged : List ℕ → List ℕ → List ℕ → Result (Option (List ℕ)) Trouble
modes_judged head mark text = lines_judged (has_ended mark text) (lines_in head text)

-- the same of the texts of the two files, which may not be there: no file of the mark is as one
-- that is empty, and where there is none of modes a plan goes by none
abbrev pub text_or_empty : Option (List ℕ) → List ℕ
text_or_empty None = []
text_or_empty (Some text) = text

abbrev pub lines_told
    : PlanMark → Option (List ℕ) → Option (List ℕ) → Result (Option (List ℕ)) Trouble
lines_told plan beside None = Ok None
lines_told plan beside (Some text) = modes_judged (head_text plan) (text_or_empty beside) text

-- ---- modes that are read: the lines of files

-- an octal digit as it is read
abbrev pub octal_digit : ℕ → Option ℕ
octal_digit c = if is_octal c then Some (c - 48) else None

-- a mode as it is read: four octal digits
abbrev pub mode_read : List ℕ → Option ℕ
mode_read (a ∷ b ∷ c ∷ d ∷ []) =
    if is_octal a && (is_octal b && (is_octal c && is_octal d))
    then Some (((a - 48) * 8 + (b - 48)) * 64 + ((c - 48) * 8 + (d - 48))) else None
mode_read _ = None

-- what a line says as it is read: four octal digits, a space, and a path with escapes of which none
-- is bad
abbrev pub line_read : List ℕ → Option Entry
line_read line =
    if slice_index line 4 == 32 && not (has_bad_escape (drop 5 line))
    then option_map (entry (unescaped (drop 5 line))) (mode_read (take 4 line)) else None

-- and lines, each of which has to say something
abbrev pub lines_read : List (List ℕ) → Option (List Entry)
lines_read [] = Some []
lines_read (line ∷ more) =
    option_and_then
    (λ (e : Entry). option_map (λ (es : List Entry). e ∷ es) (lines_read more)) (line_read line)
