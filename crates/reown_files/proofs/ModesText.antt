-- Modes that are written down, and read.
use Rattle.std.proofs.Common.{◌≡◌, ◌<◌, ◌≤◌, ◌+◌, ◌-◌, ◌*◌, ◌/◌, ◌%◌, ◌==◌, ◌&&◌, ℕ, Bool, true, false, cond, not, nat_le, List, [], ◌∷◌, ◌++◌, None, Some, All, refl, sym, ◌∙◌, ap, append_assoc, arith}
use Rattle.std.specs.List.{list_all, onto_first}
use Rattle.std.specs.Option.{option_map, option_and_then}
use Rattle.std.proofs.lemmas.Bool.{and_parts, le-leb, leb-true}
use Rattle.std.proofs.lemmas.Bool.Decides.{nat_tests}
use Rattle.std.proofs.lemmas.List.Elements.{All-head, All-tail}
use Rattle.std.proofs.lemmas.List.Folds.{list_all-append}
use Rattle.std.proofs.lemmas.List.Splits.{slice_split-cons_yes, slice_split-cons_no}
use Rattle.idtext.specs.Escapes.{escape, escaped, unescaped, is_octal, is_plain}
use Rattle.idtext.specs.Pieces.{pieces, lines}
use Rattle.idtext.proofs.EscapeLemmas.{escape-plain, escape-other, escaped-back}
use Rattle.idtext.proofs.PieceLemmas.{lines-cut, lines-empty}
use Rattle.reown_files.specs.MarkText.{Entry, entry, mode_text, mode_read, line_said, lines_text, line_read, lines_read}
use Rattle.reown_files.proofs.Laws.{and_true}

-- ---- a mode

octal-digit : (d : ℕ) → d < 8 → is_octal (48 + d) ≡ true
octal-digit d h = and_true (nat_le 48 (48 + d)) (nat_le (48 + d) 55) (le-leb 48 (48 + d) (omega arith)) (le-leb (48 + d) 55 (omega arith))

digits-back : (a b c d : ℕ) → a < 8 → b < 8 → c < 8 → d < 8 → mode_read ((48 + a) ∷ (48 + b) ∷ (48 + c) ∷ (48 + d) ∷ []) ≡ Some ((a * 8 + b) * 64 + (c * 8 + d))
digits-back a b c d ha hb hc hd =
    let all = and_true (is_octal (48 + a)) (is_octal (48 + b) && (is_octal (48 + c) && is_octal (48 + d))) (octal-digit a ha)
    (and_true (is_octal (48 + b)) (is_octal (48 + c) && is_octal (48 + d)) (octal-digit b hb) (and_true (is_octal (48 + c)) (is_octal (48 + d)) (octal-digit c hc) (octal-digit d hd))) in
    let value : ((48 + a - 48) * 8 + (48 + b - 48)) * 64 + ((48 + c - 48) * 8 + (48 + d - 48)) ≡ (a * 8 + b) * 64 + (c * 8 + d) = omega arith in
    ap (λ t. cond t (Some (((48 + a - 48) * 8 + (48 + b - 48)) * 64 + ((48 + c - 48) * 8 + (48 + d - 48)))) None) all ∙ ap (λ n. Some n) value

mode-back : (mode : ℕ) → mode < 4096 → mode_read (mode_text mode) ≡ Some mode
mode-back mode small =
    let value : (mode / 512 % 8 * 8 + mode / 64 % 8) * 64 + (mode / 8 % 8 * 8 + mode % 8) ≡ mode = omega arith in
    digits-back (mode / 512 % 8) (mode / 64 % 8) (mode / 8 % 8) (mode % 8) (omega arith) (omega arith) (omega arith) (omega arith) ∙ ap (λ n. Some n) value

-- ---- a line

line-back : (path : List ℕ) (mode : ℕ) → All (λ b. b < 256) path → mode < 4096 → line_read (line_said path mode) ≡ Some (entry path mode)
line-back path mode bytes small =
    let back = escaped-back path bytes in
    ap (λ (b : Bool). cond (not b) (option_map (entry (unescaped (escaped path))) (mode_read (mode_text mode))) None) back.1
    ∙ ap (option_map (entry (unescaped (escaped path)))) (mode-back mode small) ∙ ap (λ (p : List ℕ). Some (entry p mode)) back.0

-- ---- no line has a newline in it

abbrev pub is_other : ℕ → Bool
is_other b = not (b == 10)

abbrev pub has_none : List ℕ → Bool
has_none bytes = list_all is_other bytes

other : (b : ℕ) → 11 ≤ b → is_other b ≡ true
other b h = grind (arith, nat_tests)

pub none-joined : (xs ys : List ℕ) → has_none xs ≡ true → has_none ys ≡ true → has_none (xs ++ ys) ≡ true
none-joined xs ys x y = list_all-append is_other xs ys ∙ and_true (has_none xs) (has_none ys) x y

four-other : (a b c d : ℕ) → 11 ≤ a → 11 ≤ b → 11 ≤ c → 11 ≤ d → has_none (a ∷ b ∷ c ∷ d ∷ []) ≡ true
four-other a b c d ha hb hc hd =
    and_true (is_other a) (has_none (b ∷ c ∷ d ∷ [])) (other a ha)
    (and_true (is_other b) (has_none (c ∷ d ∷ [])) (other b hb) (and_true (is_other c) (has_none (d ∷ [])) (other c hc) (and_true (is_other d) true (other d hd) refl)))

escape-none : (b : ℕ) (plain : Bool) → is_plain b ≡ plain → has_none (escape b) ≡ true
escape-none b true e =
    let low : 33 ≤ b = leb-true 33 b (and_parts (nat_le 33 b) (nat_le b 126) (and_parts (nat_le 33 b && nat_le b 126) (not (b == 92)) e).0).0 in
    ap has_none (sym (escape-plain b e)) ∙ and_true (is_other b) true (other b (omega (arith, low))) refl
escape-none b false e =
    ap has_none (escape-other b e) ∙ four-other 92 (48 + b / 64) (48 + b / 8 % 8) (48 + b % 8) (omega arith) (omega arith) (omega arith) (omega arith)

escaped-none : (bytes : List ℕ) → has_none (escaped bytes) ≡ true
escaped-none [] = refl
escaped-none (b ∷ bytes) = none-joined (escape b) (escaped bytes) (escape-none b (is_plain b) refl) (escaped-none bytes)

pub said-none : (path : List ℕ) (mode : ℕ) → has_none (line_said path mode) ≡ true
said-none path mode =
    none-joined (mode_text mode) (32 ∷ escaped path)
    (four-other (48 + mode / 512 % 8) (48 + mode / 64 % 8) (48 + mode / 8 % 8) (48 + mode % 8) (omega arith) (omega arith) (omega arith) (omega arith)) (escaped-none path)

not-false : (b : Bool) → not b ≡ true → b ≡ false
not-false true e = absurd (let h : false ≡ true = e in cc)
not-false false e = refl

first-piece : (said rest : List ℕ) → has_none said ≡ true → pieces 10 (said ++ (10 ∷ rest)) ≡ said ∷ pieces 10 rest
unfolding pieces
first-piece [] rest h = slice_split-cons_yes (λ b. b == 10) 10 rest refl
first-piece (b ∷ said) rest h =
    let parts = and_parts (is_other b) (has_none said) h in
    slice_split-cons_no (λ b. b == 10) b (said ++ (10 ∷ rest)) (not-false (b == 10) parts.0) ∙ ap (onto_first b) (first-piece said rest parts.1)

-- ---- all lines

pub lines_back : (entries : List Entry) → All (λ e. All (λ b. b < 256) e.0 × (e.1 < 4096)) entries → lines_read (lines (lines_text entries)) ≡ Some entries
lines_back [] all = ap lines_read lines-empty
lines_back (e ∷ entries) all =
    let here = All-head (λ (e : Entry). All (λ b. b < 256) e.0 × (e.1 < 4096)) e entries all in
    let rest = lines_back entries (All-tail (λ (e : Entry). All (λ b. b < 256) e.0 × (e.1 < 4096)) e entries all) in
    let said = line_said e.0 e.1 in
    let more = lines_text entries in
    let cut = ap (pieces 10) (append_assoc said (10 ∷ []) more) ∙ first-piece said more (said-none e.0 e.1) in
    ap lines_read (lines-cut ((said ++ (10 ∷ [])) ++ more) said more cut)
    ∙ ap (option_and_then (λ (x : Entry). option_map (λ (es : List Entry). x ∷ es) (lines_read (lines more)))) (line-back e.0 e.1 here.0 here.1)
    ∙ ap (option_map (λ (es : List Entry). e ∷ es)) rest
