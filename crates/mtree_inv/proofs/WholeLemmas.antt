-- What a reader keeps of the inventory that was begun last is what looking back over the lines finds.
use Rattle.std.proofs.Common.{◌≡◌, ℕ, ◌+◌, ◌≤◌, Bool, true, false, cond, min, ◌==◌, ◌&&◌, leb, nat_lt, List, [], ◌∷◌, ◌++◌, length, refl, sym, ap, ◌∙◌, arith, length-append}
use Rattle.std.specs.Prelude.{Option, Some, None, IfSome, filter, option_map}
use Rattle.std.specs.Option.{option_or, option_flatten}
use Rattle.std.specs.Char.{digit_value}
use Rattle.std.specs.List.{list_all}
use Rattle.std.specs.Str.Parse.{digits_value}
use Rattle.std.proofs.lemmas.Bool.{and_parts, cond_both, eq-eqb, eqb-true, leb-true, ne_eqb, true≢false}
use Rattle.std.proofs.lemmas.List.Elements.{filter-append}
use Rattle.idtext.specs.Numbers.{numeral, id_of, greatest_id}
use Rattle.mtree_inv.specs.declared.begun.Begun.{Begun}
use Rattle.mtree_inv.specs.Logical.{next_number}
use Rattle.mtree_inv.specs.Looking.{last_said}
use Rattle.mtree_inv.specs.Kinds.{Kind, Begins, Counts, Names}
use Rattle.mtree_inv.specs.Whole.{is_beginning, gives_file, files_given, told_by, told, is_number, is_ended, lines_since, lacks_end, is_cut}
use Rattle.mtree_inv.specs.Machine.{begun_now, with_file_given, with_count, is_unended}
use Rattle.mtree_inv.proofs.LookingLemmas.{last_said-snoc}

-- ---- numbers that are read are those that an account may have

numeral_small : (b : Bool) (n : ℕ) → IfSome (cond (b && leb n greatest_id) (Some n) None) (λ m. m ≤ greatest_id)
numeral_small b n = cond_both (b && leb n greatest_id) (Some n) None (λ o. IfSome o (λ m. m ≤ greatest_id)) (λ e. leb-true n greatest_id (and_parts b (leb n greatest_id) e).1) (λ e. tt)

pub id_small : (text : List ℕ) → IfSome (id_of text) (λ n. n ≤ greatest_id)
unfolding numeral
id_small [] = tt
id_small (c ∷ cs) = numeral_small (list_all (λ d. nat_lt (digit_value d) 10) (c ∷ cs)) (digits_value 10 (c ∷ cs))

-- where the number of files stays, at the greatest u64, it is above each of these
is_number-stays : (o : Option ℕ) (n : ℕ) → IfSome o (λ m. m ≤ greatest_id) → is_number o (min n 18446744073709551615) ≡ is_number o n
is_number-stays None n small = refl
is_number-stays (Some m) n small = by (m == n) refl
  where
    by : (b : Bool) → (m == n) ≡ b → (m == min n 18446744073709551615) ≡ (m == n)
    by true e = eq-eqb m (min n 18446744073709551615) (omega (arith, eqb-true m n e, small)) ∙ sym e
    by false e = ne_eqb m (min n 18446744073709551615) (λ same. true≢false (sym (eq-eqb m n (omega (arith, same, small))) ∙ e)) ∙ sym e

-- ---- one line more

lines_since-snoc : (before : List Kind) (line : Kind) → lines_since (before ++ line ∷ []) ≡ cond (is_beginning line) (Some []) (option_map (λ since. since ++ line ∷ []) (lines_since before))
lines_since-snoc [] line = refl
lines_since-snoc (x ∷ xs) line =
    ap (λ (o : Option (List Kind)). option_or o (cond (is_beginning x) (Some (xs ++ line ∷ [])) None)) (lines_since-snoc xs line)
    ∙ by (is_beginning line) (lines_since xs) (is_beginning x)
  where
    by : (b : Bool) (o : Option (List Kind)) (c : Bool)
        → option_or (cond b (Some []) (option_map (λ since. since ++ line ∷ []) o)) (cond c (Some (xs ++ line ∷ [])) None)
        ≡ cond b (Some []) (option_map (λ since. since ++ line ∷ []) (option_or o (cond c (Some xs) None)))
    by true o c = refl
    by false None true = refl
    by false None false = refl
    by false (Some since) c = refl

files_given-snoc : (since : List Kind) (line : Kind) → files_given (since ++ line ∷ []) ≡ files_given since + files_given (line ∷ [])
files_given-snoc since line = ap length (filter-append gives_file since (line ∷ [])) ∙ length-append (filter gives_file since) (filter gives_file (line ∷ []))

told-snoc : (since : List Kind) (line : Kind) → told (since ++ line ∷ []) ≡ option_flatten (option_or (told_by line) (last_said told_by since))
told-snoc since line = ap option_flatten (last_said-snoc told_by since line)

-- what a reader keeps of the lines after the last line that begins an inventory
abbrev pub begun_of : List Kind → Begun
begun_of since = record { files = min (files_given since) 18446744073709551615; is_ended = is_ended since }

abbrev pub Tracks : Option Begun → List Kind → Type 0
Tracks begun lines = begun ≡ option_map begun_of (lines_since lines)

made : (files files' : ℕ) (ended ended' : Bool) → files ≡ files' → ended ≡ ended'
    → (let x : Begun = record { files = files; is_ended = ended } in x) ≡ (let y : Begun = record { files = files'; is_ended = ended' } in y)
made files files' ended ended' e f = cc

-- what each line makes of them, where it begins none
tracks-more : (begun : Option Begun) (before : List Kind) (line : Kind) (f : Begun → Begun) → is_beginning line ≡ false → ((since : List Kind) → f (begun_of since) ≡ begun_of (since ++ line ∷ []))
    → Tracks begun before → Tracks (option_map f begun) (before ++ line ∷ [])
tracks-more begun before line f other each h =
    ap (option_map f) h ∙ by (lines_since before)
    ∙ sym (ap (option_map begun_of) (lines_since-snoc before line ∙ ap (λ (b : Bool). cond b (Some []) (option_map (λ since. since ++ line ∷ []) (lines_since before))) other))
  where
    by : (o : Option (List Kind)) → option_map f (option_map begun_of o) ≡ option_map begun_of (option_map (λ since. since ++ line ∷ []) o)
    by None = refl
    by (Some since) = ap Some (each since)

pub tracks-begins : (before : List Kind) → Tracks (Some begun_now) (before ++ Begins ∷ [])
tracks-begins before = sym (ap (option_map begun_of) (lines_since-snoc before Begins))

pub tracks-file : (begun : Option Begun) (before : List Kind) (word : List ℕ) (keywords : List (List ℕ)) → Tracks begun before → Tracks (with_file_given begun) (before ++ Names word keywords ∷ [])
tracks-file begun before word keywords h =
    tracks-more begun before (Names word keywords) (λ (b : Begun). (let next : Begun = record { files = next_number b.files; is_ended = false } in next)) refl
    (λ since.
    let line = Names word keywords in
    made (next_number (min (files_given since) 18446744073709551615)) (min (files_given (since ++ line ∷ [])) 18446744073709551615) false (is_ended (since ++ line ∷ []))
    (omega (arith, files_given-snoc since line))
    (sym (ap (λ (o : Option ℕ). is_number o (files_given (since ++ line ∷ []))) (told-snoc since line))))
    h

pub tracks-count : (begun : Option Begun) (before : List Kind) (text : List ℕ) → Tracks begun before → Tracks (with_count text begun) (before ++ Counts text ∷ [])
tracks-count begun before text h =
    tracks-more begun before (Counts text) (λ (b : Begun). record b { is_ended = is_number (id_of text) b.files }) refl
    (λ since.
    let line = Counts text in
    let same : files_given (since ++ line ∷ []) ≡ files_given since = omega (arith, files_given-snoc since line) in
    made (min (files_given since) 18446744073709551615) (min (files_given (since ++ line ∷ [])) 18446744073709551615) (is_number (id_of text) (min (files_given since) 18446744073709551615)) (is_ended (since ++ line ∷ []))
    (ap (λ (n : ℕ). min n 18446744073709551615) (sym same))
    (is_number-stays (id_of text) (files_given since) (id_small text)
    ∙ ap (is_number (id_of text)) (sym same)
    ∙ sym (ap (λ (o : Option ℕ). is_number o (files_given (since ++ line ∷ []))) (told-snoc since line))))
    h

-- a line that is neither of these nor begins one
pub tracks-other : (begun : Option Begun) (before : List Kind) (line : Kind) → is_beginning line ≡ false → gives_file line ≡ false → told_by line ≡ None → Tracks begun before → Tracks begun (before ++ line ∷ [])
tracks-other begun before line other none silent h =
    kept begun ∙ tracks-more begun before line (λ (b : Begun). b) other
    (λ since.
    let same : files_given (since ++ line ∷ []) ≡ files_given since =
    files_given-snoc since line ∙ ap (λ (b : Bool). files_given since + length (cond b (line ∷ []) [])) none ∙ omega arith in
    made (min (files_given since) 18446744073709551615) (min (files_given (since ++ line ∷ [])) 18446744073709551615) (is_ended since) (is_ended (since ++ line ∷ []))
    (ap (λ (n : ℕ). min n 18446744073709551615) (sym same))
    (ap (is_number (told since)) (sym same)
    ∙ sym (ap (λ (o : Option ℕ). is_number o (files_given (since ++ line ∷ []))) (told-snoc since line ∙ ap (λ (o : Option (Option ℕ)). option_flatten (option_or o (last_said told_by since))) silent))))
    h
  where
    kept : (o : Option Begun) → o ≡ option_map (λ (b : Begun). b) o
    kept None = refl
    kept (Some b) = refl

pub unended-is : (begun : Option Begun) (lines : List Kind) → Tracks begun lines → is_unended begun ≡ is_cut lines
unended-is begun lines h = ap is_unended h ∙ by (lines_since lines)
  where
    by : (o : Option (List Kind)) → is_unended (option_map begun_of o) ≡ lacks_end o
    by None = refl
    by (Some since) = refl
