-- The file of modes as a whole, written and read.
use Rattle.std.proofs.Common.{◌≡◌, ◌≢◌, ◌<◌, ◌+◌, ◌-◌, ◌/◌, ◌%◌, ◌==◌, ◌&&◌, inl, inr, ℕ, Bool, true, false, cond, not, List, [], ◌∷◌, ◌++◌, Option, Some, None, Ok}
use Rattle.std.proofs.Common.{refl, sym, ◌∙◌, ap, append_assoc, append-nil, arith, length-append, length, drop, take, decimal}
use Rattle.std.specs.Prelude.{nat_eq}
use Rattle.std.specs.List.{starts_with, ends_with, list_any}
use Rattle.std.specs.Str.{bytes_eq}
use Rattle.std.specs.Cmp.Lexicographic.{bytes_decides}
use Rattle.std.proofs.Math.Seq.{take-append_seam, drop-append_seam}
use Rattle.std.proofs.lemmas.Bool.{cases_Bool, true≢false, or_parts, and_parts}
use Rattle.std.proofs.lemmas.List.{take-append-drop, length-drop}
use Rattle.reown_plan.specs.declared.mark.PlanMark.{PlanMark}
use Rattle.reown_plan.specs.Mark.{mark_of, mark_eq}
use Rattle.reown_plan.specs.PlanData.{PlanData}
use Rattle.reown_plan.proofs.Marks.{marks_compare}
use Rattle.reown_files.specs.Laws.{IsMarkable, ModesAreJudged, CutModesAreRefused}
use Rattle.reown_files.specs.MarkText.{Entry, line_said, lines_text, modes_head, modes_end, head_text, modes_text, plan_text}
use Rattle.reown_files.specs.MarkText.{has_end, before_end, is_whole, behind, lines_in, has_ended, lines_judged, modes_judged, mark_text, host_text, hex_text}
use Rattle.reown_files.proofs.Laws.{and_true, differ}
use Rattle.reown_files.proofs.MarksText.{same_plan, same_test, host_in_line, length_in_line, digest_in_line}
use Rattle.reown_files.proofs.ModesText.{is_other, has_none, none-joined, said-none}

front : (xs ys : List ℕ) (n : ℕ) → n ≡ length xs → take n (xs ++ ys) ≡ xs
front xs ys n e = ap (λ k. take k (xs ++ ys)) e ∙ take-append_seam xs ys

back : (xs ys : List ℕ) (n : ℕ) → n ≡ length xs → drop n (xs ++ ys) ≡ ys
back xs ys n e = ap (λ k. drop k (xs ++ ys)) e ∙ drop-append_seam xs ys

-- ---- a text that ends with a newline

abbrev ends_line : List ℕ → Bool
ends_line text = ends_with nat_eq text (10 ∷ [])

ends_so : (xs : List ℕ) → ends_line (xs ++ 10 ∷ []) ≡ true
ends_so xs =
    let n : length (xs ++ 10 ∷ []) - 1 ≡ length xs = omega (arith, length-append xs (10 ∷ [])) in
    ap (bytes_eq (10 ∷ [])) (back xs (10 ∷ []) (length (xs ++ 10 ∷ []) - 1) n)

ends_after : (xs : List ℕ) (entries : List Entry) (ys : List ℕ) → xs ≡ ys ++ 10 ∷ [] → ends_line (xs ++ lines_text entries) ≡ true
ends_after xs [] ys e = ap ends_line (append-nil xs ∙ e) ∙ ends_so ys
ends_after xs (e ∷ entries) ys was =
    let said = line_said e.0 e.1 in
    ap ends_line (sym (append_assoc xs (said ++ 10 ∷ []) (lines_text entries)))
    ∙ ends_after (xs ++ (said ++ 10 ∷ [])) entries (xs ++ said) (sym (append_assoc xs said (10 ∷ [])))

module _ (plan : PlanMark) (entries : List Entry) where
  abbrev lines : List ℕ
  lines = lines_text entries

  abbrev body : List ℕ
  body = head_text plan ++ lines

  body_length : length (body ++ modes_end) - length modes_end ≡ length body
  body_length = omega (arith, length-append body modes_end)

  before : before_end (body ++ modes_end) ≡ body
  before = front body modes_end (length (body ++ modes_end) - length modes_end) body_length

  end : has_end (body ++ modes_end) ≡ true
  end =
      ap (λ bytes. bytes_eq bytes modes_end) (back body modes_end (length (body ++ modes_end) - length modes_end) body_length)
      ∙ (bytes_decides modes_end modes_end).1 refl

  abbrev first_line : List ℕ
  first_line = modes_head ++ (host_text plan.host ++ 32 ∷ (decimal plan.length ++ 32 ∷ hex_text plan.digest))

  head_ends : head_text plan ≡ first_line ++ 10 ∷ []
  head_ends = simp append_assoc

  whole : is_whole (modes_text plan lines) ≡ true
  whole =
      and_true (has_end (body ++ modes_end)) (ends_line (before_end (body ++ modes_end))) end
      (ap ends_line before ∙ ends_after (head_text plan) entries first_line head_ends)

  -- the first line is this one
  abbrev begins : PlanMark → Bool
  begins other = bytes_eq (take (length (head_text other)) body) (head_text other)

  begins_own : (other : PlanMark) → plan ≡ other → begins other ≡ true
  begins_own other e =
      ap begins (sym e) ∙ (bytes_decides (take (length (head_text plan)) body) (head_text plan)).1 (front (head_text plan) lines (length (head_text plan)) refl)

  goes_on : (other : PlanMark) → begins other ≡ true → plan_text plan ++ lines ≡ plan_text other ++ drop (length (head_text other)) body
  goes_on other e =
      ap (drop 14)
      (sym (take-append-drop (length (head_text other)) body)
      ∙ ap (λ (xs : List ℕ). xs ++ drop (length (head_text other)) body) ((bytes_decides (take (length (head_text other)) body) (head_text other)).0 e))

  found : (other : PlanMark) (is : Bool) → (is ≡ true → plan ≡ other)
      → cond is (Some (drop (length (head_text other)) body)) None ≡ cond is (Some lines) None
  found other true same =
      ap (λ (m : PlanMark). Some (drop (length (head_text m)) body)) (sym (same refl))
      ∙ ap (λ (xs : List ℕ). Some xs) (back (head_text plan) lines (length (head_text plan)) refl)
  found other false same = refl

  read_as : (other : PlanMark) (is : Bool) → begins other ≡ is → (is ≡ true → plan ≡ other) → lines_in (head_text other) (modes_text plan lines) ≡ Some (cond is (Some lines) None)
  read_as other is e same =
      ap (λ (t : Bool). cond t (Some (behind (head_text other) (before_end (body ++ modes_end)))) None) whole
      ∙ ap (λ (xs : List ℕ). Some (behind (head_text other) xs)) before
      ∙ ap (λ (t : Bool). Some (cond t (Some (drop (length (head_text other)) body)) None)) e
      ∙ ap (λ (r : Option (List ℕ)). Some r) (found other is same)

pub modes_of_one_plan : (plan other : PlanData) (entries : List Entry) → IsMarkable plan → IsMarkable other
    → lines_in (head_text (mark_of other)) (modes_text (mark_of plan) (lines_text entries)) ≡ Some (cond (mark_eq (mark_of plan) (mark_of other)) (Some (lines_text entries)) None)
modes_of_one_plan plan other entries is is' =
    let p = mark_of plan in
    let o = mark_of other in
    let compared = marks_compare p o in
    read_as p entries o (mark_eq p o)
    (same_test (begins p entries o) (mark_eq p o)
    (λ e. compared.1 (same_plan plan other is is' (lines_text entries) (drop (length (head_text o)) (head_text p ++ lines_text entries)) (goes_on p entries o e)))
    (λ e. begins_own p entries o (compared.0 e))) (λ e. compared.0 e)

-- ---- a mark that ends them

ends_plan : (other : PlanMark) → ends_line (plan_text other) ≡ true
ends_plan other =
    let before = host_text other.host ++ (32 ∷ (decimal other.length ++ 32 ∷ hex_text other.digest)) in
    let is : plan_text other ≡ before ++ 10 ∷ [] = simp append_assoc in ap ends_line is ∙ ends_so before

module _ (plan : PlanMark) (lines : List ℕ) where
  abbrev rest : List ℕ
  rest = (plan_text plan ++ lines) ++ modes_end

  abbrev goes_on_as : PlanMark → Bool
  goes_on_as other = bytes_eq (plan_text other) (take (length (plan_text other)) rest)

  ended_so : (other : PlanMark) → has_ended (mark_text other) (modes_text plan lines) ≡ goes_on_as other
  ended_so other = ap (λ (t : Bool). t && goes_on_as other) (ends_plan other)

  own_goes_on : (other : PlanMark) → plan ≡ other → goes_on_as other ≡ true
  own_goes_on other e =
      ap goes_on_as (sym e)
      ∙ (bytes_decides (plan_text plan) (take (length (plan_text plan)) rest)).1
      (sym (ap (take (length (plan_text plan))) (append_assoc (plan_text plan) lines modes_end) ∙ front (plan_text plan) (lines ++ modes_end) (length (plan_text plan)) refl))

  parted_so : (other : PlanMark) → goes_on_as other ≡ true → plan_text plan ++ (lines ++ modes_end) ≡ plan_text other ++ drop (length (plan_text other)) rest
  parted_so other e =
      sym (append_assoc (plan_text plan) lines modes_end) ∙ sym (take-append-drop (length (plan_text other)) rest)
      ∙ ap (λ (xs : List ℕ). xs ++ drop (length (plan_text other)) rest) (sym ((bytes_decides (plan_text other) (take (length (plan_text other)) rest)).0 e))

pub ended_by_one_mark : (plan other : PlanData) (entries : List Entry) → IsMarkable plan → IsMarkable other
    → has_ended (mark_text (mark_of other)) (modes_text (mark_of plan) (lines_text entries)) ≡ mark_eq (mark_of plan) (mark_of other)
ended_by_one_mark plan other entries is is' =
    let p = mark_of plan in
    let o = mark_of other in
    let lines = lines_text entries in
    let compared = marks_compare p o in
    ended_so p lines o
    ∙ same_test (goes_on_as p lines o) (mark_eq p o)
    (λ e. compared.1 (same_plan plan other is is' (lines ++ modes_end) (drop (length (plan_text o)) (rest p lines)) (parted_so p lines o e)))
    (λ e. own_goes_on p lines o (compared.0 e))

-- ---- what a run goes by

pub same_marks : (a : PlanMark) → mark_eq a a ≡ true
same_marks a = (marks_compare a a).1 refl

pub other_marks : (a b : PlanMark) → a ≢ b → mark_eq a b ≡ false
other_marks a b apart = elim (cases_Bool (mark_eq a b)) [ inl is ↦ absurd (apart ((marks_compare a b).0 is)) | inr is ↦ is ]

own_judged : (plan : PlanData) (entries : List Entry) (mark : List ℕ) → IsMarkable plan
    → modes_judged (head_text (mark_of plan)) mark (modes_text (mark_of plan) (lines_text entries)) ≡ Ok (Some (lines_text entries))
own_judged plan entries mark is =
    let p = mark_of plan in
    let lines = lines_text entries in
    ap (lines_judged (has_ended mark (modes_text p lines))) (modes_of_one_plan plan plan entries is is ∙ ap (λ b. Some (cond b (Some lines) None)) (same_marks p))

pub other_judged : (plan other : PlanData) (entries : List Entry) (mark : List ℕ) (ended : Bool) → IsMarkable plan → IsMarkable other → mark_of other ≢ mark_of plan
    → has_ended mark (modes_text (mark_of other) (lines_text entries)) ≡ ended
    → modes_judged (head_text (mark_of plan)) mark (modes_text (mark_of other) (lines_text entries)) ≡ lines_judged ended (Some None)
other_judged plan other entries mark ended is is' apart e =
    let o = mark_of other in
    let lines = lines_text entries in
    ap (lines_judged (has_ended mark (modes_text o lines))) (modes_of_one_plan other plan entries is' is ∙ ap (λ b. Some (cond b (Some lines) None)) (other_marks o (mark_of plan) apart))
    ∙ ap (λ b. lines_judged b (Some None)) e

pub judged : ModesAreJudged
judged =
    record {
      own = own_judged;
      ended = λ plan other entries is is' apart.
          other_judged plan other entries (mark_text (mark_of other)) true is is' apart (ended_by_one_mark other other entries is' is' ∙ same_marks (mark_of other));
      begun = λ plan other third entries is is' is'' apart apart'.
          other_judged plan other entries (mark_text (mark_of third)) false is is' apart (ended_by_one_mark other third entries is' is'' ∙ other_marks (mark_of other) (mark_of third) apart');
      no_mark = λ plan other entries is is' apart. other_judged plan other entries [] false is is' apart refl;
    }

-- ---- modes that were cut

none_of : (bytes : List ℕ) → list_any (λ b. b == 10) bytes ≡ false → has_none bytes ≡ true
none_of [] h = refl
none_of (b ∷ bytes) h = let parts = or_parts (b == 10) (list_any (λ b. b == 10) bytes) h in and_true (is_other b) (has_none bytes) (ap not parts.0) (none_of bytes parts.1)

next_line : (e : Entry) (entries : List Entry) → lines_text (e ∷ entries) ++ modes_end ≡ line_said e.0 e.1 ++ 10 ∷ (lines_text entries ++ modes_end)
next_line e entries = simp append_assoc

in_end : (q r : List ℕ) → 101 ∷ 110 ∷ 100 ∷ 10 ∷ [] ≡ q ++ 10 ∷ 101 ∷ r → ⊥
in_end [] r e = differ 101 10 refl cc
in_end (a ∷ []) r e = differ 110 10 refl cc
in_end (a ∷ b ∷ []) r e = differ 100 10 refl cc
in_end (a ∷ b ∷ c ∷ []) r e = let h : [] ≡ 101 ∷ r = cc in absurd cc
in_end (a ∷ b ∷ c ∷ d ∷ q) r e = let h : [] ≡ q ++ 10 ∷ 101 ∷ r = cc in let n = ap length h in omega (arith, n, length-append q (10 ∷ 101 ∷ r))

-- of the lines of files none begins as the last one does
no_end : (e : Entry) (entries : List Entry) (r : List ℕ) → lines_text (e ∷ entries) ++ modes_end ≡ 101 ∷ r → ⊥
no_end e entries r h = let first : 48 + e.1 / 512 % 8 ≡ 101 = cc in omega (arith, first)

last_line : (q first : List ℕ) (entries : List Entry) (r : List ℕ) → has_none first ≡ true → first ++ 10 ∷ (lines_text entries ++ modes_end) ≡ q ++ 10 ∷ 101 ∷ r
    → r ≡ 110 ∷ 100 ∷ 10 ∷ []
last_line [] [] [] r none e = let h : 10 ∷ 101 ∷ 110 ∷ 100 ∷ 10 ∷ [] ≡ 10 ∷ 101 ∷ r = e in cc
last_line [] [] (x ∷ entries) r none e = absurd (no_end x entries r cc)
last_line [] (z ∷ first) entries r none e =
    let is : z ≡ 10 = cc in absurd (true≢false (sym (ap is_other (sym is) ∙ (and_parts (is_other z) (has_none first) none).0)))
last_line (y ∷ q) [] [] r none e = let h : 10 ∷ 101 ∷ 110 ∷ 100 ∷ 10 ∷ [] ≡ y ∷ (q ++ 10 ∷ 101 ∷ r) = e in absurd (in_end q r cc)
last_line (y ∷ q) [] (x ∷ entries) r none e =
    let h : lines_text (x ∷ entries) ++ modes_end ≡ q ++ 10 ∷ 101 ∷ r = cc in
    last_line q (line_said x.0 x.1) entries r (said-none x.0 x.1) (sym (next_line x entries) ∙ h)
last_line (y ∷ q) (z ∷ first) entries r none e =
    last_line q first entries r (and_parts (is_other z) (has_none first) none).1 cc

one_row : (xs ys zs : List ℕ) → ((xs ++ 10 ∷ []) ++ ys) ++ zs ≡ xs ++ 10 ∷ (ys ++ zs)
one_row xs ys zs = simp append_assoc

module _ (plan : PlanData) (entries : List Entry) (is : IsMarkable plan) where
  abbrev p : PlanMark
  p = mark_of plan

  abbrev text : List ℕ
  text = modes_text p (lines_text entries)

  said : has_none (first_line p entries) ≡ true
  said =
      let digits = none_of (hex_text p.digest) (digest_in_line plan is) in
      let size = none-joined (decimal p.length) (32 ∷ hex_text p.digest) (none_of (decimal p.length) (length_in_line plan is)) digits in
      none-joined (host_text p.host) (32 ∷ (decimal p.length ++ 32 ∷ hex_text p.digest)) (none_of (host_text p.host) (host_in_line plan is)) size

  parted : text ≡ first_line p entries ++ 10 ∷ (lines_text entries ++ modes_end)
  parted = ap (λ (xs : List ℕ). (xs ++ lines_text entries) ++ modes_end) (head_ends p entries) ∙ one_row (first_line p entries) (lines_text entries) modes_end

  cut_is_whole : (n : ℕ) → n < length text → is_whole (take n text) ≡ true → ⊥
  cut_is_whole n short so =
      let cut = take n text in
      let front = before_end cut in
      let line = take (length front - 1) front in
      let parts = and_parts (has_end cut) (ends_line front) (and_parts (starts_with nat_eq cut modes_head) (has_end cut && ends_line front) so).1 in
      let ends = (bytes_decides (drop (length cut - 4) cut) modes_end).0 parts.0 in
      let line_ends = (bytes_decides (10 ∷ []) (drop (length front - 1) front)).0 parts.1 in
      let rest = drop n text in
      let front_is : front ≡ line ++ 10 ∷ [] = sym (take-append-drop (length front - 1) front) ∙ ap (λ (xs : List ℕ). line ++ xs) (sym line_ends) in
      let cut_is : cut ≡ (line ++ 10 ∷ []) ++ modes_end =
      sym (take-append-drop (length cut - 4) cut) ∙ ap (λ (xs : List ℕ). front ++ xs) ends ∙ ap (λ (xs : List ℕ). xs ++ modes_end) front_is in
      let all = sym parted ∙ sym (take-append-drop n text) ∙ ap (λ (xs : List ℕ). xs ++ rest) cut_is ∙ one_row line modes_end rest in
      let none = last_line line (first_line p entries) entries (110 ∷ 100 ∷ 10 ∷ rest) said all in
      let long : length (110 ∷ 100 ∷ 10 ∷ rest) ≡ 3 = ap length none in
      omega (arith, long, short, length-drop n text)

pub cut_refused : CutModesAreRefused
cut_refused plan other entries mark n is short =
    let cut = take n (modes_text (mark_of other) (lines_text entries)) in
    elim (cases_Bool (is_whole cut)) [
      | inl whole ↦ absurd (cut_is_whole other entries is n short whole)
      | inr apart ↦ ap (λ (b : Bool). lines_judged (has_ended mark cut) (cond b (Some (behind (head_text (mark_of plan)) (before_end cut))) None)) apart
    ]
