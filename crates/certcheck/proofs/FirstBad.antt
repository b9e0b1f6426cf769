-- A text that is no certificate is refused with its first bad line.
use Rattle.std.proofs.Common.{◌≡◌, ℕ, zero, suc, ◌+◌, ◌≤◌, ◌<◌, ◌==◌, min, Bool, true, false, codes, List, [], ◌∷◌, ◌++◌, map, take, length, Option, Some, None, Err, refl, sym, ap, ◌∙◌, ◌⊎◌, inl, inr, arith, add-one, subst, append_assoc, append-nil, length-append}
use Rattle.std.specs.List.{flat_map, list_any}
use Rattle.std.proofs.lemmas.Bool.{cases_lt, cond-false, cond-true, false≢true}
use Rattle.std.proofs.lemmas.Option.{none-some}
use Rattle.idtext.specs.Faults.{line_number}
use Rattle.idtext.specs.First.{first_fault, or_else, unless}
use Rattle.idtext.specs.Pieces.{lines}
use Rattle.hosts_join.specs.declared.Which.TheVariants.{User, Group}
use Rattle.certcheck.specs.declared.certificate.Certificate.{Certificate}
use Rattle.certcheck.specs.Laws.{BeginsAsCertificate, FirstBadIsTold, IsCertificate, IsFirstBad, lines_with_newlines}
use Rattle.certcheck.specs.Reading.{Item, Head, RowItem, ZItem, End, certificate_in, end_fault, is_cut, is_end, item_before, item_of, line_fault, may_follow, side_in}
use Rattle.certcheck.specs.Spelling.{spelling}
use Rattle.certcheck.proofs.Growing.{item_lawful, item_push}
use Rattle.certcheck.proofs.ItemLines.{line_reads}
use Rattle.certcheck.proofs.Least.{none_both}
use Rattle.certcheck.proofs.Newlines.{HasLines, IsLast, all_ended, cut_behind, front_same, lines_of_text, none_without_newline, same_all, same_front, take_front}
use Rattle.certcheck.proofs.Spelled.{AreLawful, AreSaid, ended_is, fine_says, lawful_plain, read_says, reads_what_is_spelled, said_lines, spelled_is_read}
use Rattle.certcheck.proofs.TextLines.{ArePlain, ended, lines_whole}
use Rattle.certcheck.proofs.WholeText.{ended_read}

abbrev IsFine : List (List ℕ) → Type 0
IsFine ls = first_fault line_fault [] ls ≡ None

-- ---- lines after one another

-- the first lines of fine ones are fine
fine_take : (count : ℕ) (seen ls : List (List ℕ)) → first_fault line_fault seen ls ≡ None → first_fault line_fault seen (take count ls) ≡ None
unfolding first_fault
fine_take zero seen ls h = refl
fine_take (suc k) seen [] h = refl
fine_take (suc k) seen (l ∷ ls) h =
    let both = none_both (line_fault seen l) (first_fault line_fault (seen ++ l ∷ []) ls) h in
    ap (λ o. or_else o (first_fault line_fault (seen ++ l ∷ []) (take k ls))) both.0 ∙ fine_take k (seen ++ l ∷ []) ls both.1

-- one more line
fine_push : (seen ls : List (List ℕ)) (l : List ℕ) → first_fault line_fault seen ls ≡ None → line_fault (seen ++ ls) l ≡ None → first_fault line_fault seen (ls ++ l ∷ []) ≡ None
unfolding first_fault
fine_push seen [] l h good = ap (λ o. or_else o None) (ap (λ ms. line_fault ms l) (sym (append-nil seen)) ∙ good)
fine_push seen (m ∷ ms) l h good =
    let both = none_both (line_fault seen m) (first_fault line_fault (seen ++ m ∷ []) ms) h in
    ap (λ o. or_else o (first_fault line_fault (seen ++ m ∷ []) (ms ++ l ∷ []))) both.0
    ∙ fine_push (seen ++ m ∷ []) ms l both.1 (ap (λ ks. line_fault ks l) (append_assoc seen (m ∷ []) ms) ∙ good)

-- the line that is told
record IsAt (seen ls : List (List ℕ)) (line : ℕ) : Type 0 where
  pub before : ℕ
  pub within : before < length ls
  pub told : line ≡ line_number (length seen + before)
  pub good : first_fault line_fault seen (take before ls) ≡ None
  pub bad : first_fault line_fault seen (take (suc before) ls) ≡ None → ⊥

-- at a line that may stand there, or may not
fault_by : (seen : List (List ℕ)) (l : List ℕ) (ls : List (List ℕ)) (line : ℕ) (o : Option ℕ) → line_fault seen l ≡ o → (o ≡ None) ⊎ (o ≡ Some (line_number (length seen))) → or_else o (first_fault line_fault (seen ++ l ∷ []) ls) ≡ Some line
    → (first_fault line_fault (seen ++ l ∷ []) ls ≡ Some line → IsAt (seen ++ l ∷ []) ls line) → IsAt seen (l ∷ ls) line
unfolding first_fault
fault_by seen l ls line None is which h later =
    let at = later h in
    record {
      before = suc at.before;
      within = (let less = at.within in omega (arith, less));
      told = at.told ∙ ap line_number (let long = length-append seen (l ∷ []) in omega (arith, long));
      good = ap (λ o. or_else o (first_fault line_fault (seen ++ l ∷ []) (take at.before ls))) is ∙ at.good;
      bad = λ none. at.bad (ap (λ o. or_else o (first_fault line_fault (seen ++ l ∷ []) (take (suc at.before) ls))) (sym is) ∙ none);
    }
fault_by seen l ls line (Some n) is (inl none) h later = absurd (cc)
fault_by seen l ls line (Some n) is (inr it) h later =
    let same : n ≡ line = cc in
    let here : n ≡ line_number (length seen) = cc in
    record {
      before = 0;
      within = omega arith;
      told = sym same ∙ here ∙ ap line_number (omega arith);
      good = refl;
      bad = λ none. absurd (none-some n (sym none ∙ ap (λ o. or_else o None) is));
    }

-- the numbers that are told of a line that may not stand where it stands, of a last line without
-- its newline, and of a line that is missing
pub record AreNumbered : Type 0 where
  pub wrong : (before : List (List ℕ)) (line : List ℕ) → (line_fault before line ≡ None) ⊎ (line_fault before line ≡ Some (line_number (length before)))
  pub cut : (text : List ℕ) (ls : List (List ℕ)) → is_cut text ≡ true → end_fault text ls ≡ Some (min (length ls) 18446744073709551615)
  pub missing : (text : List ℕ) (ls : List (List ℕ)) → is_cut text ≡ false → is_end (item_before ls) ≡ false → end_fault text ls ≡ Some (line_number (length ls))

fault_at : AreNumbered → (seen ls : List (List ℕ)) (line : ℕ) → first_fault line_fault seen ls ≡ Some line → IsAt seen ls line
unfolding first_fault
fault_at numbered seen [] line h = absurd (cc)
fault_at numbered seen (l ∷ ls) line h = fault_by seen l ls line (line_fault seen l) refl (numbered.wrong seen l) h (λ g. fault_at numbered (seen ++ l ∷ []) ls line g)

-- ---- fine lines begin a certificate

-- some lines after which it is whole
record IsCompleted (ls : List (List ℕ)) : Type 0 where
  pub more : List (List ℕ)
  pub fine : IsFine (ls ++ more)
  pub ends : item_before (ls ++ more) ≡ Some End

abbrev head_line : List ℕ
head_line = codes "unify certificate 2"

abbrev end_line : List ℕ
end_line = codes "end"

-- the end may stand after all but another one
ends_behind : (b : Item) → is_end (Some b) ≡ false → may_follow (Some b) (Some End) ≡ true
ends_behind Head h = refl
ends_behind (RowItem User r) h = refl
ends_behind (RowItem Group r) h = refl
ends_behind (ZItem User e) h = refl
ends_behind (ZItem Group e) h = refl
ends_behind End h = absurd (false≢true (sym h))

completed : (ls : List (List ℕ)) → IsFine ls → IsCompleted ls
completed ls fine = by (item_before ls) refl
  where
    pushed : (ms : List (List ℕ)) (b : Item) → IsFine ms → item_before ms ≡ Some b → is_end (Some b) ≡ false → IsFine (ms ++ end_line ∷ [])
    pushed ms b h is more_to_come =
        fine_push [] ms end_line h (cond-true (may_follow (item_before ms) (item_of end_line)) None _
        (ap (may_follow (item_before ms)) (line_reads End tt) ∙ ap (λ o. may_follow o (Some End)) is ∙ ends_behind b more_to_come))

    ends_with : (ms : List (List ℕ)) → item_before (ms ++ end_line ∷ []) ≡ Some End
    ends_with ms = item_push ms end_line ∙ line_reads End tt

    one : (b : Item) → item_before ls ≡ Some b → (x : Bool) → is_end (Some b) ≡ x → IsCompleted ls
    one b is true e = record {
      more = [];
      fine = ap (first_fault line_fault []) (append-nil ls) ∙ fine;
      ends = ap item_before (append-nil ls) ∙ is ∙ ended_is (Some b) e;
    }
    one b is false e = record { more = end_line ∷ []; fine = pushed ls b fine is e; ends = ends_with ls }

    empty : (ms : List (List ℕ)) → item_before ms ≡ None → IsFine ms → IsCompleted ms
    empty ms none h = record {
      more = head_line ∷ end_line ∷ [];
      fine = ap (first_fault line_fault []) (sym (append_assoc ms (head_line ∷ []) (end_line ∷ [])))
          ∙ pushed (ms ++ head_line ∷ []) Head (fine_push [] ms head_line h (cond-true (may_follow (item_before ms) (item_of head_line)) None _ (ap (may_follow (item_before ms)) (line_reads Head tt) ∙ ap (λ o. may_follow o (Some Head)) none))) (item_push ms head_line ∙ line_reads Head tt) refl;
      ends = ap item_before (sym (append_assoc ms (head_line ∷ []) (end_line ∷ []))) ∙ ends_with (ms ++ head_line ∷ []);
    }

    by : (o : Option Item) → item_before ls ≡ o → IsCompleted ls
    by None is = empty ls is fine
    by (Some b) is = one b is (is_end (Some b)) refl

said_lawful : (ls : List (List ℕ)) (is : List Item) → AreSaid ls is → AreLawful is
said_lawful [] [] h = tt
said_lawful [] (i ∷ is) h = absurd h
said_lawful (l ∷ ls) [] h = absurd h
said_lawful (l ∷ ls) (i ∷ is) h = (item_lawful l i h.0, said_lawful ls is h.1)

fine_plain : (ls : List (List ℕ)) → IsFine ls → ArePlain ls
fine_plain ls fine =
    let says = fine_says [] ls fine in
    subst ArePlain (sym (said_lines ls says.items says.said)) (lawful_plain says.items (said_lawful ls says.items says.said))

-- whole lines are not cut
whole_lines : (ls : List (List ℕ)) → is_cut (flat_map ended ls) ≡ false
whole_lines [] = refl
whole_lines (l ∷ ls) = ap is_cut (append_assoc l (10 ∷ []) (flat_map ended ls)) ∙ cut_behind l (flat_map ended ls) ∙ whole_lines ls

-- the certificate of fine lines with the end after them
record IsSpelled (ls : List (List ℕ)) : Type 0 where
  pub certificate : Certificate
  pub lawful : IsCertificate certificate
  pub whole : lines_with_newlines (spelling certificate) ≡ map ended ls

fine_spelled : (ls : List (List ℕ)) → IsFine ls → item_before ls ≡ Some End → IsSpelled ls
fine_spelled ls fine ends =
    let text = flat_map ended ls in
    let same : lines text ≡ ls = lines_whole ls (fine_plain ls fine) in
    let read = ended_read text (side_in User (lines text)) (side_in Group (lines text)) (ap (first_fault line_fault []) same ∙ fine) (whole_lines ls) (ap (λ ms. is_end (item_before ms)) same ∙ ap is_end ends) refl refl in
    let c : Certificate = record { users = side_in User (lines text); groups = side_in Group (lines text) } in
    let spelled = reads_what_is_spelled text c read in
    record {
      certificate = c;
      lawful = spelled.0;
      whole = ap lines_with_newlines (sym spelled.1) ∙ all_ended text (whole_lines ls) ∙ ap (map ended) same;
    }

-- ---- the text

module _ (numbered : AreNumbered) (text : List ℕ) (has : HasLines text) where
  abbrev front : List (List ℕ)
  front = has.front

  begins : (count : ℕ) → count ≤ length front → IsFine (take count front) → BeginsAsCertificate text count
  begins count few fine =
      let more = completed (take count front) fine in
      let it = fine_spelled (take count front ++ more.more) more.fine more.ends in (
        it.certificate,
        it.lawful,
        ap (take count) has.whole ∙ front_same count front has.last more.more few ∙ ap (take count) (sym it.whole),
      )

  -- the lines of a certificate are fine, and end with the end
  record Reads (count : ℕ) : Type 0 where
    pub others : List (List ℕ)
    pub fine : IsFine others
    pub ends : item_before others ≡ Some End
    pub same : take count (map ended front ++ has.last) ≡ take count (map ended others)

  reads : (count : ℕ) → BeginsAsCertificate text count → Reads count
  reads count b =
      let c = b.0 in
      let read = read_says (spelling c) c (spelled_is_read c b.1) in
      record {
        others = lines (spelling c);
        fine = read.fine;
        ends = read.ends;
        same = ap (take count) (sym has.whole) ∙ b.2 ∙ ap (take count) (all_ended (spelling c) read.whole);
      }

  front_fine : (count : ℕ) → count ≤ length front → BeginsAsCertificate text count → IsFine (take count front)
  front_fine count few b =
      let it = reads count b in
      ap (first_fault line_fault []) (same_front count front has.last it.others few it.same) ∙ fine_take count [] it.others it.fine

  -- with a line that has no newline
  cut_bad : (line : List ℕ) → has.last ≡ line ∷ [] → list_any (λ b. b == 10) line ≡ false → ¬ BeginsAsCertificate text (suc (length front))
  cut_bad line last plain b =
      let it = reads (suc (length front)) b in
      none_without_newline front it.others line plain (ap (λ ls. take (suc (length front)) (map ended front ++ ls)) (sym last) ∙ it.same)

  -- with no line more
  end_bad : has.last ≡ [] → is_end (item_before front) ≡ false → ¬ BeginsAsCertificate text (suc (length front))
  end_bad last more_to_come b =
      let it = reads (suc (length front)) b in
      let same = same_all front it.others (ap (take (suc (length front))) (sym (append-nil (map ended front)) ∙ ap (λ ls. map ended front ++ ls) (sym last)) ∙ it.same) in
      false≢true (sym more_to_come ∙ ap (λ ls. is_end (item_before ls)) same ∙ ap is_end it.ends)

  is_first : (line before : ℕ) → line ≡ line_number before → BeginsAsCertificate text before → ¬ BeginsAsCertificate text (suc before) → (n : ℕ) × (line ≡ line_number n) × IsFirstBad text n
  is_first line before told good bad = (before, told, record { good = good; bad = rw add-one bad })

  -- a line that may not stand where it stands
  line_bad : (line : ℕ) → first_fault line_fault [] (lines text) ≡ Some line → (n : ℕ) × (line ≡ line_number n) × IsFirstBad text n
  line_bad line h = by (cases_lt k (length front))
    where
      at : IsAt [] (front ++ has.last) line
      at = fault_at numbered [] (front ++ has.last) line (ap (first_fault line_fault []) (sym has.bare) ∙ h)

      k : ℕ
      k = at.before

      told : line ≡ line_number k
      told = at.told ∙ ap line_number (omega arith)

      behind : k ≤ length front → IsFine (take k front)
      behind few = ap (first_fault line_fault []) (sym (take_front k front has.last few)) ∙ at.good

      last_one : length front ≤ k → has.last ≡ [] → ⊥
      last_one high none = (let in' = at.within in let long = length-append front has.last in let no = ap length none in omega (arith, in', long, no, high))

      few_last : length front ≤ k → (some : List ℕ) → has.last ≡ some ∷ [] → k ≡ length front
      few_last high some is = (let in' = at.within in let long = length-append front has.last in let one = ap length is in omega (arith, in', long, one, high))

      by : (k < length front) ⊎ (length front ≤ k) → (n : ℕ) × (line ≡ line_number n) × IsFirstBad text n
      by (inl low) = is_first line k told (begins k (omega (arith, low)) (behind (omega (arith, low)))) (λ b. at.bad (ap (first_fault line_fault []) (take_front (suc k) front has.last (omega (arith, low))) ∙ front_fine (suc k) (omega (arith, low)) b))
      by (inr high) = last (has.ends)
        where
          last : IsLast text has.last → (n : ℕ) × (line ≡ line_number n) × IsFirstBad text n
          last (inl none) = absurd (last_one high none.0)
          last (inr some) =
              let same = few_last high some.0 some.1 in
              is_first line k told (begins k (omega (arith, same)) (behind (omega (arith, same)))) (subst (λ (n : ℕ). ¬ BeginsAsCertificate text (suc n)) (sym same) (cut_bad some.0 some.1 some.2))

  -- after fine lines
  end_told : (line : ℕ) → first_fault line_fault [] (lines text) ≡ None → end_fault text (lines text) ≡ Some line → (n : ℕ) × (line ≡ line_number n) × IsFirstBad text n
  end_told line fine h = by has.ends
    where
      all_fine : IsFine (front ++ has.last)
      all_fine = ap (first_fault line_fault []) (sym has.bare) ∙ fine

      good : BeginsAsCertificate text (length front)
      good = begins (length front) (omega arith) (ap (first_fault line_fault []) (sym (take_front (length front) front has.last (omega arith))) ∙ fine_take (length front) [] (front ++ has.last) all_fine)

      end_fine : is_cut text ≡ false → is_end (item_before (lines text)) ≡ true → end_fault text (lines text) ≡ None
      end_fine whole ended' = cond-false (is_cut text) _ _ whole ∙ cond-true (is_end (item_before (lines text))) None _ ended'

      one_number : (a b : ℕ) → ◌≡◌ {A = Option ℕ} (Some a) (Some b) → b ≡ a
      one_number a b e = cc

      by : IsLast text has.last → (n : ℕ) × (line ≡ line_number n) × IsFirstBad text n
      by (inl none) = more_to_come (is_end (item_before front)) refl
        where
          same : lines text ≡ front
          same = has.bare ∙ ap (λ ls. front ++ ls) none.0 ∙ append-nil front

          more_to_come : (x : Bool) → is_end (item_before front) ≡ x → (n : ℕ) × (line ≡ line_number n) × IsFirstBad text n
          more_to_come true e = absurd (none-some line (sym (end_fine none.1 (ap (λ ls. is_end (item_before ls)) same ∙ e)) ∙ h))
          more_to_come false e =
              let told = sym (numbered.missing text (lines text) none.1 (ap (λ ls. is_end (item_before ls)) same ∙ e)) ∙ h in
              is_first line (length front) (one_number (line_number (length (lines text))) line told ∙ ap (λ ls. line_number (length ls)) same) good (end_bad none.0 e)
      by (inr some) =
          let long : length (lines text) ≡ length front + 1 = ap length (has.bare ∙ ap (λ ls. front ++ ls) some.1) ∙ length-append front (some.0 ∷ []) in
          let told = sym (numbered.cut text (lines text) some.3) ∙ h in
          is_first line (length front) (one_number (min (length (lines text)) 18446744073709551615) line told ∙ ap (λ (n : ℕ). min n 18446744073709551615) long) good (cut_bad some.0 some.1 some.2)

abbrev Told : List ℕ → ℕ → Type 0
Told text line = (before : ℕ) × (line ≡ line_number before) × IsFirstBad text before

told_by : AreNumbered → (text : List ℕ) (line : ℕ) (value : Certificate) (o p : Option ℕ) → first_fault line_fault [] (lines text) ≡ o → end_fault text (lines text) ≡ p → unless (or_else o p) value ≡ Err line → Told text line
told_by numbered text line value (Some a) p is ends h = line_bad numbered text (lines_of_text text) line (let same : a ≡ line = cc in is ∙ ap (λ (n : ℕ). Some n) same)
told_by numbered text line value None (Some a) is ends h = end_told numbered text (lines_of_text text) line is (let same : a ≡ line = cc in ends ∙ ap (λ (n : ℕ). Some n) same)
told_by numbered text line value None None is ends h = absurd (cc)

pub first_bad_is_told : AreNumbered → FirstBadIsTold
unfolding certificate_in
first_bad_is_told numbered text line h =
    told_by numbered text line (record { users = side_in User (lines text); groups = side_in Group (lines text) }) (first_fault line_fault [] (lines text)) (end_fault text (lines text)) refl refl h
