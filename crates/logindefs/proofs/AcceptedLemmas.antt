-- Which texts are accepted, and what is told of any other.
use Rattle.std.proofs.Common.{◌≡◌, ◌⊎◌, ℕ, Bool, true, false, cond, List, [], ◌∷◌, length, take, Option, Some, None, is_some, Result, Ok, Err, refl, sym, ap, ◌∙◌, subst, arith, inl, inr, bytes_eq}
use Rattle.std.specs.Prelude.{◌||◌, nat_lt, codes}
use Rattle.std.specs.List.{Contains, list_any}
use Rattle.std.proofs.lemmas.Bool.{and_from, and_parts, cases_Bool, ltb-true, ltb-false, or_parts, true≢false}
use Rattle.std.proofs.lemmas.List.Folds.{Any-from_list_any, list_any-from_Any}
use Rattle.std.proofs.lemmas.Option.{same_Some}
use Rattle.std.proofs.lemmas.Slice.Eq.{bytes_eq-Decides}
use Rattle.idtext.specs.declared.faults.TextCode.TheVariants.{LineTooLong, BadNumber, RangesOverlap}
use Rattle.idtext.specs.declared.faults.TextFault.{TextFault}
use Rattle.idtext.specs.Faults.{line_number}
use Rattle.idtext.specs.First.{◌>>=◌, first_fault, unless}
use Rattle.idtext.specs.Numbers.{c_number_of}
use Rattle.idtext.specs.Pieces.{lines as lines_of}
use Rattle.idtext.specs.Words.{words}
use Rattle.idtext.proofs.OkLemmas.{bind_ok, ok_same, unless_ok}
use Rattle.logindefs.specs.declared.parameters.Parameter.{Parameter}
use Rattle.logindefs.specs.declared.parameters.Parameter.TheVariants.{UidMin, UidMax, SysUidMin, SysUidMax, GidMin, GidMax, SysGidMin, SysGidMax}
use Rattle.logindefs.specs.declared.ranges.IdRange.{IdRange}
use Rattle.logindefs.specs.declared.ranges.HostRanges.{HostRanges}
use Rattle.logindefs.specs.Accepted.{AllMayStand, FirstWrongLineIsTold, GivesValue, IsAccepted, IsFirstWrong, IsNumber, IsWrong, MayStand, RangesAreAccepted, RangesShare, eight_names, last_ranges}
use Rattle.logindefs.specs.Parameters.{fault_behind, line_fault, number_fault, parameter_named, set_by, set_to, setting_fault, setting_of, without_quotes}
use Rattle.logindefs.specs.Ranges.{AreApart, IsHostRanges, apart, in_range, ranges_of, share}
use Rattle.idtext.proofs.FaultLemmas.{all_fine, fault_found, front-size}
use Rattle.logindefs.proofs.SetLemmas.{shared-both}

-- ---- names

some_or : (b t : Bool) (p : Parameter) (o : Option Parameter) → is_some o ≡ t → is_some (cond b (Some p) o) ≡ (b || t)
some_or true t p o e = refl
some_or false t p o e = e

some_named : (word : List ℕ) → is_some (parameter_named word) ≡ list_any (bytes_eq word) eight_names
unfolding parameter_named
some_named word =
    some_or (bytes_eq word (codes "UID_MIN")) _ UidMin _
    (some_or (bytes_eq word (codes "UID_MAX")) _ UidMax _
    (some_or (bytes_eq word (codes "SYS_UID_MIN")) _ SysUidMin _
    (some_or (bytes_eq word (codes "SYS_UID_MAX")) _ SysUidMax _
    (some_or (bytes_eq word (codes "GID_MIN")) _ GidMin _
    (some_or (bytes_eq word (codes "GID_MAX")) _ GidMax _
    (some_or (bytes_eq word (codes "SYS_GID_MIN")) _ SysGidMin _
    (some_or (bytes_eq word (codes "SYS_GID_MAX")) false SysGidMax None refl)))))))

named-there : (word : List ℕ) (p : Parameter) → parameter_named word ≡ Some p → Contains eight_names word
named-there word p e =
    let any = Any-from_list_any (bytes_eq word) eight_names (sym (some_named word) ∙ ap is_some e) in
    let same = (bytes_eq-Decides word any.1).0 any.4 in
    subst (λ (w : List ℕ). Contains eight_names w) (sym same) (any.0, any.2, any.3)

there-named : (word : List ℕ) → Contains eight_names word → is_some (parameter_named word) ≡ true
there-named word there =
    some_named word ∙ list_any-from_Any (bytes_eq word) eight_names (there.0, word, there.1, there.2, (bytes_eq-Decides word word).1 refl)

-- ---- values

no-number : (n : ℕ) (o : Option ℕ) → number_fault n o ≡ None → (number : ℕ) × (o ≡ Some number)
no-number n None e = absurd (cc)
no-number n (Some number) e = (number, refl)

number-of-set : (n : ℕ) (named : Option Parameter) (value : List ℕ) → is_some named ≡ true → setting_fault n (set_to named value) ≡ None → IsNumber value
number-of-set n None value some e = absurd (true≢false (sym some))
number-of-set n (Some p) value some e = no-number n (c_number_of (without_quotes value)) e

number-given : (n : ℕ) (line value : List ℕ) → setting_fault n (setting_of line) ≡ None → GivesValue line value → IsNumber value
unfolding setting_of
number-given n line value e gives =
    number-of-set n (parameter_named gives.name) value (there-named gives.name gives.is_name)
    (ap (λ ws. setting_fault n (set_by ws)) (sym gives.words_are) ∙ e)

abbrev GivesNone : List ℕ → Type 0
GivesNone line = (value : List ℕ) × GivesValue line value × (¬ IsNumber value)

abbrev bad_number : ℕ → TextFault
bad_number n = record { code = BadNumber; line = n }

abbrev too_long : ℕ → TextFault
too_long n = record { code = LineTooLong; line = n }

a-number : (n : ℕ) (o : Option ℕ) (f : TextFault) → number_fault n o ≡ Some f → (bad_number n ≡ f) × (¬ ((number : ℕ) × (o ≡ Some number)))
a-number n None f e = (same_Some (bad_number n) f e, λ some. absurd (no some.0 some.1))
  where
    no : (number : ℕ) → ◌≡◌ {A = Option ℕ} None (Some number) → ⊥
    no number e = absurd (cc)
a-number n (Some number) f e = absurd (cc)

set-fails : (n : ℕ) (line name value : List ℕ) (more : List (List ℕ)) (named : Option Parameter) (f : TextFault) → words line ≡ name ∷ value ∷ more → parameter_named name ≡ named → setting_fault n (set_to named value) ≡ Some f → (bad_number n ≡ f) × GivesNone line
set-fails n line name value more None f w is e = absurd (cc)
set-fails n line name value more (Some p) f w is e =
    let both = a-number n (c_number_of (without_quotes value)) f e in
    (both.0, (value, record { name = name; is_name = named-there name p is; more = more; words_are = w }, both.1))

words-fail : (n : ℕ) (line : List ℕ) (ws : List (List ℕ)) (f : TextFault) → words line ≡ ws → setting_fault n (set_by ws) ≡ Some f → (bad_number n ≡ f) × GivesNone line
words-fail n line [] f w e = absurd (cc)
words-fail n line (name ∷ []) f w e = absurd (cc)
words-fail n line (name ∷ value ∷ more) f w e = set-fails n line name value more (parameter_named name) f w refl e

setting-fails : (n : ℕ) (line : List ℕ) (f : TextFault) → setting_fault n (setting_of line) ≡ Some f → (bad_number n ≡ f) × GivesNone line
unfolding setting_of
setting-fails n line f e = words-fail n line (words line) f refl e

-- ---- lines

passes : (n : ℕ) (line : List ℕ) → line_fault n line ≡ None → MayStand line
passes n line e = elim (cases_Bool (nat_lt 65535 (length line))) [
  | inl long ↦ let e' = rw long at e in absurd (cc)
  | inr short ↦
      let e' = rw short at e in
      record { short = ltb-false 65535 (length line) short; number = λ value gives. number-given n line value e' gives }
]

fails : (n : ℕ) (line : List ℕ) (f : TextFault) → line_fault n line ≡ Some f → (f.line ≡ n) × IsWrong line f.code
fails n line f e = elim (cases_Bool (nat_lt 65535 (length line))) [
  | inl long ↦
      let e' = rw long at e in
      let same = same_Some (too_long n) f e' in
      (sym (ap (λ (g : TextFault). g.line) same), inl (sym (ap (λ (g : TextFault). g.code) same), ltb-true 65535 (length line) long))
  | inr short ↦
      let e' = rw short at e in
      let found = setting-fails n line f e' in
      (sym (ap (λ (g : TextFault). g.line) found.0), inr (sym (ap (λ (g : TextFault). g.code) found.0), ltb-false 65535 (length line) short, found.1.0, found.1.1, found.1.2))
]

not-both : (line : List ℕ) (f : TextFault) → IsWrong line f.code → MayStand line → ⊥
not-both line f (inl long) may = let short = may.short in let more = long.1 in omega (arith, short, more)
not-both line f (inr none) may = none.4 (may.number none.2 none.3)

first-wrong : (lines : List (List ℕ)) (f : TextFault) → first_fault fault_behind [] lines ≡ Some f → IsFirstWrong lines f
first-wrong lines f e =
    let found = fault_found fault_behind [] lines f e in
    let failed = fails (line_number (length (take found.count lines))) found.item f found.told in
    record {
      before = found.count;
      line = found.item;
      there = found.there;
      good = λ i earlier lt is. passes (line_number (length (take i lines))) earlier (found.fine i earlier lt is);
      numbered = failed.0 ∙ ap line_number (front-size lines found.count found.item found.there);
      wrong = failed.1;
    }

all-stand : (lines : List (List ℕ)) → first_fault fault_behind [] lines ≡ None → AllMayStand lines
all-stand lines e i line is = passes (line_number (length (take i lines))) line (all_fine fault_behind [] lines e i line is)

none-wrong : (lines : List (List ℕ)) → AllMayStand lines → first_fault fault_behind [] lines ≡ None
none-wrong lines all = by (first_fault fault_behind [] lines) refl
  where
    by : (o : Option TextFault) → first_fault fault_behind [] lines ≡ o → o ≡ None
    by None e = refl
    by (Some f) e =
        let first = first-wrong lines f e in
        absurd (not-both first.line f first.wrong (all first.before first.line first.there))

-- ---- ranges

share-apart : (r s : IdRange) → share r s ≡ false → AreApart r s
share-apart r s none number there = elim (cases_Bool (in_range s number)) [
  | inl it ↦ absurd (true≢false (sym ((shared-both r s).1 (number, and_from (in_range r number) (in_range s number) there it)) ∙ none))
  | inr other ↦ other
]

apart-share : (r s : IdRange) → AreApart r s → share r s ≡ false
apart-share r s none = elim (cases_Bool (share r s)) [
  | inl it ↦
      let found = (shared-both r s).0 it in
      let both = and_parts (in_range r found.0) (in_range s found.0) found.1 in
      absurd (true≢false (sym both.1 ∙ none found.0 both.0))
  | inr other ↦ other
]

abbrev overlap : HostRanges → Bool
overlap ranges = share ranges.uid ranges.sys_uid || share ranges.gid ranges.sys_gid

apart-ok : (ranges told : HostRanges) → apart ranges ≡ Ok told → (ranges ≡ told) × IsHostRanges ranges
unfolding apart
apart-ok ranges told e = elim (cases_Bool (overlap ranges)) [
  | inl it ↦ let e' = rw it at e in absurd (cc)
  | inr none ↦
      let e' = rw none at e in
      let both = or_parts (share ranges.uid ranges.sys_uid) (share ranges.gid ranges.sys_gid) none in
      (ok_same ranges told e', record { uids_apart = share-apart ranges.uid ranges.sys_uid both.0; gids_apart = share-apart ranges.gid ranges.sys_gid both.1 })
]

ok-apart : (ranges : HostRanges) → IsHostRanges ranges → apart ranges ≡ Ok ranges
unfolding apart
ok-apart ranges lawful = rw (apart-share ranges.uid ranges.sys_uid lawful.uids_apart, apart-share ranges.gid ranges.sys_gid lawful.gids_apart) refl

abbrev overlap_fault : TextFault
overlap_fault = record { code = RangesOverlap; line = 0 }

shared-number : (r s : IdRange) → share r s ≡ true → (number : ℕ) × (in_range r number ≡ true) × (in_range s number ≡ true)
shared-number r s it =
    let found = (shared-both r s).0 it in
    let both = and_parts (in_range r found.0) (in_range s found.0) found.1 in
    (found.0, both.0, both.1)

apart-err : (lines : List (List ℕ)) (f : TextFault) → AllMayStand lines → apart (last_ranges lines) ≡ Err f → RangesShare lines f
unfolding apart
apart-err lines f all e = by (share (last_ranges lines).uid (last_ranges lines).sys_uid) (share (last_ranges lines).gid (last_ranges lines).sys_gid) refl refl e
  where
    by : (users groups : Bool) → share (last_ranges lines).uid (last_ranges lines).sys_uid ≡ users → share (last_ranges lines).gid (last_ranges lines).sys_gid ≡ groups
        → ◌≡◌ {A = Result HostRanges TextFault} (cond (users || groups) (Err overlap_fault) (Ok (last_ranges lines))) (Err f) → RangesShare lines f
    by true groups u g e =
        let found = shared-number (last_ranges lines).uid (last_ranges lines).sys_uid u in
        record { good = all; whole_text = sym (same e); number = found.0; in_both = inl (found.1, found.2) }
      where
        same : ◌≡◌ {A = Result HostRanges TextFault} (Err overlap_fault) (Err f) → overlap_fault ≡ f
        same e = cc
    by false true u g e =
        let found = shared-number (last_ranges lines).gid (last_ranges lines).sys_gid g in
        record { good = all; whole_text = sym (same e); number = found.0; in_both = inr (found.1, found.2) }
      where
        same : ◌≡◌ {A = Result HostRanges TextFault} (Err overlap_fault) (Err f) → overlap_fault ≡ f
        same e = cc
    by false false u g e = absurd (cc)

-- ---- the laws

pub ranges_accepted : RangesAreAccepted
unfolding ranges_of
ranges_accepted text ranges = (there, back)
  where
    there : ranges_of text ≡ Ok ranges → IsAccepted text ranges
    there e =
        let steps = bind_ok (unless (first_fault fault_behind [] (lines_of text)) (last_ranges (lines_of text))) apart ranges e in
        let read = unless_ok (first_fault fault_behind [] (lines_of text)) (last_ranges (lines_of text)) steps.0 steps.1 in
        let told = apart-ok steps.0 ranges steps.2 in
        record {
          lines_may_stand = all-stand (lines_of text) read.0;
          ranges_are = sym told.0 ∙ sym read.1;
          apart = subst (λ (r : HostRanges). IsHostRanges r) told.0 told.1;
        }

    back : IsAccepted text ranges → ranges_of text ≡ Ok ranges
    back is =
        ap (λ o. unless o (last_ranges (lines_of text)) >>= apart) (none-wrong (lines_of text) is.lines_may_stand)
        ∙ ap apart (sym is.ranges_are) ∙ ok-apart ranges is.apart

pub first_wrong_told : FirstWrongLineIsTold
unfolding ranges_of
first_wrong_told text f e = by (first_fault fault_behind [] (lines_of text)) refl e
  where
    by : (o : Option TextFault) → first_fault fault_behind [] (lines_of text) ≡ o → unless o (last_ranges (lines_of text)) >>= apart ≡ Err f
        → IsFirstWrong (lines_of text) f ⊎ RangesShare (lines_of text) f
    by None is e = inr (apart-err (lines_of text) f (all-stand (lines_of text) is) e)
    by (Some g) is e = inl (first-wrong (lines_of text) f (is ∙ ap (λ (x : TextFault). Some x) (same e)))
      where
        same : ◌≡◌ {A = Result HostRanges TextFault} (Err g) (Err f) → g ≡ f
        same e = cc
