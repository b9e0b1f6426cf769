-- Bytes without a newline that the line in progress takes at once.
use Rattle.std.proofs.Common.{◌≡◌, ℕ, ◌<◌, ◌-◌, Bool, true, false, cond, List, [], ◌∷◌, ◌++◌, length, take, get_or, refl, sym, ap, ◌∙◌, append_assoc, arith}
use Rattle.std.proofs.lemmas.Bool.{eqb-true, false≢true}
use Rattle.std.specs.Prelude.{Option, Some, None, Result, Ok, Err, OnOk, ◌==◌}
use Rattle.std.specs.declared.alloc.AllocError.{AllocError}
use Rattle.mtree_inv.specs.declared.open_line.Ends.{Ends}
use Rattle.mtree_inv.specs.declared.open_line.Ends.TheVariants.{Nothing, Joined, Byte, Backslash}
use Rattle.mtree_inv.specs.Looking.{all_but_last}
use Rattle.mtree_inv.specs.Logical.{next_number, ends_in_backslash}
use Rattle.mtree_inv.specs.Machine.{Kept, step}
use Rattle.mtree_inv.specs.Reading.{Open, clip, grown, held, with_plain, with_backslash, with_bytes, is_joining, fresh, clipped_kind, after_step, with_newline}
use Rattle.mtree_inv.proofs.JoinLemmas.{whole_of_body}
use Rattle.mtree_inv.proofs.LineLemmas.{clip-grown}
use Rattle.mtree_inv.proofs.ReadLemmas.{reading_at, newline-line}

-- ---- the last byte

pub last-is : (bytes : List ℕ) → 0 < length bytes → (get_or bytes (length bytes - 1) 0 == 92) ≡ ends_in_backslash bytes
last-is [] some = absurd (omega (arith, some))
last-is (b ∷ bytes) some =
    let less : length (b ∷ bytes) - 1 ≡ length bytes = omega arith in
    ap (λ (n : ℕ). get_or (b ∷ bytes) n 0 == 92) less ∙ by b bytes
  where
    by : (b : ℕ) (bytes : List ℕ) → (get_or (b ∷ bytes) (length bytes) 0 == 92) ≡ ends_in_backslash (b ∷ bytes)
    by b [] = refl
    by b (c ∷ bytes) = by c bytes

pub front-is : (bytes : List ℕ) → take (length bytes - 1) bytes ≡ all_but_last bytes
front-is [] = refl
front-is (b ∷ bytes) =
    let less : length (b ∷ bytes) - 1 ≡ length bytes = omega arith in
    ap (λ (n : ℕ). take n (b ∷ bytes)) less ∙ by b bytes
  where
    by : (b : ℕ) (bytes : List ℕ) → take (length bytes) (b ∷ bytes) ≡ all_but_last (b ∷ bytes)
    by b [] = refl
    by b (c ∷ bytes) = ap (λ (l : List ℕ). b ∷ l) (by c bytes)

-- ---- what bytes come to

grown-twice : (joined : Option (List ℕ)) (a b : List ℕ) → grown (grown joined a) b ≡ grown joined (a ++ b)
grown-twice None a b = refl
grown-twice (Some bytes) a b = clip-grown (bytes ++ a) b ∙ ap clip (append_assoc bytes a b)

-- the bytes, with the backslash at their end
abbrev settled : Open → Option (List ℕ)
settled line = held line.ends line.joined

settled-one : (line : Open) (b : ℕ) → settled (with_bytes line (b ∷ [])) ≡ grown (settled line) (b ∷ [])
settled-one line b = by (b == 92) refl
  where
    by : (t : Bool) → (b == 92) ≡ t → settled (cond t (with_backslash line) (with_plain line (b ∷ []))) ≡ grown (settled line) (b ∷ [])
    by true e = ap (λ (n : ℕ). grown (settled line) (n ∷ [])) (sym (eqb-true b 92 e))
    by false e = refl

settled-bytes : (line : Open) (b : ℕ) (bytes : List ℕ) → settled (with_bytes line (b ∷ bytes)) ≡ grown (settled line) (b ∷ bytes)
settled-bytes line b [] = settled-one line b
settled-bytes line b (c ∷ bytes) =
    settled-bytes (with_bytes line (b ∷ [])) c bytes
    ∙ ap (λ (j : Option (List ℕ)). grown j (c ∷ bytes)) (settled-one line b)
    ∙ grown-twice (settled line) (b ∷ []) (c ∷ bytes)

-- the rest of what they come to
record IsAfter (line : Open) (last : Bool) (new : Open) : Type 0 where
  ends : new.ends ≡ cond last Backslash Byte
  first : new.first ≡ line.first
  current : new.current ≡ line.current

after-one : (line : Open) (b : ℕ) → IsAfter line (b == 92) (with_bytes line (b ∷ []))
after-one line b = by (b == 92)
  where
    by : (t : Bool) → IsAfter line t (cond t (with_backslash line) (with_plain line (b ∷ [])))
    by true = record { ends = refl; first = refl; current = refl }
    by false = record { ends = refl; first = refl; current = refl }

after-bytes : (line : Open) (b : ℕ) (bytes : List ℕ) → IsAfter line (ends_in_backslash (b ∷ bytes)) (with_bytes line (b ∷ bytes))
after-bytes line b [] = after-one line b
after-bytes line b (c ∷ bytes) =
    let one = after-one line b in
    let more = after-bytes (with_bytes line (b ∷ [])) c bytes in
    record { ends = more.ends; first = more.first ∙ one.first; current = more.current ∙ one.current }

abbrev open_of : Option (List ℕ) → Ends → ℕ → ℕ → Open
open_of joined ends first current = record { joined = joined; ends = ends; first = first; current = current }

open-is : (line : Open) (joined : Option (List ℕ)) (ends : Ends) (first current : ℕ) → line.joined ≡ joined → line.ends ≡ ends → line.first ≡ first → line.current ≡ current
    → line ≡ open_of joined ends first current
open-is line joined ends first current j e f c =
    ap (λ (x : Option (List ℕ)). open_of x line.ends line.first line.current) j
    ∙ ap (λ (x : Ends). open_of joined x line.first line.current) e
    ∙ ap (λ (x : ℕ). open_of joined ends x line.current) f
    ∙ ap (λ (x : ℕ). open_of joined ends first x) c

pub bytes-none : (line : Open) (bytes : List ℕ) → length bytes ≡ 0 → line ≡ with_bytes line bytes
bytes-none line [] none = refl
bytes-none line (b ∷ bytes) none = absurd (omega (arith, none))

-- what follows from what holds where a call succeeds
pub ok-then : {P Q : Type 0} (result : Result (Unit {0}) AllocError) → (P → Q) → OnOk result P → OnOk result Q
ok-then (Ok u) f h = f h
ok-then (Err e) f h = h

-- bytes that end in no backslash
joined-plain : (line : Open) (b : ℕ) (bytes : List ℕ) → ends_in_backslash (b ∷ bytes) ≡ false → (with_bytes line (b ∷ bytes)).joined ≡ grown (settled line) (b ∷ bytes)
joined-plain line b bytes plain =
    let new = with_bytes line (b ∷ bytes) in
    let ends : new.ends ≡ Byte = (after-bytes line b bytes).ends ∙ ap (λ (t : Bool). cond t Backslash Byte) plain in
    sym (ap (λ (x : Ends). held x new.joined) ends) ∙ settled-bytes line b bytes

pub bytes-plain : (line : Open) (bytes : List ℕ) → 0 < length bytes → ends_in_backslash bytes ≡ false → with_plain line bytes ≡ with_bytes line bytes
bytes-plain line [] some plain = absurd (omega (arith, some))
bytes-plain line (b ∷ bytes) some plain =
    let after = after-bytes line b bytes in
    sym (open-is (with_bytes line (b ∷ bytes)) (grown (settled line) (b ∷ bytes)) Byte line.first line.current
    (joined-plain line b bytes plain) (after.ends ∙ ap (λ (t : Bool). cond t Backslash Byte) plain) after.first after.current)

-- bytes that end in one
bytes-snoc : (line : Open) (bytes : List ℕ) → with_bytes line (bytes ++ 92 ∷ []) ≡ with_backslash (with_bytes line bytes)
bytes-snoc line [] = refl
bytes-snoc line (b ∷ bytes) = bytes-snoc (with_bytes line (b ∷ [])) bytes

pub bytes-backslash : (line : Open) (front bytes : List ℕ) → ends_in_backslash bytes ≡ true → front ≡ take (length bytes - 1) bytes → with_backslash (with_bytes line front) ≡ with_bytes line bytes
bytes-backslash line front bytes ends at =
    sym (bytes-snoc line front)
    ∙ ap (λ (f : List ℕ). with_bytes line (f ++ 92 ∷ [])) (at ∙ front-is bytes) ∙ ap (with_bytes line) (whole_of_body bytes ends)

pub front-plain : (line : Open) (front : List ℕ) → 0 < length front → with_backslash (with_plain line front) ≡ with_backslash (with_bytes line front)
front-plain line [] some = absurd (omega (arith, some))
front-plain line (b ∷ front) some =
    let after = after-bytes line b front in
    sym (open-is (with_backslash (with_bytes line (b ∷ front))) (grown (settled line) (b ∷ front)) Backslash line.first line.current
    (settled-bytes line b front) refl after.first after.current)

-- ---- a line of which nothing has come before its newline is at hand

pub clear-held : (ends : Ends) (joined : Option (List ℕ)) → is_joining ends ≡ false → held ends joined ≡ joined
clear-held Nothing joined e = refl
clear-held Joined joined e = refl
clear-held Byte joined e = refl
clear-held Backslash joined e = absurd (false≢true (sym e))

record IsWhole (line : Open) (bytes : List ℕ) (new : Open) : Type 0 where
  joins : is_joining new.ends ≡ false
  joined : new.joined ≡ clip bytes
  first : new.first ≡ line.first
  current : new.current ≡ line.current

is_whole : (line : Open) (bytes : List ℕ) → is_joining line.ends ≡ false → line.joined ≡ Some [] → ends_in_backslash bytes ≡ false → IsWhole line bytes (with_bytes line bytes)
is_whole line [] joins none plain = record { joins = joins; joined = none; first = refl; current = refl }
is_whole line (b ∷ bytes) joins none plain =
    let after = after-bytes line b bytes in record {
      joins = ap is_joining (after.ends ∙ ap (λ (t : Bool). cond t Backslash Byte) plain);
      joined = joined-plain line b bytes plain ∙ ap (λ (j : Option (List ℕ)). grown j (b ∷ bytes)) (clear-held line.ends line.joined joins ∙ none);
      first = after.first;
      current = after.current;
    }

pub whole-line : (most : ℕ) (kept : Kept) (line : Open) (bytes : List ℕ) → is_joining line.ends ≡ false → line.joined ≡ Some [] → ends_in_backslash bytes ≡ false
    → with_newline most (reading_at kept (with_bytes line bytes))
    ≡ after_step (step most kept (clipped_kind (clip bytes) false)) (reading_at kept (with_bytes line bytes)) line.first (fresh (next_number line.current))
whole-line most kept line bytes joins none plain =
    let new = with_bytes line bytes in
    let whole = is_whole line bytes joins none plain in
    newline-line most (reading_at kept new) whole.joins
    ∙ ap (λ (j : Option (List ℕ)). after_step (step most kept (clipped_kind j false)) (reading_at kept new) new.first (fresh (next_number new.current))) whole.joined
    ∙ ap (λ (n : ℕ). after_step (step most kept (clipped_kind (clip bytes) false)) (reading_at kept new) n (fresh (next_number new.current))) whole.first
    ∙ ap (λ (n : ℕ). after_step (step most kept (clipped_kind (clip bytes) false)) (reading_at kept new) line.first (fresh (next_number n))) whole.current
