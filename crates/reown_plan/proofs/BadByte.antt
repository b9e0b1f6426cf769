-- The byte of a fault is after the longest front of the text.
use Rattle.std.proofs.Common.{◌≡◌, ◌≢◌, ◌≤◌, ◌+◌, inl, inr, ℕ, List, ◌++◌, length, take, drop, refl, sym, ◌∙◌, ap, arith, length-append, length-drop, take-append-drop}
use Rattle.std.proofs.Math.Seq.{take-append_seam}
use Rattle.std.proofs.lemmas.List.{append_cancel_left, append_cancel_right}
use Rattle.reown_plan.specs.PlanData.{PlanRecord, PlanData}
use Rattle.reown_plan.specs.Spelling.{head, lines, end, spelling, IsLawful, no_head, no_record, trailing}
use Rattle.reown_plan.specs.BadByte.{IsGoodTo, BadByteIsTold}
use Rattle.reown_plan.proofs.OneFront.{Front, Goes, goes, Stands, Last, lines_front, same_host, last_stops, one_front, front_of, headless}

not_longer : (rest other : List ℕ) (more : List PlanRecord) → Goes rest other more → length other ≤ length rest
not_longer rest other more (goes l e) = omega (arith, ap length e ∙ length-append (lines more) other)

module _ (text : List ℕ) where
  -- no front goes further than one that is where its reading stops
  furthest : (p q : Front text) → Last text p → length p.rest ≤ length q.rest
  furthest p q last =
      elim (lines_front p.records q.records p.rest q.rest p.lawful q.lawful (same_host text p q).1) [
        | inl s ↦ (let same : length p.rest ≡ length q.rest = ap length (last_stops text p q last s.0 s.1 s.2).1 in omega (arith, same))
        | inr s ↦ not_longer q.rest p.rest s.0 s.2
      ]

  -- the front of good bytes, and what is after them
  abbrev whole_front : (count : ℕ) (plan : PlanData) → IsLawful plan → take count text ≡ spelling plan → Front text
  whole_front count plan l e = front_of text plan (drop count text) l (sym (take-append-drop count text) ∙ ap (λ t. t ++ drop count text) e)

  abbrev open_front : (count : ℕ) (plan : PlanData) → IsLawful plan → take count text ++ end ≡ spelling plan → Front text
  open_front count plan l e = record {
    host = plan.host;
    records = plan.records;
    rest = drop count text;
    name = l.host;
    lawful = l.records;
    distinct = l.distinct;
    is = sym (take-append-drop count text) ∙ ap (λ t. t ++ drop count text) (append_cancel_right (take count text) (head plan.host ++ lines plan.records) end e);
  }

  front_to : (count : ℕ) → IsGoodTo text count → Front text
  front_to count (small, inl (plan, (l, e))) = whole_front count plan l e
  front_to count (small, inr (plan, (l, e))) = open_front count plan l e

  no_record_bound : (p : Front text) → Stands text p → ((after : List ℕ) → p.rest ≢ end ++ after) → (count : ℕ) → IsGoodTo text count → count + length p.rest ≤ length text
  no_record_bound p none no_end count (small, inl (plan, (l, e))) =
      let u = one_front text p (whole_front count plan l e) (inl none) (inr (drop count text, refl)) in
      absurd (no_end (drop count text) u.2)
  no_record_bound p none no_end count (small, inr (plan, (l, e))) =
      let far : length p.rest ≤ length (drop count text) = furthest p (open_front count plan l e) (inl none) in
      omega (arith, far, small, length-drop count text)

  trailing_bound : (plan : PlanData) (rest : List ℕ) → IsLawful plan → text ≡ spelling plan ++ rest → (count : ℕ) → IsGoodTo text count → count + length rest ≤ length text
  trailing_bound plan rest l is count (small, inl (other, (m, e))) =
      let u = one_front text (front_of text plan rest l is) (whole_front count other m e) (inr (rest, refl)) (inr (drop count text, refl)) in
      let same : length rest ≡ length (drop count text) = ap length (append_cancel_left end rest (drop count text) u.2) in
      omega (arith, same, small, length-drop count text)
  trailing_bound plan rest l is count (small, inr (other, (m, e))) =
      let far : length (end ++ rest) ≤ length (drop count text) = furthest (front_of text plan rest l is) (open_front count other m e) (inr (rest, refl)) in
      omega (arith, far, small, length-drop count text, length-append end rest)

first_bytes : (a rest text : List ℕ) → text ≡ a ++ rest → take (length a) text ≡ a
first_bytes a rest text e = ap (take (length a)) e ∙ take-append_seam a rest

size_of : (a rest text : List ℕ) → text ≡ a ++ rest → length text ≡ length a + length rest
size_of a rest text e = ap length e ∙ length-append a rest

pub bad_byte : BadByteIsTold
bad_byte text offset (no_head none) = (inl refl, λ count good. absurd (headless text (front_to text count good) none))
bad_byte text offset (no_record host records rest name lawful distinct is none no_end) =
    let p : Front text = record { host = host; records = records; rest = rest; name = name; lawful = lawful; distinct = distinct; is = is } in
    let plan : PlanData = record { host = host; records = records } in
    let front = head host ++ lines records in
    let size = size_of front rest text is in
    let good : take (length front) text ++ end ≡ spelling plan = ap (λ t. t ++ end) (first_bytes front rest text is) in (
      inr (omega (arith, size), inr (plan, (record { host = name; records = lawful; distinct = distinct }, good))),
      λ count is_good. (let bound = no_record_bound text p none no_end count is_good in omega (arith, bound, size)),
    )
bad_byte text offset (trailing plan rest l is some) =
    let size = size_of (spelling plan) rest text is in (
      inr (omega (arith, size), inl (plan, (l, first_bytes (spelling plan) rest text is))),
      λ count is_good. (let bound = trailing_bound text plan rest l is count is_good in omega (arith, bound, size)),
    )
