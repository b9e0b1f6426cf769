-- A text is read in one way.
use Rattle.std.proofs.Common.{◌≡◌, inl, inr, ℕ, List, [], ◌++◌, Result, Ok, Err, length, refl, sym, ◌∙◌, ap}
use Rattle.std.proofs.lemmas.List.{append-nil}
use Rattle.reown_plan.specs.PlanData.{PlanData}
use Rattle.reown_plan.specs.Spelling.{head, lines, end, spelling, IsLawful, IsFaultAt, no_head, no_record, trailing}
use Rattle.reown_plan.specs.Reading.{ReadsAs}
use Rattle.reown_plan.proofs.OneFront.{Front, Last, one_front, front_of, headless}
use Rattle.reown_plan.proofs.Unique.{spelling_unique}

module _ (text : List ℕ) where
  same_place : (p q : Front text) → Last text p → Last text q → length (head p.host ++ lines p.records) ≡ length (head q.host ++ lines q.records)
  same_place p q l m = (let u = one_front text p q l m in λ i. length (head (u.0 i) ++ lines (u.1 i)))

  same_spelling : (p q : Front text) → Last text p → Last text q → length (head p.host ++ lines p.records ++ end) ≡ length (head q.host ++ lines q.records ++ end)
  same_spelling p q l m = (let u = one_front text p q l m in λ i. length (head (u.0 i) ++ lines (u.1 i) ++ end))

  abbrev whole_front : (plan : PlanData) → IsLawful plan → text ≡ spelling plan → text ≡ spelling plan ++ []
  whole_front plan l e = e ∙ sym (append-nil (spelling plan))

  pub no_fault : (plan : PlanData) → IsLawful plan → text ≡ spelling plan → (offset : ℕ) → IsFaultAt text offset → ⊥
  no_fault plan l e offset (no_head none) = headless text (front_of text plan [] l (whole_front plan l e)) none
  no_fault plan l e offset (no_record host records rest name lawful distinct is none no_end) =
      let p : Front text = record { host = host; records = records; rest = rest; name = name; lawful = lawful; distinct = distinct; is = is } in
      let u = one_front text p (front_of text plan [] l (whole_front plan l e)) (inl none) (inr ([], refl)) in
      no_end [] u.2
  no_fault plan l e offset (trailing other rest lawful is some) = some (spelling_unique other plan rest lawful l (sym e ∙ is)).1

  pub one_fault : (a b : ℕ) → IsFaultAt text a → IsFaultAt text b → a ≡ b
  one_fault a b (no_head none) (no_head more) = refl
  one_fault a b (no_head none) (no_record host records rest name lawful distinct is n no_end) =
      absurd (headless text (record { host = host; records = records; rest = rest; name = name; lawful = lawful; distinct = distinct; is = is }) none)
  one_fault a b (no_head none) (trailing plan rest l e some) = absurd (headless text (front_of text plan rest l e) none)
  one_fault a b (no_record host records rest name lawful distinct is n no_end) (no_head none) =
      absurd (headless text (record { host = host; records = records; rest = rest; name = name; lawful = lawful; distinct = distinct; is = is }) none)
  one_fault a b (no_record host records rest name lawful distinct is n no_end) (no_record host1 records1 rest1 name1 lawful1 distinct1 is1 n1 open1) =
      same_place (record { host = host; records = records; rest = rest; name = name; lawful = lawful; distinct = distinct; is = is }) (record { host = host1; records = records1; rest = rest1; name = name1; lawful = lawful1; distinct = distinct1; is = is1 }) (inl n) (inl n1)
  one_fault a b (no_record host records rest name lawful distinct is n no_end) (trailing plan more l e some) =
      let u = one_front text (record { host = host; records = records; rest = rest; name = name; lawful = lawful; distinct = distinct; is = is }) (front_of text plan more l e) (inl n) (inr (more, refl)) in
      absurd (no_end more u.2)
  one_fault a b (trailing plan rest l e some) (no_head none) = absurd (headless text (front_of text plan rest l e) none)
  one_fault a b (trailing plan more l e some) (no_record host records rest name lawful distinct is n no_end) =
      let u = one_front text (record { host = host; records = records; rest = rest; name = name; lawful = lawful; distinct = distinct; is = is }) (front_of text plan more l e) (inl n) (inr (more, refl)) in
      absurd (no_end more u.2)
  one_fault a b (trailing plan rest l e some) (trailing plan1 rest1 l1 e1 some1) = same_spelling (front_of text plan rest l e) (front_of text plan1 rest1 l1 e1) (inr (rest, refl)) (inr (rest1, refl))

pub one_reading : (text : List ℕ) (one other : Result PlanData ℕ) → ReadsAs text one → ReadsAs text other → one ≡ other
one_reading text (Ok plan) (Ok other) a b = ap (λ p. Ok p) (spelling_unique plan other [] a.0 b.0 (sym b.1 ∙ a.1 ∙ sym (append-nil (spelling plan)))).0
one_reading text (Ok plan) (Err offset) a b = absurd (no_fault text plan a.0 a.1 offset b)
one_reading text (Err offset) (Ok plan) a b = absurd (no_fault text plan b.0 b.1 offset a)
one_reading text (Err offset) (Err other) a b = ap (λ o. Err o) (one_fault text offset other a b)
