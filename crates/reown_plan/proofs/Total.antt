-- Each text is read: as a plan, or with the place of its fault.
use Rattle.std.proofs.Common.{◌≡◌, ◌≢◌, ℕ, zero, suc, ◌<◌, List, [], ◌∷◌, ◌++◌, Result, Ok, Err, All, length, get_or, length-append, sym, ◌∙◌, ap, subst, arith, append_assoc, append-nil, inl, inr, true≢false}
use Rattle.std.specs.Cmp.Lexicographic.{bytes_decides}
use Rattle.std.specs.Str.{bytes_eq}
use Rattle.std.proofs.lemmas.Bool.{cases_Bool, cases_lt}
use Rattle.std.proofs.lemmas.List.{get_or_append_left, get_or_push, length_push}
use Rattle.std.proofs.lemmas.List.Elements.{All-nil, All-push}
use Rattle.reown_plan.specs.PlanData.{PlanRecord, PlanData, HaveDistinctPaths}
use Rattle.reown_plan.specs.Spelling.{number, head, line, lines, end, spelling, IsHostName, IsLawfulRecord, no_head, no_record, trailing}
use Rattle.reown_plan.specs.Reading.{ReadsAs}
use Rattle.reown_plan.proofs.Begins.{Decided, decided_all, Stands, decided_begun, decided_line, decided_head}
use Rattle.reown_plan.proofs.Lines.{lines-append}
use Rattle.reown_plan.proofs.Unique.{line_unique}
use Rattle.reown_plan.proofs.Wholes.{end_no_line_more}

decided_path_other : (path : List ℕ) (d : PlanRecord) → Decided (d.path ≢ path)
decided_path_other path d = elim (cases_Bool (bytes_eq d.path path)) [
  | inl same ↦ inr (λ differ. differ ((bytes_decides d.path path).0 same))
  | inr other ↦ inl (λ e. true≢false (sym ((bytes_decides d.path path).1 e) ∙ other))
]

-- one more record of another path
distinct_push : (records : List PlanRecord) (c : PlanRecord) → HaveDistinctPaths records → All (λ d. d.path ≢ c.path) records → HaveDistinctPaths (records ++ c ∷ [])
distinct_push records c apart others i j d less within e =
    let push = length_push records c in
    let first : get_or (records ++ c ∷ []) i d ≡ get_or records i d = get_or_append_left records (c ∷ []) d i (omega (arith, push)) in
    elim (cases_lt j (length records)) [
      | inl below ↦ apart i j d less below (sym (ap (λ (x : PlanRecord). x.path) first) ∙ e ∙ ap (λ (x : PlanRecord). x.path) (get_or_append_left records (c ∷ []) d j below))
      | inr past ↦ others i d (omega (arith, push)) (sym (ap (λ (x : PlanRecord). x.path) first) ∙ e ∙ ap (λ (x : PlanRecord). x.path) (get_or_push records c d j (omega (arith, push))))
    ]

abbrev IsRead : List ℕ → Type 0
IsRead text = (r : Result PlanData ℕ) × ReadsAs text r

line_filled : (c : PlanRecord) (after : List ℕ) → length after < length (line c ++ after)
line_filled c after =
    let front = number c.before.uid ++ number c.before.gid ++ number c.after.uid ++ number c.after.gid ++ number (length c.path) ++ c.path in
    omega (arith, length-append (line c) after, length-append front (10 ∷ []))

module _ (text host : List ℕ) (name : IsHostName host) where
  -- after an end
  ended : (records : List PlanRecord) → All IsLawfulRecord records → HaveDistinctPaths records → (more : List ℕ) → text ≡ head host ++ lines records ++ (end ++ more) → IsRead text
  ended records lawful distinct [] read =
      (Ok (record { host = host; records = records }), (record { host = name; records = lawful; distinct = distinct }, read))
  ended records lawful distinct (x ∷ more) read =
      let plan : PlanData = record { host = host; records = records } in
      (Err (length (spelling plan)), trailing plan (x ∷ more) (record { host = name; records = lawful; distinct = distinct }) (read ∙ sym (append_assoc (head host ++ lines records) end (x ∷ more))) (λ none. cc))

  -- where no record stands
  stopped : (records : List PlanRecord) (rest : List ℕ) → All IsLawfulRecord records → HaveDistinctPaths records → text ≡ head host ++ lines records ++ rest → ((c : PlanRecord) → Stands rest c → ⊥) → IsRead text
  stopped records rest lawful distinct read none = elim (decided_begun end rest) [
    | inl b ↦ ended records lawful distinct b.0 (read ∙ ap (λ r. head host ++ lines records ++ r) b.1)
    | inr apart ↦ (Err (length (head host ++ lines records)), no_record host records rest name lawful distinct read (λ c after l others e. none c (l, (after, e))) (λ after e. apart (after, e)))
  ]

  -- after a lawful header and these lawful records; fuel: more than the bytes that are left
  read_on : (fuel : ℕ) (records : List PlanRecord) (rest : List ℕ) → All IsLawfulRecord records → HaveDistinctPaths records → text ≡ head host ++ lines records ++ rest → length rest < fuel → IsRead text
  read_on zero records rest lawful distinct read short = absurd (omega (arith, short))
  read_on (suc fuel) records rest lawful distinct read short = elim (decided_line rest) [
    | inr none ↦ stopped records rest lawful distinct read none
    | inl s ↦ (
        let c = s.0 in
        let l : IsLawfulRecord c = s.1.0 in
        let after = s.1.1.0 in
        let is : rest ≡ line c ++ after = s.1.1.1 in
        elim (decided_all (λ (d : PlanRecord). d.path ≢ c.path) (decided_path_other c.path) records) [
          | inl others ↦ read_on fuel (records ++ c ∷ []) after (All-push IsLawfulRecord records c lawful l) (distinct_push records c distinct others)
              (read ∙ ap (λ r. head host ++ lines records ++ r) is ∙ sym (append_assoc (head host ++ lines records) (line c) after) ∙ ap (λ r. r ++ after) (append_assoc (head host) (lines records) (line c) ∙ ap (λ r. head host ++ r) (sym (lines-append records c))))
              (omega (arith, short, ap length is, line_filled c after))
          | inr again ↦ (
            Err (length (head host ++ lines records)),
            no_record host records rest name lawful distinct read
                (λ d more m others e. again (subst (λ (x : PlanRecord). All (λ (d : PlanRecord). d.path ≢ x.path) records) (sym (line_unique c d after more l m (sym is ∙ e)).0) others))
                (λ more e. end_no_line_more c after more l (sym e ∙ is)),
          )
        ])
  ]

pub each_read : (text : List ℕ) → (r : Result PlanData ℕ) × ReadsAs text r
each_read text = elim (decided_head text) [
  | inl s ↦ (
      let rest = s.1.1.0 in
      read_on text s.0 s.1.0 (suc (length rest)) [] rest (All-nil IsLawfulRecord) (λ i j d less within e. omega (arith, within))
      (s.1.1.1 ∙ ap (λ t. t ++ rest) (sym (append-nil (head s.0)))) (omega arith))
  | inr none ↦ (Err 0, no_head (λ host rest name e. none host (name, (rest, e))))
]
