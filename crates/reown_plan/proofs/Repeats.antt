-- Records of a text, and the first that has the path of an earlier one.
use Rattle.std.proofs.Common.{◌≡◌, ◌≢◌, ℕ, zero, suc, ◌<◌, ◌≤◌, ◌+◌, ◌-◌, List, [], ◌∷◌, ◌++◌, Result, Ok, Err, All, map, length, take, drop, get_or, take-append-drop, refl, sym, ◌∙◌, ap, subst, arith, append_assoc, length-append, length-take-le}
use Rattle.std.specs.Result.{IsErrAnd, MatchResult}
use Rattle.std.proofs.lemmas.List.{append-nil, append_cancel_left, get_or-map, get_or-take, length-map, map-append, drop_more, take_all, take-map}
use Rattle.reown_plan.specs.declared.plan.Record.{Record}
use Rattle.reown_plan.specs.declared.plan.PlanFault.{PlanFault}
use Rattle.reown_plan.specs.declared.plan.PlanFault.TheVariants.{BadPlan, Memory}
use Rattle.reown_plan.specs.Fronts.{IsFront, IsFaultOf}
use Rattle.reown_plan.specs.Places.{paths_in, path_at, AreDistinctPaths, AreFirstDistinct}
use Rattle.reown_plan.specs.PlanData.{PlanRecord, PlanData, HaveDistinctPaths}
use Rattle.reown_plan.specs.Records.{record_of}
use Rattle.reown_plan.specs.Spelling.{head, line, lines, end, spelling, IsLawfulRecord, IsLawful, IsFaultAt, no_record}
use Rattle.reown_plan.proofs.Faults.{offset_is}
use Rattle.reown_plan.proofs.Lines.{lines-append}
use Rattle.reown_plan.proofs.Readings.{no_fault}
use Rattle.reown_plan.proofs.Unique.{line_unique, spelling_unique}
use Rattle.reown_plan.proofs.Wholes.{end_no_line_more}

abbrev pub nothing : PlanRecord
nothing = record { before = record { uid = 0; gid = 0 }; after = record { uid = 0; gid = 0 }; path = [] }

-- ---- paths that differ

module _ (records : List PlanRecord) where
  path_is : (i : ℕ) (d : PlanRecord) (p : List ℕ) → i < length records → get_or (paths_in records) i p ≡ (get_or records i d).path
  path_is i d p h = get_or-map (λ (r : PlanRecord). r.path) records i d p h

  pub distinct_records : AreDistinctPaths (paths_in records) → HaveDistinctPaths records
  distinct_records apart i j d low high e =
      apart i j d.path low (omega (arith, length-map records (λ (r : PlanRecord). r.path))) (path_is i d d.path (omega arith) ∙ e ∙ sym (path_is j d d.path high))

  pub distinct_paths : HaveDistinctPaths records → AreDistinctPaths (paths_in records)
  distinct_paths apart i j p low high e =
      let within : j < length records = omega (arith, length-map records (λ (r : PlanRecord). r.path)) in
      apart i j nothing low within (sym (path_is i nothing p (omega arith)) ∙ e ∙ path_is j nothing p within)

-- the paths of the first records
paths_first : (count : ℕ) (records : List PlanRecord) → take count (paths_in records) ≡ paths_in (take count records)
paths_first count records = take-map (λ (r : PlanRecord). r.path) count records

pub all_distinct : (records : List PlanRecord) (count : ℕ) → AreFirstDistinct (paths_in records) count → length records ≤ count → HaveDistinctPaths records
all_distinct records count are all =
    distinct_records records (subst AreDistinctPaths (take_all count (paths_in records) (omega (arith, length-map records (λ (r : PlanRecord). r.path)))) are.distinct)

-- the path of a record that is read
pub path_there : (records : List Record) (i : ℕ) (r : Record) → i < length records → r ≡ get_or records i r → path_at (paths_in (map record_of records)) i ≡ r.path.now
path_there records i r short at =
    path_is (map record_of records) i (record_of r) [] (omega (arith, length-map records record_of)) ∙ ap (λ (x : PlanRecord). x.path) (get_or-map record_of records i r (record_of r) short)
    ∙ ap (λ (x : Record). x.path.now) (sym at)

-- ---- lines

lines_both : (cs ds : List PlanRecord) → lines (cs ++ ds) ≡ lines cs ++ lines ds
lines_both [] ds = refl
lines_both (c ∷ cs) ds = ap (λ l. line c ++ l) (lines_both cs ds) ∙ sym (append_assoc (line c) (lines cs) (lines ds))

pub front_more : (records : List Record) (r : Record) (text rest after : List ℕ) → text ≡ lines (map record_of records) ++ rest → rest ≡ line (record_of r) ++ after → text ≡ lines (map record_of (records ++ r ∷ [])) ++ after
front_more records r text rest after e f =
    e ∙ ap (λ l. lines (map record_of records) ++ l) f ∙ sym (append_assoc (lines (map record_of records)) (line (record_of r)) after)
    ∙ ap (λ l. l ++ after) (sym (lines-append (map record_of records) (record_of r))) ∙ ap (λ cs. lines cs ++ after) (sym (map-append record_of records (r ∷ [])))

pub gone : (n : ℕ) (records : List PlanRecord) → length records ≤ n → drop n records ≡ []
gone zero [] h = refl
gone zero (c ∷ cs) h = absurd (omega arith)
gone (suc n) [] h = refl
gone (suc n) (c ∷ cs) h = gone n cs (omega arith)

-- the next line of what is left
pub next_line : (records : List PlanRecord) (n : ℕ) (text rest : List ℕ) → n < length records → text ≡ lines (drop n records) ++ rest → text ≡ line (get_or records n nothing) ++ (lines (drop (n + 1) records) ++ rest)
next_line records n text rest h e =
    e ∙ ap (λ cs. lines cs ++ rest) (drop_more records n nothing h) ∙ append_assoc (line (get_or records n nothing)) (lines (drop (n + 1) records)) rest

-- ---- the first path that comes again

module _ (text host : List ℕ) (records : List PlanRecord) (behind rest at : List ℕ) (count : ℕ) (front : IsFront text host records behind) (from : text ≡ head host ++ rest)
    (are : AreFirstDistinct (paths_in records) count) (less : count < length records)
    (skipped : (rs : List PlanRecord) (r : List ℕ) → All IsLawfulRecord rs → length rs ≡ count → rest ≡ lines rs ++ r → at ≡ r) where
  abbrev first : List PlanRecord
  first = take count records

  abbrev next : PlanRecord
  next = get_or records count nothing

  abbrev more : List ℕ
  more = lines (drop (count + 1) records) ++ behind

  first_len : length first ≡ count
  first_len = length-take-le count records (omega arith)

  first_lawful : All IsLawfulRecord first
  first_lawful k d h =
      let below : k < count = omega (arith, first_len) in
      subst IsLawfulRecord (sym (get_or-take count records k d below)) (front.lawful k d (omega arith))

  rest_is : rest ≡ lines first ++ (line next ++ more)
  rest_is =
      append_cancel_left (head host) rest (lines records ++ behind) (sym from ∙ front.read ∙ append_assoc (head host) (lines records) behind)
      ∙ ap (λ cs. lines cs ++ behind) (sym (take-append-drop count records)) ∙ ap (λ l. l ++ behind) (lines_both first (drop count records))
      ∙ append_assoc (lines first) (lines (drop count records)) behind ∙ ap (λ l. lines first ++ l) (next_line records count (lines (drop count records) ++ behind) behind less refl)

  at_is : at ≡ line next ++ more
  at_is = skipped first (line next ++ more) first_lawful first_len rest_is

  read_to : text ≡ head host ++ lines first ++ at
  read_to = from ∙ ap (λ l. head host ++ l) (rest_is ∙ ap (λ l. lines first ++ l) (sym at_is)) ∙ sym (append_assoc (head host) (lines first) at)

  pub repeat_shorter : length at ≤ length text
  repeat_shorter = omega (arith, ap length read_to ∙ length-append (head host ++ lines first) at)

  next_lawful : IsLawfulRecord next
  next_lawful = front.lawful count nothing less

  no_other : (d : PlanRecord) (after : List ℕ) → IsLawfulRecord d → All (λ x. x.path ≢ d.path) first → at ≢ line d ++ after
  no_other d after lawful others e =
      let same = line_unique next d more after next_lawful lawful (sym at_is ∙ e) in
      let earlier = are.repeated (omega (arith, length-map records (λ (r : PlanRecord). r.path))) in
      let i = earlier.0 in
      others i nothing (omega (arith, first_len, earlier.1))
      (ap (λ (r : PlanRecord). r.path) (get_or-take count records i nothing earlier.1) ∙ sym (path_is records i nothing [] (let l = earlier.1 in omega arith)) ∙ earlier.2
      ∙ path_is records count nothing [] less ∙ ap (λ (r : PlanRecord). r.path) same.0)

  pub repeat_fault : IsFaultAt text (length text - length at)
  repeat_fault =
      let distinct : HaveDistinctPaths first = distinct_records first (subst AreDistinctPaths (paths_first count records) are.distinct) in
      subst (IsFaultAt text) (offset_is text (head host ++ lines first) at read_to)
      (no_record host first at front.name first_lawful distinct read_to no_other (λ after e. end_no_line_more next more after next_lawful (sym e ∙ at_is)))

-- ---- a text that spells a plan is read as it

only_memory : (text : List ℕ) (plan : PlanData) → IsLawful plan → text ≡ spelling plan → (fault : PlanFault) → IsFaultOf text fault → fault ≡ Memory
only_memory text plan lawful e (BadPlan offset) h = absurd (no_fault text plan lawful e offset (h offset refl))
only_memory text plan lawful e Memory h = refl

module _ (text : List ℕ) (plan : PlanData) (lawful : IsLawful plan) (spelled : text ≡ spelling plan) where
  pub fault_complete : (result : Result PlanData PlanFault) (fault : PlanFault) → IsErrAnd result (λ f. f ≡ fault) → IsFaultOf text fault → MatchResult result (λ read. read ≡ plan) (λ f. f ≡ Memory)
  fault_complete (Ok read) fault h is = absurd h
  fault_complete (Err f) fault h is = only_memory text plan lawful spelled f (subst (IsFaultOf text) (sym h) is)

  pub read_complete : (host : List ℕ) (records : List PlanRecord) → IsFront text host records end → HaveDistinctPaths records → (let read : PlanData = record { host = host; records = records } in read ≡ plan)
  read_complete host records front distinct =
      let read : PlanData = record { host = host; records = records } in
      (spelling_unique read plan [] (record { host = front.name; records = front.lawful; distinct = distinct }) lawful (sym spelled ∙ front.read ∙ sym (append-nil (spelling read)))).0
