-- Records of calls that grow.
use Rattle.std.proofs.Common.{◌≡◌, ◌≢◌, ◌<◌, ◌==◌, ℕ, zero, suc, Bool, true, false, cond, ◌&&◌, ◌||◌, List, [], ◌∷◌, ◌++◌, ◌+◌, Option, None, Some, Result, Ok, Err, OnOk, get_or, take, map, length, refl, sym, ◌∙◌, ap, arith}
use Rattle.std.specs.List.{list_any, list_all}
use Rattle.std.specs.Str.{bytes_eq}
use Rattle.std.proofs.lemmas.Bool.{true≢false}
use Rattle.std.proofs.lemmas.Bool.Decides.{nat_tests}
use Rattle.std.proofs.lemmas.List.{take_more, get_or-map, length-map}
use Rattle.std.specs.Cmp.Lexicographic.{bytes_decides}
use Rattle.reown_plan.specs.declared.mark.PlanMark.{PlanMark}
use Rattle.reown_plan.specs.declared.plan.Owner.{Owner}
use Rattle.reown_plan.specs.Mark.{mark_eq, is_marked_for}
use Rattle.reown_plan.specs.Owners.{owner_eq}
use Rattle.reown_plan.specs.declared.plan.Record.{Record}
use Rattle.reown_plan.specs.PlanData.{PlanRecord}
use Rattle.reown_plan.specs.Records.{record_of}
use Rattle.reown_files.specs.declared.answers.Modes.{Modes}
use Rattle.reown_files.specs.Calls.{Called, Met, Gave, SetMode, Kept, Settled, PutMark, LostMode, PutModes, CheckedLinks, ReadModes}
use Rattle.reown_files.specs.Lawful.{ModeSet, is_set_to, is_planned, is_given, gives_by_plan, modes_stay, was_kept, all_kept, is_settled, is_synced, no_mode_failed, marks_last, is_unchanged, was_asked, all_asked, was_met, all_met, was_checked, all_checked, is_mode_kept, all_modes_kept, were_read, is_begun, begins_first, is_lawful}
use Rattle.reown_files.specs.Real.{Grows, grows_on}
use Rattle.reown_files.specs.Replay.{replay}
use Rattle.std.specs.Bool.{beq}
use Rattle.std.specs.Result.{is_ok}

-- ---- tests

pub or_true : (a b : Bool) → b ≡ true → (a || b) ≡ true
or_true true b e = refl
or_true false b e = e

pub or_first : (a b : Bool) → a ≡ true → (a || b) ≡ true
or_first true b e = refl
or_first false b e = absurd (let h : false ≡ true = e in cc)

pub both : (a b : Bool) → (a && b) ≡ true → (a ≡ true) × (b ≡ true)
both true b e = (refl, e)
both false b e = absurd (let h : false ≡ true = e in cc)

pub and_true : (a b : Bool) → a ≡ true → b ≡ true → (a && b) ≡ true
and_true true b e f = f
and_true false b e f = e

nat_same : (n : ℕ) → (n == n) ≡ true
nat_same n = grind (arith, nat_tests)

pub differ : (m n : ℕ) → (m == n) ≡ false → m ≢ n
differ m n apart e = true≢false (sym (sym (ap (λ k. m == k) e) ∙ nat_same m) ∙ apart)

pub owner_same : (o : Owner) → owner_eq o o ≡ true
owner_same o = and_true (o.uid == o.uid) (o.gid == o.gid) (nat_same o.uid) (nat_same o.gid)

same_bool : (b : Bool) → beq b b ≡ true
same_bool true = refl
same_bool false = refl

bytes_same : (path : List ℕ) → bytes_eq path path ≡ true
bytes_same path = (bytes_decides path path).1 refl

all_one_more : (p : PlanRecord → Bool) (rs : List PlanRecord) (r : PlanRecord) → list_all p rs ≡ true → p r ≡ true → list_all p (rs ++ r ∷ []) ≡ true
all_one_more p [] r h e = and_true (p r) true e refl
all_one_more p (x ∷ xs) r h e =
    let hs = both (p x) (list_all p xs) h in and_true (p x) (list_all p (xs ++ r ∷ [])) hs.0 (all_one_more p xs r hs.1 e)

-- what holds anyway holds where it was done
pub on_ok_any : {T E P : Type 0} (r : Result T E) → P → OnOk r P
on_ok_any (Ok x) p = p
on_ok_any (Err e) p = tt

-- what follows where it was done
pub on_ok_as : {T E P : Type 0} (r : Result T E) → (is_ok r ≡ true → P) → OnOk r P
on_ok_as (Ok x) p = p refl
on_ok_as (Err e) p = tt

-- ---- the change of a record

abbrev nobody : Owner
nobody = record { uid = 0; gid = 0 }

abbrev pub nothing : PlanRecord
nothing = record { before = nobody; after = nobody; path = [] }

-- what holds of one record holds of one of them
pub any_at : (p : PlanRecord → Bool) (rs : List PlanRecord) (i : ℕ) (d : PlanRecord) → i < length rs → p (get_or rs i d) ≡ true → list_any p rs ≡ true
any_at p [] i d h e = absurd (omega arith)
any_at p (r ∷ rs) zero d h e = or_first (p r) (list_any p rs) e
any_at p (r ∷ rs) (suc i) d h e = or_true (p r) (list_any p rs) (any_at p rs i d (omega arith) e)

-- ---- lawful records

module _ (mark : PlanMark) (records : List PlanRecord) (calls : List Called) where
  pub lawful_parts : is_lawful mark records calls ≡ true → (gives_by_plan records calls ≡ true) × (modes_stay calls ≡ true) × (marks_last mark records calls ≡ true) × (begins_first mark records calls ≡ true)
  lawful_parts h =
      let first = both (gives_by_plan records calls) (modes_stay calls && (marks_last mark records calls && begins_first mark records calls)) h in
      let rest = both (modes_stay calls) (marks_last mark records calls && begins_first mark records calls) first.1 in
      let last = both (marks_last mark records calls) (begins_first mark records calls) rest.1 in
      (first.0, rest.0, last.0, last.1)

  pub lawful_of : gives_by_plan records calls ≡ true → modes_stay calls ≡ true → marks_last mark records calls ≡ true → begins_first mark records calls ≡ true → is_lawful mark records calls ≡ true
  lawful_of gives modes last begins =
      and_true (gives_by_plan records calls) (modes_stay calls && (marks_last mark records calls && begins_first mark records calls)) gives
      (and_true (modes_stay calls) (marks_last mark records calls && begins_first mark records calls) modes
      (and_true (marks_last mark records calls) (begins_first mark records calls) last begins))

-- a mode that was set as it is asked for
set_as_asked : (path : List ℕ) (owner : Owner) (mode : ℕ) → is_set_to path owner mode (record { path = path; owner = owner; mode = mode }) ≡ true
set_as_asked path owner mode =
    and_true (bytes_eq path path) (owner_eq owner owner && (mode == mode)) (bytes_same path) (and_true (owner_eq owner owner) (mode == mode) (owner_same owner) (nat_same mode))

module _ (mark : PlanMark) (records : List PlanRecord) (calls : List Called) (path : List ℕ) (before after : Owner) (planned : is_planned records path before after ≡ true) (begun : is_begun records calls ≡ true) (h : is_lawful mark records calls ≡ true) where
  abbrev parts : (gives_by_plan records calls ≡ true) × (modes_stay calls ≡ true) × (marks_last mark records calls ≡ true) × (begins_first mark records calls ≡ true)
  parts = lawful_parts mark records calls h

  more : gives_by_plan records (Gave path before after None ∷ calls) ≡ true
  more = and_true (is_planned records path before after) (gives_by_plan records calls) planned parts.0

  behind : begins_first mark records (Gave path before after None ∷ calls) ≡ true
  behind = and_true (is_begun records calls) (begins_first mark records calls) begun parts.3

  -- a change that failed
  pub lawful_failed : is_lawful mark records (Gave path before after None ∷ calls) ≡ true
  lawful_failed = lawful_of mark records (Gave path before after None ∷ calls) more parts.1 parts.2 behind

  -- one that left the mode
  pub lawful_left : (modes : Modes) → modes.before ≡ modes.after → is_lawful mark records (Gave path before after (Some modes) ∷ calls) ≡ true
  lawful_left modes same =
      lawful_of mark records (Gave path before after (Some modes) ∷ calls) more
      (and_true (modes.before == modes.after) (modes_stay calls) (ap (λ n. modes.before == n) (sym same) ∙ nat_same modes.before) parts.1) parts.2 behind

  -- one after which the mode was set back
  pub lawful_set_back : (modes : Modes) (done : Bool) → is_lawful mark records (SetMode path after modes.before done ∷ Gave path before after (Some modes) ∷ calls) ≡ true
  lawful_set_back modes done =
      let set : ModeSet = record { path = path; owner = after; mode = modes.before } in
      lawful_of mark records (SetMode path after modes.before done ∷ Gave path before after (Some modes) ∷ calls) more
      (and_true (is_set_to path after modes.before set) (modes_stay calls) (set_as_asked path after modes.before) parts.1) parts.2 behind

-- the mark, where all files are synced and no mode failed to be set
pub lawful_mark : (mark : PlanMark) (records : List PlanRecord) (calls : List Called) (plan : PlanMark) (done : Bool) → mark_eq plan mark ≡ true → is_synced records calls ≡ true → no_mode_failed calls ≡ true → is_lawful mark records calls ≡ true → is_lawful mark records (PutMark plan done ∷ calls) ≡ true
lawful_mark mark records calls plan done own kept set h =
    let parts = lawful_parts mark records calls h in
    lawful_of mark records (PutMark plan done ∷ calls) parts.0 parts.1
    (and_true (mark_eq plan mark) (is_synced records calls && (no_mode_failed calls && marks_last mark records calls)) own
    (and_true (is_synced records calls) (no_mode_failed calls && marks_last mark records calls) kept
    (and_true (no_mode_failed calls) (marks_last mark records calls) set parts.2))) parts.3

-- ---- modes that an earlier run had lost

mark_same : (m : PlanMark) → mark_eq m m ≡ true
mark_same m = rw (bytes_same m.host, nat_same m.length, bytes_same m.digest) refl

-- a mark that was met is that of the plan
pub met_marked : (m : PlanMark) (set : Bool) → is_marked_for m (cond set (Some m) None) ≡ set
met_marked m true = mark_same m
met_marked m false = refl

module _ (mark : PlanMark) (records : List PlanRecord) (calls : List Called) (read : were_read mark calls ≡ true) (unchanged : is_unchanged calls ≡ true) (h : is_lawful mark records calls ≡ true) where
  abbrev held : (gives_by_plan records calls ≡ true) × (modes_stay calls ≡ true) × (marks_last mark records calls ≡ true) × (begins_first mark records calls ≡ true)
  held = lawful_parts mark records calls h

  module _ (path : List ℕ) (owner : Owner) (given : list_any (is_given path owner) records ≡ true) where
    asks : (mode : Option ℕ) → begins_first mark records (LostMode mark path owner mode ∷ calls) ≡ true
    asks mode =
        and_true (mark_eq mark mark) (list_any (is_given path owner) records && (were_read mark calls && (is_unchanged calls && begins_first mark records calls))) (mark_same mark)
        (and_true (list_any (is_given path owner) records) (were_read mark calls && (is_unchanged calls && begins_first mark records calls)) given
        (and_true (were_read mark calls) (is_unchanged calls && begins_first mark records calls) read
        (and_true (is_unchanged calls) (begins_first mark records calls) unchanged held.3)))

    -- an answer that none was lost
    pub lawful_none : is_lawful mark records (LostMode mark path owner None ∷ calls) ≡ true
    lawful_none = lawful_of mark records (LostMode mark path owner None ∷ calls) held.0 held.1 held.2 (asks None)

    -- one that was lost, and set back
    pub lawful_found : (mode : ℕ) (done : Bool) → is_lawful mark records (SetMode path owner mode done ∷ LostMode mark path owner (Some mode) ∷ calls) ≡ true
    lawful_found mode done =
        let set : ModeSet = record { path = path; owner = owner; mode = mode } in
        lawful_of mark records (SetMode path owner mode done ∷ LostMode mark path owner (Some mode) ∷ calls) held.0
        (and_true (is_set_to path owner mode set) (modes_stay calls) (set_as_asked path owner mode) held.1) held.2 (asks (Some mode))

all_also : (p q : PlanRecord → Bool) → ((r : PlanRecord) → p r ≡ true → q r ≡ true) → (rs : List PlanRecord) → list_all p rs ≡ true → list_all q rs ≡ true
all_also p q each [] h = refl
all_also p q each (r ∷ rs) h =
    let hs = both (p r) (list_all p rs) h in and_true (q r) (list_all q rs) (each r hs.0) (all_also p q each rs hs.1)

pub given_same : (r : PlanRecord) → is_given r.path r.after r ≡ true
given_same r = and_true (bytes_eq r.path r.path) (owner_eq r.after r.after) (bytes_same r.path) (owner_same r.after)

pub given_at : (rs : List Record) (i : ℕ) (d : Record) → i < length rs → list_any (is_given (record_of (get_or rs i d)).path (record_of (get_or rs i d)).after) (map record_of rs) ≡ true
given_at rs i d below =
    let r = record_of (get_or rs i d) in
    any_at (is_given r.path r.after) (map record_of rs) i nothing (omega (arith, length-map rs record_of))
    (ap (is_given r.path r.after) (get_or-map record_of rs i d nothing below) ∙ given_same r)

module _ (plan : PlanMark) (calls : List Called) (records : List PlanRecord) (r : PlanRecord) (h : all_asked records calls ≡ true) where
  asked_before : (mode : Option ℕ) → all_asked records (LostMode plan r.path r.after mode ∷ calls) ≡ true
  asked_before mode =
      all_also (was_asked calls) (was_asked (LostMode plan r.path r.after mode ∷ calls)) (λ x e. or_true (is_given r.path r.after x) (was_asked calls x) e) records h

  -- one more file is asked for
  pub one_more_asked : (mode : Option ℕ) → all_asked (records ++ r ∷ []) (LostMode plan r.path r.after mode ∷ calls) ≡ true
  one_more_asked mode =
      all_one_more (was_asked (LostMode plan r.path r.after mode ∷ calls)) records r (asked_before mode)
      (or_first (is_given r.path r.after r) (was_asked calls r) (given_same r))

  -- and its mode set back and synced
  pub one_more_found : (mode : Option ℕ) (set : ℕ) (done kept : Bool) → all_asked (records ++ r ∷ []) (Kept r.path r.after kept ∷ SetMode r.path r.after set done ∷ LostMode plan r.path r.after mode ∷ calls) ≡ true
  one_more_found mode set done kept =
      all_also (was_asked (LostMode plan r.path r.after mode ∷ calls)) (was_asked (Kept r.path r.after kept ∷ SetMode r.path r.after set done ∷ LostMode plan r.path r.after mode ∷ calls)) (λ x e. e) (records ++ r ∷ []) (one_more_asked mode)

-- ---- files that were kept

-- one more call of this kind takes nothing away
pub kept_stays : (path : List ℕ) (owner : Owner) (done : Bool) (calls : List Called) (records : List PlanRecord) → all_kept records calls ≡ true → all_kept records (Kept path owner done ∷ calls) ≡ true
kept_stays path owner done calls [] h = refl
kept_stays path owner done calls (r ∷ rs) h =
    let hs = both (was_kept calls r) (list_all (was_kept calls) rs) h in
    and_true (was_kept (Kept path owner done ∷ calls) r) (list_all (was_kept (Kept path owner done ∷ calls)) rs)
    (or_true (done && (bytes_eq path r.path && owner_eq owner r.after)) (was_kept calls r) hs.0) (kept_stays path owner done calls rs hs.1)

-- nor does the mark
pub kept_behind_mark : (plan : PlanMark) (done : Bool) (calls : List Called) (records : List PlanRecord) → all_kept records calls ≡ true → all_kept records (PutMark plan done ∷ calls) ≡ true
kept_behind_mark plan done calls [] h = refl
kept_behind_mark plan done calls (r ∷ rs) h =
    let hs = both (was_kept calls r) (list_all (was_kept calls) rs) h in
    and_true (was_kept (PutMark plan done ∷ calls) r) (list_all (was_kept (PutMark plan done ∷ calls)) rs) hs.0 (kept_behind_mark plan done calls rs hs.1)

-- the file of this call is one
now_kept : (r : PlanRecord) (calls : List Called) → was_kept (Kept r.path r.after true ∷ calls) r ≡ true
now_kept r calls =
    or_first (bytes_eq r.path r.path && owner_eq r.after r.after) (was_kept calls r)
    (and_true (bytes_eq r.path r.path) (owner_eq r.after r.after) (bytes_same r.path) (owner_same r.after))

-- one more file is kept
pub one_more_kept : (calls : List Called) (records : List PlanRecord) (r : PlanRecord) → all_kept records calls ≡ true → all_kept (records ++ r ∷ []) (Kept r.path r.after true ∷ calls) ≡ true
one_more_kept calls records r h =
    all_one_more (was_kept (Kept r.path r.after true ∷ calls)) records r (kept_stays r.path r.after true calls records h) (now_kept r calls)

-- one turn of a loop that keeps them
pub keeps_on : (rs : List PlanRecord) (i : ℕ) (old new : List Called) (done : Bool) → i < length rs → new ≡ Kept (get_or rs i nothing).path (get_or rs i nothing).after done ∷ old → done ≡ true → all_kept (take i rs) old ≡ true → all_kept (take (i + 1) rs) new ≡ true
keeps_on rs i old new done below is e h =
    let r = get_or rs i nothing in
    ap (all_kept (take (i + 1) rs)) (is ∙ ap (λ b. Kept r.path r.after b ∷ old) e) ∙ ap (λ xs. all_kept xs (Kept r.path r.after true ∷ old)) (take_more rs i nothing below)
    ∙ one_more_kept old (take i rs) r h

-- ---- files that are synced

-- nor does the sync of all
pub kept_behind_sync : (done : Bool) (calls : List Called) (records : List PlanRecord) → all_kept records calls ≡ true → all_kept records (Settled done ∷ calls) ≡ true
kept_behind_sync done calls [] h = refl
kept_behind_sync done calls (r ∷ rs) h =
    let hs = both (was_kept calls r) (list_all (was_kept calls) rs) h in
    and_true (was_kept (Settled done ∷ calls) r) (list_all (was_kept (Settled done ∷ calls)) rs) hs.0 (kept_behind_sync done calls rs hs.1)

-- files that were kept are synced with it
pub synced_now : (old new : List Called) (done : Bool) (records : List PlanRecord) → new ≡ Settled done ∷ old → done ≡ true → all_kept records old ≡ true → is_synced records new ≡ true
synced_now old new done records is e h =
    ap (is_synced records) is
    ∙ and_true (all_kept records (Settled done ∷ old)) (is_settled (Settled done ∷ old)) (kept_behind_sync done old records h) (or_first done (is_settled old) e)

-- the mark leaves them so
pub synced_behind_mark : (plan : PlanMark) (done : Bool) (calls : List Called) (records : List PlanRecord) → is_synced records calls ≡ true → is_synced records (PutMark plan done ∷ calls) ≡ true
synced_behind_mark plan done calls records h =
    let hs = both (all_kept records calls) (is_settled calls) h in
    and_true (all_kept records (PutMark plan done ∷ calls)) (is_settled calls) (kept_behind_mark plan done calls records hs.0) hs.1

-- nor does any call that leaves each of them so
pub synced_stays : (old new : List Called) → ((r : PlanRecord) → was_kept old r ≡ true → was_kept new r ≡ true) → is_settled new ≡ is_settled old → (records : List PlanRecord) → is_synced records old ≡ true → is_synced records new ≡ true
synced_stays old new each settled records h =
    let hs = both (all_kept records old) (is_settled old) h in
    and_true (all_kept records new) (is_settled new) (all_also (was_kept old) (was_kept new) each records hs.0) (settled ∙ hs.1)

-- ---- before the first change

-- modes that were read now
pub read_now : (mark : PlanMark) (set begun : Bool) (calls : List Called) → set ≡ is_marked_for mark (replay calls).mark → were_read mark (ReadModes mark set (Some begun) ∷ calls) ≡ true
read_now mark set begun calls e =
    or_first (mark_eq mark mark && beq set (is_marked_for mark (replay calls).mark)) (were_read mark calls)
    (and_true (mark_eq mark mark) (beq set (is_marked_for mark (replay calls).mark)) (mark_same mark) (ap (beq set) (sym e) ∙ same_bool set))

-- files of which some were met stay so
met_stays : (path : List ℕ) (after : Owner) (found : Option Owner) (calls : List Called) (r : PlanRecord) → was_met calls r ≡ true → was_met (Met path after found ∷ calls) r ≡ true
met_stays path after found calls r h = or_true (is_given path after r) (was_met calls r) h

now_met : (r : PlanRecord) (found : Option Owner) (calls : List Called) → was_met (Met r.path r.after found ∷ calls) r ≡ true
now_met r found calls = or_first (is_given r.path r.after r) (was_met calls r) (given_same r)

-- one turn of a loop that meets them
pub meets_on : (rs : List PlanRecord) (i : ℕ) (old new : List Called) (found : Option Owner) → i < length rs → new ≡ Met (get_or rs i nothing).path (get_or rs i nothing).after found ∷ old → all_met (take i rs) old ≡ true → all_met (take (i + 1) rs) new ≡ true
meets_on rs i old new found below is h =
    let r = get_or rs i nothing in
    let last = Met r.path r.after found ∷ old in
    ap (all_met (take (i + 1) rs)) is ∙ ap (λ xs. all_met xs last) (take_more rs i nothing below)
    ∙ all_one_more (was_met last) (take i rs) r (all_also (was_met old) (was_met last) (λ x k. met_stays r.path r.after found old x k) (take i rs) h) (now_met r found old)

-- a look at names leaves them so
pub met_behind_links : (path : List ℕ) (done : Bool) (old new : List Called) (records : List PlanRecord) → new ≡ CheckedLinks path done ∷ old → all_met records old ≡ true → all_met records new ≡ true
met_behind_links path done old new records is h =
    ap (all_met records) is ∙ all_also (was_met old) (was_met (CheckedLinks path done ∷ old)) (λ r e. e) records h

-- and is lawful once all were met
pub lawful_links : (mark : PlanMark) (records : List PlanRecord) (path : List ℕ) (done : Bool) (old new : List Called) → new ≡ CheckedLinks path done ∷ old → all_met records old ≡ true → is_lawful mark records old ≡ true → is_lawful mark records new ≡ true
lawful_links mark records path done old new is met h =
    let parts = lawful_parts mark records old h in
    ap (is_lawful mark records) is
    ∙ lawful_of mark records (CheckedLinks path done ∷ old) parts.0 parts.1 parts.2 (and_true (all_met records old) (begins_first mark records old) met parts.3)

-- files of which some had their names looked at stay so
pub checked_on : (old new : List Called) → ((r : PlanRecord) → was_checked old r ≡ true → was_checked new r ≡ true) → (records : List PlanRecord) → all_checked records old ≡ true → all_checked records new ≡ true
checked_on old new each records h = all_also (was_checked old) (was_checked new) each records h

checked_stays : (path : List ℕ) (done : Bool) (calls : List Called) (r : PlanRecord) → was_checked calls r ≡ true → was_checked (CheckedLinks path done ∷ calls) r ≡ true
checked_stays path done calls r h = or_true (done && bytes_eq path r.path) (was_checked calls r) h

now_checked : (r : PlanRecord) (calls : List Called) → was_checked (CheckedLinks r.path true ∷ calls) r ≡ true
now_checked r calls = or_first (bytes_eq r.path r.path) (was_checked calls r) (bytes_same r.path)

-- one turn of a loop that looks at them
pub checks_on : (rs : List PlanRecord) (i : ℕ) (old new : List Called) (done : Bool) → i < length rs → new ≡ CheckedLinks (get_or rs i nothing).path done ∷ old → done ≡ true → all_checked (take i rs) old ≡ true → all_checked (take (i + 1) rs) new ≡ true
checks_on rs i old new done below is e h =
    let r = get_or rs i nothing in
    let last = CheckedLinks r.path true ∷ old in
    ap (all_checked (take (i + 1) rs)) (is ∙ ap (λ b. CheckedLinks r.path b ∷ old) e) ∙ ap (λ xs. all_checked xs last) (take_more rs i nothing below)
    ∙ all_one_more (was_checked last) (take i rs) r (checked_on old last (λ x k. checked_stays r.path true old x k) (take i rs) h) (now_checked r old)

kept_or : (same kept : Bool) → kept ≡ true → (same || cond same false kept) ≡ true
kept_or true kept h = refl
kept_or false kept h = h

-- a mode that was set back is kept by the sync of its file
pub mode_kept_now : (path : List ℕ) (owner set : Owner) (mode : ℕ) (done : Bool) (calls : List Called) (r : PlanRecord) → is_mode_kept calls r ≡ true → is_mode_kept (Kept path owner true ∷ SetMode path set mode done ∷ calls) r ≡ true
mode_kept_now path owner set mode done calls r h = kept_or (bytes_eq path r.path) (is_mode_kept calls r) h

all_always : (p : PlanRecord → Bool) → ((r : PlanRecord) → p r ≡ true) → (rs : List PlanRecord) → list_all p rs ≡ true
all_always p each [] = refl
all_always p each (r ∷ rs) = and_true (p r) (list_all p rs) (each r) (all_always p each rs)

-- the modes that a run may lose are written down
pub lawful_put_modes : (mark : PlanMark) (records : List PlanRecord) (calls : List Called) (done : Bool) → all_checked records calls ≡ true → were_read mark calls ≡ true → is_unchanged calls ≡ true → ((r : PlanRecord) → is_mode_kept calls r ≡ true) → is_settled calls ≡ true → is_lawful mark records calls ≡ true
    → is_lawful mark records (PutModes mark done ∷ calls) ≡ true
lawful_put_modes mark records calls done checked read unchanged each settled h =
    let parts = lawful_parts mark records calls h in
    let kept = all_always (is_mode_kept calls) each records in
    let last = all_modes_kept records calls && (is_settled calls && begins_first mark records calls) in
    lawful_of mark records (PutModes mark done ∷ calls) parts.0 parts.1 parts.2
    (and_true (mark_eq mark mark) (all_checked records calls && (were_read mark calls && (is_unchanged calls && last))) (mark_same mark)
    (and_true (all_checked records calls) (were_read mark calls && (is_unchanged calls && last)) checked
    (and_true (were_read mark calls) (is_unchanged calls && last) read
    (and_true (is_unchanged calls) last unchanged
    (and_true (all_modes_kept records calls) (is_settled calls && begins_first mark records calls) kept
    (and_true (is_settled calls) (begins_first mark records calls) settled parts.3))))))

-- after a sync of all that was done
pub lawful_begun : (mark : PlanMark) (records : List PlanRecord) (old mid new : List Called) (synced done : Bool) → mid ≡ Settled synced ∷ old → synced ≡ true → new ≡ PutModes mark done ∷ mid
    → all_checked records old ≡ true → were_read mark old ≡ true → is_unchanged old ≡ true → ((r : PlanRecord) → is_mode_kept old r ≡ true) → is_lawful mark records old ≡ true → is_lawful mark records new ≡ true
lawful_begun mark records old mid new synced done settles is puts checked read unchanged each h =
    let last = Settled synced ∷ old in
    ap (is_lawful mark records) (puts ∙ ap (λ cs. PutModes mark done ∷ cs) settles)
    ∙ lawful_put_modes mark records last done (checked_on old last (λ r e. e) records checked) read unchanged each (or_first synced (is_settled old) is) h

-- ---- calls that were made since

pub one_call : (old new : List Called) (call : Called) → new ≡ call ∷ old → Grows old new
one_call old new call e = (call ∷ [], e)

pub one_more_call : (first old new : List Called) (call : Called) → Grows first old → new ≡ call ∷ old → Grows first new
one_more_call first old new call h e = grows_on first old new h (one_call old new call e)
