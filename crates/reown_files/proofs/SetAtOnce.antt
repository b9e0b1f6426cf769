-- What lawful calls have after a mode was taken, and before a mode is set.
use Rattle.std.proofs.Common.{◌≡◌, ◌≢◌, ◌⊎◌, inl, inr, ◌==◌, ℕ, Bool, true, false, ◌&&◌, List, [], ◌∷◌, ◌++◌, Option, None, Some, is_none, refl, sym, ◌∙◌, ap, arith}
use Rattle.std.specs.Str.{bytes_eq}
use Rattle.std.proofs.lemmas.Bool.Decides.{nat_tests}
use Rattle.reown_plan.specs.declared.mark.PlanMark.{PlanMark}
use Rattle.reown_plan.specs.declared.plan.Owner.{Owner}
use Rattle.reown_plan.specs.Owners.{owner_eq}
use Rattle.reown_plan.specs.PlanData.{PlanRecord}
use Rattle.reown_files.specs.Calls.{Called, Looked, Met, MetMark, Saw, SawMark, NotSeen, MarkNotSeen, CheckedLinks, Gave, SetMode, Kept, Settled, PutMark, KeptMark, ReadModes, LostMode, PutModes}
use Rattle.reown_files.specs.Failed.{Last}
use Rattle.reown_files.specs.InOrder.{IsSetNext, TookMode, ModesAreSetAtOnce}
use Rattle.reown_files.specs.Lawful.{ModeSet, is_set_to, leaves_mode, sets_back, modes_stay_before, modes_stay}
use Rattle.reown_files.proofs.InOrder.{both, lawful_parts, equal, equal_owners, never, same_path}

-- what the next call sets
abbrev set_by : Called → Option ModeSet
set_by (SetMode path owner mode done) = Some (record { path = path; owner = owner; mode = mode })
set_by _ = None

stays_before : (set : Option ModeSet) (c : Called) (calls : List Called) → modes_stay_before set (c ∷ calls) ≡ true → modes_stay_before (set_by c) calls ≡ true
stays_before last (Looked path seen) calls h = (both (is_none last) (modes_stay_before None calls) h).1
stays_before last (Met path after found) calls h = (both (is_none last) (modes_stay_before None calls) h).1
stays_before last (MetMark plan set) calls h = (both (is_none last) (modes_stay_before None calls) h).1
stays_before last (Saw path found) calls h = (both (is_none last) (modes_stay_before None calls) h).1
stays_before last (SawMark plan set) calls h = (both (is_none last) (modes_stay_before None calls) h).1
stays_before last (NotSeen path trouble) calls h = (both (is_none last) (modes_stay_before None calls) h).1
stays_before last (MarkNotSeen plan trouble) calls h = (both (is_none last) (modes_stay_before None calls) h).1
stays_before last (CheckedLinks path done) calls h = (both (is_none last) (modes_stay_before None calls) h).1
stays_before last (Gave path before after modes) calls h = (both (leaves_mode path after modes last) (modes_stay_before None calls) h).1
stays_before last (SetMode path owner mode done) calls h = (both (is_none last) (modes_stay_before (Some (record { path = path; owner = owner; mode = mode })) calls) h).1
stays_before last (Kept path owner done) calls h = (both (is_none last) (modes_stay_before None calls) h).1
stays_before last (Settled done) calls h = (both (is_none last) (modes_stay_before None calls) h).1
stays_before last (PutMark plan done) calls h = (both (is_none last) (modes_stay_before None calls) h).1
stays_before last (KeptMark done) calls h = (both (is_none last) (modes_stay_before None calls) h).1
stays_before last (ReadModes plan set begun) calls h = (both (is_none last) (modes_stay_before None calls) h).1
stays_before last (LostMode plan path owner mode) calls h = (both (sets_back path owner mode last) (modes_stay_before None calls) h).1
stays_before last (PutModes plan done) calls h = (both (is_none last) (modes_stay_before None calls) h).1

-- the last of these calls, or one with a next one
abbrev IsPlaced : Option ModeSet → List Called → List Called → Type 0
IsPlaced set later calls =
    ((later ≡ []) × (modes_stay_before set calls ≡ true))
    ⊎ ((rest : List Called) × (next : Called) × (later ≡ rest ++ next ∷ []) × (modes_stay_before (set_by next) calls ≡ true))

placed : (set : Option ModeSet) (later calls : List Called) → modes_stay_before set (later ++ calls) ≡ true → IsPlaced set later calls
placed set [] calls h = inl (refl, h)
placed set (c ∷ later) calls h =
    elim (placed (set_by c) later calls (stays_before set c (later ++ calls) h)) [
      | inl last ↦ inr ([], c, ap (λ xs. c ∷ xs) last.0, last.1)
      | inr behind ↦ inr (c ∷ behind.0, behind.1, ap (λ xs. c ∷ xs) behind.2, behind.3)
    ]

module _ (path : List ℕ) (owner : Owner) (mode : ℕ) where
  set_is : (set : ModeSet) → is_set_to path owner mode set ≡ true → (set.path ≡ path) × (set.owner ≡ owner) × (set.mode ≡ mode)
  set_is set h =
      let hs = both (bytes_eq set.path path) (owner_eq set.owner owner && (set.mode == mode)) h in
      let last = both (owner_eq set.owner owner) (set.mode == mode) hs.1 in (same_path set.path path hs.0, equal_owners set.owner owner last.0, equal set.mode mode last.1)

  module _ (judge : Option ModeSet → Bool) (none : judge None ≡ false) (yes : (set : ModeSet) → judge (Some set) ≡ true → is_set_to path owner mode set ≡ true) where
    next_is : (next : Called) → judge (set_by next) ≡ true → (done : Bool) × (next ≡ SetMode path owner mode done)
    next_is (Looked path seen) h = never (judge None) none h
    next_is (Met path after found) h = never (judge None) none h
    next_is (MetMark plan set) h = never (judge None) none h
    next_is (Saw path found) h = never (judge None) none h
    next_is (SawMark plan set) h = never (judge None) none h
    next_is (NotSeen path trouble) h = never (judge None) none h
    next_is (MarkNotSeen plan trouble) h = never (judge None) none h
    next_is (CheckedLinks path done) h = never (judge None) none h
    next_is (Gave path before after modes) h = never (judge None) none h
    next_is (SetMode q o n done) h =
        let set : ModeSet = record { path = q; owner = o; mode = n } in
        let is = set_is set (yes set h) in let path_is = is.0 in let owner_is = is.1 in let mode_is = is.2 in (done, λ i. SetMode (path_is i) (owner_is i) (mode_is i) done)
    next_is (Kept path owner done) h = never (judge None) none h
    next_is (Settled done) h = never (judge None) none h
    next_is (PutMark plan done) h = never (judge None) none h
    next_is (KeptMark done) h = never (judge None) none h
    next_is (ReadModes plan set begun) h = never (judge None) none h
    next_is (LostMode plan path owner mode) h = never (judge None) none h
    next_is (PutModes plan done) h = never (judge None) none h

    set_next : (c : Called) (later earlier : List Called) → ((set : Option ModeSet) → modes_stay_before set (c ∷ earlier) ≡ true → judge set ≡ true) → modes_stay (later ++ c ∷ earlier) ≡ true → IsSetNext path owner mode later
    set_next c later earlier each h =
        elim (placed None later (c ∷ earlier) h) [
          | inl last ↦ never (judge None) none (each None last.1)
          | inr behind ↦ let next = next_is behind.1 (each (set_by behind.1) behind.3) in (behind.0, next.0, behind.2 ∙ ap (λ x. behind.0 ++ x ∷ []) next.1)
        ]

-- what the call before it has taken
module _ (path : List ℕ) (owner : Owner) (mode : ℕ) where
  abbrev this : ModeSet
  this = record { path = path; owner = owner; mode = mode }

  took_here : (q : List ℕ) (at : Owner) (n : ℕ) → is_set_to q at n this ≡ true → (q ≡ path) × (at ≡ owner) × (n ≡ mode)
  took_here q at n h = let is = set_is q at n this h in (sym is.0, sym is.1, sym is.2)

  took : (calls : List Called) → modes_stay_before (Some this) calls ≡ true → Last (TookMode path owner mode) calls
  took [] h = absurd (let e : false ≡ true = h in cc)
  took (Looked q seen ∷ calls) h = absurd (let e : false ≡ true = h in cc)
  took (Met q after found ∷ calls) h = absurd (let e : false ≡ true = h in cc)
  took (MetMark plan set ∷ calls) h = absurd (let e : false ≡ true = h in cc)
  took (Saw q found ∷ calls) h = absurd (let e : false ≡ true = h in cc)
  took (SawMark plan set ∷ calls) h = absurd (let e : false ≡ true = h in cc)
  took (NotSeen q trouble ∷ calls) h = absurd (let e : false ≡ true = h in cc)
  took (MarkNotSeen plan trouble ∷ calls) h = absurd (let e : false ≡ true = h in cc)
  took (CheckedLinks q done ∷ calls) h = absurd (let e : false ≡ true = h in cc)
  took (Gave q before after None ∷ calls) h = absurd (let e : false ≡ true = h in cc)
  took (Gave q before after (Some modes) ∷ calls) h = took_here q after modes.before (both (is_set_to q after modes.before this) (modes_stay_before None calls) h).0
  took (SetMode q o n done ∷ calls) h = absurd (let e : false ≡ true = h in cc)
  took (Kept q o done ∷ calls) h = absurd (let e : false ≡ true = h in cc)
  took (Settled done ∷ calls) h = absurd (let e : false ≡ true = h in cc)
  took (PutMark plan done ∷ calls) h = absurd (let e : false ≡ true = h in cc)
  took (KeptMark done ∷ calls) h = absurd (let e : false ≡ true = h in cc)
  took (ReadModes plan set begun ∷ calls) h = absurd (let e : false ≡ true = h in cc)
  took (LostMode plan q at None ∷ calls) h = absurd (let e : false ≡ true = h in cc)
  took (LostMode plan q at (Some lost) ∷ calls) h = took_here q at lost (both (is_set_to q at lost this) (modes_stay_before None calls) h).0
  took (PutModes plan done ∷ calls) h = absurd (let e : false ≡ true = h in cc)

  set_after : (set : Option ModeSet) (done : Bool) (earlier : List Called) → modes_stay_before set (SetMode path owner mode done ∷ earlier) ≡ true → Last (TookMode path owner mode) earlier
  set_after set done earlier h = took earlier (both (is_none set) (modes_stay_before (Some this) earlier) h).1

differ : (n m : ℕ) → n ≢ m → (n == m) ≡ false
differ n m other = grind (arith, nat_tests)

pub modes_are_set_at_once : (mark : PlanMark) (records : List PlanRecord) (later earlier : List Called) → ModesAreSetAtOnce mark records later earlier
modes_are_set_at_once mark records later earlier =
    record {
      taken = λ path before after modes h other.
          let change = Gave path before after (Some modes) in
          set_next path after modes.before (leaves_mode path after (Some modes)) (differ modes.before modes.after other) (λ set e. e) change later earlier
          (λ set e. (both (leaves_mode path after (Some modes) set) (modes_stay_before None earlier) e).0) (lawful_parts mark records (later ++ change ∷ earlier) h).1;
      lost = λ plan path owner mode h.
          let question = LostMode plan path owner (Some mode) in
          set_next path owner mode (sets_back path owner (Some mode)) refl (λ set e. e) question later earlier
          (λ set e. (both (sets_back path owner (Some mode) set) (modes_stay_before None earlier) e).0) (lawful_parts mark records (later ++ question ∷ earlier) h).1;
      no_other = λ path owner mode done h.
          let set = SetMode path owner mode done in
          elim (placed None later (set ∷ earlier) (lawful_parts mark records (later ++ set ∷ earlier) h).1) [
            | inl last ↦ set_after path owner mode None done earlier last.1
            | inr behind ↦ set_after path owner mode (set_by behind.1) done earlier behind.3
          ];
    }
