-- The turn of a host in the second pass.
use Rattle.std.proofs.Common.{◌≡◌, ◌≢◌, ℕ, ◌+◌, ◌<◌, ◌≤◌, Bool, true, false, not, List, [], ◌∷◌, ◌++◌, length, map, get_or, Option, Some, None, Result, Ok, Err, Vec, Global, refl, sym, ap, subst, ◌∙◌, arith, append-nil, append_assoc, inl, inr, length-append}
use Rattle.std.specs.Prelude.{IfSome, if◌then◌else◌}
use Rattle.std.specs.List.{All, filter}
use Rattle.std.specs.Result.{OnOk}
use Rattle.std.proofs.lemmas.Bool.{true≢false}
use Rattle.std.proofs.lemmas.List.{get_or_append_left, map-append}
use Rattle.std.proofs.lemmas.List.Concat.{flat_map-append}
use Rattle.std.proofs.lemmas.List.Elements.{All-head, All-tail, filter-append}
use Rattle.idtext.specs.First.{◌>>=◌, first_fault, or_else, unless}
use Rattle.idtext.specs.Faults.{fault_told}
use Rattle.idtext.specs.declared.faults.ReadError.{ReadError}
use Rattle.idtext.specs.declared.faults.ReadError.TheVariants as read
use Rattle.idtext.specs.declared.faults.TextFault.{TextFault}
use Rattle.mtree_inv.specs.declared.entry.Entry.{Entry}
use Rattle.mtree_inv.specs.Files.{AreFiles, IsLawfulFile}
use Rattle.mtree_inv.specs.Inventory.{inventory, inventory_of_lines}
use Rattle.mtree_inv.specs.Logical.{whole_lines}
use Rattle.mtree_inv.specs.Standing as standing
use Rattle.mtree_inv.specs.Standing.{ReaderValue}
use Rattle.mtree_inv.proofs.LawfulLemmas.{reader-files}
use Rattle.mtree_inv.proofs.ReadLemmas.{Grows, grows-twice}
use Rattle.hosts_join.specs.Site.{Joined}
use Rattle.hosts_join.specs.declared.host.Host.{Host}
use Rattle.ownership.specs.declared.mapping.Mappings.{Mappings}
use Rattle.reown_plan.specs.declared.plan.Owner.{Owner}
use Rattle.reown_plan.specs.Owners.{owner_of, owner_eq}
use Rattle.reown_plan.specs.Spelling.{head, line, lines}
use Rattle.reown_plan.specs.Target.{plan_of, record_to, records_to, target}
use Rattle.unify_texts.specs.declared.bundle_line.FileName.TheVariants as file
use Rattle.unify_texts.specs.declared.fault.Fault.{Fault}
use Rattle.unify_texts.specs.declared.fault.Fault.TheVariants.{InventoryChanged, Line}
use Rattle.unify.specs.declared.merging.Merged.{Merged}
use Rattle.unify.specs.declared.known_owners.KnownOwner.{KnownOwner}
use Rattle.unify.specs.declared.plan_turn.PlanTurn.{PlanTurn}
use Rattle.unify.specs.declared.plan_turn.Stop.{Stop}
use Rattle.unify.specs.declared.plan_turn.Stop.TheVariants as stop
use Rattle.site_tables.specs.Hosts.{owner_fault, files_of}
use Rattle.unify.specs.KnownOwners.{AreKnown}
use Rattle.unify.specs.RowFiles.{RowFiles, row_files}
use Rattle.unify.specs.PlanTurns.{GoesOn, TellsLines, TurnsFor, planned_so_far, stop_of}
use Rattle.unify.specs.SecondPass.{IsUnfinished, or_changed, owned_lines, plan_before_end, second_files}
use Rattle.unify.proofs.FilesSoFar.{files_first, files_so_far}
use Rattle.unify.proofs.Turns.{files_with, grown_files, inventory_is, none_then}

-- ---- files after files

-- a judge that asks nothing of the items before
pub first_none : {A F : Type 0} (judge : A → Option F) (seen xs : List A) → All (λ x. judge x ≡ None) xs → first_fault (λ s x. judge x) seen xs ≡ None
unfolding first_fault
first_none judge seen [] all = refl
first_none judge seen (x ∷ xs) all = rw (All-head (λ y. judge y ≡ None) x xs all) (first_none judge (seen ++ x ∷ []) xs (All-tail (λ y. judge y ≡ None) x xs all))

pub first_at : {A F : Type 0} (judge : A → Option F) (seen before : List A) (e : A) (after : List A) (f : F) → All (λ x. judge x ≡ None) before → judge e ≡ Some f → first_fault (λ s x. judge x) seen (before ++ e ∷ after) ≡ Some f
unfolding first_fault
first_at judge seen [] e after f all is = rw is refl
first_at judge seen (x ∷ before) e after f all is =
    rw (All-head (λ y. judge y ≡ None) x before all) (first_at judge (seen ++ x ∷ []) before e after f (All-tail (λ y. judge y ≡ None) x before all) is)

-- it finds the same after others
first_anywhere : {A F : Type 0} (judge : A → Option F) (seen other xs : List A) → first_fault (λ s x. judge x) seen xs ≡ first_fault (λ s x. judge x) other xs
unfolding first_fault
first_anywhere judge seen other [] = refl
first_anywhere judge seen other (x ∷ xs) = ap (or_else (judge x)) (first_anywhere judge (seen ++ x ∷ []) (other ++ x ∷ []) xs)

-- ---- plans of files after files

records_both : (to : Entry → Owner) (files more : List Entry) → records_to to (files ++ more) ≡ records_to to files ++ records_to to more
records_both to files more =
    ap (map (record_to to)) (filter-append (λ (f : Entry). not (owner_eq (owner_of f) (to f))) files more)
    ∙ map-append (record_to to) (filter (λ (f : Entry). not (owner_eq (owner_of f) (to f))) files) (filter (λ (f : Entry). not (owner_eq (owner_of f) (to f))) more)

pub lines_both : (joined : Joined) (m : Mappings) (index : ℕ) (files more : List Entry)
    → lines (plan_of joined m index (files ++ more)) ≡ lines (plan_of joined m index files) ++ lines (plan_of joined m index more)
lines_both joined m index files more =
    let to = target joined m index in
    ap lines (records_both to files more) ∙ flat_map-append line (records_to to files) (records_to to more)

plan_more : (host : Host) (joined : Joined) (merged : Merged) (index : ℕ) (files more : List Entry)
    → plan_before_end host joined merged index files ++ lines (plan_of joined merged.mappings index more) ≡ plan_before_end host joined merged index (files ++ more)
plan_more host joined merged index files more =
    append_assoc (head host.name) (lines (plan_of joined merged.mappings index files)) (lines (plan_of joined merged.mappings index more))
    ∙ ap (λ t. head host.name ++ t) (sym (lines_both joined merged.mappings index files more))

-- ---- the header

-- what a plan lacks of its header
abbrev pub head_left : Host → Bool → List ℕ
head_left host true = []
head_left host false = head host.name

pub head_more : (host : Host) (begun : Bool) (old : List ℕ) → (if begun then old else old ++ head host.name) ≡ old ++ head_left host begun
head_more host true old = sym (append-nil old)
head_more host false old = refl

begun_plan : (host : Host) (joined : Joined) (merged : Merged) (index : ℕ) (begun : Bool) (files : List Entry) (planned : List ℕ) → (begun ≡ false → files ≡ []) → planned ≡ planned_so_far host joined merged index begun files
    → planned ++ head_left host begun ≡ plan_before_end host joined merged index files
begun_plan host joined merged index true files planned none is = append-nil planned ∙ is
begun_plan host joined merged index false files planned none is =
    ap (λ t. t ++ head host.name) is ∙ sym (append-nil (head host.name)) ∙ ap (plan_before_end host joined merged index) (sym (none refl))

-- the turn with its header
pub begun_turn : (host : Host) (joined : Joined) (merged : Merged) (index : ℕ) (old turn : PlanTurn) (text planned : List ℕ) → TurnsFor host joined merged index old text planned → turn ≡ record old { is_begun = true }
    → TurnsFor host joined merged index turn text (planned ++ head_left host old.is_begun)
begun_turn host joined merged index old turn text planned turns is =
    subst (λ t. TurnsFor host joined merged index t text (planned ++ head_left host old.is_begun)) (sym is) (record {
      goes = turns.goes;
      reading = turns.reading;
      most = turns.most;
      going = turns.going;
      sound = turns.sound;
      waiting = turns.waiting;
      owned = turns.owned;
      rows = turns.rows;
      known = turns.known;
      none_unbegun = λ e. absurd (true≢false e);
      planned_is = begun_plan host joined merged index old.is_begun old.reader.files planned turns.none_unbegun turns.planned_is;
    })

-- ---- plans that are not finished

-- the first of some files
files_front : (files more : List Entry) → AreFiles (files ++ more) → AreFiles files
files_front files more h = record {
  distinct = λ i j d before within.
      let long : j < length (files ++ more) = omega (arith, within, length-append files more) in
      let here : (get_or (files ++ more) i d).path ≢ (get_or (files ++ more) j d).path = h.distinct i j d before long in
      rw (get_or_append_left files more d i (omega (arith, before, within)), get_or_append_left files more d j within) at here;
  lawful = λ k d within.
      let long : k < length (files ++ more) = omega (arith, within, length-append files more) in
      subst IsLawfulFile (get_or_append_left files more d k within) (h.lawful k d long);
}

unfinished_so_far : (host : Host) (joined : Joined) (merged : Merged) (index : ℕ) (begun : Bool) (files : List Entry) (text planned : List ℕ) → Grows files (standing.files_before_fault 16777216 text) → AreFiles files
    → planned ≡ planned_so_far host joined merged index begun files → IsUnfinished host joined merged index text planned
unfinished_so_far host joined merged index true files text planned first are is = inr (files, first.0, first.1, are, is)
unfinished_so_far host joined merged index false files text planned first are is = inl is

-- what a turn planned is not finished
-- fed: what came by now
pub unfinished_turn : (host : Host) (joined : Joined) (merged : Merged) (index : ℕ) (turn : PlanTurn) (text more fed planned : List ℕ) → text ++ more ≡ fed → TurnsFor host joined merged index turn text planned → IsUnfinished host joined merged index fed planned
unfinished_turn host joined merged index turn text more fed planned is turns =
    let first = subst (λ t. Grows turn.reader.files (standing.files_before_fault 16777216 t)) is (files_first turn.reader text more turns.most turns.sound turns.going turns.reading) in
    unfinished_so_far host joined merged index turn.is_begun turn.reader.files fed planned first (reader-files turn.reader text turns.reading).0 turns.planned_is

-- nothing was appended
pub unfinished_still : (host : Host) (joined : Joined) (merged : Merged) (index : ℕ) (turn : PlanTurn) (text more fed planned : List ℕ) → text ++ more ≡ fed → TurnsFor host joined merged index turn text planned → IsUnfinished host joined merged index fed (planned ++ [])
unfinished_still host joined merged index turn text more fed planned is turns =
    subst (IsUnfinished host joined merged index fed) (sym (append-nil planned)) (unfinished_turn host joined merged index turn text more fed planned is turns)

-- ---- what the text says

lines_faulty : (host : Host) (most : ℕ) (text : List ℕ) (t : TextFault) → most ≡ 16777216 → inventory_of_lines most (whole_lines text) ≡ Err t → (f : Fault) × (owned_lines host text ≡ Err f)
unfolding owned_lines
lines_faulty host most text t is h =
    let here : inventory_of_lines 16777216 (whole_lines text) ≡ Err t = ap (λ n. inventory_of_lines n (whole_lines text)) (sym is) ∙ h in
    (Line host.name file.Mtree t.code t.line, rw here refl)

pub lines_with : (host : Host) (text : List ℕ) (files : List Entry) (o : Option Fault) → inventory_of_lines 16777216 (whole_lines text) ≡ Ok files → first_fault (owner_fault host) [] files ≡ o → owned_lines host text ≡ (unless o (tt {0}) >>= λ u. Ok files)
unfolding owned_lines
lines_with host text files o h is = rw (h, is) refl

pub lines_are : (most : ℕ) (text : List ℕ) (files : List Entry) → most ≡ 16777216 → inventory_of_lines most (whole_lines text) ≡ Ok files → inventory_of_lines 16777216 (whole_lines text) ≡ Ok files
lines_are most text files is h = ap (λ n. inventory_of_lines n (whole_lines text)) (sym is) ∙ h

second_faulty : (host : Host) (most : ℕ) (text : List ℕ) (t : TextFault) → most ≡ 16777216 → inventory most text ≡ Err t → second_files host text ≡ Err (InventoryChanged host.name)
unfolding files_of
second_faulty host most text t is h =
    let here : inventory 16777216 text ≡ Err t = ap (λ n. inventory n text) (sym is) ∙ h in
    rw here refl

pub second_owned : (host : Host) (most : ℕ) (text : List ℕ) (files : List Entry) → most ≡ 16777216 → inventory most text ≡ Ok files → first_fault (owner_fault host) [] files ≡ None → second_files host text ≡ Ok files
second_owned host most text files is h none = ap (or_changed host) (files_with host text files None (inventory_is text most files is h) none)

pub second_unowned : (host : Host) (most : ℕ) (text : List ℕ) (files : List Entry) (f : Fault) → most ≡ 16777216 → inventory most text ≡ Ok files → first_fault (owner_fault host) [] files ≡ Some f → second_files host text ≡ Err (InventoryChanged host.name)
second_unowned host most text files f is h some = ap (or_changed host) (files_with host text files (Some f) (inventory_is text most files is h) some)

-- ---- why a reading stopped

pub memory-changed : stop.Memory ≡ stop.Changed → ⊥
memory-changed e = absurd (cc)

pub never-changed : (r : Result (Unit {0}) Stop) (s : Stop) → r ≡ Err s → s ≡ stop.Memory → r ≡ Err stop.Changed → ⊥
never-changed r s is memory changed = absurd (cc)

pub lines_changed : (host : Host) (most : ℕ) (text : List ℕ) (e : ReadError) → most ≡ 16777216 → IfSome (fault_told e) (λ f. inventory_of_lines most (whole_lines text) ≡ Err f) → stop_of e ≡ stop.Changed → (f : Fault) × (owned_lines host text ≡ Err f)
lines_changed host most text read.Memory is h changed = absurd (memory-changed changed)
lines_changed host most text (read.Fault t) is h changed = lines_faulty host most text t is h

pub second_changed : (host : Host) (most : ℕ) (text : List ℕ) (e : ReadError) → most ≡ 16777216 → IfSome (fault_told e) (λ f. inventory most text ≡ Err f) → stop_of e ≡ stop.Changed → second_files host text ≡ Err (InventoryChanged host.name)
second_changed host most text read.Memory is h changed = absurd (memory-changed changed)
second_changed host most text (read.Fault t) is h changed = second_faulty host most text t is h

pub not_both : {A F : Type 0} (r : Result A F) (x : A) (f : F) → r ≡ Err f → r ≡ Ok x → ⊥
not_both r x f e o = absurd (cc)

-- ---- files that are appended

-- one more of the files that wait was appended
pub next_stays : (initial turn : PlanTurn) (after : ReaderValue) (rows : RowFiles) (known : Vec KnownOwner Global) → turn ≡ record initial { reader = record initial.reader { waiting = turn.reader.waiting }; rows = turn.rows; known = turn.known } → after ≡ record turn.reader { waiting = after.waiting }
    → record turn { reader = after; rows = rows; known = known } ≡ record initial { reader = record initial.reader { waiting = after.waiting }; rows = rows; known = known }
next_stays initial turn after rows known stays next =
    let same : after ≡ record initial.reader { waiting = after.waiting } = next ∙ ap (λ (t : PlanTurn). record t.reader { waiting = after.waiting }) stays in
    λ i. record { reader = same i; rows = rows; known = known; is_begun = (stays i).is_begun; stop = (stays i).stop }

-- the plan has its header, and the reader took more, of which the files wait
-- text: what came before; fed: what came by now
pub record HasMore (host : Host) (joined : Joined) (merged : Merged) (index : ℕ) (turn : PlanTurn) (after : ReaderValue) (text fed planned : List ℕ) : Type 0 where
  pub turns : TurnsFor host joined merged index turn text planned
  pub begun : turn.is_begun ≡ true
  pub most : after.most ≡ turn.reader.most
  pub grow : standing.GrowAlike turn.reader.files after.files turn.reader.waiting after.waiting
  pub stands : standing.StandsFor after fed

-- a turn that begins its plan, and whose reader takes more
pub more_after : (host : Host) (joined : Joined) (merged : Merged) (index : ℕ) (old turn : PlanTurn) (after : ReaderValue) (text fed planned : List ℕ) → TurnsFor host joined merged index old text planned → turn ≡ record old { is_begun = true } → after.most ≡ turn.reader.most
    → standing.GrowAlike turn.reader.files after.files turn.reader.waiting after.waiting → (standing.StandsFor turn.reader text → standing.StandsFor after fed) → HasMore host joined merged index turn after text fed (planned ++ head_left host old.is_begun)
more_after host joined merged index old turn after text fed planned turns is most grow goes =
    let begun = begun_turn host joined merged index old turn text planned turns is in
    record { turns = begun; begun = ap (λ (t : PlanTurn). t.is_begun) is; most = most; grow = grow; stands = goes begun.reading }

module _ (host : Host) (joined : Joined) (merged : Merged) (index : ℕ) (turn : PlanTurn) (after : ReaderValue) (text fed planned : List ℕ) (more : HasMore host joined merged index turn after text fed planned) where
  -- they stand after those that were appended
  files_more : after.files ≡ turn.reader.files ++ after.waiting
  files_more = grown_files turn.reader.files after.files turn.reader.waiting after.waiting more.grow more.turns.waiting

  -- there is room for them
  pub room_more : (files : List Entry) × (turn.rows ≡ row_files host files) × (length files + length after.waiting ≤ 2147483648)
  room_more =
      let most : length after.files ≤ 16777216 = subst (λ n. length after.files ≤ n) (more.most ∙ more.turns.most) (reader-files after fed more.stands).1 in
      (turn.reader.files, more.turns.rows, omega (arith, most, ap length files_more, length-append turn.reader.files after.waiting))

  -- the plan with some of them
  planned_more : (done : List Entry) → planned ++ lines (plan_of joined merged.mappings index done) ≡ plan_before_end host joined merged index (turn.reader.files ++ done)
  planned_more done =
      let is : planned ≡ plan_before_end host joined merged index turn.reader.files = more.turns.planned_is ∙ ap (λ b. planned_so_far host joined merged index b turn.reader.files) more.begun in
      ap (λ t. t ++ lines (plan_of joined merged.mappings index done)) is ∙ plan_more host joined merged index turn.reader.files done

  planned_all : planned ++ lines (plan_of joined merged.mappings index after.waiting) ≡ plan_before_end host joined merged index after.files
  planned_all = planned_more after.waiting ∙ ap (plan_before_end host joined merged index) (sym files_more)

  -- the plan for some of them is not finished
  pub unfinished_more : (done left : List Entry) → after.waiting ≡ done ++ left → after.fault ≡ None → IsUnfinished host joined merged index fed (planned ++ lines (plan_of joined merged.mappings index done))
  unfinished_more done left split sound =
      let parts : after.files ≡ (turn.reader.files ++ done) ++ left = files_more ∙ ap (λ ws. turn.reader.files ++ ws) split ∙ sym (append_assoc turn.reader.files done left) in
      let first = grows-twice (turn.reader.files ++ done) after.files (standing.files_before_fault 16777216 fed) (left, parts) (files_so_far after fed (more.most ∙ more.turns.most) sound more.stands) in
      inr (turn.reader.files ++ done, first.0, first.1, files_front (turn.reader.files ++ done) left (subst AreFiles parts (reader-files after fed more.stands).0), planned_more done)

  -- what is found of them is found of all files
  fault_more : first_fault (owner_fault host) [] after.files ≡ first_fault (owner_fault host) [] after.waiting
  fault_more =
      ap (first_fault (owner_fault host) []) files_more
      ∙ none_then (owner_fault host) [] turn.reader.files after.waiting more.turns.owned
      ∙ first_anywhere (owner_fault host []) turn.reader.files [] after.waiting

  -- all of them are owned
  pub owned_more : All (λ f. owner_fault host [] f ≡ None) after.waiting → first_fault (owner_fault host) [] after.files ≡ None
  owned_more owned = fault_more ∙ first_none (owner_fault host []) [] after.waiting owned

  -- one of them is not
  pub unowned_more : (f : Fault) → first_fault (owner_fault host) [] after.waiting ≡ Some f → first_fault (owner_fault host) [] after.files ≡ Some f
  unowned_more f first = fault_more ∙ first

  -- each of them is counted
  pub rows_more : (rows : RowFiles) → ((files : List Entry) → turn.rows ≡ row_files host files → rows ≡ row_files host (files ++ after.waiting)) → rows ≡ row_files host after.files
  rows_more rows counted = counted turn.reader.files more.turns.rows ∙ ap (row_files host) (sym files_more)

  -- the turn when all of them were appended
  turn_more : (new : PlanTurn) → new ≡ record turn { reader = record after { waiting = [] }; rows = new.rows; known = new.known } → AreKnown host joined merged index new.known.items → after.is_finished ≡ false → after.fault ≡ None → standing.StandsFor new.reader fed → All (λ f. owner_fault host [] f ≡ None) after.waiting
      → ((files : List Entry) → turn.rows ≡ row_files host files → new.rows ≡ row_files host (files ++ after.waiting)) → TurnsFor host joined merged index new fed (planned ++ lines (plan_of joined merged.mappings index after.waiting))
  turn_more new is known going sound stands owned counted =
      let begun : new.is_begun ≡ true = ap (λ (t : PlanTurn). t.is_begun) is ∙ more.begun in
      let files : new.reader.files ≡ after.files = ap (λ (t : PlanTurn). t.reader.files) is in
      record {
        goes = ap (λ (t : PlanTurn). t.stop) is ∙ more.turns.goes;
        reading = stands;
        most = ap (λ (t : PlanTurn). t.reader.most) is ∙ more.most ∙ more.turns.most;
        going = ap (λ (t : PlanTurn). t.reader.is_finished) is ∙ going;
        sound = ap (λ (t : PlanTurn). t.reader.fault) is ∙ sound;
        waiting = ap (λ (t : PlanTurn). t.reader.waiting) is;
        owned = ap (first_fault (owner_fault host) []) files ∙ owned_more owned;
        rows = rows_more new.rows counted ∙ ap (row_files host) (sym files);
        known = known;
        none_unbegun = λ e. absurd (true≢false (sym begun ∙ e));
        planned_is = planned_all ∙ ap (plan_before_end host joined merged index) (sym files) ∙ ap (λ b. planned_so_far host joined merged index b new.reader.files) (sym begun);
      }

  -- the plan for all of them
  pub planned_done : (done left : List Entry) → after.waiting ≡ done ++ left → left ≡ [] → planned ++ lines (plan_of joined merged.mappings index done) ≡ plan_before_end host joined merged index after.files
  planned_done done left split none =
      let whole : after.waiting ≡ done = split ∙ ap (λ ws. done ++ ws) none ∙ append-nil done in
      planned_more done ∙ ap (plan_before_end host joined merged index) (ap (λ ws. turn.reader.files ++ ws) (sym whole) ∙ sym files_more)

  -- what is told of whole lines
  pub told_more : (r : Result (Unit {0}) Stop) → inventory_of_lines turn.reader.most (whole_lines fed) ≡ Ok after.files → OnOk r (All (λ f. owner_fault host [] f ≡ None) after.waiting)
      → (r ≡ Err stop.Changed → (f : Fault) × (first_fault (owner_fault host) [] after.waiting ≡ Some f))
      → TellsLines host fed r
  told_more (Ok u) told owned unowned = (after.files, lines_with host fed after.files None (lines_are turn.reader.most fed after.files more.turns.most told) (owned_more owned))
  told_more (Err s) told owned unowned = λ changed.
      let first = unowned (ap (λ x. Err x) changed) in
      (first.0, lines_with host fed after.files (Some first.0) (lines_are turn.reader.most fed after.files more.turns.most told) (unowned_more first.0 first.1))

  -- and how the turn and the plan go on
  pub stands_more : (r : Result (Unit {0}) Stop) (new : PlanTurn) (done left : List Entry) → after.waiting ≡ done ++ left → OnOk r (left ≡ []) → OnOk r (new ≡ record turn { reader = record after { waiting = [] }; rows = new.rows; known = new.known }) → OnOk r (AreKnown host joined merged index new.known.items) → after.is_finished ≡ false → after.fault ≡ None
      → OnOk r (standing.StandsFor new.reader fed) → OnOk r (All (λ f. owner_fault host [] f ≡ None) after.waiting) → OnOk r ((files : List Entry) → turn.rows ≡ row_files host files → new.rows ≡ row_files host (files ++ after.waiting))
      → GoesOn host joined merged index new fed r (planned ++ lines (plan_of joined merged.mappings index done))
  stands_more (Ok u) new done left split none is known going sound stands owned counted =
      let whole : after.waiting ≡ done = split ∙ ap (λ ws. done ++ ws) none ∙ append-nil done in
      subst (λ ws. TurnsFor host joined merged index new fed (planned ++ lines (plan_of joined merged.mappings index ws))) whole (turn_more new is known going sound stands owned counted)
  stands_more (Err s) new done left split none is known going sound stands owned counted = unfinished_more done left split sound
