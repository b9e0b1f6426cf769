-- A second pass, call by call.
use Rattle.std.proofs.Common.{◌≡◌, ℕ, ◌+◌, ◌<◌, true, List, [], ◌∷◌, ◌++◌, length, map, drop, get_or, Option, Some, None, Result, Ok, Err, refl, sym, ap, subst, ◌∙◌, arith, inr, append-nil, append_assoc, length-append}
use Rattle.std.specs.Prelude.{IfSome}
use Rattle.std.specs.List.{slice_get}
use Rattle.std.specs.Option.{option_map}
use Rattle.std.proofs.lemmas.List.{drop_at}
use Rattle.std.proofs.lemmas.Option.{same_Some, slice_get-get_or, slice_get-map}
use Rattle.idtext.specs.First.{first_fault}
use Rattle.mtree_inv.specs.declared.entry.Entry.{Entry}
use Rattle.mtree_inv.specs.Files.{AreFiles}
use Rattle.mtree_inv.specs.Inventory.{inventory}
use Rattle.mtree_inv.proofs.LawfulLemmas.{inventory-files}
use Rattle.mtree_inv.proofs.StandLemmas.{going_at}
use Rattle.idtext.proofs.OkLemmas.{ok_same}
use Rattle.hosts_join.specs.Site.{Joined}
use Rattle.hosts_join.specs.declared.host.Host.{Host}
use Rattle.reown_plan.specs.Spelling.{end}
use Rattle.unify_texts.specs.Told.{told}
use Rattle.unify_texts.specs.declared.fault.Fault.{Fault}
use Rattle.unify_texts.specs.declared.fault.Fault.TheVariants.{InventoryChanged}
use Rattle.site_tables.specs.declared.host.Loaded.{Loaded}
use Rattle.unify.specs.declared.known_owners.KnownOwner.{KnownOwner}
use Rattle.unify.specs.declared.merging.Merged.{Merged}
use Rattle.unify.specs.declared.plan_turn.PlanTurn.{PlanTurn}
use Rattle.unify.specs.declared.plan_turn.Stop.{Stop}
use Rattle.unify.specs.declared.plan_turn.Stop.TheVariants as stop
use Rattle.site_tables.specs.Hosts.{owner_fault}
use Rattle.unify.specs.KnownOwners.{AreKnown, NoneIsKnown}
use Rattle.unify.specs.Passes.{is_read}
use Rattle.unify.specs.PlanTurns.{IsAccepted, IsFreshTurn, IsSolving, Pass, TurnsFor, met_on, planned_so_far, seen, stop_told}
use Rattle.unify.specs.RowFiles.{RowFiles, row_files}
use Rattle.unify.specs.SecondPass.{IsNext, IsPlannedSoFar, IsUnfinished, WereFirst, or_changed, plan_before_end, second_files, second_lines, whole_plan}
use Rattle.unify.proofs.FilesSoFar.{files_all}
use Rattle.site_tables.proofs.Owners.{files_read}
use Rattle.unify.proofs.PlanTurns.{lines_are, lines_with}

-- ---- what is answered

-- a stop for another cause than memory is told as a change
pub changed_told : (host : Host) (halt : Stop) (e : Fault) (P : Type 0) → e ≡ stop_told host halt → (halt ≡ stop.Changed → P) → IfSome (told e) (λ f. (f ≡ InventoryChanged host.name) × P)
changed_told host stop.Changed e P is p = rw is (refl, p refl)
changed_told host stop.Memory e P is p = rw is tt

-- whole lines that were read
pub lines_known : (host : Host) (r : Result (List Entry) Fault) (files : List Entry) → r ≡ Ok files → is_read (or_changed host r) ≡ Ok tt
lines_known host r files is = rw is refl

-- whole lines that tell a change
pub lines_changed : (host : Host) (r : Result (List Entry) Fault) (halt : Stop) (e : Fault) → e ≡ stop_told host halt → (halt ≡ stop.Changed → (f : Fault) × (r ≡ Err f)) → IfSome (told e) (λ f. is_read (or_changed host r) ≡ Err f)
lines_changed host r stop.Changed e is p = rw (is, (p refl).1) refl
lines_changed host r stop.Memory e is p = rw is tt

-- ---- plans

second-ok : (host : Host) (r : Result (List Entry) Fault) (files : List Entry) → or_changed host r ≡ Ok files → r ≡ Ok files
second-ok host (Ok fs) files h = h
second-ok host (Err f) files h = absurd (cc)

-- the files of a second inventory are those of an inventory, and files
second-inventory : (host : Host) (text : List ℕ) (files : List Entry) → second_files host text ≡ Ok files → inventory 16777216 text ≡ Ok files
second-inventory host text files h =
    let l : Loaded = record { host = host; mtree = text } in
    (files_read l files (second-ok host _ files h)).0

second-files : (host : Host) (text : List ℕ) (files : List Entry) → second_files host text ≡ Ok files → AreFiles files
second-files host text files h = (inventory-files 16777216 text files (second-inventory host text files h)).0

-- a plan that wants its `end` line alone is not finished
pub accepted_unfinished : (host : Host) (joined : Joined) (merged : Merged) (index : ℕ) (text planned : List ℕ) → IsAccepted host joined merged index text planned → IsUnfinished host joined merged index text planned
accepted_unfinished host joined merged index text planned a =
    let whole = files_all text a.files (second-inventory host text a.files a.are) in
    inr (a.files, [], whole ∙ sym (append-nil a.files), second-files host text a.files a.are, a.planned_is)

-- with that line it is whole
pub accepted_whole : (host : Host) (joined : Joined) (merged : Merged) (index : ℕ) (text planned more : List ℕ) (a : IsAccepted host joined merged index text (planned ++ more)) → planned ++ (more ++ end) ≡ whole_plan host joined merged index a.files
accepted_whole host joined merged index text planned more a = sym (append_assoc planned more end) ∙ ap (λ t. t ++ end) a.planned_is

-- ---- turns

-- with an `end` line as yet to come, the plan is that for the files of the whole lines
planned_lines : (host : Host) (joined : Joined) (merged : Merged) (index : ℕ) (turn : PlanTurn) (text planned : List ℕ) → TurnsFor host joined merged index turn text planned → turn.is_begun ≡ true
    → (files : List Entry) × (second_lines host text ≡ Ok files) × (planned ≡ plan_before_end host joined merged index files)
planned_lines host joined merged index turn text planned turns begun =
    let files = turn.reader.files in
    let lines = lines_are turn.reader.most text files turns.most (going_at turn.reader text turns.sound turns.going turns.reading).1 in (
      files,
      ap (or_changed host) (lines_with host text files None lines turns.owned),
      turns.planned_is ∙ ap (λ b. planned_so_far host joined merged index b files) begun,
    )

none_known : (host : Host) (joined : Joined) (merged : Merged) (index : ℕ) (owners : List KnownOwner) → NoneIsKnown owners → AreKnown host joined merged index owners
none_known host joined merged index owners h = record {
  many = h.many;
  each = λ i d within. rw (h.none i d within) tt;
}

-- the turn of a host of whose second inventory nothing has come
pub fresh_turn : (host : Host) (joined : Joined) (merged : Merged) (index : ℕ) (turn : PlanTurn) → IsFreshTurn turn → turn.rows ≡ row_files host [] → TurnsFor host joined merged index turn [] []
unfolding first_fault
fresh_turn host joined merged index turn fresh rows = record {
  goes = fresh.goes;
  reading = fresh.reading;
  most = fresh.most;
  going = fresh.going;
  sound = fresh.sound;
  waiting = fresh.waiting;
  owned = ap (first_fault (owner_fault host) []) fresh.none;
  rows = rows ∙ ap (row_files host) (sym fresh.none);
  known = none_known host joined merged index turn.known.items fresh.unknown;
  none_unbegun = λ no. fresh.none;
  planned_is = rw fresh.unbegun refl;
}

-- ---- the fault that was met

pub stop_met : (o : Option Host) (p : Option Stop) (host : Host) (halt : Stop) (f : Fault) → o ≡ Some host → p ≡ Some halt → f ≡ stop_told host halt → met_on o p ≡ Some f
stop_met o p host halt f here met is = rw (here, met) (ap (λ (g : Fault). Some g) (sym is))

pub unstopped_met : (o : Option Host) (p : Option Stop) → p ≡ None → met_on o p ≡ None
unstopped_met None p is = refl
unstopped_met (Some host) p is = rw is refl

unmet_stop : (o : Option Host) (p : Option Stop) (host : Host) → o ≡ Some host → met_on o p ≡ None → p ≡ None
unmet_stop (Some h) None host here none = refl
unmet_stop (Some h) (Some x) host here none = absurd (cc)
unmet_stop None p host here none = absurd (cc)

again_on : (host : Host) (o : Option Stop) (halt : Stop) (f : Fault) (A B P : Type 0) → f ≡ stop_told host halt → (A → B) → IfSome o (λ s. (◌≡◌ {A = Result (Unit {0}) Stop} (Err halt) (Err s)) × A × P)
    → IfSome (met_on (Some host) o) (λ g. (◌≡◌ {A = Result (Unit {0}) Fault} (Err f) (Err g)) × B × P)
again_on host None halt f A B P is go again = tt
again_on host (Some s) halt f A B P is go again =
    let both = again.0 in
    let same : halt ≡ s = (cc) in
    (ap (λ (g : Fault). Err g) (is ∙ ap (stop_told host) same), go again.1, again.2)

unstopped : (o : Option Stop) (u : Unit {0}) (A P : Type 0) → IfSome o (λ x. (◌≡◌ {A = Result (Unit {0}) Stop} (Ok u) (Err x)) × A × P) → o ≡ None
unstopped None u A P again = refl
unstopped (Some x) u A P again = let bad = again.0 in absurd (cc)

-- ---- with a host whose turn it is

pub record IsTurnOf (p : Pass) (host : Host) : Type 0 where
  pub inv : IsSolving p
  pub left : p.ended < length p.hosts
  pub here : slice_get p.hosts p.ended ≡ Some host

-- it is looked up
pub turn_of : (p : Pass) (host : Host) → IsSolving p → length p.taken.ended < length p.hosts → host ≡ get_or p.hosts p.ended host → IsTurnOf p host
turn_of p host inv asked at =
    let left : p.ended < length p.hosts = omega (arith, asked, inv.ended_are) in
    record { inv = inv; left = left; here = slice_get-get_or p.hosts p.ended host left ∙ ap (λ (h : Host). Some h) (sym at) }

module _ {p : Pass} {host : Host} (turn_is : IsTurnOf p host) where
  inv : IsSolving p
  inv = turn_is.inv

  here : slice_get p.hosts p.ended ≡ Some host
  here = turn_is.here

  -- with a turn of it
  abbrev pub turned : PlanTurn → Pass
  turned turn = record p { turn = turn }

  -- what a turn that goes on has, the next host has
  pub for_next : (P : Host → Type 0) → (TurnsFor host p.joined p.merged p.ended p.turn p.taken.text p.taken.planned → P host) → (other : Host) → IsNext (seen p) other → P other
  for_next P has other next =
      let there : slice_get p.hosts p.ended ≡ Some other = ap (slice_get p.hosts) (sym inv.ended_are) ∙ next.0 in
      subst P (same_Some host other (sym here ∙ there)) (has (inv.turns host here (unmet_stop (slice_get p.hosts p.ended) p.turn.stop host here next.1)))

  -- how many files its rows owned in the first pass
  pub first_rows : (rows : RowFiles) (were : List Entry) → rows ≡ get_or p.passed p.ended rows → WereFirst (seen p) host were → rows ≡ row_files host were
  first_rows rows were is first =
      let at : slice_get p.passed p.ended ≡ Some rows = slice_get-get_or p.passed p.ended rows (omega (arith, turn_is.left, inv.behind.one_each)) ∙ ap (λ (x : RowFiles). Some x) (sym is) in
      let counting = inv.behind.counting in
      let count : Host × List Entry → RowFiles = λ there. row_files there.0 there.1 in
      let passed : p.passed ≡ map count first.0 = counting.passed_are ∙ ap (map count) (ok_same counting.read first.0 (sym counting.accepted ∙ first.1)) in
      let was : slice_get first.0 p.ended ≡ Some (host, were) = ap (slice_get first.0) (sym inv.ended_are) ∙ first.2 in
      let counted : slice_get p.passed p.ended ≡ Some (row_files host were) = ap (λ rs. slice_get rs p.ended) passed ∙ slice_get-map count first.0 p.ended ∙ ap (option_map count) was in
      same_Some rows (row_files host were) (sym at ∙ counted)

  pub stopped_seen : (turn : PlanTurn) (halt : Stop) (f : Fault) → turn.stop ≡ Some halt → f ≡ stop_told host halt → seen (turned turn) ≡ record (seen p) { met = Some f }
  stopped_seen turn halt f met is = ap (λ o. record (seen p) { met = o }) (stop_met (slice_get p.hosts p.ended) turn.stop host halt f here met is)

  -- it answers the same again
  pub again_stopped : (turn : PlanTurn) (halt : Stop) (f : Fault) (P : Type 0) → f ≡ stop_told host halt → IfSome p.turn.stop (λ x. (◌≡◌ {A = Result (Unit {0}) Stop} (Err halt) (Err x)) × (turn ≡ p.turn) × P)
      → IfSome (seen p).met (λ g. (◌≡◌ {A = Result (Unit {0}) Fault} (Err f) (Err g)) × (seen (turned turn) ≡ seen p) × P)
  again_stopped turn halt f P is again =
      subst (λ (o : Option Host). IfSome (met_on o p.turn.stop) (λ g. (◌≡◌ {A = Result (Unit {0}) Fault} (Err f) (Err g)) × (seen (turned turn) ≡ seen p) × P)) (sym here)
      (again_on host p.turn.stop halt f (turn ≡ p.turn) (seen (turned turn) ≡ seen p) P is (λ same. ap (λ t. seen (turned t)) same) again)

  -- a call that was answered with Ok met no fault before
  module _ (u : Unit {0}) (A P : Type 0) (again : IfSome p.turn.stop (λ x. (◌≡◌ {A = Result (Unit {0}) Stop} (Ok u) (Err x)) × A × P)) where
    pub was_unmet : (seen p).met ≡ None
    was_unmet = unstopped_met (slice_get p.hosts p.ended) p.turn.stop (unstopped p.turn.stop u A P again)

    -- ---- after a piece

    -- old, new: the plan
    module _ (turn : PlanTurn) (bytes old new : List ℕ) (stands : (text planned : List ℕ) → TurnsFor host p.joined p.merged p.ended p.turn text planned
        → (more : List ℕ) × (new ≡ old ++ more) × TurnsFor host p.joined p.merged p.ended turn (text ++ bytes) (planned ++ more)) where
      fed_turns : (more : List ℕ) × (new ≡ old ++ more) × TurnsFor host p.joined p.merged p.ended turn (p.taken.text ++ bytes) (p.taken.planned ++ more)
      fed_turns = stands p.taken.text p.taken.planned (inv.turns host here (unstopped p.turn.stop u A P again))

      abbrev pub fed : Pass
      fed = record p { turn = turn; taken = record p.taken { text = p.taken.text ++ bytes; planned = p.taken.planned ++ drop (length old) new } }

      more_is : drop (length old) new ≡ fed_turns.0
      more_is = ap (drop (length old)) fed_turns.1 ∙ drop_at old fed_turns.0 (length old) refl

      fed_here : TurnsFor host p.joined p.merged p.ended turn (p.taken.text ++ bytes) (p.taken.planned ++ drop (length old) new)
      fed_here = subst (λ more. TurnsFor host p.joined p.merged p.ended turn (p.taken.text ++ bytes) (p.taken.planned ++ more)) (sym more_is) fed_turns.2

      pub fed_solving : IsSolving fed
      fed_solving = record {
        behind = inv.behind;
        ended_are = inv.ended_are;
        within = inv.within;
        turns = λ other there goes. subst (λ (h : Host). TurnsFor h p.joined p.merged p.ended turn (p.taken.text ++ bytes) (p.taken.planned ++ drop (length old) new)) (same_Some host other (sym here ∙ there)) fed_here;
      }

      -- what is told of it
      pub fed_told : turn.is_begun ≡ true → (more : List ℕ) × (new ≡ old ++ more) × (seen fed ≡ record (seen p) { text = p.taken.text ++ bytes; planned = p.taken.planned ++ more }) × IsPlannedSoFar (seen fed) host
      fed_told begun =
          let lines = planned_lines host p.joined p.merged p.ended turn (p.taken.text ++ bytes) (p.taken.planned ++ drop (length old) new) fed_here begun in
          let unmet : met_on (slice_get p.hosts p.ended) turn.stop ≡ (seen p).met = unstopped_met (slice_get p.hosts p.ended) turn.stop fed_here.goes ∙ sym was_unmet in (
            fed_turns.0,
            fed_turns.1,
            (λ i. record (seen p) { text = p.taken.text ++ bytes; planned = p.taken.planned ++ more_is i; met = unmet i }),
            (lines.0, lines.1, lines.2 ∙ ap (λ k. plan_before_end host p.joined p.merged k lines.0) (sym inv.ended_are)),
          )

    -- ---- after its end

    module _ (turn : PlanTurn) (new : (next : Host) → slice_get p.hosts (p.ended + 1) ≡ Some next → TurnsFor next p.joined p.merged (p.ended + 1) turn [] []) where
      abbrev pub after : Pass
      after = record p { ended = p.ended + 1; turn = turn; taken = record { ended = p.taken.ended ++ p.taken.text ∷ []; text = []; planned = [] } }

      pub after_solving : IsSolving after
      after_solving = record {
        behind = inv.behind;
        ended_are = omega (arith, inv.ended_are, length-append p.taken.ended (p.taken.text ∷ []));
        within = omega (arith, turn_is.left);
        turns = λ next there goes. new next there;
      }

      pub after_seen : turn.stop ≡ None → seen after ≡ record (seen p) { ended = p.taken.ended ++ p.taken.text ∷ []; text = []; planned = [] }
      after_seen goes = ap (λ o. record (seen p) { ended = p.taken.ended ++ p.taken.text ∷ []; text = []; planned = []; met = o }) (unstopped_met (slice_get p.hosts (p.ended + 1)) turn.stop goes ∙ sym was_unmet)
