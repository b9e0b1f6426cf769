-- A rehearsal on the files of a plan's records alone, whose inventory comes in pieces.
use Rattle.std.proofs.Common.{◌≡◌, ℕ, ◌≤◌, List, [], ◌∷◌, ◌++◌, Option, None, Some, Ok, Err, IfSome, All, length, get_or, refl, sym, ◌∙◌, ap, arith}
use Rattle.std.specs.List.{position}
use Rattle.std.specs.Option.{is_some, IfNone}
use Rattle.std.specs.Str.{bytes_eq}
use Rattle.std.proofs.lemmas.List.{append-nil, get_or-map, length-map}
use Rattle.std.proofs.lemmas.List.Elements.{All-head, All-tail}
use Rattle.std.proofs.lemmas.List.Sums.{length-filter, count_by-le-length}
use Rattle.idtext.specs.First.{first_fault, or_else}
use Rattle.mtree_inv.specs.declared.entry.Entry.{Entry}
use Rattle.mtree_inv.proofs.FewLemmas.{inventory-few}
use Rattle.mtree_inv.proofs.StandLemmas.{at_none}
use Rattle.mtree_inv.specs.Inventory.{inventory}
use Rattle.mtree_inv.specs.Standing.{ReaderValue, GrowAlike}
use Rattle.reown_plan.specs.PlanData.{PlanData, PlanRecord}
use Rattle.reown_plan.specs.Places.{paths_in}
use Rattle.reown_runner.specs.Memory.{owner_in}
use Rattle.reown_runner.specs.PlanTree.{FilesOfPlan, found_among}
use Rattle.reown_runner.proofs.PlanTrees.{files_at, same_owner}
use Rattle.unify_texts.specs.declared.fault.Fault.{Fault}
use Rattle.rehearsal.specs.PlanRehearsal.{IsRefusedBy}
use Rattle.rehearsal.specs.Rehearsing.{found_fault, record_fault, rehearsed}

module _ (files : List Entry) (records : List PlanRecord) where
  abbrev pub planned : List Entry
  planned = files_at (paths_in records) files

  pub planned_few : length planned ≤ length files
  planned_few =
      let counted = length-filter (λ (f : Entry). is_some (position (bytes_eq f.path) (paths_in records))) files in
      let few = count_by-le-length (λ (f : Entry). is_some (position (bytes_eq f.path) (paths_in records))) files in
      omega (arith, counted, few)

  same_at : All (λ (r : PlanRecord). owner_in planned r.path ≡ owner_in files r.path) records
  same_at k d h =
      same_owner (paths_in records) files (get_or records k d).path k (omega (arith, length-map records (λ (r : PlanRecord). r.path))) (get_or-map (λ (r : PlanRecord). r.path) records k d [] h)

  faults_from : (rest seen : List PlanRecord) → All (λ (r : PlanRecord). owner_in planned r.path ≡ owner_in files r.path) rest → first_fault (record_fault planned) seen rest ≡ first_fault (record_fault files) seen rest
  unfolding first_fault
  faults_from [] seen same = refl
  faults_from (r ∷ rest) seen same =
      let here = All-head (λ (r : PlanRecord). owner_in planned r.path ≡ owner_in files r.path) r rest same in
      let more = faults_from rest (seen ++ r ∷ []) (All-tail (λ (r : PlanRecord). owner_in planned r.path ≡ owner_in files r.path) r rest same) in
      λ i. or_else (found_fault r (here i)) (more i)

  -- the first fault is that of all files
  pub same_fault : first_fault (record_fault planned) [] records ≡ first_fault (record_fault files) [] records
  same_fault = faults_from records [] same_at

-- what is refused whatever comes after it is refused as it is
pub refused_whole : (plan : PlanData) (text : List ℕ) (o : Option Fault) → IfSome o (IsRefusedBy plan text) → IfSome o (λ f. rehearsed (Ok plan) text ≡ Err f)
refused_whole plan text None h = tt
refused_whole plan text (Some f) h = ap (rehearsed (Ok plan)) (sym (append-nil text)) ∙ h []

-- after the end all files of the inventory are noted
pub record AreAllNoted (text : List ℕ) (paths : List (List ℕ)) (tree : FilesOfPlan) : Type 0 where
  pub files : List Entry
  pub read : inventory 16777216 text ≡ Ok files
  pub few : length files ≤ 16777216
  pub noted : tree ≡ found_among files paths

pub all_noted : (old new : ReaderValue) (text : List ℕ) (before after : FilesOfPlan) (paths : List (List ℕ)) → old.fault ≡ None → old.most ≡ 16777216 → old.waiting ≡ [] → IfNone old.fault (inventory old.most text ≡ Ok new.files)
    → GrowAlike old.files new.files old.waiting new.waiting → before ≡ found_among old.files paths → ((files : List Entry) (ps : List (List ℕ)) → before ≡ found_among files ps → after ≡ found_among (files ++ new.waiting) ps) → AreAllNoted text paths after
all_noted old new text before after paths sound takes waited told grown found noting =
    let read : inventory 16777216 text ≡ Ok new.files = ap (λ n. inventory n text) (sym takes) ∙ at_none old.fault sound told in
    let waiting : new.waiting ≡ grown.0 = grown.2 ∙ ap (λ ws. ws ++ grown.0) waited in
    record {
      files = new.files;
      read = read;
      few = inventory-few 16777216 text new.files read;
      noted = noting old.files paths found ∙ ap (λ fs. found_among fs paths) (ap (λ ws. old.files ++ ws) waiting ∙ sym grown.1);
    }
