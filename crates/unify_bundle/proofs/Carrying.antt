-- Plans that are read and carried out, one by one.
use Rattle.std.proofs.Common.{◌≡◌, ℕ, zero, suc, ◌+◌, ◌<◌, Bool, List, [], ◌∷◌, ◌++◌, length, get_or, take, map, Option, Some, None, Result, Ok, Err, sym, ap, subst, ◌∙◌, arith, append-nil}
use Rattle.std.specs.List.{All, slice_get}
use Rattle.std.specs.Option.{option_map}
use Rattle.std.specs.Prelude.{IfSome}
use Rattle.std.proofs.lemmas.List.{length-map, map-append, take_more, get_or-map}
use Rattle.std.proofs.lemmas.Option.{slice_get-map, slice_get-get_or, slice_get_within, get_or_from_slice_get}
use Rattle.idtext.specs.First.{◌>>=◌, each}
use Rattle.idtext.proofs.OkLemmas.{bind_ok, ok_same, length-each}
use Rattle.mtree_inv.specs.Inventory.{inventory}
use Rattle.mtree_inv.specs.declared.entry.Entry.{Entry}
use Rattle.reown_plan.specs.PlanData.{PlanData}
use Rattle.reown_plan.specs.Spelling.{spelling, IsLawful}
use Rattle.reown_plan.proofs.Unique.{spelling_unique}
use Rattle.reown_runner.specs.declared.campaign.Event.{Event}
use Rattle.reown_runner.specs.declared.campaign.DriveFault.{DriveFault}
use Rattle.reown_runner.specs.declared.campaign.Event.TheVariants.{Advance}
use Rattle.reown_runner.specs.declared.campaign.EventFault.{EventFault}
use Rattle.reown_runner.specs.declared.campaign.EventFault.TheVariants.{Run, NoSuchHost}
use Rattle.reown_runner.specs.declared.memory.Keep.{Keep}
use Rattle.reown_runner.specs.declared.runner.RunFault.{RunFault}
use Rattle.reown_runner.specs.declared.runner.RunFault.TheVariants.{Device}
use Rattle.reown_runner.specs.Campaign.{AreForHosts, EachGoes, IsForHost, IsToldBy, happened, host_of, is_done, refused_for, refused_of}
use Rattle.reown_runner.specs.Memory.{Mem, known_mem, new_mem}
use Rattle.reown_plan.specs.Mark.{mark_of}
use Rattle.reown_runner.specs.RunnerData.{RunnerData, starting}
use Rattle.reown_runner.specs.Tree.{cells_of}
use Rattle.reown_runner.specs.World.{World, Hosted, IsHostOf}
use Rattle.reown_runner.proofs.Campaigns.{refused_here}
use Rattle.reown_runner.proofs.Finishing.{fresh_safe}
use Rattle.unify_bundle.specs.Carrying.{AreReady, AreCarriedOut, AreSpelledFor, at_start, new_tree_of}

-- what a step gave for the item at an index
pub each_at : {A B F : Type 0} (f : A → Result B F) (xs : List A) (ys : List B) → each f xs ≡ Ok ys → (k : ℕ) (d : A) (e : B) → k < length xs → f (get_or xs k d) ≡ Ok (get_or ys k e)
unfolding each
each_at f [] ys h k d e l = absurd (omega (arith, l))
each_at f (x ∷ xs) ys h zero d e l =
    let first = bind_ok (f x) (λ z. each f xs >>= λ zs. Ok (z ∷ zs)) ys h in
    let rest = bind_ok (each f xs) (λ zs. Ok (first.0 ∷ zs)) ys first.2 in
    first.1 ∙ ap (λ zs. Ok (get_or zs 0 e)) (ok_same (first.0 ∷ rest.0) ys rest.2)
each_at f (x ∷ xs) ys h (suc k) d e l =
    let first = bind_ok (f x) (λ z. each f xs >>= λ zs. Ok (z ∷ zs)) ys h in
    let rest = bind_ok (each f xs) (λ zs. Ok (first.0 ∷ zs)) ys first.2 in
    each_at f xs rest.0 rest.1 k d e (omega (arith, l)) ∙ ap (λ zs. Ok (get_or zs (suc k) e)) (ok_same (first.0 ∷ rest.0) ys rest.2)

-- one tree more
pub trees_more : (keep : Keep) (mtrees : List (List ℕ)) (files : List (List Entry)) → each (inventory 16777216) mtrees ≡ Ok files → (i : ℕ) (text : List ℕ) → i < length mtrees → text ≡ get_or mtrees i text
    → (own : List Entry) → inventory 16777216 text ≡ Ok own → (trees : List Mem) → trees ≡ map (new_tree_of keep) (take i files) → trees ++ new_tree_of keep own ∷ [] ≡ map (new_tree_of keep) (take (i + 1) files)
trees_more keep mtrees files read i text within at own is trees so_far =
    let long : i < length files = omega (arith, length-each (inventory 16777216) mtrees files read, within) in
    let there = ap (inventory 16777216) at ∙ each_at (inventory 16777216) mtrees files read i text [] within in
    let same : own ≡ get_or files i [] = ok_same own (get_or files i []) (sym is ∙ there) in
    ap (λ ts. ts ++ new_tree_of keep own ∷ []) so_far
    ∙ ap (λ fs. map (new_tree_of keep) (take i files) ++ new_tree_of keep fs ∷ []) same
    ∙ sym (map-append (new_tree_of keep) (take i files) (get_or files i [] ∷ []))
    ∙ sym (ap (map (new_tree_of keep)) (take_more files i [] long))

-- the text at an index spells the plan there
pub spelled_at : (texts : List (List ℕ)) (plans : List PlanData) → texts ≡ map spelling plans → (i : ℕ) (text : List ℕ) (d : PlanData) → i < length texts → text ≡ get_or texts i text → (i < length plans) × (text ≡ spelling (get_or plans i d))
spelled_at texts plans spelled i text d within at =
    let long : i < length plans = omega (arith, ap length spelled, length-map plans spelling, within) in
    (long, at ∙ ap (λ ts. get_or ts i text) spelled ∙ get_or-map spelling plans i d text long)

-- one plan more
pub plans_more : (texts : List (List ℕ)) (plans : List PlanData) → texts ≡ map spelling plans → All IsLawful plans → (i : ℕ) (text : List ℕ) → i < length texts → text ≡ get_or texts i text
    → (own : PlanData) → IsLawful own → text ≡ spelling own → (before : List PlanData) → before ≡ take i plans → before ++ own ∷ [] ≡ take (i + 1) plans
plans_more texts plans spelled lawful i text within at own is told before so_far =
    let there = spelled_at texts plans spelled i text own within at in
    let same : own ≡ get_or plans i own = (spelling_unique own (get_or plans i own) [] is (lawful i own there.0) (sym there.1 ∙ told ∙ sym (append-nil (spelling own)))).0 in
    ap (λ ps. ps ++ own ∷ []) so_far ∙ ap (λ p. take i plans ++ p ∷ []) same ∙ sym (take_more plans i own there.0)

-- one runner more
pub done_more : (runners : List RunnerData) (i : ℕ) (done : List Bool) → done ≡ map (λ r. is_done r.place) (take i runners) → (runner : RunnerData) → slice_get runners i ≡ Some runner → done ++ is_done runner.place ∷ [] ≡ map (λ r. is_done r.place) (take (i + 1) runners)
done_more runners i done so_far runner at =
    let long = slice_get_within runners i runner at in
    let told : RunnerData → Bool = λ r. is_done r.place in
    let same : runner ≡ get_or runners i runner = sym (get_or_from_slice_get runners i runner runner at) in
    ap (λ bs. bs ++ told runner ∷ []) so_far
    ∙ ap (λ r. map told (take i runners) ++ told r ∷ []) same
    ∙ sym (map-append told (take i runners) (get_or runners i runner ∷ []))
    ∙ sym (ap (map told) (take_more runners i runner long))

abbrev beginning : List PlanData → List Mem → World Mem
beginning plans trees = record { runners = at_start plans; trees = trees }

-- no event is refused, where each plan's tree is ready for it: the trees count no fault
pub never_refused : (plans : List PlanData) (trees : List Mem) → AreReady plans trees → (event : Event) → host_of event < length trees → (o : Option Event) → o ≡ Some event → (fault : EventFault) → IsForHost event (length trees) (Err fault)
    → (front : List Event) (after : World Mem) → EachGoes known_mem (beginning plans trees) front (λ host. refused_for host o fault) after → ⊥
never_refused plans trees are event within o at NoSuchHost for_host front after goes = omega (arith, within, for_host)
never_refused plans trees are event within o at (Run fault) for_host front after goes =
    let h = host_of event in
    let plan = get_or plans h (record { host = []; records = [] }) in
    let tree = get_or trees h (new_mem []) in
    let plan_at : slice_get plans h ≡ Some plan = slice_get-get_or plans h (record { host = []; records = [] }) (omega (arith, within, are.paired)) in
    let tree_at : slice_get trees h ≡ Some tree = slice_get-get_or trees h (new_mem []) within in
    let first : Hosted Mem = record { runner = starting plan; tree = tree } in
    let first_is : IsHostOf (beginning plans trees) h first = record { runner = slice_get-map starting plans h ∙ ap (option_map starting) plan_at; tree = tree_at } in
    let went = goes h first first_is in
    let ready = are.ready h plan tree plan_at tree_at in
    let safe = fresh_safe ready.inventory plan.records (cells_of (mark_of plan) (known_mem tree)) (ready.fresh (mark_of plan)) ready.old in
    let refused : refused_for h o (Run fault) ≡ Some fault = ap (λ e. refused_for h e (Run fault)) at ∙ refused_here h h fault (λ i. h) in
    let device : fault ≡ Device = subst (λ (r : Option RunFault). IfSome r (λ f. f ≡ Device)) refused (went.2.device ready.inventory safe) in
    let told : IsToldBy (Some Device) 0 0 = subst (λ (f : RunFault). IsToldBy (Some f) 0 0) device (subst (λ (r : Option RunFault). IsToldBy r 0 0) refused went.2.told) in
    omega (arith, told)

pub none_refused : (plans : List PlanData) (trees : List Mem) → AreReady plans trees → (events : List Event) → All (λ event. host_of event < length trees) events
    → (world : World Mem) → world.runners ≡ at_start plans → world.trees ≡ trees → (fault : DriveFault) → AreForHosts events (length world.trees) (Err fault)
    → (after : World Mem) → EachGoes known_mem world (happened events (Err fault)) (λ host. refused_of host events (Err fault)) after → ⊥
none_refused plans trees are events there world runners begun fault for_hosts after goes =
    let event = get_or events fault.event (Advance 0) in
    let at : slice_get events fault.event ≡ Some event = slice_get-get_or events fault.event (Advance 0) for_hosts.0 in
    let same : world ≡ beginning plans trees = λ i. record { runners = runners i; trees = begun i } in
    let for_host : IsForHost event (length trees) (Err fault.fault) = subst (λ (ts : List Mem). IsForHost event (length ts) (Err fault.fault)) begun (for_hosts.2 event at) in
    never_refused plans trees are event (there fault.event (Advance 0) for_hosts.0) (slice_get events fault.event) at fault.fault for_host (happened events (Err fault)) after
    (subst (λ (w : World Mem). EachGoes known_mem w (happened events (Err fault)) (λ host. refused_for host (slice_get events fault.event) fault.fault) after) same goes)

pub all_carried : (plans : List PlanData) (trees : List Mem) (events : List Event) (world : World Mem) → world.runners ≡ at_start plans → world.trees ≡ trees
    → (after : World Mem) → EachGoes known_mem world events (λ host. None) after → length after.runners ≡ length world.runners → length after.trees ≡ length world.trees
    → (done : List Bool) → done ≡ map (λ r. is_done r.place) after.runners → (ends : List Mem) → ends ≡ after.trees → AreCarriedOut plans trees events done ends
all_carried plans trees events world runners begun after goes as_many as_many_trees done told ends are =
    let same : world ≡ beginning plans trees = λ i. record { runners = runners i; trees = begun i } in
    let last : after ≡ record { runners = after.runners; trees = ends } = λ i. record { runners = after.runners; trees = sym are i } in
    record {
      runners = after.runners;
      a_runner_each = as_many ∙ ap length runners ∙ length-map plans starting;
      a_tree_each = ap length are ∙ as_many_trees ∙ ap length begun;
      went = subst (λ (w : World Mem). EachGoes known_mem (beginning plans trees) events (λ host. None) w) last (subst (λ (w : World Mem). EachGoes known_mem w events (λ host. None) after) same goes);
      done_are = told;
    }

-- the plans that were read and the trees that were made are those that were told
module _ (keep : Keep) (mtrees texts : List (List ℕ)) (files : List (List Entry)) (plans : List PlanData) (are : AreSpelledFor keep mtrees texts files plans) where
  pub read_ready : (read : List PlanData) → read ≡ plans → (trees : List Mem) → trees ≡ map (new_tree_of keep) files → AreReady read trees
  read_ready read same trees made = subst (λ (ts : List Mem). AreReady read ts) (sym made) (subst (λ (ps : List PlanData). AreReady ps (map (new_tree_of keep) files)) (sym same) are.ready)

  pub hosts_there : (trees : List Mem) → trees ≡ map (new_tree_of keep) files → (events : List Event) → All (λ event. host_of event < length mtrees) events → All (λ event. host_of event < length trees) events
  hosts_there trees made events there =
      let as_many : length mtrees ≡ length trees = sym (ap length made ∙ length-map files (new_tree_of keep) ∙ length-each (inventory 16777216) mtrees files are.read) in
      subst (λ (n : ℕ). All (λ event. host_of event < n) events) as_many there

pub told_carried : (read plans : List PlanData) → read ≡ plans → (trees begun : List Mem) → trees ≡ begun → (events : List Event) (done : List Bool) (ends : List Mem) → AreCarriedOut read trees events done ends → AreCarriedOut plans begun events done ends
told_carried read plans same trees begun made events done ends carried =
    subst (λ (ts : List Mem). AreCarriedOut plans ts events done ends) made (subst (λ (ps : List PlanData). AreCarriedOut ps trees events done ends) same carried)
