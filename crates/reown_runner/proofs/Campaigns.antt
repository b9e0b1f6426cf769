-- How a host goes, event after event.
use Rattle.std.proofs.Common.{◌≡◌, ◌≢◌, inl, inr, ◌<◌, ◌≤◌, ◌+◌, ◌==◌, ℕ, true, cond, List, [], ◌∷◌, ◌++◌, Option, None, Some, Result, Ok, Err, IfSome, IfErr, length, All, take, set, get_or, slice_get, refl, sym, ◌∙◌, ap, subst, arith, length-append}
use Rattle.std.proofs.lemmas.Bool.Decides.{nat_tests}
use Rattle.std.proofs.lemmas.List.Elements.{filter_map-append, All-more}
use Rattle.std.proofs.lemmas.List.{take_more}
use Rattle.reown_plan.specs.declared.plan.Owner.{Owner}
use Rattle.reown_runner.specs.declared.campaign.Event.{Event}
use Rattle.reown_runner.specs.declared.runner.Place.TheVariants.{Start}
use Rattle.reown_runner.specs.declared.runner.Progress.{Progress}
use Rattle.reown_runner.specs.declared.runner.RunFault.{RunFault}
use Rattle.reown_runner.specs.declared.runner.RunFault.TheVariants.{Device, Missing, Unfinished, Foreign}
use Rattle.reown_runner.specs.Tree.{TreeData, IsReadable, Stops, cells_of}
use Rattle.reown_runner.specs.State.{State, StandsFor, fresh}
use Rattle.reown_runner.specs.Safe.{IsSafeInStep}
use Rattle.reown_runner.specs.Step.{turn, IsAsked, IsTold, moved}
use Rattle.reown_runner.specs.RunnerData.{RunnerData}
use Rattle.reown_runner.specs.World.{World, Hosted}
use Rattle.reown_runner.specs.Run.{HostEvent, Advanced, Advances, Stops as Halts, IsRun, host_at, refusal}
use Rattle.reown_runner.specs.Campaign.{Goes, EachGoes, IsToldBy, own, host_of, host_event}
use Rattle.std.specs.List.{cons_option}
use Rattle.reown_runner.proofs.Cellwise.{either}
use Rattle.reown_runner.proofs.Lists.{slice_get-read, slice_get-past, slice_get-set, slice_get-set_other}
use Rattle.reown_runner.proofs.Runs.{run_then, run_one}
use Rattle.reown_runner.proofs.Histories.{safe_as, stop_sound, stop_stands}

some_is : {X : Type 0} (x y : X) → Some x ≡ Some y → x ≡ y
some_is x y h = cc

abbrev pub hosted : {T : Type 0} → RunnerData → T → Hosted T
hosted runner tree = record { runner = runner; tree = tree }

module _ {T : Type 0} (known : T → TreeData) where
  -- nothing happens
  pub goes_nowhere : (runner : RunnerData) (tree : T) → Goes known (hosted runner tree) [] None (hosted runner tree)
  goes_nowhere runner tree =
      record {
        mark = refl;
        records = refl;
        stands = λ s stands. (s, stands, (refl, refl));
        safe = λ inventory safe. safe;
        device = λ inventory safe. tt;
        told = refl;
        asked = omega arith;
      }

  told_then : (refused : Option RunFault) (a b c : ℕ) → b ≡ a → IsToldBy refused b c → IsToldBy refused a c
  told_then None a b c e h = h ∙ e
  told_then (Some Device) a b c e h = h ∙ ap (λ n. n + 1) e
  told_then (Some (Missing i)) a b c e h = h ∙ e
  told_then (Some (Unfinished i)) a b c e h = h ∙ e
  told_then (Some (Foreign i)) a b c e h = h ∙ e

  -- and then more
  pub goes_then : (w0 : RunnerData) (t0 : T) (first : List HostEvent) (w1 : RunnerData) (t1 : T) (rest : List HostEvent) (refused : Option RunFault) (w2 : RunnerData) (t2 : T)
      → Goes known (hosted w0 t0) first None (hosted w1 t1) → Goes known (hosted w1 t1) rest refused (hosted w2 t2) → Goes known (hosted w0 t0) (first ++ rest) refused (hosted w2 t2)
  goes_then w0 t0 first w1 t1 rest refused w2 t2 a b =
      record {
        mark = b.mark ∙ a.mark;
        records = b.records ∙ a.records;
        stands = λ s stands.
            let x = a.stands s stands in
            let y = b.stands x.0 (subst (λ m. StandsFor m (known t1) x.0) (sym a.mark) x.1) in (
              y.0,
              subst (λ m. StandsFor m (known t2) y.0) a.mark y.1,
              run_then w0.records (host_at w0.place (known t0) s) first (host_at w1.place (known t1) x.0) rest refused (host_at w2.place (known t2) y.0) x.2
                  (subst (λ cs. IsRun cs (host_at w1.place (known t1) x.0) rest refused (host_at w2.place (known t2) y.0)) a.records y.2),
            );
        safe = λ inventory safe. by_first inventory (b.safe inventory (by_second inventory (a.safe inventory safe)));
        device = λ inventory safe. b.device inventory (by_second inventory (a.safe inventory safe));
        told = told_then refused (known t0).faults (known t1).faults (known t2).faults a.told b.told;
        asked = omega (arith, a.asked, b.asked, length-append first rest);
      }
    where
      by_second : (inventory : List ℕ → Option Owner) → IsSafeInStep inventory w0.records w1.place (cells_of w0.mark (known t1)) → IsSafeInStep inventory w1.records w1.place (cells_of w1.mark (known t1))
      by_second inventory h = safe_as inventory w0.records w1.records w0.mark w1.mark (sym a.records) (sym a.mark) w1.place (known t1) h

      by_first : (inventory : List ℕ → Option Owner) → IsSafeInStep inventory w1.records w2.place (cells_of w1.mark (known t2)) → IsSafeInStep inventory w0.records w2.place (cells_of w0.mark (known t2))
      by_first inventory h = safe_as inventory w1.records w0.records w1.mark w0.mark a.records a.mark w2.place (known t2) h

  asked_one : (plan : _) (before after : ℕ) → IsAsked plan before after → after ≤ before + 1
  asked_one plan before after (inl same) = omega arith
  asked_one plan before after (inr a) = omega (arith, a.3)

  told_by : (result : Result Progress RunFault) (before after : ℕ) → IsTold before after result → IsToldBy (refusal result) before after
  told_by (Ok x) before after h = h
  told_by (Err Device) before after h = h.0
  told_by (Err (Missing i)) before after h = h
  told_by (Err (Unfinished i)) before after h = h
  told_by (Err (Foreign i)) before after h = h

  refused_device : (result : Result Progress RunFault) → IfErr result (λ fault. fault ≡ Device) → IfSome (refusal result) (λ fault. fault ≡ Device)
  refused_device (Ok x) h = tt
  refused_device (Err fault) h = h

  -- by an advance
  pub goes_on_by : (w : RunnerData) (t : T) (w' : RunnerData) (t' : T) (result : Result Progress RunFault)
      → w'.mark ≡ w.mark → w'.records ≡ w.records
      → ((s : State) → StandsFor w.mark (known t) s → (u : State) × StandsFor w.mark (known t') u × Advanced w.records (host_at w.place (known t) s) (moved w'.place result) (host_at w'.place (known t') u))
      → ((inventory : List ℕ → Option Owner) → IsSafeInStep inventory w.records w.place (cells_of w.mark (known t)) → IsSafeInStep inventory w.records w'.place (cells_of w.mark (known t')))
      → ((inventory : List ℕ → Option Owner) → IsSafeInStep inventory w.records w.place (cells_of w.mark (known t)) → IfErr result (λ fault. fault ≡ Device))
      → IsTold (known t).faults (known t').faults result
      → IsAsked (turn w.records w.place (known t).owner (cells_of w.mark (known t)).mark) (known t).asked (known t').asked
      → Goes known (hosted w t) (Advances ∷ []) (refusal result) (hosted w' t')
  goes_on_by w t w' t' result mark records stands safe device told asked =
      record {
        mark = mark;
        records = records;
        stands = λ s h. (let x = stands s h in (x.0, x.1, run_one w.records (host_at w.place (known t) s) (host_at w'.place (known t') x.0) result x.2));
        safe = safe;
        device = λ inventory s. refused_device result (device inventory s);
        told = told_by result (known t).faults (known t').faults told;
        asked = asked_one (turn w.records w.place (known t).owner (cells_of w.mark (known t)).mark) (known t).asked (known t').asked asked;
      }

  -- by a stop
  pub goes_down : (w : RunnerData) (t : T) (w' : RunnerData) (t' : T) → w' ≡ record w { place = Start } → IsReadable (cells_of w.mark (known t)) → Stops (cells_of w.mark (known t)) (cells_of w.mark (known t')) → (known t').faults ≡ (known t).faults → (known t').asked ≡ (known t).asked
      → Goes known (hosted w t) (Halts ∷ []) None (hosted w' t')
  goes_down w t w' t' is readable stops faults asked =
      let place : w'.place ≡ Start = ap (λ (v : RunnerData). v.place) is in
      record {
        mark = ap (λ (v : RunnerData). v.mark) is;
        records = ap (λ (v : RunnerData). v.records) is;
        stands = λ s h.
            let x = stop_stands s (cells_of w.mark (known t)) (cells_of w.mark (known t')) h stops in
            (fresh x.0, x.2, (x.0, x.1, (refl, λ i. record { place = place i; state = fresh x.0; asked = asked i })));
        safe = λ inventory safe. subst (λ p. IsSafeInStep inventory w.records p (cells_of w.mark (known t'))) (sym place) (stop_sound inventory w.records w.place (cells_of w.mark (known t)) (cells_of w.mark (known t')) readable stops safe);
        device = λ inventory safe. tt;
        told = faults;
        asked = omega arith;
      }

  -- each host goes nowhere, or on
  pub each_nowhere : (hosts : World T) → EachGoes known hosts [] (λ _. None) hosts
  each_nowhere hosts host before at = (before, at, goes_nowhere before.runner before.tree)

  -- there is no host of this number
  pub each_absent : (world : World T) (event : Event) (h : ℕ) → h ≡ host_of event → length world.trees ≤ h → EachGoes known world (event ∷ []) (λ _. None) world
  each_absent world event h is past host before at =
      elim (either (host_of event == host)) [
        | inl same ↦
            let beyond : length world.trees ≤ host = (let e : host ≡ h = grind (arith, nat_tests) in omega (arith, e, past)) in
            absurd (let none : None ≡ Some before.tree = sym (slice_get-past world.trees host beyond) ∙ at.tree in cc)
        | inr other ↦
            let none : own host (event ∷ []) ≡ [] = ap (λ b. cons_option (cond b (Some (host_event event)) None) []) other in
            (before, at, subst (λ es. Goes known before es None before) (sym none) (goes_nowhere before.runner before.tree))
      ]

  pub each_then : (h0 h1 h2 : World T) (first rest : List Event) (refused : ℕ → Option RunFault) → EachGoes known h0 first (λ _. None) h1 → EachGoes known h1 rest refused h2 → EachGoes known h0 (first ++ rest) refused h2
  each_then h0 h1 h2 first rest refused f g host before at =
      let x = f host before at in
      let y = g host x.0 x.1 in (
        y.0,
        y.1,
        subst (λ es. Goes known before es (refused host) y.0) (sym (filter_map-append (λ event. cond (host_of event == host) (Some (host_event event)) None) first rest))
            (goes_then before.runner before.tree (own host first) x.0.runner x.0.tree (own host rest) (refused host) y.0.runner y.0.tree x.2 y.2),
      )

  -- an event of one host
  pub each_one : (runners : List RunnerData) (trees : List T) (event : Event) (h : ℕ) (runner runner_after : RunnerData) (tree tree_after : T) (refused : ℕ → Option RunFault)
      → h ≡ host_of event → slice_get runners h ≡ Some runner → slice_get trees h ≡ Some tree → h < length runners → h < length trees
      → ((k : ℕ) → k ≢ h → refused k ≡ None)
      → Goes known (hosted runner tree) (host_event event ∷ []) (refused h) (hosted runner_after tree_after)
      → EachGoes known (record { runners = runners; trees = trees }) (event ∷ []) refused (record { runners = set runners h runner_after; trees = set trees h tree_after })
  each_one runners trees event h runner runner_after tree tree_after refused is at_runner at_tree in_runners in_trees others goes host before at =
      let w = before.runner in
      let t = before.tree in
      elim (either (host_of event == host)) [
        | inl same ↦
            let e : host ≡ h = grind (arith, nat_tests) in
            let w_is : w ≡ runner = some_is w runner (sym at.runner ∙ ap (slice_get runners) e ∙ at_runner) in
            let t_is : t ≡ tree = some_is t tree (sym at.tree ∙ ap (slice_get trees) e ∙ at_tree) in
            let one : own host (event ∷ []) ≡ host_event event ∷ [] = ap (λ b. cons_option (cond b (Some (host_event event)) None) []) same in (
              hosted runner_after tree_after,
              record {
                runner = ap (slice_get (set runners h runner_after)) e ∙ slice_get-set runners h runner_after in_runners;
                tree = ap (slice_get (set trees h tree_after)) e ∙ slice_get-set trees h tree_after in_trees;
              },
              subst (λ es. Goes known (hosted w t) es (refused host) (hosted runner_after tree_after)) (sym one)
                  (subst (λ k. Goes known (hosted w t) (host_event event ∷ []) (refused k) (hosted runner_after tree_after)) (sym e)
                  (subst (λ v. Goes known (hosted v t) (host_event event ∷ []) (refused h) (hosted runner_after tree_after)) (sym w_is)
                  (subst (λ v. Goes known (hosted runner v) (host_event event ∷ []) (refused h) (hosted runner_after tree_after)) (sym t_is) goes))),
            )
        | inr other ↦
            let ne : host ≢ h = λ e. grind (arith, nat_tests) in
            let none : own host (event ∷ []) ≡ [] = ap (λ b. cons_option (cond b (Some (host_event event)) None) []) other in (
              before,
              record { runner = slice_get-set_other runners h host runner_after ne ∙ at.runner; tree = slice_get-set_other trees h host tree_after ne ∙ at.tree },
              subst (λ es. Goes known before es (refused host) before) (sym none) (subst (λ r. Goes known before [] r before) (sym (others host ne)) (goes_nowhere w t)),
            )
      ]

  pub each_more : (h0 h1 h2 : World T) (events : List Event) (i : ℕ) (d : Event) (refused : ℕ → Option RunFault) → i < length events → EachGoes known h0 (take i events) (λ _. None) h1 → EachGoes known h1 (get_or events i d ∷ []) refused h2 → EachGoes known h0 (take (i + 1) events) refused h2
  each_more h0 h1 h2 events i d refused below a b =
      subst (λ es. EachGoes known h0 es refused h2) (sym (take_more events i d below)) (each_then h0 h1 h2 (take i events) (get_or events i d ∷ []) refused a b)

pub below_all : (events : List Event) (n i : ℕ) (d : Event) → i < length events → All (λ event. host_of event < n) (take i events) → host_of (get_or events i d) < n → All (λ event. host_of event < n) (take (i + 1) events)
below_all events n i d below all one = All-more (λ event. host_of event < n) events i d below all one

pub refused_here : (e h : ℕ) (fault : RunFault) → h ≡ e → cond (e == h) (Some fault) None ≡ Some fault
refused_here e h fault is =
    let same : (e == h) ≡ true = grind (arith, nat_tests) in
    ap (λ b. cond b (Some fault) None) same

pub refused_elsewhere : (e h k : ℕ) (fault : RunFault) → h ≡ e → k ≢ h → cond (e == k) (Some fault) None ≡ None
refused_elsewhere e h k fault is ne =
    elim (either (e == k)) [
      | inl same ↦ absurd (let eq : k ≡ h = grind (arith, nat_tests) in ne eq)
      | inr other ↦ ap (λ b. cond b (Some fault) None) other
    ]

pub this_event : {X : Type 0} (xs : List X) (i : ℕ) (d x : X) → i < length xs → slice_get xs i ≡ Some x → get_or xs i d ≡ x
this_event xs i d x below h = some_is (get_or xs i d) x (sym (slice_get-read xs i d below) ∙ h)
