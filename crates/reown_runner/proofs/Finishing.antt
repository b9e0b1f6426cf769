-- Plans from their start to their end.
use Rattle.std.proofs.Common.{◌≡◌, ◌≢◌, ◌↔◌, inl, inr, ◌≤◌, ◌+◌, ◌-◌, ℕ, zero, suc, Bool, true, false, cond, List, [], ◌∷◌, Option, None, Some, Result, Ok, Err, MatchResult, All, length, get_or, replicate, find, refl, sym, ◌∙◌, ap, subst, arith}
use Rattle.std.specs.Str.{bytes_eq}
use Rattle.std.specs.Cmp.Lexicographic.{bytes_decides}
use Rattle.std.proofs.lemmas.List.Elements.{All-head, All-tail, All-cons}
use Rattle.reown_plan.specs.declared.mark.PlanMark.{PlanMark}
use Rattle.reown_plan.specs.declared.plan.Owner.{Owner}
use Rattle.reown_plan.specs.PlanData.{PlanRecord}
use Rattle.reown_runner.specs.declared.runner.Place.{Place}
use Rattle.reown_runner.specs.declared.runner.Place.TheVariants.{Start, Record, SyncOwners, Mark, SyncMark, Done}
use Rattle.reown_runner.specs.declared.runner.RunFault.{RunFault}
use Rattle.reown_runner.specs.Tree.{TreeData, Cells, Image, IsImage, IsReadable, cells_of}
use Rattle.reown_runner.specs.State.{Keeps, fresh, cells_at}
use Rattle.reown_runner.specs.Safe.{AllNew, IsSafe, IsSafeInStep}
use Rattle.reown_runner.specs.Step.{IsPlaceOf, advances_left}
use Rattle.reown_runner.specs.Run.{Host, Advanced, Advances, IsRun}
use Rattle.reown_runner.specs.Finished.{IsFresh, AreOld, after_record, owner_after_plan, HasSafeLists}
use Rattle.reown_runner.proofs.Cellwise.{either, safe_cells, safe_images}
use Rattle.reown_runner.proofs.Histories.{fresh_settled}
use Rattle.reown_runner.proofs.Count.{one_nearer, next_fits, next_goes}

module _ (inventory : List ℕ → Option Owner) where
  pub fresh_safe : (records : List PlanRecord) (cells : Cells) → IsFresh inventory cells → AreOld inventory records → IsSafeInStep inventory records Start cells
  fresh_safe records cells f old =
      record {
        safe = λ i im. record {
          planned = λ k d h. inl (f.settled.owner (get_or records k d).path (i.owner (get_or records k d).path) (im.owner (get_or records k d).path) ∙ f.owner (get_or records k d).path ∙ old k d h);
          others = λ path h. f.settled.owner path (i.owner path) (im.owner path) ∙ f.owner path;
          finished = λ set k d h. absurd (let e : true ≡ false = sym set ∙ f.settled.mark i.mark im.mark ∙ f.mark in cc);
        };
        in_step = f.settled;
      }

  pub fresh_history : (image : Image) → ((path : List ℕ) → image.owner path ≡ inventory path) → image.mark ≡ false → IsFresh inventory (cells_at (fresh image))
  fresh_history image owner mark = record { owner = owner; mark = mark; settled = fresh_settled image }

  -- a fresh tree stands for the history in which nothing has happened
  pub fresh_stands : (cells : Cells) → IsFresh inventory cells → Keeps (cells_at (fresh (record { owner = inventory; mark = false }))) cells
  fresh_stands cells f =
      record {
        owners = record { owner = f.owner; owner_left = λ path x left. ([], record { lost = []; whole = refl; no_sync = tt }, f.settled.owner path x left ∙ f.owner path) };
        mark = record { mark = f.mark; mark_left = λ m left. ([], record { lost = []; whole = refl; no_sync = tt }, f.settled.mark m left ∙ f.mark) };
      }

  -- the first record of a path says its owner
  first_says : (i : Image) (path : List ℕ) (records : List PlanRecord) → AllNew records i → (All (λ r. r.path ≢ path) records → i.owner path ≡ inventory path) → i.owner path ≡ owner_after_plan inventory records path
  first_says i path [] new others = others (λ k d h. absurd (omega arith))
  first_says i path (r ∷ rs) new others =
      let at : Bool → Option Owner = λ b. after_record (cond b (Some r) (find (λ x. bytes_eq path x.path) rs)) (inventory path) in
      elim (either (bytes_eq path r.path)) [
        | inl same ↦ ap i.owner ((bytes_decides path r.path).0 same) ∙ All-head (λ (x : PlanRecord). i.owner x.path ≡ Some x.after) r rs new ∙ sym (ap at same)
        | inr other ↦
            let differ : r.path ≢ path = λ e. (let t : bytes_eq path r.path ≡ true = (bytes_decides path r.path).1 (sym e) in cc) in
            first_says i path rs (All-tail (λ (x : PlanRecord). i.owner x.path ≡ Some x.after) r rs new) (λ all. others (All-cons (λ (x : PlanRecord). x.path ≢ path) r rs differ all)) ∙ sym (ap at other)
      ]

  module _ (records : List PlanRecord) where
    pub done_image : (cells : Cells) → IsSafeInStep inventory records Done cells → (i : Image) → IsImage cells i → (i.mark ≡ true) × ((path : List ℕ) → i.owner path ≡ owner_after_plan inventory records path)
    done_image cells s i im = (s.in_step.1 i im, λ path. first_says i path records (s.in_step.0 i im) ((s.safe i im).others path))

    pub done_reads : (cells : Cells) → IsReadable cells → IsSafeInStep inventory records Done cells → (path : List ℕ) → cells.owner path ≡ owner_after_plan inventory records path
    done_reads cells readable s path = (done_image cells s (record { owner = cells.owner; mark = cells.mark }) (record { owner = readable.owner; mark = readable.mark })).1 path

    pub by_lists : (plan : PlanMark) (tree : TreeData) → IsReadable (cells_of plan tree) → IsSafe inventory records (cells_of plan tree) ↔ HasSafeLists plan inventory records tree
    by_lists plan tree readable = (
      λ safe. (let s = safe_cells inventory records (cells_of plan tree) readable safe in record { planned = s.planned; others = s.others; finished = s.finished }),
      λ lists. safe_images inventory records (cells_of plan tree) (record { planned = lists.planned; others = lists.others; finished = lists.finished }),
    )

one_less : (a m : ℕ) → a - 1 - m ≡ a - suc m
one_less a m = omega arith

not_some : {X : Type 0} (x : X) → None ≡ Some x → ⊥
not_some x h = cc

-- how many advances are left after some
module _ (records : List PlanRecord) where
  left_step : (host next : Host) (m : ℕ) (end : Host) (answer : Result Place RunFault) → IsPlaceOf records host.place → (host.place ≡ Start → (cells_at host.state).mark ≡ false)
      → (IsPlaceOf records next.place → next.place ≢ Start → IsRun records next (replicate m Advances) None end → advances_left records end.place ≡ advances_left records next.place - m)
      → Advanced records host answer next
      → MatchResult answer (λ _. IsRun records next (replicate m Advances) None end) (λ fault. (replicate m Advances ≡ []) × (None ≡ Some fault) × (end ≡ next))
      → advances_left records end.place ≡ advances_left records host.place - suc m
  left_step host next m end (Ok place) fits unset go a c =
      let owner = (cells_at host.state).owner in
      let mark = (cells_at host.state).mark in
      let is : next.place ≡ a.step.0.next = a.place ∙ a.step.2 in
      let near = one_nearer records owner host.place mark a.step.0 fits unset a.step.1 in
      let fits_next = subst (IsPlaceOf records) (sym is) (next_fits records owner host.place mark a.step.0 fits a.step.1) in
      let gone : next.place ≢ Start = λ e. next_goes records owner host.place mark a.step.0 fits a.step.1 (sym is ∙ e) in
      let rest = go fits_next gone c in
      let same : advances_left records next.place ≡ advances_left records host.place - 1 = ap (advances_left records) is ∙ near in
      rest ∙ ap (λ n. n - m) same ∙ one_less (advances_left records host.place) m
  left_step host next m end (Err fault) fits unset go a c = absurd (let h = c.1 in not_some fault h)

  pub left_after : (n : ℕ) (host end : Host) → IsPlaceOf records host.place → (host.place ≡ Start → (cells_at host.state).mark ≡ false) → IsRun records host (replicate n Advances) None end → advances_left records end.place ≡ advances_left records host.place - n
  left_after zero host end fits unset run = ap (λ (h : Host). advances_left records h.place) run.1 ∙ omega arith
  left_after (suc m) host end fits unset run = left_step host run.1 m end run.0 fits unset (λ fits_next gone rest. left_after m run.1 end fits_next (λ e. absurd (gone e)) rest) run.2 run.3

  nothing_left : (place : Place) → advances_left records place ≡ 0 → place ≡ Done
  nothing_left Start e = absurd (omega arith)
  nothing_left (Record i) e = absurd (omega arith)
  nothing_left SyncOwners e = absurd (omega arith)
  nothing_left Mark e = absurd (omega arith)
  nothing_left SyncMark e = absurd (omega arith)
  nothing_left Done e = refl

  pub done_after : (n : ℕ) (host end : Host) → host.place ≡ Start → (cells_at host.state).mark ≡ false → IsRun records host (replicate n Advances) None end → (end.place ≡ Done) ↔ (length records + 4 ≤ n)
  done_after n host end starts unset run =
      let fits : IsPlaceOf records host.place = subst (IsPlaceOf records) (sym starts) tt in
      let left : advances_left records end.place ≡ length records + 4 - n = left_after n host end fits (λ _. unset) run ∙ ap (λ p. advances_left records p - n) starts in (
        λ is. (let none : advances_left records end.place ≡ 0 = ap (advances_left records) is in omega arith),
        λ enough. nothing_left end.place (left ∙ omega arith),
      )
