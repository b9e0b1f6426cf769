-- Histories of operations, and the trees that stand for them.
use Rattle.std.proofs.Common.{◌≡◌, ◌≢◌, ◌⊎◌, ◌↔◌, inl, inr, ℕ, true, false, cond, get_or, List, [], ◌∷◌, ◌++◌, Option, None, Some, Result, Ok, Err, IsOk, refl, sym, ◌∙◌, ap, subst}
use Rattle.std.specs.List.{AllByRecursion}
use Rattle.std.specs.Str.{bytes_eq}
use Rattle.std.specs.Cmp.Lexicographic.{bytes_decides}
use Rattle.std.proofs.lemmas.List.{append-nil, append_assoc}
use Rattle.std.proofs.lemmas.List.Sums.{fold_push}
use Rattle.reown_plan.specs.declared.mark.PlanMark.{PlanMark}
use Rattle.reown_plan.specs.declared.plan.Owner.{Owner}
use Rattle.reown_plan.specs.PlanData.{PlanRecord}
use Rattle.reown_runner.specs.declared.runner.Place.{Place}
use Rattle.reown_runner.specs.declared.runner.Place.TheVariants.{Start, Done}
use Rattle.reown_runner.specs.declared.runner.RunFault.{RunFault}
use Rattle.reown_runner.specs.declared.runner.RunFault.TheVariants.{Device, Missing, Unfinished, Foreign}
use Rattle.reown_runner.specs.Tree.{TreeData, Cells, cells_of, Image, IsImage, IsReadable, IsSettled, SameMark, Does, Stops, Operation, Write, SetMark, Sync}
use Rattle.reown_runner.specs.State.{State, StandsFor, Keeps, fresh, did, owner_then, mark_then, owner_after, mark_after, IsKept, cells_at}
use Rattle.reown_runner.specs.Safe.{IsSafeInStep}
use Rattle.reown_runner.specs.Run.{Advanced, host_at}
use Rattle.reown_runner.specs.Step.{Turn, turn, place_after, IsAdvance, IsAsked}
use Rattle.reown_runner.proofs.Turns.{keeps, kept, same_keeps}
use Rattle.reown_runner.proofs.Cellwise.{either, safe_cells, safe_images}

split_last : {X : Type 0} (front lost xs : List X) (x : X) → front ++ lost ≡ xs ++ x ∷ [] → (front ≡ xs ++ x ∷ []) ⊎ ((rest : List X) × (front ++ rest ≡ xs) × (lost ≡ rest ++ x ∷ []))
split_last [] lost xs x h = inr (xs, refl, h)
split_last (f ∷ []) lost [] x h = inl cc
split_last (f ∷ g ∷ fs) lost [] x h = absurd cc
split_last (f ∷ fs) lost (y ∷ ys) x h =
    let same : fs ++ lost ≡ ys ++ x ∷ [] = cc in
    let first : f ≡ y = cc in
    elim (split_last fs lost ys x same) [
      | inl e ↦ inl ((λ i. first i ∷ e i))
      | inr r ↦ inr (r.0, (λ i. first i ∷ r.1 i), r.2)
    ]

front_of : {X : Type 0} (P : X → Type 0) (xs ys : List X) → AllByRecursion P (xs ++ ys) → AllByRecursion P xs
front_of P [] ys h = tt
front_of P (x ∷ xs) ys h = (h.0, front_of P xs ys h.1)

last_of : {X : Type 0} (P : X → Type 0) (xs : List X) (y : X) → AllByRecursion P (xs ++ y ∷ []) → P y
last_of P [] y h = h.0
last_of P (x ∷ xs) y h = last_of P xs y h.1

more_of : {X : Type 0} (P : X → Type 0) (xs : List X) (y : X) → AllByRecursion P xs → P y → AllByRecursion P (xs ++ y ∷ [])
more_of P [] y h p = (p, tt)
more_of P (x ∷ xs) y h p = (h.0, more_of P xs y h.1 p)

abbrev IsWrite : Operation → Type 0
IsWrite operation = operation ≢ Sync

-- what a stop may leave in a cell, by its readings
abbrev Left : {X : Type 0} → (List Operation → X) → List Operation → X → Type 0
Left read operations x = (front : List Operation) × IsKept operations front × (x ≡ read front)

module _ {X : Type 0} (read : List Operation → X) (operations : List Operation) where
  left_now : Left read operations (read operations)
  left_now = (operations, record { lost = []; whole = append-nil operations; no_sync = tt }, refl)

  left_as : (x : X) → x ≡ read operations → Left read operations x
  left_as x is = (operations, record { lost = []; whole = append-nil operations; no_sync = tt }, is)

  left_more : (operation : Operation) (x : X) → IsWrite operation → Left read operations x → Left read (operations ++ operation ∷ []) x
  left_more operation x write left = (
    left.0,
    record {
      lost = left.1.lost ++ operation ∷ [];
      whole = sym (append_assoc left.0 left.1.lost (operation ∷ [])) ∙ ap (λ l. l ++ operation ∷ []) left.1.whole;
      no_sync = more_of IsWrite left.1.lost operation left.1.no_sync write;
    },
    left.2,
  )

  left_before : (operation : Operation) (x : X) → Left read (operations ++ operation ∷ []) x → (x ≡ read (operations ++ operation ∷ [])) ⊎ Left read operations x
  left_before operation x left =
      elim (split_last left.0 left.1.lost operations operation left.1.whole) [
        | inl all ↦ inl (left.2 ∙ ap read all)
        | inr r ↦ inr (left.0, record { lost = r.0; whole = r.1; no_sync = front_of IsWrite r.0 (operation ∷ []) (subst (AllByRecursion IsWrite) r.2 left.1.no_sync) }, left.2)
      ]

  left_synced : (x : X) → Left read (operations ++ Sync ∷ []) x → x ≡ read (operations ++ Sync ∷ [])
  left_synced x left =
      elim (split_last left.0 left.1.lost operations Sync left.1.whole) [
        | inl all ↦ left.2 ∙ ap read all
        | inr r ↦ absurd (last_of IsWrite r.0 Sync (subst (AllByRecursion IsWrite) r.2 left.1.no_sync) refl)
      ]

pub state_readable : (s : State) → IsReadable (cells_at s)
state_readable s = record { owner = λ path. left_now (owner_after s path) s.operations; mark = left_now (mark_after s) s.operations }

write_is : (path : List ℕ) (to : Owner) → IsWrite (Write path to)
write_is path to h = cc

set_is : IsWrite SetMark
set_is h = cc

module _ (s : State) where
  one_more : (path : List ℕ) (operation : Operation) → owner_after s path (s.operations ++ operation ∷ []) ≡ owner_then path (owner_after s path s.operations) operation
  one_more path operation = fold_push (owner_then path) (s.start.owner path) s.operations operation

  mark_more : (operation : Operation) → mark_after s (s.operations ++ operation ∷ []) ≡ mark_then (mark_after s s.operations) operation
  mark_more operation = fold_push mark_then s.start.mark s.operations operation

  write_here : (path : List ℕ) (to : Owner) → owner_after s path (s.operations ++ Write path to ∷ []) ≡ Some to
  write_here path to = one_more path (Write path to) ∙ ap (λ b. cond b (Some to) (owner_after s path s.operations)) ((bytes_decides path path).1 refl)

  write_other : (path : List ℕ) (to : Owner) (q : List ℕ) → bytes_eq path q ≡ false → owner_after s q (s.operations ++ Write path to ∷ []) ≡ owner_after s q s.operations
  write_other path to q other = one_more q (Write path to) ∙ ap (λ b. cond b (Some to) (owner_after s q s.operations)) other

  differs : (path q : List ℕ) → q ≢ path → bytes_eq path q ≡ false
  differs path q ne = elim (either (bytes_eq path q)) [ inl same ↦ absurd (ne (sym ((bytes_decides path q).0 same))) | inr other ↦ other ]

  differ : (path q : List ℕ) → bytes_eq path q ≡ false → q ≢ path
  differ path q other same = let e : bytes_eq path q ≡ true = (bytes_decides path q).1 (sym same) in cc

  same_mark_by : (operation : Operation) → IsWrite operation → mark_after s (s.operations ++ operation ∷ []) ≡ mark_after s s.operations → SameMark (cells_at s) (cells_at (did (Some operation) s))
  same_mark_by operation write same =
      record {
        mark = same;
        mark_left = λ m. (
          λ left. elim (left_before (mark_after s) s.operations operation m left) [ inl is ↦ left_as (mark_after s) s.operations m (is ∙ same) | inr was ↦ was ],
          λ left. left_more (mark_after s) s.operations operation m write left,
        );
      }

  same_owner_by : (operation : Operation) (path : List ℕ) → IsWrite operation → owner_after s path (s.operations ++ operation ∷ []) ≡ owner_after s path s.operations → (x : Option Owner) → (cells_at (did (Some operation) s)).owner_left path x ↔ (cells_at s).owner_left path x
  same_owner_by operation path write same x = (
    λ left. elim (left_before (owner_after s path) s.operations operation x left) [ inl is ↦ left_as (owner_after s path) s.operations x (is ∙ same) | inr was ↦ was ],
    λ left. left_more (owner_after s path) s.operations operation x write left,
  )

  -- an operation does in a history what it does in a tree
  pub did_does : (operation : Option Operation) → Does operation (cells_at s) (cells_at (did operation s))
  did_does None = kept (cells_at s)
  did_does (Some (Write path to)) =
      record {
        owner = write_here path to;
        owner_left = λ x left. elim (left_before (owner_after s path) s.operations (Write path to) x left) [ inl is ↦ inr (is ∙ write_here path to) | inr was ↦ inl was ];
        other = λ q ne. write_other path to q (differs path q ne);
        other_left = λ q ne. same_owner_by (Write path to) q (write_is path to) (write_other path to q (differs path q ne));
        mark = same_mark_by (Write path to) (write_is path to) (mark_more (Write path to));
      }
  did_does (Some SetMark) =
      record {
        mark = mark_more SetMark;
        mark_left = λ m left. elim (left_before (mark_after s) s.operations SetMark m left) [ inl is ↦ inr (is ∙ mark_more SetMark) | inr was ↦ inl was ];
        owners = record { owner = λ path. one_more path SetMark; owner_left = λ path. same_owner_by SetMark path set_is (one_more path SetMark) };
      }
  did_does (Some Sync) =
      record {
        owner = λ path. one_more path Sync;
        mark = mark_more Sync;
        settled = record { owner = λ path x left. left_synced (owner_after s path) s.operations x left; mark = λ m left. left_synced (mark_after s) s.operations m left };
      }

  -- a tree that stands for a history stands for it after an operation too
  pub stands_after : (old new : Cells) (operation : Option Operation) → Keeps (cells_at s) old → Does operation old new → Keeps (cells_at (did operation s)) new
  stands_after old new None k d = keeps k (same_keeps d)
  stands_after old new (Some (Write path to)) k d =
      record {
        owners = record {
          owner = λ q. elim (either (bytes_eq path q)) [
            | inl same ↦
                let e = (bytes_decides path q).0 same in
                subst (λ p. new.owner p ≡ owner_after s p (s.operations ++ Write path to ∷ [])) e (d.owner ∙ sym (write_here path to))
            | inr other ↦ d.other q (differ path q other) ∙ k.owners.owner q ∙ sym (write_other path to q other)
          ];
          owner_left = λ q x left. elim (either (bytes_eq path q)) [
            | inl same ↦
                let e = (bytes_decides path q).0 same in
                elim (d.owner_left x (subst (λ p. new.owner_left p x) (sym e) left)) [
                  | inl was ↦ subst (λ p. Left (owner_after s p) (s.operations ++ Write path to ∷ []) x) e (left_more (owner_after s path) s.operations (Write path to) x (write_is path to) (k.owners.owner_left path x was))
                  | inr is ↦ subst (λ p. Left (owner_after s p) (s.operations ++ Write path to ∷ []) x) e (left_as (owner_after s path) (s.operations ++ Write path to ∷ []) x (is ∙ sym (write_here path to)))
                ]
            | inr other ↦ left_more (owner_after s q) s.operations (Write path to) x (write_is path to) (k.owners.owner_left q x ((d.other_left q (differ path q other) x).0 left))
          ];
        };
        mark = record {
          mark = d.mark.mark ∙ k.mark.mark ∙ sym (mark_more (Write path to));
          mark_left = λ m left. left_more (mark_after s) s.operations (Write path to) m (write_is path to) (k.mark.mark_left m ((d.mark.mark_left m).0 left));
        };
      }
  stands_after old new (Some SetMark) k d =
      record {
        owners = record {
          owner = λ q. d.owners.owner q ∙ k.owners.owner q ∙ sym (one_more q SetMark);
          owner_left = λ q x left. left_more (owner_after s q) s.operations SetMark x set_is (k.owners.owner_left q x ((d.owners.owner_left q x).0 left));
        };
        mark = record {
          mark = d.mark ∙ sym (mark_more SetMark);
          mark_left = λ m left. elim (d.mark_left m left) [
            | inl was ↦ left_more (mark_after s) s.operations SetMark m set_is (k.mark.mark_left m was)
            | inr is ↦ left_as (mark_after s) (s.operations ++ SetMark ∷ []) m (is ∙ sym (mark_more SetMark))
          ];
        };
      }
  stands_after old new (Some Sync) k d =
      record {
        owners = record {
          owner = λ q. d.owner q ∙ k.owners.owner q ∙ sym (one_more q Sync);
          owner_left = λ q x left. left_as (owner_after s q) (s.operations ++ Sync ∷ []) x (d.settled.owner q x left ∙ d.owner q ∙ k.owners.owner q ∙ sym (one_more q Sync));
        };
        mark = record {
          mark = d.mark ∙ k.mark.mark ∙ sym (mark_more Sync);
          mark_left = λ m left. left_as (mark_after s) (s.operations ++ Sync ∷ []) m (d.settled.mark m left ∙ d.mark ∙ k.mark.mark ∙ sym (mark_more Sync));
        };
      }

-- trees that read alike take the same turn
pub same_readings : (records : List PlanRecord) (place : Place) (a b : Cells) → Keeps a b → turn records place b.owner b.mark ≡ turn records place a.owner a.mark
same_readings records place a b k = λ i. turn records place (λ path. k.owners.owner path i) (k.mark.mark i)

-- an advance on a tree is one in each history that it stands for
pub advance_stands : (records : List PlanRecord) (place : Place) (s : State) (old new : Cells) (answer : Result Place RunFault) → Keeps (cells_at s) old → IsAdvance (turn records place old.owner old.mark) (λ operation. Does operation old new) answer
    → (t : State) × Keeps (cells_at t) new × IsAdvance (turn records place (cells_at s).owner (cells_at s).mark) (λ operation. t ≡ did operation s) answer
advance_stands records place s old new (Ok next) k a =
    (did a.0.operation s, stands_after s old new a.0.operation k a.3, (a.0, sym (same_readings records place (cells_at s) old k) ∙ a.1, a.2, refl))
advance_stands records place s old new (Err Device) k (inl d) = (s, keeps k (same_keeps d), inl refl)
advance_stands records place s old new (Err Device) k (inr a) =
    (did a.0.operation s, stands_after s old new a.0.operation k a.2, inr (a.0, sym (same_readings records place (cells_at s) old k) ∙ a.1, refl))
advance_stands records place s old new (Err (Missing i)) k a = (s, keeps k (same_keeps a.1), (sym (same_readings records place (cells_at s) old k) ∙ a.0, refl))
advance_stands records place s old new (Err (Unfinished i)) k a = (s, keeps k (same_keeps a.1), (sym (same_readings records place (cells_at s) old k) ∙ a.0, refl))
advance_stands records place s old new (Err (Foreign i)) k a = (s, keeps k (same_keeps a.1), (sym (same_readings records place (cells_at s) old k) ∙ a.0, refl))

-- so it is an advance of each host whose tree it is
pub host_advances : (plan : PlanMark) (records : List PlanRecord) (place end : Place) (old new : TreeData) (answer : Result Place RunFault) → end ≡ place_after place answer → IsAsked (turn records place old.owner (cells_of plan old).mark) old.asked new.asked
    → (place ≡ Done → IsOk answer × (new.asked ≡ old.asked)) → IsAdvance (turn records place old.owner (cells_of plan old).mark) (λ operation. Does operation (cells_of plan old) (cells_of plan new)) answer
    → (s : State) → StandsFor plan old s → (t : State) × StandsFor plan new t × Advanced records (host_at place old s) answer (host_at end new t)
host_advances plan records place end old new answer goes asked rests step s stands =
    let h = advance_stands records place s (cells_of plan old) (cells_of plan new) answer stands step in (
      h.0,
      h.1,
      record {
        step = h.2;
        place = goes;
        asked = subst (λ turn. IsAsked turn old.asked new.asked) (same_readings records place (cells_at s) (cells_of plan old) stands) asked;
        rests = rests;
      },
    )

-- an advance in a history
pub as_done : (plan : Result Turn RunFault) (s t : State) (answer : Result Place RunFault) → IsAdvance plan (λ operation. t ≡ did operation s) answer → IsAdvance plan (λ operation. Does operation (cells_at s) (cells_at t)) answer
as_done plan s t (Ok next) a = (a.0, a.1, a.2, subst (λ u. Does a.0.operation (cells_at s) (cells_at u)) (sym a.3) (did_does s a.0.operation))
as_done plan s t (Err Device) (inl e) = inl (subst (λ u. Does None (cells_at s) (cells_at u)) (sym e) (did_does s None))
as_done plan s t (Err Device) (inr a) = inr (a.0, a.1, subst (λ u. Does a.0.operation (cells_at s) (cells_at u)) (sym a.2) (did_does s a.0.operation))
as_done plan s t (Err (Missing i)) a = (a.0, subst (λ u. Does None (cells_at s) (cells_at u)) (sym a.1) (did_does s None))
as_done plan s t (Err (Unfinished i)) a = (a.0, subst (λ u. Does None (cells_at s) (cells_at u)) (sym a.1) (did_does s None))
as_done plan s t (Err (Foreign i)) a = (a.0, subst (λ u. Does None (cells_at s) (cells_at u)) (sym a.1) (did_does s None))

-- of equal records and marks the same is said
pub safe_as : (inventory : List ℕ → Option Owner) (records others : List PlanRecord) (plan other : PlanMark) → records ≡ others → plan ≡ other → (place : Place) (tree : TreeData) → IsSafeInStep inventory records place (cells_of plan tree) → IsSafeInStep inventory others place (cells_of other tree)
safe_as inventory records others plan other same_records same_mark place tree safe =
    subst (λ m. IsSafeInStep inventory others place (cells_of m tree)) same_mark (subst (λ cs. IsSafeInStep inventory cs place (cells_of plan tree)) same_records safe)

-- a stop
pub stop_sound : (inventory : List ℕ → Option Owner) (records : List PlanRecord) (place : Place) (old new : Cells) → IsReadable old → Stops old new → IsSafeInStep inventory records place old → IsSafeInStep inventory records Start new
stop_sound inventory records place old new readable stop safe =
    let s = safe_cells inventory records old readable safe.safe in
    record {
      safe = safe_images inventory records new (record {
        planned = λ k d h x left. s.planned k d h x (subst (old.owner_left (get_or records k d).path) (sym (stop.settled.owner (get_or records k d).path x left)) (stop.owner (get_or records k d).path));
        others = λ path h x left. s.others path h x (subst (old.owner_left path) (sym (stop.settled.owner path x left)) (stop.owner path));
        finished = λ set k d h x left.
            s.finished (subst old.mark_left (sym (stop.settled.mark true set)) stop.mark) k d h x (subst (old.owner_left (get_or records k d).path) (sym (stop.settled.owner (get_or records k d).path x left)) (stop.owner (get_or records k d).path));
      });
      in_step = stop.settled;
    }

no_front : {X : Type 0} (front lost : List X) → front ++ lost ≡ [] → front ≡ []
no_front [] lost h = refl
no_front (x ∷ xs) lost h = absurd cc

pub fresh_settled : (image : Image) → IsSettled (cells_at (fresh image))
fresh_settled image = record { owner = λ path x left. left.2 ∙ ap (owner_after (fresh image) path) (no_front left.0 left.1.lost left.1.whole); mark = λ m left. left.2 ∙ ap (mark_after (fresh image)) (no_front left.0 left.1.lost left.1.whole) }

pub fresh_stops : (s : State) (image : Image) → IsImage (cells_at s) image → Stops (cells_at s) (cells_at (fresh image))
fresh_stops s image is = record { owner = is.owner; mark = is.mark; settled = fresh_settled image }

-- a tree that a stop has left stands for what it is
pub stop_stands : (s : State) (old new : Cells) → Keeps (cells_at s) old → Stops old new → (image : Image) × IsImage (cells_at s) image × Keeps (cells_at (fresh image)) new
stop_stands s old new k stop =
    let image : Image = record { owner = new.owner; mark = new.mark } in (
      image,
      record { owner = λ path. k.owners.owner_left path (new.owner path) (stop.owner path); mark = k.mark.mark_left new.mark stop.mark },
      record {
        owners = record { owner = λ path. refl; owner_left = λ path x left. left_as (owner_after (fresh image) path) [] x (stop.settled.owner path x left) };
        mark = record { mark = refl; mark_left = λ m left. left_as (mark_after (fresh image)) [] m (stop.settled.mark m left) };
      },
    )
