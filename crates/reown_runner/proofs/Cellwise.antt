-- What is said of every image, said cell by cell.
use Rattle.std.proofs.Common.{◌≡◌, ◌≢◌, ◌⊎◌, ◌<◌, inl, inr, ℕ, Bool, true, false, cond, List, Option, Some, All, length, take, get_or, refl, sym, ◌∙◌, ap, subst}
use Rattle.std.specs.Str.{bytes_eq}
use Rattle.std.specs.Cmp.Lexicographic.{bytes_decides}
use Rattle.reown_plan.specs.declared.plan.Owner.{Owner}
use Rattle.reown_plan.specs.PlanData.{PlanRecord}
use Rattle.reown_runner.specs.declared.runner.Place.{Place}
use Rattle.reown_runner.specs.declared.runner.Place.TheVariants.{Start, Record, SyncOwners, Mark, SyncMark, Done}
use Rattle.reown_runner.specs.Tree.{Cells, Image, IsImage, IsReadable, IsSettled}
use Rattle.reown_runner.specs.Safe.{IsSafe, IsAllNew, IsMarked, ReadNew, IsInStep, IsSafeInStep}

pub either : (b : Bool) → (b ≡ true) ⊎ (b ≡ false)
either true = inl refl
either false = inr refl

abbrev patched : Cells → List ℕ → Option Owner → Bool → Image
patched c path x m = record { owner = λ q. cond (bytes_eq q path) x (c.owner q); mark = m }

patched-here : (c : Cells) (path : List ℕ) (x : Option Owner) (m : Bool) → (patched c path x m).owner path ≡ x
patched-here c path x m = ap (λ b. cond b x (c.owner path)) ((bytes_decides path path).1 refl)

patched-at : (c : Cells) (path : List ℕ) (x : Option Owner) (q : List ℕ) → IsReadable c → c.owner_left path x → (b : Bool) → bytes_eq q path ≡ b → c.owner_left q (cond b x (c.owner q))
patched-at c path x q readable left true e = subst (λ p. c.owner_left p x) (sym ((bytes_decides q path).0 e)) left
patched-at c path x q readable left false e = readable.owner q

patched-image : (c : Cells) (path : List ℕ) (x : Option Owner) (m : Bool) → IsReadable c → c.owner_left path x → c.mark_left m → IsImage c (patched c path x m)
patched-image c path x m readable left mark = record { owner = λ q. patched-at c path x q readable left (bytes_eq q path) refl; mark = mark }

abbrev pub LeftNew : List PlanRecord → Cells → Type 0
LeftNew records c = All (λ r. (x : Option Owner) → c.owner_left r.path x → x ≡ Some r.after) records

pub record CellSafe (inventory : List ℕ → Option Owner) (records : List PlanRecord) (c : Cells) : Type 0 where
  pub planned : All (λ r. (x : Option Owner) → c.owner_left r.path x → (x ≡ Some r.before) ⊎ (x ≡ Some r.after)) records
  pub others : (path : List ℕ) → All (λ r. r.path ≢ path) records → (x : Option Owner) → c.owner_left path x → x ≡ inventory path
  pub finished : c.mark_left true → LeftNew records c

abbrev pub CellStep : List PlanRecord → Place → Cells → Type 0
CellStep records Start c = IsSettled c
CellStep records (Record i) c = (i < length records) × ReadNew (take i records) c
CellStep records SyncOwners c = ReadNew records c
CellStep records Mark c = LeftNew records c
CellStep records SyncMark c = LeftNew records c × (c.mark ≡ true)
CellStep records Done c = LeftNew records c × ((m : Bool) → c.mark_left m → m ≡ true)

pub record CellSound (inventory : List ℕ → Option Owner) (records : List PlanRecord) (place : Place) (c : Cells) : Type 0 where
  pub safe : CellSafe inventory records c
  pub step : CellStep records place c

module _ (inventory : List ℕ → Option Owner) (records : List PlanRecord) (c : Cells) where
  pub safe_cells : IsReadable c → IsSafe inventory records c → CellSafe inventory records c
  safe_cells readable safe =
      record {
        planned = λ k d h x left.
            let path = (get_or records k d).path in
            let image = patched c path x c.mark in
            let here = patched-here c path x c.mark in
            elim ((safe image (patched-image c path x c.mark readable left readable.mark)).planned k d h) [ inl old ↦ inl (sym here ∙ old) | inr new ↦ inr (sym here ∙ new) ];
        others = λ path h x left.
            sym (patched-here c path x c.mark) ∙ (safe (patched c path x c.mark) (patched-image c path x c.mark readable left readable.mark)).others path h;
        finished = λ set k d h x left.
            let path = (get_or records k d).path in
            sym (patched-here c path x true) ∙ (safe (patched c path x true) (patched-image c path x true readable left set)).finished refl k d h;
      }

  pub safe_images : CellSafe inventory records c → IsSafe inventory records c
  safe_images s i im =
      record {
        planned = λ k d h. s.planned k d h (i.owner (get_or records k d).path) (im.owner (get_or records k d).path);
        others = λ path h. s.others path h (i.owner path) (im.owner path);
        finished = λ set k d h. s.finished (subst c.mark_left set im.mark) k d h (i.owner (get_or records k d).path) (im.owner (get_or records k d).path);
      }

  pub renewed_cells : IsReadable c → IsAllNew records c → LeftNew records c
  renewed_cells readable renewed k d h x left =
      let path = (get_or records k d).path in
      sym (patched-here c path x c.mark) ∙ renewed (patched c path x c.mark) (patched-image c path x c.mark readable left readable.mark) k d h

  pub renewed_images : LeftNew records c → IsAllNew records c
  renewed_images new i im k d h = new k d h (i.owner (get_or records k d).path) (im.owner (get_or records k d).path)

  marked_cells : IsReadable c → IsMarked c → (m : Bool) → c.mark_left m → m ≡ true
  marked_cells readable marked m left = marked (record { owner = c.owner; mark = m }) (record { owner = readable.owner; mark = left })

  step_cells : IsReadable c → (place : Place) → IsInStep records place c → CellStep records place c
  step_cells readable Start s = s
  step_cells readable (Record i) s = s
  step_cells readable SyncOwners s = s
  step_cells readable Mark s = renewed_cells readable s
  step_cells readable SyncMark s = (renewed_cells readable s.0, s.1)
  step_cells readable Done s = (renewed_cells readable s.0, marked_cells readable s.1)

  step_images : (place : Place) → CellStep records place c → IsInStep records place c
  step_images Start s = s
  step_images (Record i) s = s
  step_images SyncOwners s = s
  step_images Mark s = renewed_images s
  step_images SyncMark s = (renewed_images s.0, s.1)
  step_images Done s = (renewed_images s.0, λ i im. s.1 i.mark im.mark)

  pub sound_cells : (place : Place) → IsReadable c → IsSafeInStep inventory records place c → CellSound inventory records place c
  sound_cells place readable s = record { safe = safe_cells readable s.safe; step = step_cells readable place s.in_step }

  pub sound_images : (place : Place) → CellSound inventory records place c → IsSafeInStep inventory records place c
  sound_images place s = record { safe = safe_images s.safe; in_step = step_images place s.step }
