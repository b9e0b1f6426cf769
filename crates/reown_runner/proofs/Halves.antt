-- The files of a plan, as an earlier run may have left them.
use Rattle.std.proofs.Common.{◌≡◌, ◌≢◌, inl, inr, ◌<◌, ℕ, zero, suc, Bool, false, List, [], ◌∷◌, Option, None, Some, Contains, All, map, get_or, length, slice_get, sym, ◌∙◌, ap, subst, arith}
use Rattle.std.specs.List.{position}
use Rattle.std.specs.Option.{option_map, option_and_then}
use Rattle.std.specs.Str.{bytes_eq}
use Rattle.std.specs.Cmp.Lexicographic.{bytes_decides}
use Rattle.std.proofs.lemmas.List.{length-map, get_or-map}
use Rattle.std.proofs.lemmas.List.Folds.{find_at}
use Rattle.reown_plan.specs.declared.mark.PlanMark.{PlanMark}
use Rattle.reown_plan.specs.declared.plan.Owner.{Owner}
use Rattle.reown_plan.specs.Mark.{is_marked_for}
use Rattle.reown_plan.specs.PlanData.{PlanRecord, HaveDistinctPaths}
use Rattle.reown_runner.specs.declared.memory.FileCell.{FileCell}
use Rattle.reown_runner.specs.declared.runner.Place.TheVariants.{Start}
use Rattle.reown_runner.specs.Tree.{IsSettled, cells_of}
use Rattle.reown_runner.specs.Memory.{Mem, known_mem, values_of, settled_cell}
use Rattle.reown_runner.specs.Safe.{IsSafeInStep}
use Rattle.reown_runner.specs.Halfway.{planned_in, mem_of_records, AreHalfway}
use Rattle.reown_runner.proofs.Cellwise.{either}
use Rattle.reown_runner.proofs.Memories.{one_of_two}
use Rattle.reown_runner.proofs.Lists.{position_or_len-map, position_or_len_nowhere, position_at, position_nowhere, slice_get-map, slice_get-read, slice_get-past}

abbrev pub nobody : Owner
nobody = record { uid = 0; gid = 0 }

abbrev pub nothing : PlanRecord
nothing = record { before = nobody; after = nobody; path = [] }

abbrev path_in : PlanRecord → List ℕ
path_in r = r.path

abbrev now_of : Option FileCell → Option Owner
now_of c = option_map (λ c. c.now) c

differ : (a b : List ℕ) → a ≢ b → bytes_eq a b ≡ false
differ a b ne = elim (either (bytes_eq a b)) [ inl same ↦ absurd (ne ((bytes_decides a b).0 same)) | inr other ↦ other ]

one_of_one : {X : Type 0} (a x : X) → Contains (a ∷ []) x → x ≡ a
one_of_one a x (zero, h, e) = sym e
one_of_one a x (suc k, h, e) = absurd (omega arith)

cell_values : (o : Option Owner) (x : Option Owner) → Contains (values_of (option_map settled_cell o)) x → x ≡ now_of (option_map settled_cell o)
cell_values None x h = one_of_one None x h
cell_values (Some o) x h = elim (one_of_two (Some o) (Some o) x h) [ inl e ↦ e | inr e ↦ e ]

module _ (records : List PlanRecord) where
  abbrev paths : List (List ℕ)
  paths = map path_in records

  path_at : (k : ℕ) (d : PlanRecord) → k < length records → get_or paths k [] ≡ (get_or records k d).path
  path_at k d h = get_or-map path_in records k d [] h

  pub place_of_path : HaveDistinctPaths records → (k : ℕ) (d : PlanRecord) → k < length records → position (bytes_eq (get_or records k d).path) paths ≡ Some k
  place_of_path distinct k d h =
      let path = (get_or records k d).path in
      position_at (bytes_eq path) paths k [] (omega (arith, length-map records path_in))
      (λ j less. differ path (get_or paths j []) (λ e. distinct j k d less h (sym (path_at j d (omega arith)) ∙ sym e)))
      ((bytes_decides path (get_or paths k [])).1 (sym (path_at k d h)))

  module _ (path : List ℕ) (absent : All (λ r. r.path ≢ path) records) where
    other_paths : (k : ℕ) → k < length paths → bytes_eq path (get_or paths k []) ≡ false
    other_paths k less =
        let within : k < length records = omega (arith, length-map records path_in) in
        differ path (get_or paths k []) (λ e. absent k nothing within (sym (path_at k nothing within) ∙ sym e))

    no_place : position (bytes_eq path) paths ≡ None
    no_place = position_nowhere (bytes_eq path) paths [] other_paths

    not_planned : planned_in records path ≡ None
    not_planned =
        ap (option_map (λ r. r.before))
        (find_at (λ (r : PlanRecord). bytes_eq path r.path) records ∙ ap (slice_get records) (sym (position_or_len-map (bytes_eq path) path_in records) ∙ position_or_len_nowhere (bytes_eq path) paths [] other_paths ∙ length-map records path_in) ∙ slice_get-past records (length records) (omega arith))

  module _ (owners : List Owner) (has : Option PlanMark) (plan : PlanMark) (distinct : HaveDistinctPaths records) (as_many : length owners ≡ length records) where
    abbrev tree : Mem
    tree = mem_of_records records owners has

    abbrev mark : Bool
    mark = is_marked_for plan has

    settled_at : (o : Option ℕ) (x : Option Owner) → Contains (values_of (option_and_then (slice_get (map settled_cell owners)) o)) x → x ≡ now_of (option_and_then (slice_get (map settled_cell owners)) o)
    settled_at None x h = one_of_one None x h
    settled_at (Some i) x h =
        let same = slice_get-map settled_cell owners i in
        cell_values (slice_get owners i) x (subst (λ o. Contains (values_of o) x) same h) ∙ sym (ap now_of same)

    halves_settled : IsSettled (cells_of plan (known_mem tree))
    halves_settled =
        record {
          owner = λ path x h. settled_at (position (bytes_eq path) paths) x h;
          mark = λ b h. elim (one_of_two mark mark b h) [ inl e ↦ e | inr e ↦ e ];
        }

    owner_at : (k : ℕ) (d : PlanRecord) → k < length records → (known_mem tree).owner (get_or records k d).path ≡ Some (get_or owners k nobody)
    owner_at k d h =
        ap (λ o. now_of (option_and_then (slice_get (map settled_cell owners)) o)) (place_of_path distinct k d h)
        ∙ ap now_of (slice_get-map settled_cell owners k) ∙ ap (λ o. now_of (option_map settled_cell o)) (slice_get-read owners k nobody (omega (arith, as_many)))

    pub halves_safe : AreHalfway records owners mark → IsSafeInStep (planned_in records) records Start (cells_of plan (known_mem tree))
    halves_safe halfway =
        record {
          safe = λ i im. record {
            planned = λ k d h.
                let path = (get_or records k d).path in
                let is = halves_settled.owner path (i.owner path) (im.owner path) ∙ owner_at k d h in
                elim ((halfway k d nobody h).0) [ inl old ↦ inl (is ∙ ap (λ o. Some o) old) | inr new ↦ inr (is ∙ ap (λ o. Some o) new) ];
            others = λ path absent.
                halves_settled.owner path (i.owner path) (im.owner path)
                ∙ ap (λ o. now_of (option_and_then (slice_get (map settled_cell owners)) o)) (no_place path absent) ∙ sym (not_planned path absent);
            finished = λ set k d h.
                let path = (get_or records k d).path in
                halves_settled.owner path (i.owner path) (im.owner path) ∙ owner_at k d h ∙ ap (λ o. Some o) ((halfway k d nobody h).1 (sym (halves_settled.mark i.mark im.mark) ∙ set));
          };
          in_step = halves_settled;
        }
