-- The files of a plan's records, as files of an inventory are noted and as they are written.
use Rattle.std.proofs.Common.{◌≡◌, ◌≢◌, ◌⊎◌, ℕ, ◌<◌, ◌≤◌, Bool, true, false, cond, nat_lt, List, [], ◌∷◌, ◌++◌, Option, None, Some, All, Contains, map, filter, replicate, set, get_or, length, inl, inr, refl, sym, ◌∙◌, ap, subst, arith}
use Rattle.std.specs.List.{position, position_or_len, find}
use Rattle.std.specs.Option.{option_map, option_map_or, option_and_then, option_or, is_some}
use Rattle.std.specs.Str.{bytes_eq}
use Rattle.std.specs.Cmp.Lexicographic.{bytes_decides}
use Rattle.std.proofs.lemmas.Bool.{cases_Bool, cases_lt, false_from_ne_true}
use Rattle.std.proofs.lemmas.Bool.Decides.{nat_tests}
use Rattle.std.proofs.lemmas.List.{length-map, get_or-map, length-set, get_or-set_same, get_or-set_other, set-get_or, ext_get_or}
use Rattle.std.proofs.lemmas.List.Elements.{All-head, All-tail}
use Rattle.std.proofs.lemmas.List.Folds.{find-append}
use Rattle.std.proofs.lemmas.List.Quantifiers.{position-Some}
use Rattle.std.proofs.lemmas.List.Sums.{fails_before_first}
use Rattle.mtree_inv.specs.declared.entry.Entry.{Entry}
use Rattle.reown_plan.specs.Owners.{owner_of}
use Rattle.reown_plan.specs.Places.{AreDistinctPaths}
use Rattle.reown_plan.specs.declared.mark.PlanMark.{PlanMark}
use Rattle.reown_plan.specs.declared.plan.Owner.{Owner}
use Rattle.reown_runner.specs.Finished.{IsFresh}
use Rattle.reown_runner.specs.Memory.{owner_in}
use Rattle.reown_runner.specs.PlanTree.{FilesOfPlan, owner_at, known_files, found_among, with_noted}
use Rattle.reown_runner.specs.Tree.{Writes, ForEachPlan, cells_of, counted}
use Rattle.reown_runner.proofs.Memories.{one_of_one}

not_less : (n m : ℕ) (b : Bool) → nat_lt n m ≡ b → cond b (Some n) None ≡ None → m ≤ n
not_less n m true e h = absurd cc
not_less n m false e h = grind (arith, nat_tests)

-- where no place is found, no path passes
none_passes : {X : Type 0} (p : X → Bool) (xs : List X) (d : X) → position p xs ≡ None → (k : ℕ) → k < length xs → p (get_or xs k d) ≡ false
none_passes p xs d none k below =
    let past = not_less (position_or_len p xs) (length xs) (nat_lt (position_or_len p xs) (length xs)) refl none in
    fails_before_first p xs k d (omega arith)

agree : {X Y : Type 0} (f g : X → Y) (xs : List X) → All (λ x. f x ≡ g x) xs → map f xs ≡ map g xs
agree f g [] all = refl
agree f g (x ∷ xs) all = λ i. All-head (λ x. f x ≡ g x) x xs all i ∷ agree f g xs (All-tail (λ x. f x ≡ g x) x xs all) i

or_none : {X : Type 0} (o : Option X) → option_or o None ≡ o
or_none None = refl
or_none (Some x) = refl

map_or : {X Y : Type 0} (f : X → Y) (a b : Option X) → option_map f (option_or a b) ≡ option_or (option_map f a) (option_map f b)
map_or f None b = refl
map_or f (Some x) b = refl

pub none_of : {X : Type 0} (o : Option X) → is_some o ≡ false → o ≡ None
none_of None h = refl
none_of (Some x) h = absurd cc

pub some_of : {X : Type 0} (o : Option X) → is_some o ≡ true → (x : X) × (o ≡ Some x)
some_of None h = absurd cc
some_of (Some x) h = (x, refl)

-- no file is there as yet
pub none_yet : (paths : List (List ℕ)) → replicate (length paths) None ≡ map (owner_in []) paths
none_yet [] = refl
none_yet (path ∷ paths) = ap (λ owners. None ∷ owners) (none_yet paths)

-- ---- one file more

module _ (files : List Entry) (e : Entry) where
  abbrev more : List Entry
  more = files ++ e ∷ []

  owner_more : (q : List ℕ) → owner_in more q ≡ option_or (owner_in files q) (option_map owner_of (cond (bytes_eq q e.path) (Some e) None))
  owner_more q = ap (option_map owner_of) (find-append (λ (x : Entry). bytes_eq q x.path) files (e ∷ [])) ∙ map_or owner_of (find (λ (x : Entry). bytes_eq q x.path) files) (cond (bytes_eq q e.path) (Some e) None)

  owner_other : (q : List ℕ) → bytes_eq q e.path ≡ false → owner_in more q ≡ owner_in files q
  owner_other q miss = owner_more q ∙ ap (λ b. option_or (owner_in files q) (option_map owner_of (cond b (Some e) None))) miss ∙ or_none (owner_in files q)

  owner_there : (q : List ℕ) (o : Owner) → owner_in files q ≡ Some o → owner_in more q ≡ owner_in files q
  owner_there q o is = owner_more q ∙ ap (λ a. option_or a (option_map owner_of (cond (bytes_eq q e.path) (Some e) None))) is ∙ sym is

  owner_new : owner_in files e.path ≡ None → owner_in more e.path ≡ Some (owner_of e)
  owner_new none =
      owner_more e.path ∙ ap (λ a. option_or a (option_map owner_of (cond (bytes_eq e.path e.path) (Some e) None))) none
      ∙ ap (λ b. option_map owner_of (cond b (Some e) None)) ((bytes_decides e.path e.path).1 refl)

  other_path : (q : List ℕ) → bytes_eq e.path q ≡ false → bytes_eq q e.path ≡ false
  other_path q miss = false_from_ne_true (bytes_eq q e.path) (λ hit. let same : bytes_eq e.path q ≡ true = (bytes_decides e.path q).1 (sym ((bytes_decides q e.path).0 hit)) in absurd (cc))

  owners_none : (paths : List (List ℕ)) → position (bytes_eq e.path) paths ≡ None → map (owner_in files) paths ≡ map (owner_in more) paths
  owners_none paths none =
      agree (owner_in files) (owner_in more) paths (λ k d below. sym (owner_other (get_or paths k d) (other_path (get_or paths k d) (none_passes (bytes_eq e.path) paths d none k below))))

  owners_there : (paths : List (List ℕ)) (o : Owner) → owner_in files e.path ≡ Some o → map (owner_in files) paths ≡ map (owner_in more) paths
  owners_there paths o is =
      agree (owner_in files) (owner_in more) paths (λ k d below.
      let q = get_or paths k d in
      elim (cases_Bool (bytes_eq q e.path)) [
        | inl hit ↦ sym (owner_there q o (ap (owner_in files) ((bytes_decides q e.path).0 hit) ∙ is))
        | inr miss ↦ sym (owner_other q miss)
      ])

  module _ (paths : List (List ℕ)) (distinct : AreDistinctPaths paths) (i : ℕ) (at : position (bytes_eq e.path) paths ≡ Some i) where
    within : i < length paths
    within = (position-Some (bytes_eq e.path) paths i [] at).0

    here : get_or paths i [] ≡ e.path
    here = sym ((bytes_decides e.path (get_or paths i [])).0 (position-Some (bytes_eq e.path) paths i [] at).1)

    pub owner_here : get_or (map (owner_in files) paths) i None ≡ owner_in files e.path
    owner_here = get_or-map (owner_in files) paths i [] None within ∙ ap (owner_in files) here

    owners_new : owner_in files e.path ≡ None → set (map (owner_in files) paths) i (Some (owner_of e)) ≡ map (owner_in more) paths
    owners_new none =
        let old = map (owner_in files) paths in
        let long : length old ≡ length paths = length-map paths (owner_in files) in
        ext_get_or None (set old i (Some (owner_of e))) (map (owner_in more) paths)
        (length-set old i (Some (owner_of e)) ∙ long ∙ sym (length-map paths (owner_in more)))
        (λ k below.
        let short : k < length paths = omega (arith, length-set old i (Some (owner_of e)), long) in
        let now : get_or (map (owner_in more) paths) k None ≡ owner_in more (get_or paths k []) = get_or-map (owner_in more) paths k [] None short in
        elim (same_or_not k i) [
          | inl same ↦
              let less : i < length old = omega (arith, within, long) in
              ap (λ j. get_or (set old i (Some (owner_of e))) j None) same ∙ get_or-set_same old i (Some (owner_of e)) None less
              ∙ sym (now ∙ ap (λ j. owner_in more (get_or paths j [])) same ∙ ap (owner_in more) here ∙ owner_new none)
          | inr other ↦
              let apart : bytes_eq (get_or paths k []) e.path ≡ false = false_from_ne_true (bytes_eq (get_or paths k []) e.path) (λ hit. differ k short other ((bytes_decides (get_or paths k []) e.path).0 hit ∙ sym here)) in
              get_or-set_other old i k (Some (owner_of e)) None other ∙ get_or-map (owner_in files) paths k [] None short ∙ sym (now ∙ owner_other (get_or paths k []) apart)
        ])
      where
        same_or_not : (k j : ℕ) → (k ≡ j) ⊎ (k ≢ j)
        same_or_not k j = elim (cases_lt k j) [ inl low ↦ inr (omega arith) | inr high ↦ elim (cases_lt j k) [ inl up ↦ inr (omega arith) | inr down ↦ inl (omega arith) ] ]

        differ : (k : ℕ) → k < length paths → k ≢ i → get_or paths k [] ≢ get_or paths i []
        differ k short other =
            elim (cases_lt k i) [ inl low ↦ distinct k i [] low within | inr high ↦ (λ e. distinct i k [] (omega arith) short (sym e)) ]

module _ (t : FilesOfPlan) (files : List Entry) (e : Entry) (is : t ≡ found_among files t.paths) where
  abbrev with_owners : List (Option Owner) → FilesOfPlan
  with_owners owners = record { paths = t.paths; owners = owners; mark = None; asked = 0 }

  pub noted_none : position (bytes_eq e.path) t.paths ≡ None → t ≡ found_among (files ++ e ∷ []) t.paths
  noted_none none = is ∙ ap with_owners (owners_none files e t.paths none)

module _ (t : FilesOfPlan) (files : List Entry) (e : Entry) (is : t ≡ found_among files t.paths) (distinct : AreDistinctPaths t.paths) where
  owner_was : (i : ℕ) → position (bytes_eq e.path) t.paths ≡ Some i → get_or t.owners i None ≡ owner_in files e.path
  owner_was i at = ap (λ (x : FilesOfPlan). get_or x.owners i None) is ∙ owner_here files e t.paths distinct i at

  pub noted_there : (i : ℕ) (o : Owner) → position (bytes_eq e.path) t.paths ≡ Some i → get_or t.owners i None ≡ Some o → t ≡ found_among (files ++ e ∷ []) t.paths
  noted_there i o at there = is ∙ ap (with_owners t files e is) (owners_there files e t.paths o (sym (owner_was i at) ∙ there))

  pub noted_new : (i : ℕ) → position (bytes_eq e.path) t.paths ≡ Some i → get_or t.owners i None ≡ None → record t { owners = set t.owners i (Some (owner_of e)) } ≡ found_among (files ++ e ∷ []) t.paths
  noted_new i at none =
      let owners = ap (λ (x : FilesOfPlan). set x.owners i (Some (owner_of e))) is ∙ owners_new files e t.paths distinct i at (sym (owner_was i at) ∙ none) in
      let mark = ap (λ (x : FilesOfPlan). x.mark) is in
      let asked = ap (λ (x : FilesOfPlan). x.asked) is in
      λ j. record { paths = t.paths; owners = owners j; mark = mark j; asked = asked j }

-- ---- a file noted in any tree

module _ (t : FilesOfPlan) (e : Entry) where
  abbrev with_at : ℕ → Option Owner → FilesOfPlan
  with_at i owner = record t { owners = set t.owners i owner }

  abbrev with_first : ℕ → Option Owner → FilesOfPlan
  with_first i owner = with_at i (option_or owner (Some (owner_of e)))

  abbrev with_place : Option ℕ → FilesOfPlan
  with_place place = record t { owners = option_map_or (λ i. set t.owners i (option_or (get_or t.owners i None) (Some (owner_of e)))) place t.owners }

  pub with_none : position (bytes_eq e.path) t.paths ≡ None → t ≡ with_noted e t
  with_none none = sym (ap with_place none)

  module _ (i : ℕ) (at : position (bytes_eq e.path) t.paths ≡ Some i) where
    pub with_new : get_or t.owners i None ≡ None → with_at i (Some (owner_of e)) ≡ with_noted e t
    with_new none = sym (ap with_place at ∙ ap (with_first i) none)

    pub with_there : (owner : Owner) → get_or t.owners i None ≡ Some owner → t ≡ with_noted e t
    with_there owner there =
        let same : with_at i (get_or t.owners i None) ≡ t = ap (λ owners. record t { owners = owners }) (set-get_or t.owners i None) in
        sym (ap with_place at ∙ ap (with_first i) there ∙ ap (with_at i) (sym there) ∙ same)

-- ---- a write

module _ (m : FilesOfPlan) (path : List ℕ) (to : Owner) (i : ℕ) (at : position (bytes_eq path) m.paths ≡ Some i) (below : i < length m.owners) where
  abbrev written : FilesOfPlan
  written = record m { owners = set m.owners i (Some to); asked = counted m.asked }

  abbrev place_owner : List (Option Owner) → Option ℕ → Option Owner
  place_owner owners place = option_and_then (λ k. get_or owners k None) place

  written_here : owner_at written path ≡ Some to
  written_here = ap (place_owner written.owners) at ∙ get_or-set_same m.owners i (Some to) None below

  apart : (q : List ℕ) → q ≢ path → (o : Option ℕ) → position (bytes_eq q) m.paths ≡ o → place_owner written.owners o ≡ place_owner m.owners o
  apart q ne None e = refl
  apart q ne (Some j) e =
      let at_q = (bytes_decides q (get_or m.paths j [])).0 (position-Some (bytes_eq q) m.paths j [] e).1 in
      let at_path = (bytes_decides path (get_or m.paths i [])).0 (position-Some (bytes_eq path) m.paths i [] at).1 in
      get_or-set_other m.owners i j (Some to) None (λ same. ne (at_q ∙ ap (λ k. get_or m.paths k []) same ∙ sym at_path))

  other : (q : List ℕ) → q ≢ path → owner_at written q ≡ owner_at m q
  other q ne = apart q ne (position (bytes_eq q) m.paths) refl

  pub files_written : ForEachPlan (Writes path to) (known_files m) (known_files written)
  files_written plan =
      record {
        owner = written_here;
        owner_left = λ x h. inr (one_of_one (owner_at written path) x h ∙ written_here);
        other = other;
        other_left = λ q ne x. (λ h. subst (λ o. Contains (o ∷ []) x) (other q ne) h, λ h. subst (λ o. Contains (o ∷ []) x) (sym (other q ne)) h);
        mark = record { mark = refl; mark_left = λ b. (λ h. h, λ h. h) };
      }

-- ---- a tree as an inventory

-- of files those at paths of these
abbrev pub files_at : List (List ℕ) → List Entry → List Entry
files_at paths files = filter (λ f. is_some (position (bytes_eq f.path) paths)) files

module _ (paths : List (List ℕ)) where
  abbrev is_planned : Entry → Bool
  is_planned f = is_some (position (bytes_eq f.path) paths)

  module _ (path : List ℕ) where
    abbrev is_it : Entry → Bool
    is_it f = bytes_eq path f.path

    planned_by : (place : Option ℕ) → position (bytes_eq path) paths ≡ place → (e : Entry) → is_it e ≡ true → is_planned e ≡ is_some place
    planned_by place at e it = ap (λ q. is_some (position (bytes_eq q) paths)) (sym ((bytes_decides path e.path).0 it)) ∙ ap is_some at

    find_planned : (i : ℕ) → position (bytes_eq path) paths ≡ Some i → (files : List Entry) → find is_it (files_at paths files) ≡ find is_it files
    find_planned i at [] = refl
    find_planned i at (e ∷ files) =
        let rest = find_planned i at files in
        elim (cases_Bool (is_planned e)) [
          | inl hit ↦ rw hit (ap (λ o. cond (is_it e) (Some e) o) rest)
          | inr miss ↦
              let other : is_it e ≡ false = false_from_ne_true (is_it e) (λ it. let hit : is_planned e ≡ true = planned_by (Some i) at e it in absurd (cc)) in
              rw (miss, other) rest
        ]

    find_unplanned : position (bytes_eq path) paths ≡ None → (files : List Entry) → find is_it (files_at paths files) ≡ None
    find_unplanned at [] = refl
    find_unplanned at (e ∷ files) =
        let rest = find_unplanned at files in
        elim (cases_Bool (is_planned e)) [
          | inl hit ↦
              let other : is_it e ≡ false = false_from_ne_true (is_it e) (λ it. let miss : is_planned e ≡ false = planned_by None at e it in absurd (cc)) in
              rw (hit, other) rest
          | inr miss ↦ rw miss rest
        ]

  module _ (files : List Entry) where
    found_by : (path : List ℕ) (place : Option ℕ) → position (bytes_eq path) paths ≡ place → option_and_then (λ k. get_or (map (owner_in files) paths) k None) place ≡ owner_in (files_at paths files) path
    found_by path None at = sym (ap (option_map owner_of) (find_unplanned path at files))
    found_by path (Some i) at =
        let spot = position-Some (bytes_eq path) paths i [] at in
        get_or-map (owner_in files) paths i [] None spot.0 ∙ ap (owner_in files) (sym ((bytes_decides path (get_or paths i [])).0 spot.1)) ∙ ap (option_map owner_of) (sym (find_planned path i at files))

    pub found_fresh : (plan : PlanMark) → IsFresh (owner_in (files_at paths files)) (cells_of plan (known_files (found_among files paths)))
    found_fresh plan =
        record {
          owner = λ path. found_by path (position (bytes_eq path) paths) refl;
          mark = refl;
          settled = record { owner = λ path x h. one_of_one (owner_at (found_among files paths) path) x h; mark = λ b h. one_of_one false b h };
        }

    same_by : (path : List ℕ) (k : ℕ) → k < length paths → get_or paths k [] ≡ path → (place : Option ℕ) → position (bytes_eq path) paths ≡ place → owner_in (files_at paths files) path ≡ owner_in files path
    same_by path k below is None at =
        let miss : bytes_eq path (get_or paths k []) ≡ false = none_passes (bytes_eq path) paths [] at k below in
        let hit : bytes_eq path (get_or paths k []) ≡ true = (bytes_decides path (get_or paths k [])).1 (sym is) in
        absurd (cc)
    same_by path k below is (Some i) at = ap (option_map owner_of) (find_planned path i at files)

    -- at these paths they are the files
    pub same_owner : (path : List ℕ) (k : ℕ) → k < length paths → get_or paths k [] ≡ path → owner_in (files_at paths files) path ≡ owner_in files path
    same_owner path k below is = same_by path k below is (position (bytes_eq path) paths) refl
