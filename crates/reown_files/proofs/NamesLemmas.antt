-- The names of files, as search trees have them.
use Rattle.std.proofs.Common.{◌≡◌, ◌⊎◌, inl, inr, ℕ, Bool, true, false, ◌&&◌, ◌||◌, cond, List, [], ◌∷◌, Option, None, Some, refl, sym, ap, ◌∙◌}
use Rattle.std.proofs.lemmas.Bool.{eqb-true}
use Rattle.std.proofs.lemmas.Map.Lookups.{exact_bytes}
use Rattle.std.proofs.lemmas.Map.Text.{is_eq-slice_cmp}
use Rattle.std.proofs.lemmas.Slice.Eq.{bytes_eq-Decides}
use Rattle.std.specs.BTreeMap.{BTreeMap, Updates, is_at}
use Rattle.std.specs.BTreeSet.{insert_key}
use Rattle.std.specs.Cmp.{both_tied, unsigned_ties}
use Rattle.std.specs.Cmp.Lexicographic.{slice_cmp}
use Rattle.std.specs.List.{list_any}
use Rattle.std.specs.Option.{option_map}
use Rattle.std.specs.Ordering.{nat_cmp, match_ordering}
use Rattle.std.specs.Prelude.{Vec, nat_eq}
use Rattle.std.specs.Str.{bytes_eq}
use Rattle.std.specs.declared.alloc.Global.{Global}
use Rattle.std.specs.declared.cmp.Ordering.{Ordering}
use Rattle.std.specs.declared.cmp.Ordering.TheVariants.{Less, Equal, Greater}
use Rattle.reown_plan.specs.declared.plan.Owner.{Owner}
use Rattle.reown_files.specs.Asked.{Asked, Counted, Awaited, names_of, is_named, with_name, one_less, is_counted}
use Rattle.reown_files.specs.Looks.{FileId, id_of, is_file, has_several_names}
use Rattle.reown_files.specs.Trees.{names_at, id_cmp}
use Rattle.reown_files.specs.declared.names.Names.{Names}
use Rattle.reown_files.specs.declared.walk.Found.{Found}

-- ---- tests

both_true : (a b : Bool) → (a && b) ≡ true → (a ≡ true) × (b ≡ true)
both_true true b h = (refl, h)
both_true false b h = absurd (let x : false ≡ true = h in cc)

one_true : (a b : Bool) → (a || b) ≡ true → (a ≡ true) ⊎ (b ≡ true)
one_true true b h = inl refl
one_true false b h = inr h

or_left : (a b : Bool) → a ≡ true → (a || b) ≡ true
or_left true b h = refl
or_left false b h = absurd (let x : false ≡ true = h in cc)

or_right : (a b : Bool) → b ≡ true → (a || b) ≡ true
or_right true b h = refl
or_right false b h = h

-- ---- files

-- a tree finds a file where a look tells of it
at_id : (found : Found) (id : FileId) → is_at (id_cmp (id_of found)) id ≡ is_file id found
at_id found id =
    sym (both_tied (nat_eq found.device id.0) (nat_eq found.inode id.1) (nat_cmp found.device id.0) (nat_cmp found.inode id.1) (unsigned_ties found.device id.0) (unsigned_ties found.inode id.1))

one_id : (found : Found) (id : FileId) → is_file id found ≡ true → id_of found ≡ id
one_id found id h =
    let both = both_true (nat_eq found.device id.0) (nat_eq found.inode id.1) h in
    ap (λ (n : ℕ). (n, found.inode)) (eqb-true found.device id.0 both.0) ∙ ap (λ (n : ℕ). (id.0, n)) (eqb-true found.inode id.1 both.1)

module _ (tree : BTreeMap FileId Names) (asked : List Asked) (known : (id : FileId) → names_at tree id ≡ names_of id asked) (found : Found) where
  -- a file with one name has no names in it
  pub counted_single : has_several_names found ≡ false → (path : List ℕ) (after : Owner) (id : FileId) → names_at tree id ≡ names_of id (Counted path found after ∷ asked)
  counted_single single path after id =
      known id ∙ ap (λ (b : Bool). cond (b && is_file id found) (Some (with_name after (names_of id asked))) (names_of id asked)) (sym single)

  pub awaited_single : has_several_names found ≡ false → (id : FileId) → names_at tree id ≡ names_of id (Awaited found ∷ asked)
  awaited_single single id =
      known id ∙ ap (λ (b : Bool). cond (b && is_file id found) (option_map one_less (names_of id asked)) (names_of id asked)) (sym single)

  -- one more name of a file that has several, and one that is to have its new owner
  module _ (several : has_several_names found ≡ true) (next : BTreeMap FileId Names) (more : Names) (updates : Updates id_cmp tree next (id_of found) (Some more)) where
    at : (id : FileId) → names_at next id ≡ cond (is_file id found) (Some more) (names_of id asked)
    at id = updates.0 id ∙ ap (λ (b : Bool). cond b (Some more) (names_at tree id)) (at_id found id) ∙ ap (λ (n : Option Names). cond (is_file id found) (Some more) n) (known id)

    pub counted_more : (path : List ℕ) (after : Owner) → more ≡ with_name after (names_of (id_of found) asked) → (id : FileId) → names_at next id ≡ names_of id (Counted path found after ∷ asked)
    counted_more path after is id =
        at id ∙ by (is_file id found) refl
        ∙ ap (λ (b : Bool). cond (b && is_file id found) (Some (with_name after (names_of id asked))) (names_of id asked)) (sym several)
      where
        by : (b : Bool) → is_file id found ≡ b → cond b (Some more) (names_of id asked) ≡ cond b (Some (with_name after (names_of id asked))) (names_of id asked)
        by true e = ap Some (is ∙ ap (λ (i : FileId). with_name after (names_of i asked)) (one_id found id e))
        by false e = refl

    pub awaited_less : (names : Names) → names_of (id_of found) asked ≡ Some names → more ≡ one_less names → (id : FileId) → names_at next id ≡ names_of id (Awaited found ∷ asked)
    awaited_less names are is id =
        at id ∙ by (is_file id found) refl
        ∙ ap (λ (b : Bool). cond (b && is_file id found) (option_map one_less (names_of id asked)) (names_of id asked)) (sym several)
      where
        by : (b : Bool) → is_file id found ≡ b → cond b (Some more) (names_of id asked) ≡ cond b (option_map one_less (names_of id asked)) (names_of id asked)
        by true e = ap Some is ∙ sym (ap (option_map one_less) are) ∙ ap (λ (i : FileId). option_map one_less (names_of i asked)) (one_id found id e)
        by false e = refl

  -- none was counted
  pub awaited_none : names_of (id_of found) asked ≡ None → (id : FileId) → names_at tree id ≡ names_of id (Awaited found ∷ asked)
  awaited_none none id = known id ∙ by (is_named id found) refl
    where
      by : (b : Bool) → is_named id found ≡ b → names_of id asked ≡ cond b (option_map one_less (names_of id asked)) (names_of id asked)
      by true e =
          let same = one_id found id (both_true (has_several_names found) (is_file id found) e).1 in
          let here = sym (ap (λ (i : FileId). names_of i asked) same) ∙ none in
          here ∙ sym (ap (option_map one_less) here)
      by false e = refl

-- ---- paths

abbrev Key : Type 0
Key = Vec ℕ Global

abbrev path_cmp : Key → Key → Ordering
path_cmp a b = slice_cmp nat_cmp a.items b.items

abbrev at_path : List ℕ → Key → Bool
at_path path = is_at (λ (k : Key). slice_cmp nat_cmp path k.items)

-- a path that was put into a tree is there, and each that was
with_path : (keys : List Key) (key : Key) (path : List ℕ) → (path ≡ key.items) ⊎ (list_any (at_path path) keys ≡ true) → list_any (at_path path) (insert_key path_cmp keys key) ≡ true
with_path keys key path (inl e) = put keys
  where
    here : at_path path key ≡ true
    here = is_eq-slice_cmp path key.items ∙ (bytes_eq-Decides path key.items).1 e

    put : (ks : List Key) → list_any (at_path path) (insert_key path_cmp ks key) ≡ true
    put [] = or_left (at_path path key) false here
    put (k ∷ ks) = by (path_cmp key k) refl (put ks)
      where
        by : (o : Ordering) → path_cmp key k ≡ o → list_any (at_path path) (insert_key path_cmp ks key) ≡ true → list_any (at_path path) (match_ordering o (key ∷ k ∷ ks) (k ∷ ks) (k ∷ insert_key path_cmp ks key)) ≡ true
        by Less less below = or_left (at_path path key) (list_any (at_path path) (k ∷ ks)) here
        by Equal same below =
            or_left (at_path path k) (list_any (at_path path) ks)
            (is_eq-slice_cmp path k.items ∙ (bytes_eq-Decides path k.items).1 (e ∙ exact_bytes key.items k.items same))
        by Greater more below = or_right (at_path path k) (list_any (at_path path) (insert_key path_cmp ks key)) below
with_path keys key path (inr h) = stays keys h
  where
    stays : (ks : List Key) → list_any (at_path path) ks ≡ true → list_any (at_path path) (insert_key path_cmp ks key) ≡ true
    stays [] there = absurd (let x : false ≡ true = there in cc)
    stays (k ∷ ks) there = by (path_cmp key k) refl (further (one_true (at_path path k) (list_any (at_path path) ks) there) (stays ks))
      where
        further : (at_path path k ≡ true) ⊎ (list_any (at_path path) ks ≡ true) → (list_any (at_path path) ks ≡ true → list_any (at_path path) (insert_key path_cmp ks key) ≡ true)
            → list_any (at_path path) (k ∷ insert_key path_cmp ks key) ≡ true
        further (inl is) below = or_left (at_path path k) (list_any (at_path path) (insert_key path_cmp ks key)) is
        further (inr later) below = or_right (at_path path k) (list_any (at_path path) (insert_key path_cmp ks key)) (below later)

        by : (o : Ordering) → path_cmp key k ≡ o → list_any (at_path path) (k ∷ insert_key path_cmp ks key) ≡ true → list_any (at_path path) (match_ordering o (key ∷ k ∷ ks) (k ∷ ks) (k ∷ insert_key path_cmp ks key)) ≡ true
        by Less less later = or_right (at_path path key) (list_any (at_path path) (k ∷ ks)) there
        by Equal same later = there
        by Greater more later = later

-- and so each path by which a name was counted
pub counted_paths : (keys next : List Key) (key : Key) (asked : List Asked) (path : List ℕ) (found : Found) (after : Owner) → key.items ≡ path → next ≡ insert_key path_cmp keys key
    → ((q : List ℕ) → is_counted q asked ≡ true → list_any (at_path q) keys ≡ true) → (q : List ℕ) → is_counted q (Counted path found after ∷ asked) ≡ true → list_any (at_path q) next ≡ true
counted_paths keys next key asked path found after is put known q h =
    ap (list_any (at_path q)) put ∙ with_path keys key q (by (one_true (has_several_names found && bytes_eq q path) (is_counted q asked) h))
  where
    by : ((has_several_names found && bytes_eq q path) ≡ true) ⊎ (is_counted q asked ≡ true) → (q ≡ key.items) ⊎ (list_any (at_path q) keys ≡ true)
    by (inl here) = inl ((bytes_eq-Decides q path).0 (both_true (has_several_names found) (bytes_eq q path) here).1 ∙ sym is)
    by (inr there) = inr (known q there)

pub kept_paths : (keys : List Key) (asked : List Asked) (path : List ℕ) (found : Found) (after : Owner) → has_several_names found ≡ false
    → ((q : List ℕ) → is_counted q asked ≡ true → list_any (at_path q) keys ≡ true) → (q : List ℕ) → is_counted q (Counted path found after ∷ asked) ≡ true → list_any (at_path q) keys ≡ true
kept_paths keys asked path found after single known q h =
    known q (sym (ap (λ (b : Bool). (b && bytes_eq q path) || is_counted q asked) single) ∙ h)

-- a put that failed after the path went in
pub more_paths : (keys next : List Key) (key : Key) (asked : List Asked) → next ≡ insert_key path_cmp keys key
    → ((q : List ℕ) → is_counted q asked ≡ true → list_any (at_path q) keys ≡ true) → (q : List ℕ) → is_counted q asked ≡ true → list_any (at_path q) next ≡ true
more_paths keys next key asked put known q h = ap (list_any (at_path q)) put ∙ with_path keys key q (inr (known q h))
