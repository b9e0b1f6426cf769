-- Modes that are read of lines, as a search tree has them.
use Rattle.std.proofs.Common.{◌≡◌, ℕ, Bool, true, false, cond, List, [], ◌∷◌, ◌++◌, Option, None, Some, refl, sym, ap, ◌∙◌, append_assoc}
use Rattle.std.proofs.lemmas.List.{reverse-append}
use Rattle.std.proofs.lemmas.Map.Lookups.{exact_bytes}
use Rattle.std.proofs.lemmas.Map.Text.{is_eq-slice_cmp}
use Rattle.std.proofs.lemmas.Slice.Eq.{bytes_eq-Decides}
use Rattle.std.specs.BTreeMap.{insert_entry}
use Rattle.std.specs.Cmp.Lexicographic.{slice_cmp}
use Rattle.std.specs.Map.{lookup}
use Rattle.std.specs.Option.{option_map}
use Rattle.std.specs.Ordering.{nat_cmp, is_eq, match_ordering}
use Rattle.std.specs.Prelude.{Vec}
use Rattle.std.specs.Str.{bytes_eq}
use Rattle.std.specs.declared.alloc.Global.{Global}
use Rattle.std.specs.declared.cmp.Ordering.{Ordering}
use Rattle.std.specs.declared.cmp.Ordering.TheVariants.{Less, Equal, Greater}
use Rattle.reown_files.specs.MarkText.{Entry, mode_in}
use Rattle.reown_files.specs.Trees.{mode_at}

-- ---- entries

-- of entries with one more behind them that one counts, where it has the path
pub last_counts : (before : List Entry) (e : Entry) (path : List ℕ) → mode_in (before ++ e ∷ []) path ≡ cond (bytes_eq path e.0) (Some e.1) (mode_in before path)
last_counts before e path = ap (lookup (bytes_eq path)) (reverse-append before (e ∷ []))

pub one_more : (before : List Entry) (e : Entry) (rest : Option (List Entry)) → option_map (λ es. before ++ es) (option_map (λ es. e ∷ es) rest) ≡ option_map (λ es. (before ++ e ∷ []) ++ es) rest
one_more before e None = refl
one_more before e (Some es) = ap Some (sym (append_assoc before (e ∷ []) es))

-- ---- the tree

abbrev Key : Type 0
Key = Vec ℕ Global

abbrev path_cmp : Key → Key → Ordering
path_cmp a b = slice_cmp nat_cmp a.items b.items

module _ (path : List ℕ) (key : Key) (mode : ℕ) where
  one_place : (here : Bool) (other : Option ℕ) (more : Option ℕ) → cond here (Some mode) more ≡ cond here (Some mode) (cond here other more)
  one_place true other more = refl
  one_place false other more = refl

  two_places : (here there : Bool) → (here ≡ true → there ≡ true → ⊥) → (other : Option ℕ) (more : Option ℕ) → cond there other (cond here (Some mode) more) ≡ cond here (Some mode) (cond there other more)
  two_places true true never other more = absurd (never refl refl)
  two_places true false never other more = refl
  two_places false there never other more = refl

  -- a mode that is put in is found by its path, and every other as before
  pub put_in : (tree : List (Key × ℕ)) → mode_at (insert_entry path_cmp tree key mode) path ≡ cond (bytes_eq path key.items) (Some mode) (mode_at tree path)
  put_in [] = ap (λ (b : Bool). cond b (Some mode) None) (is_eq-slice_cmp path key.items)
  put_in (e ∷ es) = by (path_cmp key e.0) refl (put_in es)
    where
      is_e : Bool
      is_e = bytes_eq path e.0.items

      by : (o : Ordering) → path_cmp key e.0 ≡ o → mode_at (insert_entry path_cmp es key mode) path ≡ cond (bytes_eq path key.items) (Some mode) (mode_at es path)
          → mode_at (match_ordering o ((key, mode) ∷ e ∷ es) ((e.0, mode) ∷ es) (e ∷ insert_entry path_cmp es key mode)) path ≡ cond (bytes_eq path key.items) (Some mode) (mode_at (e ∷ es) path)
      by Less less below = ap (λ (b : Bool). cond b (Some mode) (mode_at (e ∷ es) path)) (is_eq-slice_cmp path key.items)
      by Equal same below =
          let is : is_eq (slice_cmp nat_cmp path e.0.items) ≡ bytes_eq path key.items = is_eq-slice_cmp path e.0.items ∙ ap (bytes_eq path) (sym (exact_bytes key.items e.0.items same)) in
          ap (λ (b : Bool). cond b (Some mode) (mode_at es path)) is
          ∙ one_place (bytes_eq path key.items) (Some e.1) (mode_at es path)
          ∙ ap (λ (b : Bool). cond (bytes_eq path key.items) (Some mode) (cond b (Some e.1) (mode_at es path))) (sym is)
      by Greater more below =
          ap (λ (o : Option ℕ). cond (is_eq (slice_cmp nat_cmp path e.0.items)) (Some e.1) o) below
          ∙ two_places (bytes_eq path key.items) (is_eq (slice_cmp nat_cmp path e.0.items)) never (Some e.1) (mode_at es path)
        where
          never : bytes_eq path key.items ≡ true → is_eq (slice_cmp nat_cmp path e.0.items) ≡ true → ⊥
          never here there =
              let at_key = (bytes_eq-Decides path key.items).0 here in
              let at_e = (bytes_eq-Decides path e.0.items).0 (sym (is_eq-slice_cmp path e.0.items) ∙ there) in
              let one = (bytes_eq-Decides key.items e.0.items).1 (sym at_key ∙ at_e) in
              let clash : false ≡ true = sym (ap is_eq more) ∙ is_eq-slice_cmp key.items e.0.items ∙ one in absurd cc
