-- The files of a search tree, as a loop puts them in.
use Rattle.std.proofs.Common.{◌≡◌, ◌<◌, ◌+◌, ℕ, Bool, true, false, cond, List, [], ◌∷◌, take, get_or, length, Option, Some, None, refl, sym, ◌∙◌, ap, arith}
use Rattle.std.specs.Prelude.{option_copied}
use Rattle.std.specs.Borrow.{Bor}
use Rattle.std.specs.Cmp.Lexicographic.{slice_cmp}
use Rattle.std.specs.Map.{lookup}
use Rattle.std.specs.Option.{option_or}
use Rattle.std.specs.Ordering.{is_eq, nat_cmp}
use Rattle.std.specs.Str.{bytes_eq}
use Rattle.std.proofs.lemmas.Bool.{true≢false}
use Rattle.std.proofs.lemmas.List.{get_or-take, get_or_default, length-take-le, take_more}
use Rattle.std.proofs.lemmas.List.Folds.{find-append}
use Rattle.std.proofs.lemmas.Map.Text.{is_eq-slice_cmp}
use Rattle.std.proofs.lemmas.Slice.Eq.{bytes_eq-Decides}
use Rattle.mtree_inv.specs.declared.entry.Entry.{Entry}
use Rattle.mtree_inv.specs.Files.{HaveDistinctFiles}
use Rattle.mtree_inv.specs.Inventory.{file_at}
use Rattle.kept_names.specs.Found.{Rows, FindsFiles}
use Rattle.kept_names.proofs.Lost.{file-there}

or-none : (o : Option Entry) → option_or o None ≡ o
or-none None = refl
or-none (Some x) = refl

-- one more file
module _ (files : List Entry) (i : ℕ) (x : Entry) (distinct : HaveDistinctFiles files) (below : i < length files) (at : x ≡ get_or files i x) where
  more : (path : List ℕ) → file_at (take (i + 1) files) path ≡ option_or (file_at (take i files) path) (cond (bytes_eq path x.path) (Some x) None)
  more path =
      ap (λ (fs : List Entry). file_at fs path) (take_more files i x below)
      ∙ find-append (λ (file : Entry). bytes_eq path file.path) (take i files) (get_or files i x ∷ [])
      ∙ ap (λ (e : Entry). option_or (file_at (take i files) path) (cond (bytes_eq path e.path) (Some e) None)) (sym at)

  fresh : (path : List ℕ) → path ≡ x.path → file_at (take i files) path ≡ None
  fresh path same = by (file_at (take i files) path) refl
    where
      by : (o : Option Entry) → file_at (take i files) path ≡ o → o ≡ None
      by None e = refl
      by (Some y) e =
          let there = file-there (take i files) path y e in
          let k = there.0.0 in
          let less : k < i = omega (arith, there.0.1, length-take-le i files (omega arith)) in
          let first : get_or files k y ≡ y = sym (get_or-take i files k y less) ∙ there.0.2 in
          let second : get_or files i y ≡ x = get_or_default files i y x below ∙ sym at in
          absurd (distinct k i y less below (ap (λ (e : Entry). e.path) first ∙ there.1 ∙ same ∙ ap (λ (e : Entry). e.path) (sym second)))

  module _ (before after : Rows) (key : Bor (List ℕ)) (file : Bor Entry) (key-is : key.now ≡ x.path) (file-is : file.now ≡ x)
      (updates : (q : Bor (List ℕ)) → lookup (λ k. is_eq (slice_cmp nat_cmp q.now k.now)) after ≡ cond (is_eq (slice_cmp nat_cmp key.now q.now)) (Some file) (lookup (λ k. is_eq (slice_cmp nat_cmp q.now k.now)) before))
      (path : List ℕ) where
    abbrev at_path : Rows → Option (Bor Entry)
    at_path rows = lookup (λ k. is_eq (slice_cmp nat_cmp path k.now)) rows

    abbrev is_key : Bool
    is_key = is_eq (slice_cmp nat_cmp key.now path)

    now-found : (b : Bool) → is_key ≡ b → option_copied (at_path after) ≡ option_copied (cond b (Some file) (at_path before))
    now-found b e = ap option_copied (updates (record { ref_ptr = (0, 0); now = path }) ∙ ap (λ (c : Bool). cond c (Some file) (at_path before)) e)

    same_key : path ≡ x.path → is_key ≡ true
    same_key e = is_eq-slice_cmp key.now path ∙ (bytes_eq-Decides key.now path).1 (key-is ∙ sym e)

    other_key : bytes_eq path x.path ≡ false → (b : Bool) → is_key ≡ b → b ≡ false
    other_key other false e = refl
    other_key other true e =
        let alike : path ≡ x.path = sym ((bytes_eq-Decides key.now path).0 (sym (is_eq-slice_cmp key.now path) ∙ e)) ∙ key-is in
        absurd (true≢false (sym ((bytes_eq-Decides path x.path).1 alike) ∙ other))

    found_there : (b : Bool) → bytes_eq path x.path ≡ b → option_copied (at_path before) ≡ file_at (take i files) path → option_copied (at_path after) ≡ file_at (take (i + 1) files) path
    found_there true e found =
        let alike : path ≡ x.path = (bytes_eq-Decides path x.path).0 e in
        now-found true (same_key alike) ∙ ap Some file-is
        ∙ sym (more path ∙ ap (λ (o : Option Entry). option_or o (cond (bytes_eq path x.path) (Some x) None)) (fresh path alike) ∙ ap (λ (b : Bool). cond b (Some x) None) e)
    found_there false e found =
        let other : is_key ≡ false = other_key e is_key refl in
        now-found false other ∙ found
        ∙ sym (more path ∙ ap (λ (b : Bool). option_or (file_at (take i files) path) (cond b (Some x) None)) e ∙ or-none (file_at (take i files) path))

  pub one_more_file : (before after : Rows) (key : Bor (List ℕ)) (file : Bor Entry) → key.now ≡ x.path → file.now ≡ x
      → FindsFiles before (take i files)
      → ((q : Bor (List ℕ)) → lookup (λ k. is_eq (slice_cmp nat_cmp q.now k.now)) after ≡ cond (is_eq (slice_cmp nat_cmp key.now q.now)) (Some file) (lookup (λ k. is_eq (slice_cmp nat_cmp q.now k.now)) before))
      → FindsFiles after (take (i + 1) files)
  one_more_file before after key file key-is file-is found updates path =
      found_there before after key file key-is file-is updates path (bytes_eq path x.path) refl (found path)
