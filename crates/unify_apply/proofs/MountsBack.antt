-- The mounts that the system wrote are read back.
use Rattle.std.proofs.Common.{◌≡◌, ℕ, ◌==◌, ◌&&◌, ◌||◌, Bool, true, false, cond, not, Some, List, [], ◌∷◌, ◌++◌, map, refl, ap, ◌∙◌}
use Rattle.std.specs.Prelude.{codes, flat_map, slice_get}
use Rattle.std.specs.List.{filter_map, cons_option, join_with_byte, list_all, list_any}
use Rattle.std.specs.Option.{option_map}
use Rattle.std.specs.Str.{bytes_eq}
use Rattle.std.proofs.lemmas.Bool.{and_from, and_parts, not-true, not_from_false, or_parts}
use Rattle.idtext.specs.Escapes.{escape}
use Rattle.idtext.specs.Words.{is_filled, is_white}
use Rattle.unify_apply.specs.Laws.{MountLine, is_escaped, is_inside, is_lawful, is_word, line_of, mount_on, system_path, words_of}
use Rattle.unify_apply.specs.Mounts.{MountText, kind_in, mount_in, mount_told, mounts_in, path_in}
use Rattle.unify_apply.proofs.PathLemmas.{IsCons, escaped_cases, path-is-back, written, written-cons}
use Rattle.unify_apply.proofs.WrittenLines.{line-first, no_lines, words-joined}

-- ---- a path is a word

inside-append : (xs ys : List ℕ) → list_all is_inside xs ≡ true → list_all is_inside ys ≡ true
    → list_all is_inside (xs ++ ys) ≡ true
inside-append [] ys h g = g
inside-append (x ∷ xs) ys h g =
    let parts = and_parts (is_inside x) (list_all is_inside xs) h in
    and_from (is_inside x) (list_all is_inside (xs ++ ys)) parts.0 (inside-append xs ys parts.1 g)

plain-inside : (b : ℕ) → is_escaped b ≡ false → is_inside b ≡ true
plain-inside b plain =
    let p = or_parts (b == 32 || b == 9 || b == 10) (b == 92) plain in
    let q = or_parts (b == 32 || b == 9) (b == 10) p.0 in
    and_from (not (is_white b)) (not (b == 10)) (not_from_false (is_white b) q.0) (not_from_false (b == 10) q.1)

written-inside : (b : ℕ) → list_all is_inside (written b) ≡ true
written-inside b = by (is_escaped b) refl
  where
    by : (escaped : Bool) → is_escaped b ≡ escaped → list_all is_inside (cond escaped (escape b) (b ∷ [])) ≡ true
    by true is = escaped_cases (λ c. list_all is_inside (escape c) ≡ true) refl refl refl refl b is
    by false is = and_from (is_inside b) true (plain-inside b is) refl

path-inside : (path : List ℕ) → list_all is_inside (system_path path) ≡ true
path-inside [] = refl
path-inside (b ∷ path) = inside-append (written b) (system_path path) (written-inside b) (path-inside path)

path-word : (path : List ℕ) → is_filled path ≡ true → is_word (system_path path) ≡ true
path-word [] filled = filled
path-word (b ∷ path) filled =
    let some : IsCons (system_path (b ∷ path)) = written-cons b (system_path path) in
    and_from (is_filled (system_path (b ∷ path))) (list_all is_inside (system_path (b ∷ path)))
    (ap is_filled some.is) (path-inside (b ∷ path))

-- ---- a line

words-append : (xs ys : List (List ℕ)) → list_all is_word xs ≡ true → list_all is_word ys ≡ true
    → list_all is_word (xs ++ ys) ≡ true
words-append [] ys h g = g
words-append (x ∷ xs) ys h g =
    let parts = and_parts (is_word x) (list_all is_word xs) h in
    and_from (is_word x) (list_all is_word (xs ++ ys)) parts.0 (words-append xs ys parts.1 g)

abbrev dash : List ℕ → Bool
dash word = bytes_eq word (codes "-")

kind-behind : (options : List (List ℕ)) (kind : List ℕ) (more : List (List ℕ))
    → list_any dash options ≡ false → kind_in (options ++ codes "-" ∷ kind ∷ more) ≡ Some kind
kind-behind [] kind more none = refl
kind-behind (word ∷ options) kind more none =
    let parts = or_parts (dash word) (list_any dash options) none in
    let behind : List (List ℕ) = options ++ codes "-" ∷ kind ∷ more in
    ap (λ t. cond t (slice_get behind 0) (kind_in behind)) parts.0
    ∙ kind-behind options kind more parts.1

record AreParts (line : MountLine) : Type 0 where
  filled : is_filled line.point ≡ true
  front : list_all is_word (line.number ∷ line.parent ∷ line.device ∷ line.root ∷ line.options) ≡ true
  back : list_all is_word (line.kind ∷ line.more) ≡ true
  no_dash : list_any dash line.options ≡ false

lawful_parts : (line : MountLine) → is_lawful line ≡ true → AreParts line
lawful_parts line is =
    let a = is_filled line.point in
    let b = list_all is_word (line.number ∷ line.parent ∷ line.device ∷ line.root ∷ line.options) in
    let c = list_all is_word (line.kind ∷ line.more) in
    let d = not (list_any dash line.options) in
    let p = and_parts (a && b && c) d is in
    let q = and_parts (a && b) c p.0 in
    let r = and_parts a b q.0 in
    record { filled = r.0; front = r.1; back = q.1; no_dash = not-true (list_any dash line.options) p.1 }

all_words : (line : MountLine) → AreParts line → list_all is_word (words_of line) ≡ true
all_words line is =
    let options = list_all is_word line.options in
    let a = and_parts (is_word line.number) (list_all is_word (line.parent ∷ line.device ∷ line.root ∷ line.options)) is.front in
    let b = and_parts (is_word line.parent) (list_all is_word (line.device ∷ line.root ∷ line.options)) a.1 in
    let c = and_parts (is_word line.device) (list_all is_word (line.root ∷ line.options)) b.1 in
    let d = and_parts (is_word line.root) options c.1 in
    let behind : List (List ℕ) = line.options ++ codes "-" ∷ line.kind ∷ line.more in
    let rest : list_all is_word behind ≡ true = words-append line.options (codes "-" ∷ line.kind ∷ line.more) d.1 is.back in
    let path : is_word (system_path line.point) ≡ true = path-word line.point is.filled in
    and_from _ _ a.0 (and_from _ _ b.0 (and_from _ _ c.0 (and_from _ _ d.0 (and_from _ _ path rest))))

told-line : (line : MountLine) → AreParts line
    → mount_told (join_with_byte 32 (words_of line)) ≡ Some (mount_on line)
told-line line is =
    let at_path : MountText → MountText = λ mount. record mount { point = path_in mount.point } in
    let written : List ℕ → MountText = λ kind. record { device = line.device; point = system_path line.point; kind = kind } in
    let read : List ℕ → MountText = λ point. record { device = line.device; point = point; kind = line.kind } in
    ap (λ ws. option_map at_path (mount_in ws)) (words-joined (words_of line) (all_words line is))
    ∙ ap (λ k. option_map at_path (option_map written k)) (kind-behind line.options line.kind line.more is.no_dash)
    ∙ ap (λ p. Some (read p)) (path-is-back line.point)

pub mounts-back : (mounts : List MountLine) → list_all is_lawful mounts ≡ true
    → mounts_in (flat_map (λ line. line_of (words_of line)) mounts) ≡ map mount_on mounts
mounts-back [] all = ap (filter_map mount_told) no_lines
mounts-back (line ∷ mounts) all =
    let parts = and_parts (is_lawful line) (list_all is_lawful mounts) all in
    let is : AreParts line = lawful_parts line parts.0 in
    let rest : List ℕ = flat_map (λ other. line_of (words_of other)) mounts in
    ap (filter_map mount_told) (line-first (words_of line) rest (all_words line is))
    ∙ ap (λ o. cons_option o (mounts_in rest)) (told-line line is)
    ∙ ap (λ others. mount_on line ∷ others) (mounts-back mounts parts.1)
