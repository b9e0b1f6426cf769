-- The mount that a directory is in is the nearest.
use Rattle.std.proofs.Common.{◌≡◌, ◌<◌, ◌≤◌, ℕ, Bool, true, false, cond, Option, None, Some, List, [], ◌∷◌, ◌++◌, All, length, nat_lt, refl, sym, ap, ◌∙◌, arith, MatchOption, true≢false}
use Rattle.std.specs.Prelude.{filter}
use Rattle.std.proofs.lemmas.Bool.{ltb-true, ltb-false}
use Rattle.std.proofs.lemmas.List.Elements.{All-nil, All-cons, All-append, All-weaker, All-same}
use Rattle.unify_apply.specs.Laws.{IsNearest}
use Rattle.unify_apply.specs.Mounts.{MountText, is_in, mount_of, nearest, or_nearer}

module _ (directory : List ℕ) where
  abbrev IsOut : MountText → Type 0
  IsOut other = is_in other.point directory ≡ false

  -- none has the directory, or the mount that is found is the nearest
  abbrev IsFound : List MountText → Option MountText → Type 0
  IsFound mounts found =
      MatchOption found
      (All IsOut mounts)
      (IsNearest mounts directory)

  -- the directory is in a mount of no greater, or of a smaller depth than this one
  abbrev Reaches : MountText → MountText → Type 0
  Reaches mount other =
      is_in other.point directory ≡ true → length other.point ≤ length mount.point

  abbrev IsShort : MountText → MountText → Type 0
  IsShort mount other =
      is_in other.point directory ≡ true → length other.point < length mount.point

  -- a mount that does not have it stands before the others
  passed : (x : MountText) (xs : List MountText) → is_in x.point directory ≡ false
      → (found : Option MountText) → IsFound xs found → IsFound (x ∷ xs) found
  passed x xs not_in None none = All-cons IsOut x xs not_in none
  passed x xs not_in (Some m) is = record {
    before = x ∷ is.before;
    after = is.after;
    listed = ap (λ l. x ∷ l) is.listed;
    holds = is.holds;
    near = All-cons (Reaches m) x is.before (λ has. absurd (true≢false (sym has ∙ not_in))) is.near;
    last = is.last;
  }

  -- one that has it does
  joined : (x : MountText) (xs : List MountText) → is_in x.point directory ≡ true
      → (found : Option MountText) → IsFound xs found → IsFound (x ∷ xs) (or_nearer x found)
  joined x xs has None none = record {
    before = [];
    after = xs;
    listed = refl;
    holds = has;
    near = All-nil (Reaches x);
    last = All-weaker IsOut (IsShort x) (λ other not_in h. absurd (true≢false (sym h ∙ not_in))) xs none;
  }
  joined x xs has (Some m) is = by (nat_lt (length m.point) (length x.point)) refl
    where
      by : (nearer : Bool) → nat_lt (length m.point) (length x.point) ≡ nearer
          → IsFound (x ∷ xs) (cond nearer (Some x) (Some m))
      by true lt =
          let less : length m.point < length x.point = ltb-true _ _ lt in
          record {
            before = [];
            after = xs;
            listed = refl;
            holds = has;
            near = All-nil (Reaches x);
            last = All-same (IsShort x) xs (is.before ++ m ∷ is.after) is.listed
                (All-append (IsShort x) is.before (m ∷ is.after)
                (All-weaker (Reaches m) (IsShort x) (λ other r h. let le : length other.point ≤ length m.point = r h in omega arith) is.before is.near)
                (All-cons (IsShort x) m is.after (λ h. less)
                (All-weaker (IsShort m) (IsShort x) (λ other r h. let lt' : length other.point < length m.point = r h in omega arith) is.after is.last)));
          }
      by false ge =
          let most : length x.point ≤ length m.point = ltb-false _ _ ge in
          record {
            before = x ∷ is.before;
            after = is.after;
            listed = ap (λ l. x ∷ l) is.listed;
            holds = is.holds;
            near = All-cons (Reaches m) x is.before (λ h. most) is.near;
            last = is.last;
          }

  found-is : (mounts : List MountText) → IsFound mounts (mount_of mounts directory)
  found-is [] = All-nil IsOut
  found-is (x ∷ xs) = by (is_in x.point directory) refl (found-is xs)
    where
      by : (has : Bool) → is_in x.point directory ≡ has → IsFound xs (mount_of xs directory)
          → IsFound (x ∷ xs) (nearest (cond has (x ∷ filter (λ mount. is_in mount.point directory) xs) (filter (λ mount. is_in mount.point directory) xs)))
      by true e rest = joined x xs e (mount_of xs directory) rest
      by false e rest = passed x xs e (mount_of xs directory) rest

pub nearest-is : (mounts : List MountText) (directory : List ℕ)
    → MatchOption (mount_of mounts directory)
    (All (λ (other : MountText). is_in other.point directory ≡ false) mounts)
    (IsNearest mounts directory)
nearest-is mounts directory = found-is directory mounts
