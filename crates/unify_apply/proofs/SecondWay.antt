-- Where no second way is found, no mount is one; and where one is found, it is a mount.
use Rattle.std.proofs.Common.{◌≡◌, ℕ, ◌&&◌, ◌||◌, Bool, true, false, cond, Option, None, Some, List, [], ◌∷◌, Contains, map, refl, sym, subst, ap, ◌∙◌, arith, MatchOption}
use Rattle.std.specs.Prelude.{filter}
use Rattle.std.specs.List.{find, list_any}
use Rattle.std.specs.Option.{option_map, option_map_or}
use Rattle.std.specs.Str.{bytes_eq}
use Rattle.std.proofs.Math.Bool.{and-true}
use Rattle.std.proofs.lemmas.Bool.{and_parts}
use Rattle.std.proofs.lemmas.List.Elements.{Contains-append_right, Contains-get_or}
use Rattle.std.proofs.lemmas.Option.{same_Some}
use Rattle.std.proofs.lemmas.Slice.Eq.{bytes_eq-Decides}
use Rattle.unify_apply.specs.Laws.{IsBelow, IsOneSecondWay, SecondWayIsThere}
use Rattle.unify_apply.specs.Mounts.{MountText, is_under, is_way, mount_of, mounts_in, path_from, same_below, same_file_system, second_way}
use Rattle.unify_apply.proofs.PathLaws.{paths-told}

abbrev Seen : Type 0
Seen = List ℕ × Option ℕ

abbrev point_of : MountText → List ℕ
point_of mount = mount.point

-- the path of one of mounts, which is kept and is a way
record IsKeptWay (kept : MountText → Bool) (device : ℕ) (look : List ℕ → Option ℕ) (mounts : List MountText) (point : List ℕ) : Type 0 where
  pub mount : MountText
  pub told : Contains mounts mount
  pub at : mount.point ≡ point
  pub keeps : kept mount ≡ true
  pub way : is_way device (look point) ≡ true

module _ (kept : MountText → Bool) (device : ℕ) (look : List ℕ → Option ℕ) where
  abbrev found_in : List MountText → Option Seen
  found_in mounts =
      find (λ (point : Seen). is_way device point.1)
      (map (λ point. (point, look point)) (map point_of mounts))

  abbrev path_of : Option Seen → Option (List ℕ)
  path_of found = option_map (λ (point : Seen). point.0) found

  abbrev has_way : List MountText → Bool
  has_way mounts = list_any (λ mount. kept mount && is_way device (look mount.point)) mounts

  abbrev AreNone : List MountText → Type 0
  AreNone mounts = path_of (found_in (filter kept mounts)) ≡ None → has_way mounts ≡ false

  none-found : (mounts : List MountText) → AreNone mounts
  none-found [] none = refl
  none-found (mount ∷ mounts) none = by (kept mount) none (none-found mounts)
    where
      seen : (way : Bool)
          → path_of (cond way (Some (mount.point, look mount.point)) (found_in (filter kept mounts))) ≡ None
          → AreNone mounts → (way || has_way mounts) ≡ false
      seen true some rest = cc
      seen false none' rest = rest none'

      by : (keeps : Bool)
          → path_of (found_in (cond keeps (mount ∷ filter kept mounts) (filter kept mounts))) ≡ None
          → AreNone mounts → ((keeps && is_way device (look mount.point)) || has_way mounts) ≡ false
      by true none' rest = seen (is_way device (look mount.point)) none' rest
      by false none' rest = rest none'

  -- the mount that is found stands there
  abbrev IsThere : List MountText → List ℕ → Type 0
  IsThere mounts point = IsKeptWay kept device look mounts point

  some-found : (mounts : List MountText) (point : List ℕ) → path_of (found_in (filter kept mounts)) ≡ Some point → IsThere mounts point
  some-found [] point some = absurd (cc)
  some-found (mount ∷ mounts) point some = by (kept mount) refl some (some-found mounts point)
    where
      later : IsThere mounts point → IsThere (mount ∷ mounts) point
      later is = record {
        mount = is.mount;
        told = Contains-append_right (mount ∷ []) mounts is.mount is.told;
        at = is.at;
        keeps = is.keeps;
        way = is.way;
      }

      seen : (way : Bool) → is_way device (look mount.point) ≡ way → kept mount ≡ true
          → path_of (cond way (Some (mount.point, look mount.point)) (found_in (filter kept mounts))) ≡ Some point
          → (path_of (found_in (filter kept mounts)) ≡ Some point → IsThere mounts point) → IsThere (mount ∷ mounts) point
      seen true is keeps some' rest =
          let at : mount.point ≡ point = same_Some mount.point point some' in
          record {
            mount = mount;
            told = Contains-get_or (mount ∷ mounts) 0 mount (omega arith);
            at = at;
            keeps = keeps;
            way = ap (λ p. is_way device (look p)) (sym at) ∙ is;
          }
      seen false is keeps some' rest = later (rest some')

      by : (keeps : Bool) → kept mount ≡ keeps
          → path_of (found_in (cond keeps (mount ∷ filter kept mounts) (filter kept mounts))) ≡ Some point
          → (path_of (found_in (filter kept mounts)) ≡ Some point → IsThere mounts point) → IsThere (mount ∷ mounts) point
      by true keeps some' rest = seen (is_way device (look mount.point)) refl keeps some' rest
      by false keeps some' rest = later (rest some')

any-same : (f g : MountText → Bool) → ((m : MountText) → f m ≡ g m) → (ms : List MountText)
    → list_any f ms ≡ list_any g ms
any-same f g same [] = refl
any-same f g same (m ∷ ms) = ap (λ t. t || list_any f ms) (same m) ∙ ap (λ t. g m || t) (any-same f g same ms)

pub no_second_way : (text path : List ℕ) (device : ℕ) (look : List ℕ → Option ℕ)
    → second_way device (map (λ point. (point, look point)) (same_file_system text path)) ≡ None
    → MatchOption (mount_of (mounts_in text) (path_from path))
    (list_any (λ other. is_under (path_from path) other.point && is_way device (look other.point)) (mounts_in text) ≡ false)
    (λ mount. list_any (λ other. is_under (path_from path) other.point && bytes_eq other.device mount.device && is_way device (look other.point)) (mounts_in text) ≡ false)
no_second_way text path device look none = by (mount_of (mounts_in text) directory) none
  where
    directory : List ℕ
    directory = path_from path

    way : MountText → Bool
    way other = is_way device (look other.point)

    same : Option MountText → List (List ℕ)
    same found =
        option_map_or (λ (m : MountText). same_below (mounts_in text) directory (Some m.device)) found
        (same_below (mounts_in text) directory None)

    by : (found : Option MountText)
        → second_way device (map (λ point. (point, look point)) (same found)) ≡ None
        → MatchOption found
        (list_any (λ other. is_under directory other.point && way other) (mounts_in text) ≡ false)
        (λ mount. list_any (λ other. is_under directory other.point && bytes_eq other.device mount.device && way other) (mounts_in text) ≡ false)
    by None h =
        any-same (λ other. is_under directory other.point && way other)
        (λ other. is_under directory other.point && true && way other)
        (λ other. ap (λ t. t && way other) (sym (and-true (is_under directory other.point)))) (mounts_in text)
        ∙ none-found (λ other. is_under directory other.point && true) device look (mounts_in text) h
    by (Some mount) h =
        none-found (λ (other : MountText). is_under directory other.point && bytes_eq other.device mount.device) device look (mounts_in text) h

pub second_way_there : SecondWayIsThere
second_way_there text path device look point some = by (mount_of (mounts_in text) directory) refl some
  where
    directory : List ℕ
    directory = path_from path

    same : Option MountText → List (List ℕ)
    same found =
        option_map_or (λ (m : MountText). same_below (mounts_in text) directory (Some m.device)) found
        (same_below (mounts_in text) directory None)

    below : (mount : MountText) → mount.point ≡ point → is_under directory mount.point ≡ true → IsBelow directory point
    below mount at is = subst (IsBelow directory) at ((paths-told directory mount.point).below.0 is)

    by : (found : Option MountText) → mount_of (mounts_in text) directory ≡ found
        → second_way device (map (λ p. (p, look p)) (same found)) ≡ Some point
        → IsOneSecondWay text path device look point
    by None none some' =
        let is = some-found (λ (other : MountText). is_under directory other.point && true) device look (mounts_in text) point some' in
        let parts = and_parts (is_under directory is.mount.point) true is.keeps in
        record {
          mount = is.mount;
          told = is.told;
          at = is.at;
          below = below is.mount is.at parts.0;
          way = is.way;
          same = λ own own_is. let e : None ≡ Some own = sym none ∙ own_is in absurd (cc);
        }
    by (Some mount) found some' =
        let is = some-found (λ (other : MountText). is_under directory other.point && bytes_eq other.device mount.device) device look (mounts_in text) point some' in
        let parts = and_parts (is_under directory is.mount.point) (bytes_eq is.mount.device mount.device) is.keeps in
        record {
          mount = is.mount;
          told = is.told;
          at = is.at;
          below = below is.mount is.at parts.0;
          way = is.way;
          same = λ own own_is.
              (bytes_eq-Decides is.mount.device mount.device).0 parts.1
              ∙ ap (λ (m : MountText). m.device) (same_Some mount own (sym found ∙ own_is));
        }
