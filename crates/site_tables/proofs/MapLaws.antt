-- A map passes exactly where its names are those of the hosts.
use Rattle.std.proofs.Common.{◌≡◌, ◌↔◌, ℕ, Bool, true, false, cond, ◌&&◌, List, get_or, Ok, Err, All, refl, sym, ap, subst}
use Rattle.std.specs.List.{Any, Contains, find, list_all, list_any}
use Rattle.std.specs.Option.{is_some}
use Rattle.std.specs.Prelude.{Decides}
use Rattle.std.specs.Str.{bytes_eq}
use Rattle.std.proofs.lemmas.Bool.Decides.{Decides-and, Decides-like}
use Rattle.std.proofs.lemmas.List.Elements.{All-contains, Contains-get_or}
use Rattle.std.proofs.lemmas.Slice.Eq.{bytes_eq-Decides}
use Rattle.hosts_join.specs.Accounts.{Pair}
use Rattle.hosts_join.specs.Pairs.{number_of}
use Rattle.hosts_join.specs.declared.host.Host.{Host}
use Rattle.unify_texts.specs.declared.fault.Fault.{Fault}
use Rattle.unify_texts.specs.declared.fault.Fault.TheVariants.{BadMap}
use Rattle.unify_texts.specs.declared.map_text.MapText.{MapText}
use Rattle.site_tables.proofs.AnyDecides.{all_decides, any_decides, find_decides, look_up_decides}
use Rattle.site_tables.specs.Mapped.{is_group_map, is_user_map}
use Rattle.site_tables.specs.MapLaws.{CountedMapsAreWhole, IsMapped, IsWholeMap}

any_at : {X : Type 0} (P : X → Type 0) (xs : List X) (x : X) → Contains xs x → P x → Any P xs
any_at P xs x there h = (there.0, x, there.1, there.2, h)

same_name : (name other : List ℕ) → Decides (bytes_eq name other) (other ≡ name)
same_name name other = Decides-like (bytes_eq name other) (λ e. sym e) (λ e. sym e) (bytes_eq-Decides name other)

mapped : (pairs : List Pair) (name : List ℕ) → Decides (is_some (number_of pairs name)) (IsMapped pairs name)
mapped pairs name = look_up_decides (λ (p : Pair). bytes_eq name p.name) (λ p. p.name ≡ name) (λ p. same_name name p.name) (λ p. p.number) pairs

-- the rows of a host, users or groups, and the name of each
module _ {Row : Type 0} (rows : Host → List Row) (name_of : Row → List ℕ) where
  abbrev HasRow : List ℕ → Host → Type 0
  HasRow name host = Any (λ row. name_of row ≡ name) (rows host)

  has_row : (name : List ℕ) (host : Host) → Decides (is_some (find (λ row. bytes_eq name (name_of row)) (rows host))) (HasRow name host)
  has_row name host = find_decides (λ row. bytes_eq name (name_of row)) (λ row. name_of row ≡ name) (λ row. same_name name (name_of row)) (rows host)

  module _ (pairs : List Pair) (hosts : List Host) where
    abbrev AllMapped : Type 0
    AllMapped = All (λ host. All (λ row. IsMapped pairs (name_of row)) (rows host)) hosts

    abbrev AllNamed : Type 0
    AllNamed = All (λ (p : Pair). Any (HasRow p.name) hosts) pairs

    all_mapped : Decides (list_all (λ host. list_all (λ row. is_some (number_of pairs (name_of row))) (rows host)) hosts) AllMapped
    all_mapped =
        all_decides (λ host. list_all (λ row. is_some (number_of pairs (name_of row))) (rows host)) (λ host. All (λ row. IsMapped pairs (name_of row)) (rows host))
        (λ host. all_decides (λ row. is_some (number_of pairs (name_of row))) (λ row. IsMapped pairs (name_of row)) (λ row. mapped pairs (name_of row)) (rows host)) hosts

    all_named : Decides (list_all (λ (p : Pair). list_any (λ host. is_some (find (λ row. bytes_eq p.name (name_of row)) (rows host))) hosts) pairs) AllNamed
    all_named =
        all_decides (λ (p : Pair). list_any (λ host. is_some (find (λ row. bytes_eq p.name (name_of row)) (rows host))) hosts) (λ p. Any (HasRow p.name) hosts)
        (λ p. any_decides (λ host. is_some (find (λ row. bytes_eq p.name (name_of row)) (rows host))) (HasRow p.name) (has_row p.name) hosts) pairs

    abbrev AreTheirs : Type 0
    AreTheirs = (name : List ℕ) → IsMapped pairs name ↔ Any (HasRow name) hosts

    theirs : AllMapped × AllNamed → AreTheirs
    theirs both name = (
      λ h. subst (λ n. Any (HasRow n) hosts) h.4 (All-contains (λ (p : Pair). Any (HasRow p.name) hosts) pairs h.1 both.1 (h.0, h.2, h.3)),
      λ h. let row = h.4 in
          subst (IsMapped pairs) row.4 (All-contains (λ r. IsMapped pairs (name_of r)) (rows h.1) row.1
          (All-contains (λ host. All (λ r. IsMapped pairs (name_of r)) (rows host)) hosts h.1 both.0 (h.0, h.2, h.3)) (row.0, row.2, row.3)),
    )

    both_ways : AreTheirs → AllMapped × AllNamed
    both_ways all = (
      λ k d lt j e less.
          let host = get_or hosts k d in
          let row = get_or (rows host) j e in
          (all (name_of row)).1 (any_at (HasRow (name_of row)) hosts host (Contains-get_or hosts k d lt)
          (any_at (λ r. name_of r ≡ name_of row) (rows host) row (Contains-get_or (rows host) j e less) refl)),
      λ k d lt.
          let p = get_or pairs k d in
          (all p.name).0 (any_at (λ (q : Pair). q.name ≡ p.name) pairs p (Contains-get_or pairs k d lt) refl),
    )

    pub whole_decides : Decides (list_all (λ host. list_all (λ row. is_some (number_of pairs (name_of row))) (rows host)) hosts && list_all (λ (p : Pair). list_any (λ host. is_some (find (λ row. bytes_eq p.name (name_of row)) (rows host))) hosts) pairs) AreTheirs
    whole_decides =
        Decides-like (list_all (λ host. list_all (λ row. is_some (number_of pairs (name_of row))) (rows host)) hosts && list_all (λ (p : Pair). list_any (λ host. is_some (find (λ row. bytes_eq p.name (name_of row)) (rows host))) hosts) pairs)
        theirs both_ways
        (Decides-and (list_all (λ host. list_all (λ row. is_some (number_of pairs (name_of row))) (rows host)) hosts) (list_all (λ (p : Pair). list_any (λ host. is_some (find (λ row. bytes_eq p.name (name_of row)) (rows host))) hosts) pairs) all_mapped all_named)

passed-true : (b : Bool) (f : Fault) → cond b (Ok (tt {0})) (Err f) ≡ Ok tt → b ≡ true
passed-true true f h = refl
passed-true false f h = absurd (cc)

refused-with : (b : Bool) (f g : Fault) → cond b (Ok (tt {0})) (Err f) ≡ Err g → g ≡ f
refused-with true f g h = absurd (cc)
refused-with false f g h = cc

module _ (map : MapText) (hosts : List Host) where
  whole : Decides (is_user_map map.users hosts && is_group_map map.groups hosts) (IsWholeMap map hosts)
  whole =
      Decides-like (is_user_map map.users hosts && is_group_map map.groups hosts) (λ h. record { users = h.0; groups = h.1 }) (λ w. (w.users, w.groups))
      (Decides-and (is_user_map map.users hosts) (is_group_map map.groups hosts)
      (whole_decides (λ host. host.users) (λ row. row.name) map.users hosts) (whole_decides (λ host. host.groups) (λ row. row.name) map.groups hosts))

pub maps_are_whole : CountedMapsAreWhole
maps_are_whole map hosts =
    let b = is_user_map map.users hosts && is_group_map map.groups hosts in
    record {
      passed = (λ h. (whole map hosts).0 (passed-true b (BadMap 0) h), λ w. ap (λ c. cond c (Ok tt) (Err (BadMap 0))) ((whole map hosts).1 w));
      refused = λ f h. refused-with b (BadMap 0) f h;
    }
