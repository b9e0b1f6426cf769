-- A joined site has lawful accounts.
use Rattle.std.proofs.Common.{◌≡◌, ℕ, ◌+◌, ◌≤◌, true, not, List, [], ◌∷◌, ◌++◌, length, map, Some, None, Ok, refl, sym, ap, subst, ◌∙◌, arith, inl, inr, append_assoc, append-nil, nat_eq, nat_lt}
use Rattle.std.specs.List.{All, list_any}
use Rattle.std.specs.Option.{is_some}
use Rattle.std.proofs.lemmas.Bool.{cases_Bool, and_parts, not-true, false≢true}
use Rattle.std.proofs.lemmas.List.{length-map}
use Rattle.std.proofs.lemmas.List.Elements.{All-nil}
use Rattle.idtext.specs.First.{first_fault}
use Rattle.idtext.specs.Pieces.{lines}
use Rattle.idtext.proofs.FirstLemmas.{none_of_both}
use Rattle.idtext.proofs.OkLemmas.{unless_ok, bind_ok}
use Rattle.accounts.specs.Laws.{IsTable}
use Rattle.logindefs.specs.Ranges.{AreApart}
use Rattle.logindefs.specs.declared.ranges.IdRange.{IdRange}
use Rattle.logindefs.specs.declared.ranges.HostRanges.{HostRanges}
use Rattle.hosts_join.specs.Accounts.{Accounts, Pair, Row, all_lines, grouped, rows_from}
use Rattle.hosts_join.specs.Hosts.{IsLawfulHost}
use Rattle.hosts_join.specs.Kinds.{user_rows, group_rows, user_rows-table, group_rows-table}
use Rattle.hosts_join.specs.Lawful.{AreLawfulAccounts}
use Rattle.hosts_join.specs.Laws.{HasLawfulAccounts, JoinedSitesAreLawful, ReadPinsArePins}
use Rattle.hosts_join.specs.PairLines.{pair_line_of, user_pair, group_pair}
use Rattle.hosts_join.specs.Pairs.{number_of}
use Rattle.hosts_join.specs.PinPairs.{PinPairs, ArePins, ArePinPairs}
use Rattle.hosts_join.specs.PinsInside.{IsIdLine}
use Rattle.hosts_join.specs.PinsText.{is_new_pin, may_stand, pins_fault, pins_of, pins_on}
use Rattle.hosts_join.specs.Rules.{claims, claim_fault, joined, refusal, first_some, disagrees}
use Rattle.hosts_join.specs.Site.{accounts_of, entry_on, users_of, groups_of}
use Rattle.hosts_join.specs.declared.Which.{Which}
use Rattle.hosts_join.specs.declared.Which.TheVariants.{User, Group}
use Rattle.hosts_join.specs.declared.host.Host.{Host}
use Rattle.hosts_join.specs.declared.pair_lines.PairLine.{PairLine}
use Rattle.hosts_join.specs.declared.reserving.Reserved.{Reserved}
use Rattle.hosts_join.specs.declared.pair_lines.PairLine.TheVariants.{Skipped, Wrong, Given}
use Rattle.hosts_join.proofs.Grouping.{grouped-nil, grouped-push, all_lines-with_row}
use Rattle.hosts_join.proofs.KindLemmas.{length-rows_from}
use Rattle.hosts_join.proofs.Knowing.{site-is}
use Rattle.hosts_join.proofs.Lawful.{lawful, no-hosts}
use Rattle.hosts_join.proofs.Once.{rows_from-named}
use Rattle.hosts_join.proofs.PinLemmas.{more, pair_line-id, pins-push, used-is}
use Rattle.hosts_join.proofs.Refusals.{not-clashing}
use Rattle.hosts_join.proofs.Spots.{rows_from-among, rows_from-lawful, few-spots}

-- ---- the accounts of a kind

lines-rest : (seen rest : List Row) → all_lines (grouped (seen ++ rest)) ≡ all_lines (grouped seen) + length rest
lines-rest seen [] = ap (λ rows. all_lines (grouped rows)) (append-nil seen) ∙ omega arith
lines-rest seen (r ∷ rest) =
    let one = ap all_lines (grouped-push seen r) ∙ all_lines-with_row (grouped seen) r in
    let later = lines-rest (seen ++ r ∷ []) rest in
    ap (λ rows. all_lines (grouped rows)) (sym (append_assoc seen (r ∷ []) rest)) ∙ omega (arith, one, later)

lines-all : (rows : List Row) → all_lines (grouped rows) ≡ length rows
lines-all rows = let all = lines-rest [] rows in omega (arith, all, ap all_lines grouped-nil)

accounts-lawful : (kind : Which) (regular system : HostRanges → IdRange) (listed : Host → List (List ℕ × ℕ)) → ((h : Host) → IsLawfulHost h → IsTable (map (λ p. p.0) (listed h)) (map (λ p. p.1) (listed h))) → ((h : Host) → IsLawfulHost h → AreApart (regular h.ranges) (system h.ranges))
    → (hosts : List Host) (pins : List Pair) (reserved : List Reserved) (b : Accounts) → length hosts ≤ 64 → All IsLawfulHost hosts → ArePins pins → joined kind (accounts_of regular system listed hosts pins reserved) ≡ Ok b → AreLawfulAccounts (accounts_of regular system listed hosts pins reserved)
accounts-lawful kind regular system listed table apart hosts pins reserved b few all are is =
    let r = λ (h : Host). regular h.ranges in
    let s = λ (h : Host). system h.ranges in
    let a = accounts_of regular system listed hosts pins reserved in
    let rows = rows_from r s listed 0 hosts in
    let none = (unless_ok (refusal kind a) a b is).0 in
    let agreed = none_of_both (first_some (disagrees kind a.hosts a.pins) a.names) _ none in
    let good = none_of_both (claim_fault kind a.reserved (claims a)) _ agreed.1 in
    let len : length a.hosts ≡ length hosts = length-map hosts (entry_on regular system) in
    lawful a rows refl (not-clashing kind a.reserved (claims a) good.0)
    (rows_from-named r s listed IsLawfulHost table 0 hosts all)
    (rows_from-lawful r s listed IsLawfulHost table 0 hosts all)
    (omega (arith, length-rows_from r s listed IsLawfulHost table 0 hosts all, few))
    (lines-all rows)
    (rows_from-among r s listed IsLawfulHost table 0 (length a.hosts) hosts (omega (arith, len)) all)
    (λ n. omega (arith, few-spots r s listed IsLawfulHost table 0 hosts n all, few))
    are
    (λ v x y. ap (λ (hs : List Host). length (rows_from r s listed 0 hs)) (no-hosts regular system apart v hosts all x y))

pub sites_are_lawful : JoinedSitesAreLawful
sites_are_lawful hosts pins site few all are is =
    let users = bind_ok (joined User (users_of hosts pins)) _ site is in
    let groups = bind_ok (joined Group (groups_of hosts pins)) _ site users.2 in
    subst HasLawfulAccounts (site-is hosts pins site is)
    (record {
      users = accounts-lawful User (λ (r : HostRanges). r.uid) (λ (r : HostRanges). r.sys_uid) (λ (h : Host). user_rows h.users) (λ h l. user_rows-table h.users l.users) (λ h l. l.ranges.uids_apart) hosts pins.users pins.reserved_users users.0 few all are.user_pins users.1;
      groups = accounts-lawful Group (λ (r : HostRanges). r.gid) (λ (r : HostRanges). r.sys_gid) (λ (h : Host). group_rows h.groups) (λ h l. group_rows-table h.groups l.groups) (λ h l. l.ranges.gids_apart) hosts pins.groups pins.reserved_groups groups.0 few all are.group_pins groups.1;
    })

-- ---- the pins of a text

no-pins : ArePins []
no-pins = record {
  names_differ = λ i j d hi hj e. absurd (omega (arith, hi));
  numbers_differ = λ i j d hi hj e. absurd (omega (arith, hi));
  ids = All-nil (λ (p : Pair). p.number ≤ 4294967294);
}

new-pin : (had : List Pair) (name : List ℕ) (number : ℕ) → ArePins had → number ≤ 4294967294 → is_new_pin had name number ≡ true → ArePins (had ++ record { name = name; number = number } ∷ [])
new-pin had name number are id new =
    let parts = and_parts (not (list_any (λ (p : Pair). nat_eq number p.number) had)) (not (is_some (number_of had name))) new in
    pins-push had name number are id (used-is number had (map (λ (p : Pair). p.number) had) refl ∙ not-true _ parts.0) (not-true _ parts.1)

line-more : (had : PinPairs) (line : PairLine) → ArePinPairs had → IsIdLine line → may_stand had line ≡ true → ArePins (had.users ++ user_pair line) × ArePins (had.groups ++ group_pair line)
line-more had Skipped are id may = (rw (append-nil had.users) are.user_pins, rw (append-nil had.groups) are.group_pins)
line-more had Wrong are id may = absurd (false≢true may)
line-more had (Given User name number) are id may = (new-pin had.users name number are.user_pins id may, rw (append-nil had.groups) are.group_pins)
line-more had (Given Group name number) are id may = (rw (append-nil had.users) are.user_pins, new-pin had.groups name number are.group_pins id may)

pins-rest : (seen rest : List (List ℕ)) → ArePinPairs (pins_on seen) → first_fault pins_fault seen rest ≡ None → ArePinPairs (pins_on (seen ++ rest))
unfolding first_fault
pins-rest seen [] are none = rw (append-nil seen) are
pins-rest seen (line ∷ rest) are none =
    let parts = none_of_both (pins_fault seen line) (first_fault pins_fault (seen ++ line ∷ []) rest) none in
    let may = stands seen line parts.0 in
    let one = line-more (pins_on seen) (pair_line_of line) are (pair_line-id line) may in
    let next : ArePinPairs (pins_on (seen ++ line ∷ [])) = record {
      user_pins = subst (λ (ps : List Pair). ArePins ps) (more (λ line. user_pair (pair_line_of line)) seen line) one.0;
      group_pins = subst (λ (ps : List Pair). ArePins ps) (more (λ line. group_pair (pair_line_of line)) seen line) one.1;
    } in
    subst (λ ls. ArePinPairs (pins_on ls)) (append_assoc seen (line ∷ []) rest) (pins-rest (seen ++ line ∷ []) rest next parts.1)
  where
    stands : (seen : List (List ℕ)) (line : List ℕ) → pins_fault seen line ≡ None → may_stand (pins_on seen) (pair_line_of line) ≡ true
    stands seen line e = elim (cases_Bool (may_stand (pins_on seen) (pair_line_of line))) [
      | inl t ↦ t
      | inr f ↦ elim (cases_Bool (nat_lt (length seen) 1048576)) [
        | inl t ↦ let e' = rw (t, f) at e in absurd (full _ e')
        | inr g ↦ let e' = rw g at e in absurd (full _ e')
      ]
    ]
      where
        full : {X : Type 0} (x : X) → Some x ≡ None → ⊥
        full x e = cc

pub pins_are_pins : ReadPinsArePins
unfolding pins_of
pins_are_pins text pins is =
    let read = unless_ok (first_fault pins_fault [] (lines text)) (pins_on (lines text)) pins is in
    subst ArePinPairs read.1 (pins-rest [] (lines text) (record { user_pins = no-pins; group_pins = no-pins }) read.0)
