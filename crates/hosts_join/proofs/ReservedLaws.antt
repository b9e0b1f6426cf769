-- A joined site gives no reserved number to a name.
use Rattle.std.proofs.Common.{◌≡◌, ℕ, zero, suc, ◌<◌, ◌==◌, ◌||◌, Bool, true, false, List, [], ◌∷◌, length, get_or, None, Ok, refl, sym, ◌∙◌, ap, subst, arith}
use Rattle.std.proofs.Math.Bool.{or-false, or-true}
use Rattle.std.proofs.lemmas.Bool.{and_parts, not-true, or_parts, eq-eqb, false≢true, false_from_ne_true}
use Rattle.std.proofs.lemmas.List.Elements.{All-weaker}
use Rattle.std.proofs.lemmas.List.Folds.{list_any-append}
use Rattle.idtext.specs.First.{first_fault, or_else}
use Rattle.idtext.specs.Pieces.{lines}
use Rattle.idtext.proofs.FirstLemmas.{none_of_both}
use Rattle.idtext.proofs.OkLemmas.{unless_ok, bind_ok}
use Rattle.hosts_join.specs.Accounts.{Account, Accounts, Pair, no_account}
use Rattle.hosts_join.specs.Hosts.{SparesReserved, spares_user, spares_group}
use Rattle.hosts_join.specs.Laws.{JoinedSitesLeaveReserved, JoinedSitesLeaveSpared, LeavesOut, LeavesSpared, NothingReservedChangesNothing, ReadPinsReserveNothing}
use Rattle.hosts_join.specs.PinPairs.{PinPairs}
use Rattle.hosts_join.specs.PinsText.{pins_fault, pins_of, pins_on}
use Rattle.hosts_join.specs.Rules.{absent_pins, claim_fault, claims, clash, class_of, disagrees, first_some, in_pool, is_reserved, is_taken, joined, pin_reserved, pinned_names, pinned_to, refusal}
use Rattle.hosts_join.specs.Site.{Joined, users_of, groups_of}
use Rattle.hosts_join.specs.declared.Class.{Class}
use Rattle.hosts_join.specs.declared.Class.TheVariants.{Pinned, Regular, System}
use Rattle.hosts_join.specs.declared.Which.{Which}
use Rattle.hosts_join.specs.declared.host.Host.{Host}
use Rattle.hosts_join.specs.declared.Which.TheVariants.{User, Group}
use Rattle.hosts_join.proofs.Knowing.{site-is}
use Rattle.hosts_join.proofs.ReservedLemmas.{all-unreserved, taken-unreserved}

-- the number of a pinned name is taken
pub pin-among : (pins : List Pair) (ns : List Account) (j v : ℕ) → j < length ns → class_of pins (get_or ns j no_account) ≡ Pinned v → is_taken (pinned_names pins ns) v ≡ true
pin-among pins [] j v h e = absurd (omega arith)
pin-among pins (n ∷ ns) zero v h e = list_any-append (λ (p : Pair). p.number == v) (pinned_to (class_of pins n) n.name) (pinned_names pins ns) ∙ ap (λ b. b || is_taken (pinned_names pins ns) v) (one (class_of pins n) e)
  where
    one : (c : Class) → c ≡ Pinned v → is_taken (pinned_to c n.name) v ≡ true
    one c e = rw (e, eq-eqb v v refl) refl
pin-among pins (n ∷ ns) (suc j) v h e = list_any-append (λ (p : Pair). p.number == v) (pinned_to (class_of pins n) n.name) (pinned_names pins ns) ∙ ap (λ b. is_taken (pinned_to (class_of pins n) n.name) v || b) (pin-among pins ns j v (omega arith) e) ∙ or-true _

pub pin-taken : (a : Accounts) (j v : ℕ) → j < length a.names → class_of a.pins (get_or a.names j no_account) ≡ Pinned v → is_taken (claims a) v ≡ true
pin-taken a j v h e = list_any-append (λ (p : Pair). p.number == v) (pinned_names a.pins a.names) (absent_pins a.names a.pins) ∙ ap (λ b. b || is_taken (absent_pins a.names a.pins) v) (pin-among a.pins a.names j v h e)

pool-unreserved : (a : Accounts) (c : Class) (v : ℕ) → in_pool a c v ≡ true → is_reserved a.reserved v ≡ false
pool-unreserved a (Pinned u) v e = absurd (false≢true e)
pool-unreserved a Regular v e = (or_parts (is_taken (claims a) v) (is_reserved a.reserved v) (not-true _ (and_parts _ _ e).1)).1
pool-unreserved a System v e = (or_parts (is_taken (claims a) v) (is_reserved a.reserved v) (not-true _ (and_parts _ _ e).1)).1

accounts-leave : (kind : Which) (a b : Accounts) → joined kind a ≡ Ok b → LeavesOut a (is_reserved a.reserved)
accounts-leave kind a b is =
    let none = (unless_ok (refusal kind a) a b is).0 in
    let agreed = none_of_both (first_some (disagrees kind a.hosts a.pins) a.names) _ none in
    let good = none_of_both (claim_fault kind a.reserved (claims a)) _ agreed.1 in
    let unreserved = none_of_both (first_some (pin_reserved kind a.reserved) (claims a)) (clash kind (claims a)) good.0 in
    let all = all-unreserved kind a.reserved (claims a) unreserved.0 in
    record {
      pins = λ i v h e. taken-unreserved a.reserved (claims a) v all (pin-taken a i v h e);
      pools = λ c v e. pool-unreserved a c v e;
      given_away = all;
    }

pub sites_leave_reserved : JoinedSitesLeaveReserved
sites_leave_reserved hosts pins site is =
    let users = bind_ok (joined User (users_of hosts pins)) _ site is in
    let groups = bind_ok (joined Group (groups_of hosts pins)) _ site users.2 in
    subst (λ (s : Joined). LeavesOut s.users (is_reserved pins.reserved_users) × LeavesOut s.groups (is_reserved pins.reserved_groups)) (site-is hosts pins site is)
    (accounts-leave User (users_of hosts pins) users.0 users.1, accounts-leave Group (groups_of hosts pins) groups.0 groups.1)

-- ---- what hosts spare

unspared : (reserved spares : ℕ → Bool) → ((v : ℕ) → spares v ≡ true → reserved v ≡ true) → (v : ℕ) → reserved v ≡ false → spares v ≡ false
unspared reserved spares alone v free = false_from_ne_true (spares v) (λ spared. false≢true (sym free ∙ alone v spared))

leaves-less : (a : Accounts) (reserved spares : ℕ → Bool) → ((v : ℕ) → spares v ≡ true → reserved v ≡ true) → LeavesOut a reserved → LeavesOut a spares
leaves-less a reserved spares alone leaves = record {
  pins = λ i v h e. unspared reserved spares alone v (leaves.pins i v h e);
  pools = λ c v e. unspared reserved spares alone v (leaves.pools c v e);
  given_away = All-weaker (λ (p : Pair). reserved p.number ≡ false) (λ (p : Pair). spares p.number ≡ false) (λ p. unspared reserved spares alone p.number) (claims a) leaves.given_away;
}

host-left : (site : Joined) → LeavesOut site.users (is_reserved site.users.reserved) × LeavesOut site.groups (is_reserved site.groups.reserved) → (host : Host) → SparesReserved site host → LeavesSpared site host
host-left site leaves host alone = record {
  users = leaves-less site.users (is_reserved site.users.reserved) (spares_user host) alone.users leaves.0;
  groups = leaves-less site.groups (is_reserved site.groups.reserved) (spares_group host) alone.groups leaves.1;
}

pub sites_leave_spared : JoinedSitesLeaveSpared
sites_leave_spared hosts pins site is alone =
    let made = site-is hosts pins site is in
    let leaves = sites_leave_reserved hosts pins (record { users = users_of hosts pins; groups = groups_of hosts pins; hosts = length hosts }) (is ∙ ap Ok (sym made)) in
    All-weaker (SparesReserved site) (LeavesSpared site)
    (host-left site (subst (λ (s : Joined). LeavesOut s.users (is_reserved s.users.reserved) × LeavesOut s.groups (is_reserved s.groups.reserved)) made leaves))
    hosts alone

-- ---- nothing reserved

none-refused : (kind : Which) (given : List Pair) → first_some (pin_reserved kind []) given ≡ None
none-refused kind [] = refl
none-refused kind (p ∷ given) = none-refused kind given

pub nothing_reserved : NothingReservedChangesNothing
nothing_reserved kind a none =
    let unreserved : (v : ℕ) → is_reserved a.reserved v ≡ false = λ v. ap (λ rs. is_reserved rs v) none in
    let kept : claim_fault kind a.reserved (claims a) ≡ clash kind (claims a) = ap (λ rs. claim_fault kind rs (claims a)) none ∙ ap (λ o. or_else o (clash kind (claims a))) (none-refused kind (claims a)) in
    record {
      regular = λ v. rw (unreserved v, or-false (is_taken (claims a) v)) refl;
      system = λ v. rw (unreserved v, or-false (is_taken (claims a) v)) refl;
      refused = rw kept refl;
    }

pub pins_reserve_nothing : ReadPinsReserveNothing
unfolding pins_of
pins_reserve_nothing text pins is =
    let read = unless_ok (first_fault pins_fault [] (lines text)) (pins_on (lines text)) pins is in
    (ap (λ (p : PinPairs). p.reserved_users) (sym read.1), ap (λ (p : PinPairs). p.reserved_groups) (sym read.1))
