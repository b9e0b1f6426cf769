-- Users whose rows say the same on each host have no differences.
use Rattle.std.proofs.Common.{◌≡◌, ℕ, suc, ◌<◌, Bool, true, false, List, [], ◌∷◌, length, Option, Some, None, refl, sym, ap, ◌∙◌, subst, inl, inr}
use Rattle.std.specs.Prelude.{slice_get}
use Rattle.std.specs.List.{All, AllByRecursion, cons_option, find}
use Rattle.std.specs.Option.{option_map}
use Rattle.std.specs.Str.{bytes_eq}
use Rattle.std.proofs.lemmas.Bool.{cases_Bool}
use Rattle.std.proofs.lemmas.List.{length-map}
use Rattle.std.proofs.lemmas.List.Elements.{recursion_from_All}
use Rattle.std.proofs.lemmas.Option.{same_Some}
use Rattle.accounts.specs.Rows.{Passwd}
use Rattle.hosts_join.specs.Accounts.{Accounts, place_of}
use Rattle.hosts_join.specs.Hosts.{IsLawfulHost}
use Rattle.hosts_join.specs.Kinds.{user_at, user_rows, user_rows-table}
use Rattle.hosts_join.specs.Laws.{IsOwnedAsTold}
use Rattle.hosts_join.specs.Lawful.{AreLawfulAccounts}
use Rattle.hosts_join.specs.Rules.{account}
use Rattle.hosts_join.specs.Site.{Joined, entry_on}
use Rattle.hosts_join.specs.declared.host.Host.{Host}
use Rattle.hosts_join.proofs.Grouping.{bytes_same, bytes_refl}
use Rattle.hosts_join.proofs.Knowing.{host-known}
use Rattle.mergedfiles.specs.declared.Field.{Field}
use Rattle.mergedfiles.specs.declared.Field.TheVariants.{Password, Comment, Home, Shell, Group}
use Rattle.mergedfiles.specs.Alike.{Covers, CoversHosts, IsCovered, SaysThat, is_differing, seen_at}
use Rattle.mergedfiles.specs.declared.alike.Said.{Said}
use Rattle.mergedfiles.specs.declared.alike.Sameness.{Sameness}
use Rattle.mergedfiles.specs.declared.alike.Sameness.TheVariants.{Unseen, Same, Differing}
use Rattle.mergedfiles.specs.Differences.{user_differs, user_differences, user_field}
use Rattle.mergedfiles.specs.Rows.{UserRow, users_named}
use Rattle.mergedfiles.specs.Together.{AreJoined}
use Rattle.mergedfiles.proofs.HostNames.{IsFound, each-found, told-by}
use Rattle.mergedfiles.proofs.ReadHosts.{found-holds, host-holds}
use Rattle.mergedfiles.proofs.ReadOrder.{place-named}
use Rattle.mergedfiles.proofs.SameRows.{row_on}

-- ---- rows that say the same

abbrev AllSay : Said → List UserRow → Type 0
AllSay said rows = AllByRecursion (SaysThat said) rows

none-differs : (name : List ℕ) (said : Said) (first : UserRow) (later : List UserRow) (what : Field) → SaysThat said first → AllSay said later → user_differs name what first later ≡ []
none-differs name said first [] what e all = refl
none-differs name said first (user ∷ later) what e all =
    let fields : user_field what user ≡ user_field what first = all.0 what ∙ sym (e what) in
    let same : bytes_eq (user_field what user) (user_field what first) ≡ true = ap (λ t. bytes_eq t (user_field what first)) fields ∙ bytes_refl (user_field what first) in
    rw same (none-differs name said first later what e all.1)

none-told : (name : List ℕ) (seen : Sameness) (rows : List UserRow) → is_differing seen ≡ false → AllByRecursion (Covers seen) rows → user_differences name rows ≡ []
none-told name seen [] alike all = refl
none-told name Unseen (first ∷ later) alike all = absurd all.0
none-told name (Same one) (first ∷ later) alike all =
    let none = λ (what : Field). none-differs name one first later what all.0 all.1 in
    rw (none Password, none Comment, none Home, none Shell, none Group) refl
none-told name Differing (first ∷ later) alike all = absurd (cc)

-- ---- all rows of a user

passes : {X : Type 0} (test : X → Bool) (xs : List X) (x : X) → find test xs ≡ Some x → test x ≡ true
passes test [] x e = absurd (cc)
passes test (y ∷ xs) x e = elim (cases_Bool (test y)) [
  | inl t ↦ ap test (sym (same_Some y x (rw t at e))) ∙ t
  | inr f ↦ passes test xs x (rw f at e)
]

one-more : (C : UserRow → Type 0) (host : Host) (o : Option Passwd) (rest : List UserRow) → ((row : Passwd) → o ≡ Some row → C (row_on host row)) → AllByRecursion C rest → AllByRecursion C (cons_option (option_map (row_on host) o) rest)
one-more C host None rest here all = all
one-more C host (Some row) rest here all = (here row refl, all)

all-named : (C : UserRow → Type 0) (name : List ℕ) (hosts : List Host)
    → ((h : ℕ) (host : Host) → slice_get hosts h ≡ Some host → (row : Passwd) → find (λ r. bytes_eq name r.name) host.users ≡ Some row → C (row_on host row))
    → AllByRecursion C (users_named name hosts)
all-named C name [] each = tt
all-named C name (host ∷ hosts) each =
    one-more C host (find (λ (r : Passwd). bytes_eq name r.name) host.users) (users_named name hosts) (each 0 host refl)
    (all-named C name hosts (λ h other at. each (suc h) other at))

module _ (hosts : List Host) (site : Joined) (joined : AreJoined hosts site) where
  pub as-many-hosts : length site.users.hosts ≡ length hosts
  as-many-hosts = ap (λ (a : Accounts). length a.hosts) joined.users ∙ length-map hosts (entry_on (λ r. r.uid) (λ r. r.sys_uid))

  -- a row of the user
  row-covered : All IsLawfulHost hosts → AreLawfulAccounts site.users → (seen : List Sameness) → CoversHosts site.users.names seen hosts → (i : ℕ) → i < length site.users.names
      → (h : ℕ) (host : Host) → slice_get hosts h ≡ Some host → (row : Passwd) → find (λ r. bytes_eq (account site.users i).name r.name) host.users ≡ Some row → Covers (seen_at seen i) (row_on host row)
  row-covered lawful accounts seen covers i within h host here row found =
      let name = (account site.users i).name in
      let table = (user_rows-table host.users (host-holds IsLawfulHost hosts h host lawful here).users).numbers_differ in
      let test = λ (r : Passwd). bytes_eq name r.name in
      let named : user_at host.users row.uid ≡ Some row.name = found-holds (IsFound (λ (r : Passwd). r.name) (λ (r : Passwd). r.uid) host.users) test host.users row (each-found (λ (r : Passwd). r.name) (λ (r : Passwd). r.uid) host.users (host-holds IsLawfulHost hosts h host lawful here).users.numbers_differ) found in
      let known : IsOwnedAsTold site.users.names h row.uid (user_at host.users row.uid) = subst (λ (a : Accounts). IsOwnedAsTold a.names h row.uid (user_at host.users row.uid)) (sym joined.users)
      (host-known (λ (x : Host). x.ranges.uid) (λ (x : Host). x.ranges.sys_uid) (λ (x : Host). user_rows x.users) h row.uid hosts host (user_at host.users row.uid) here table (told-by (λ (r : Passwd). r.name) (λ (r : Passwd). r.uid) row.uid host.users)) in
      let owned = subst (λ (o : Option (List ℕ)). IsOwnedAsTold site.users.names h row.uid o) named known in
      let same : name ≡ row.name = bytes_same name row.name (passes test host.users row found) in
      let place : owned.0 ≡ i = same_Some owned.0 i (sym owned.2 ∙ ap (place_of site.users.names) (sym same) ∙ place-named site.users i accounts within) in
      found-holds (λ (r : Passwd). IsCovered site.users.names seen h (row_on host r)) test host.users row (recursion_from_All (λ (r : Passwd). IsCovered site.users.names seen h (row_on host r)) host.users (covers h host here)) found
      i (owned.1 ∙ ap Some place)

  -- where nothing else was seen, nothing is told of the user
  pub alike-told : All IsLawfulHost hosts → AreLawfulAccounts site.users → (seen : List Sameness) → CoversHosts site.users.names seen hosts → (i : ℕ) → i < length site.users.names → is_differing (seen_at seen i) ≡ false
      → user_differences (account site.users i).name (users_named (account site.users i).name hosts) ≡ []
  alike-told lawful accounts seen covers i within alike =
      none-told (account site.users i).name (seen_at seen i) (users_named (account site.users i).name hosts) alike
      (all-named (Covers (seen_at seen i)) (account site.users i).name hosts (row-covered lawful accounts seen covers i within))
