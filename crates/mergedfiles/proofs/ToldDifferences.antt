-- Exactly the differences of the hosts are told.
use Rattle.std.proofs.Common.{◌≡◌, ◌≢◌, ◌⊎◌, ℕ, not, Bool, true, false, List, [], ◌∷◌, ◌++◌, map, find, option_map, get_or, drop, filter, flat_map, filter_map, Option, Some, None, bytes_eq, refl, sym, ◌∙◌, ap, subst, inl, inr}
use Rattle.std.specs.List.{Contains, AllByRecursion, cons_option}
use Rattle.std.proofs.lemmas.Bool.{cases_Bool, not-true, true≢false}
use Rattle.std.proofs.lemmas.List.Elements.{All-from_recursion, recursion_from_All}
use Rattle.accounts.specs.Rows.{Passwd, Group as GroupLine}
use Rattle.hosts_join.specs.Accounts.{Account, Accounts}
use Rattle.hosts_join.specs.Site.{Joined}
use Rattle.hosts_join.specs.declared.Which.{Which}
use Rattle.hosts_join.specs.declared.Which.TheVariants.{User, Group}
use Rattle.hosts_join.specs.declared.host.Host.{Host}
use Rattle.std.proofs.lemmas.Cmp.{nat_list_cmp_total}
use Rattle.hosts_join.proofs.Grouping.{bytes_refl, bytes_same}
use Rattle.mergedfiles.specs.declared.Difference.{Difference}
use Rattle.mergedfiles.specs.declared.Field.{Field}
use Rattle.mergedfiles.specs.declared.Field.TheVariants as field
use Rattle.mergedfiles.specs.Differences.{all_group_differences, all_user_differences, group_differences, group_differs, site_differences, user_differences, user_differs, user_field}
use Rattle.mergedfiles.specs.ToldDifferences.{DifferencesAreTold, Differs, IsAnother, IsNamed, IsOfGroup, IsOfUser}
use Rattle.mergedfiles.specs.Order.{by_bytes}
use Rattle.mergedfiles.specs.Rows.{UserRow, GroupRow, user_on, group_on, users_named, groups_named}
use Rattle.mergedfiles.proofs.Ordering.{In, at-in, in-at, in-ordered, ordered-in}

-- ---- members of lists

pub contained : {X : Type 0} (xs : List X) (x : X) → In x xs → Contains xs x
contained xs x i = at-in x xs i

pub inside : {X : Type 0} (xs : List X) (x : X) → Contains xs x → In x xs
inside xs x c = in-at x x xs c.0 c.1 c.2

in_left : {X : Type 0} (x : X) (xs ys : List X) → In x xs → In x (xs ++ ys)
in_left x [] ys i = absurd i
in_left x (z ∷ xs) ys (inl e) = inl e
in_left x (z ∷ xs) ys (inr i) = inr (in_left x xs ys i)

in_right : {X : Type 0} (x : X) (xs ys : List X) → In x ys → In x (xs ++ ys)
in_right x [] ys i = i
in_right x (z ∷ xs) ys i = inr (in_right x xs ys i)

in_one : {X : Type 0} (x : X) (xs ys : List X) → In x (xs ++ ys) → In x xs ⊎ In x ys
in_one x [] ys i = inr i
in_one x (z ∷ xs) ys (inl e) = inl (inl e)
in_one x (z ∷ xs) ys (inr i) = elim (in_one x xs ys i) [ inl j ↦ inl (inr j) | inr j ↦ inr j ]

-- a member of what a function gives for the members
pub record From {X Y : Type 0} (f : X → List Y) (xs : List X) (y : Y) : Type 0 where
  pub of : X
  pub member : In of xs
  pub gives : In y (f of)

pub from_flat : {X Y : Type 0} (f : X → List Y) (xs : List X) (y : Y) → In y (flat_map f xs) → From f xs y
from_flat f [] y i = absurd i
from_flat f (x ∷ xs) y i = elim (in_one y (f x) (flat_map f xs) i) [
  | inl here ↦ record { of = x; member = inl refl; gives = here }
  | inr later ↦ let rest = from_flat f xs y later in record { of = rest.of; member = inr rest.member; gives = rest.gives }
]

pub to_flat : {X Y : Type 0} (f : X → List Y) (xs : List X) (x : X) (y : Y) → In x xs → In y (f x) → In y (flat_map f xs)
to_flat f [] x y m i = absurd m
to_flat f (z ∷ xs) x y (inl e) i = in_left y (f z) (flat_map f xs) (subst (λ w. In y (f w)) e i)
to_flat f (z ∷ xs) x y (inr m) i = in_right y (f z) (flat_map f xs) (to_flat f xs x y m i)

-- what a function makes of a member that passes a test
record Made {X Y : Type 0} (make : X → Y) (test : X → Bool) (xs : List X) (y : Y) : Type 0 where
  of : X
  member : In of xs
  passes : test of ≡ true
  made : y ≡ make of

made_later : {X Y : Type 0} (make : X → Y) (test : X → Bool) (x : X) (xs : List X) (y : Y) → Made make test xs y → Made make test (x ∷ xs) y
made_later make test x xs y m = record { of = m.of; member = inr m.member; passes = m.passes; made = m.made }

from_made : {X Y : Type 0} (make : X → Y) (test : X → Bool) (xs : List X) (y : Y) → In y (map make (filter test xs)) → Made make test xs y
from_made make test [] y i = absurd i
from_made make test (x ∷ xs) y i = elim (cases_Bool (test x)) [
  | inl t ↦ first t (from_made make test xs y) (rw t at i)
  | inr f ↦ made_later make test x xs y (from_made make test xs y (rw f at i))
]
  where
    first : test x ≡ true → (In y (map make (filter test xs)) → Made make test xs y) → (y ≡ make x) ⊎ In y (map make (filter test xs)) → Made make test (x ∷ xs) y
    first t rest (inl e) = record { of = x; member = inl refl; passes = t; made = e }
    first t rest (inr j) = made_later make test x xs y (rest j)

to_made : {X Y : Type 0} (make : X → Y) (test : X → Bool) (xs : List X) (x : X) → In x xs → test x ≡ true → In (make x) (map make (filter test xs))
to_made make test [] x m t = absurd m
to_made make test (z ∷ xs) x (inl e) t = let here : test z ≡ true = subst (λ w. test w ≡ true) e t in rw here (inl (ap make e))
to_made make test (z ∷ xs) x (inr m) t = elim (cases_Bool (test z)) [
  | inl u ↦ rw u (inr (to_made make test xs x m t))
  | inr u ↦ rw u (to_made make test xs x m t)
]

-- ---- rows of hosts

pub in_option : {X : Type 0} (x : X) (o : Option X) (xs : List X) → In x xs → In x (cons_option o xs)
in_option x None xs i = i
in_option x (Some y) xs i = inr i

module _ {Row : Type 0} (host_of : Row → Host) (on : Host → Option Row) (own : (h : Host) (r : Row) → on h ≡ Some r → host_of r ≡ h) where
  pub record Start (hosts : List Host) (one : Row) (others : List Row) : Type 0 where
    pub before : List Host
    pub back : List Host
    pub split : hosts ≡ before ++ host_of one ∷ back
    pub none : AllByRecursion (λ h. on h ≡ None) before
    pub row : on (host_of one) ≡ Some one
    pub rest : others ≡ filter_map on back

  pub start : (hosts : List Host) (one : Row) (others : List Row) → filter_map on hosts ≡ one ∷ others → Start hosts one others
  start [] one others e = absurd (cc)
  start (h ∷ hs) one others e = step (on h) refl (start hs one others)
    where
      step : (o : Option Row) → on h ≡ o → (filter_map on hs ≡ one ∷ others → Start hs one others) → Start (h ∷ hs) one others
      step None q rest =
          let s = rest (rw q at e) in
          record { before = h ∷ s.before; back = s.back; split = ap (λ l. h ∷ l) s.split; none = (q, s.none); row = s.row; rest = s.rest }
      step (Some r) q rest =
          let both : r ∷ filter_map on hs ≡ one ∷ others = rw q at e in
          let row : on h ≡ Some one = q ∙ ap (λ l. Some (get_or l 0 r)) both in
          let here = own h one row in
          record { before = []; back = hs; split = ap (λ w. w ∷ hs) (sym here); none = tt; row = subst (λ w. on w ≡ Some one) (sym here) row; rest = sym (ap (λ l. drop 1 l) both) }

  record Later (back : List Host) (other : Row) : Type 0 where
    between : List Host
    behind : List Host
    split : back ≡ between ++ host_of other ∷ behind
    row : on (host_of other) ≡ Some other

  later_more : (h : Host) (hs : List Host) (other : Row) → Later hs other → Later (h ∷ hs) other
  later_more h hs other l = record { between = h ∷ l.between; behind = l.behind; split = ap (λ k. h ∷ k) l.split; row = l.row }

  later : (back : List Host) (other : Row) → In other (filter_map on back) → Later back other
  later [] other i = absurd i
  later (h ∷ hs) other i = step (on h) refl (λ j. later_more h hs other (later hs other j))
    where
      step : (o : Option Row) → on h ≡ o → (In other (filter_map on hs) → Later (h ∷ hs) other) → Later (h ∷ hs) other
      step None q more = more (rw q at i)
      step (Some r) q more = one_of (rw q at i)
        where
          one_of : (other ≡ r) ⊎ In other (filter_map on hs) → Later (h ∷ hs) other
          one_of (inl e) =
              let row : on h ≡ Some other = q ∙ ap (λ w. Some w) (sym e) in
              let here = own h other row in
              record { between = []; behind = hs; split = ap (λ w. w ∷ hs) (sym here); row = subst (λ w. on w ≡ Some other) (sym here) row }
          one_of (inr j) = more j

  skip : (before back : List Host) → AllByRecursion (λ h. on h ≡ None) before → filter_map on (before ++ back) ≡ filter_map on back
  skip [] back all = refl
  skip (h ∷ before) back all = ap (λ o. cons_option o (filter_map on (before ++ back))) all.0 ∙ skip before back all.1

  starts : (before back : List Host) (h : Host) (one : Row) → AllByRecursion (λ h. on h ≡ None) before → on h ≡ Some one → filter_map on (before ++ h ∷ back) ≡ one ∷ filter_map on back
  starts before back h one all row = skip before (h ∷ back) all ∙ ap (λ o. cons_option o (filter_map on back)) row

  has : (between behind : List Host) (h : Host) (other : Row) → on h ≡ Some other → In other (filter_map on (between ++ h ∷ behind))
  has [] behind h other row = rw row (inl refl)
  has (k ∷ between) behind h other row = in_option other (on k) (filter_map on (between ++ h ∷ behind)) (has between behind h other row)

-- ---- fields and names

apart : (a b : List ℕ) → not (bytes_eq a b) ≡ true → a ≢ b
apart a b t e = true≢false (sym (bytes_refl b) ∙ subst (λ w. bytes_eq w b ≡ false) e (not-true (bytes_eq a b) t))

tested : (a b : List ℕ) → a ≢ b → not (bytes_eq a b) ≡ true
tested a b n = elim (cases_Bool (bytes_eq a b)) [ inl t ↦ absurd (n (bytes_same a b t)) | inr f ↦ ap not f ]

name_in : (a : Accounts) (name : List ℕ) → In name (by_bytes a) → IsNamed a name
name_in a name i = contained (map (λ (x : Account). x.name) a.names) name (ordered-in nat_list_cmp_total (λ (n : List ℕ). n) name (map (λ (x : Account). x.name) a.names) i)

name_out : (a : Accounts) (name : List ℕ) → IsNamed a name → In name (by_bytes a)
name_out a name c = in-ordered nat_list_cmp_total (λ (n : List ℕ). n) name (map (λ (x : Account). x.name) a.names) (inside (map (λ (x : Account). x.name) a.names) name c)

abbrev user_fields : List Field
user_fields = field.Password ∷ field.Comment ∷ field.Home ∷ field.Shell ∷ field.Group ∷ []

any_field : (what : Field) → In what user_fields
any_field field.Password = inl refl
any_field field.Comment = inr (inl refl)
any_field field.Home = inr (inr (inl refl))
any_field field.Shell = inr (inr (inr (inl refl)))
any_field field.Group = inr (inr (inr (inr (inl refl))))

abbrev user_host : Option UserRow → Host → Host
user_host None h = h
user_host (Some r) h = r.host

pub user_own : (name : List ℕ) (h : Host) (r : UserRow) → user_on name h ≡ Some r → r.host ≡ h
user_own name h r e = own (find (λ row. bytes_eq name row.name) h.users) e
  where
    own : (o : Option Passwd) → option_map (λ row. record { host = h; row = row }) o ≡ Some r → r.host ≡ h
    own None q = absurd (cc)
    own (Some p) q = sym (ap (λ x. user_host x h) q)

abbrev group_host : Option GroupRow → Host → Host
group_host None h = h
group_host (Some r) h = r.host

pub group_own : (name : List ℕ) (h : Host) (r : GroupRow) → group_on name h ≡ Some r → r.host ≡ h
group_own name h r e = own (find (λ row. bytes_eq name row.name) h.groups) e
  where
    own : (o : Option GroupLine) → option_map (λ row. record { host = h; row = row }) o ≡ Some r → r.host ≡ h
    own None q = absurd (cc)
    own (Some p) q = sym (ap (λ x. group_host x h) q)

-- what a field says differs exactly where the rows do
is_another : (what : Field) (one other : UserRow) → user_field what other ≢ user_field what one → IsAnother what one other
is_another field.Password one other differ = differ
is_another field.Comment one other differ = differ
is_another field.Home one other differ = differ
is_another field.Shell one other differ = differ
is_another field.Group one other differ = differ

another_is : (what : Field) (one other : UserRow) → IsAnother what one other → user_field what other ≢ user_field what one
another_is field.Password one other differ = differ
another_is field.Comment one other differ = differ
another_is field.Home one other differ = differ
another_is field.Shell one other differ = differ
another_is field.Group one other differ = differ

-- ---- differences

module _ (hosts : List Host) (site : Joined) where
  abbrev IsTold : Difference → Type 0
  IsTold d = Differs d.kind hosts site d

  user_told : (name : List ℕ) (d : Difference) (rows : List UserRow) → IsNamed site.users name → users_named name hosts ≡ rows → In d (user_differences name rows) → IsTold d
  user_told name d [] named e i = absurd i
  user_told name d (one ∷ others) named e i =
      let f = from_flat (λ what. user_differs name what one others) user_fields d i in
      let what = f.of in
      let m = from_made (λ (u : UserRow). record { kind = User; name = name; field = what; host = u.host.name }) (λ u. not (bytes_eq (user_field what u) (user_field what one))) others d f.gives in
      let s = start (λ (u : UserRow). u.host) (user_on name) (user_own name) hosts one others e in
      let l = later (λ (u : UserRow). u.host) (user_on name) (user_own name) s.back m.of (subst (λ rows. In m.of rows) s.rest m.member) in
      subst IsTold (sym m.made) (record {
        named = named;
        first = one;
        later = m.of;
        first_row = s.row;
        later_row = l.row;
        order = record {
          before = s.before;
          between = l.between;
          behind = l.behind;
          order = s.split ∙ ap (λ back. s.before ++ one.host ∷ back) l.split;
          none_before = All-from_recursion (λ h. user_on name h ≡ None) s.before s.none;
        };
        differ = is_another what one m.of (apart (user_field what m.of) (user_field what one) m.passes);
        told = refl;
      })

  group_told : (name : List ℕ) (d : Difference) (rows : List GroupRow) → IsNamed site.groups name → groups_named name hosts ≡ rows → In d (group_differences name rows) → IsTold d
  group_told name d [] named e i = absurd i
  group_told name d (one ∷ others) named e i =
      let m = from_made (λ (g : GroupRow). record { kind = Group; name = name; field = field.Password; host = g.host.name }) (λ g. not (bytes_eq g.row.password one.row.password)) others d i in
      let s = start (λ (g : GroupRow). g.host) (group_on name) (group_own name) hosts one others e in
      let l = later (λ (g : GroupRow). g.host) (group_on name) (group_own name) s.back m.of (subst (λ rows. In m.of rows) s.rest m.member) in
      subst IsTold (sym m.made) (record {
        named = named;
        first = one;
        later = m.of;
        first_row = s.row;
        later_row = l.row;
        order = record {
          before = s.before;
          between = l.between;
          behind = l.behind;
          order = s.split ∙ ap (λ back. s.before ++ one.host ∷ back) l.split;
          none_before = All-from_recursion (λ h. group_on name h ≡ None) s.before s.none;
        };
        differ = apart m.of.row.password one.row.password m.passes;
        field = refl;
        told = refl;
      })

  all_told : (d : Difference) → In d (site_differences hosts site) → IsTold d
  all_told d i = elim (in_one d (all_user_differences hosts site) (all_group_differences hosts site) i) [
    | inl u ↦ let f = from_flat (λ name. user_differences name (users_named name hosts)) (by_bytes site.users) d u in user_told f.of d (users_named f.of hosts) (name_in site.users f.of f.member) refl f.gives
    | inr g ↦ let f = from_flat (λ name. group_differences name (groups_named name hosts)) (by_bytes site.groups) d g in group_told f.of d (groups_named f.of hosts) (name_in site.groups f.of f.member) refl f.gives
  ]

  user_found : (d : Difference) → d.kind ≡ User → IsOfUser hosts site d → In d (site_differences hosts site)
  user_found d kind is =
      let o = is.order in
      let back = o.between ++ is.later.host ∷ o.behind in
      let others = filter_map (user_on d.name) back in
      let rows : users_named d.name hosts ≡ is.first ∷ others = ap (users_named d.name) o.order ∙ starts (λ (u : UserRow). u.host) (user_on d.name) (user_own d.name) o.before back is.first.host is.first (recursion_from_All (λ h. user_on d.name h ≡ None) o.before o.none_before) is.first_row in
      let make : UserRow → Difference = λ u. record { kind = User; name = d.name; field = d.field; host = u.host.name } in
      let made : In (make is.later) (user_differs d.name d.field is.first others) = to_made make (λ u. not (bytes_eq (user_field d.field u) (user_field d.field is.first))) others is.later (has (λ (u : UserRow). u.host) (user_on d.name) (user_own d.name) o.between o.behind is.later.host is.later is.later_row) (tested (user_field d.field is.later) (user_field d.field is.first) (another_is d.field is.first is.later is.differ)) in
      let told : In (make is.later) (user_differences d.name (users_named d.name hosts)) = subst (λ rs. In (make is.later) (user_differences d.name rs)) (sym rows) (to_flat (λ what. user_differs d.name what is.first others) user_fields d.field (make is.later) (any_field d.field) made) in
      let same : make is.later ≡ d = λ i. record { kind = sym kind i; name = d.name; field = d.field; host = sym is.told i } in
      subst (λ x. In x (site_differences hosts site)) same (in_left (make is.later) (all_user_differences hosts site) (all_group_differences hosts site)
      (to_flat (λ name. user_differences name (users_named name hosts)) (by_bytes site.users) d.name (make is.later) (name_out site.users d.name is.named) told))

  group_found : (d : Difference) → d.kind ≡ Group → IsOfGroup hosts site d → In d (site_differences hosts site)
  group_found d kind is =
      let o = is.order in
      let back = o.between ++ is.later.host ∷ o.behind in
      let others = filter_map (group_on d.name) back in
      let rows : groups_named d.name hosts ≡ is.first ∷ others = ap (groups_named d.name) o.order ∙ starts (λ (g : GroupRow). g.host) (group_on d.name) (group_own d.name) o.before back is.first.host is.first (recursion_from_All (λ h. group_on d.name h ≡ None) o.before o.none_before) is.first_row in
      let make : GroupRow → Difference = λ g. record { kind = Group; name = d.name; field = field.Password; host = g.host.name } in
      let made : In (make is.later) (group_differs d.name is.first others) = to_made make (λ g. not (bytes_eq g.row.password is.first.row.password)) others is.later (has (λ (g : GroupRow). g.host) (group_on d.name) (group_own d.name) o.between o.behind is.later.host is.later is.later_row) (tested is.later.row.password is.first.row.password is.differ) in
      let told : In (make is.later) (group_differences d.name (groups_named d.name hosts)) = subst (λ rs. In (make is.later) (group_differences d.name rs)) (sym rows) made in
      let same : make is.later ≡ d = λ i. record { kind = sym kind i; name = d.name; field = sym is.field i; host = sym is.told i } in
      subst (λ x. In x (site_differences hosts site)) same (in_right (make is.later) (all_user_differences hosts site) (all_group_differences hosts site)
      (to_flat (λ name. group_differences name (groups_named name hosts)) (by_bytes site.groups) d.name (make is.later) (name_out site.groups d.name is.named) told))

  found : (kind : Which) (d : Difference) → d.kind ≡ kind → Differs kind hosts site d → In d (site_differences hosts site)
  found User d e is = user_found d e is
  found Group d e is = group_found d e is

pub differences_are_told : DifferencesAreTold
differences_are_told hosts site d = (λ c. all_told hosts site d (inside (site_differences hosts site) d c), λ is. contained (site_differences hosts site) d (found hosts site d.kind d refl is))
