-- The users of a merged group are those that it has on all hosts, each once.
use Rattle.std.proofs.Common.{◌≡◌, ◌≢◌, ◌⊎◌, ℕ, zero, suc, ◌<◌, not, Bool, true, false, List, [], ◌∷◌, ◌++◌, length, map, get_or, filter, option_map, Option, Some, None, bytes_eq, refl, sym, ◌∙◌, ap, subst, inl, inr, arith}
use Rattle.std.specs.List.{All, Any, list_any, Contains, AllByRecursion, cons_option}
use Rattle.std.proofs.lemmas.Bool.{cases_Bool, or_parts, true≢false}
use Rattle.std.proofs.lemmas.List.{length-map, get_or-map, append_assoc, append-nil}
use Rattle.std.proofs.lemmas.List.Elements.{Contains-append_cases, Contains-append_right, recursion_from_All, filter_map-append}
use Rattle.accounts.specs.Laws.{AreDistinct, IsGroupTable}
use Rattle.accounts.specs.Rows.{Group, members_of}
use Rattle.hosts_join.specs.Accounts.{first_appearances}
use Rattle.hosts_join.specs.declared.host.Host.{Host}
use Rattle.hosts_join.proofs.Grouping.{AreNames, AreNames-first_appearances, bytes_refl, bytes_same, first_appearances-push}
use Rattle.mergedfiles.specs.JoinedUsers.{AppearsBefore, HasInGroup, ListsBefore, MergedUsersAreOfAllHosts, merged_members}
use Rattle.mergedfiles.specs.Rows.{GroupRow, all_members, group_on, groups_named}
use Rattle.mergedfiles.proofs.FirstHosts.{row_in, some-on, group_made}
use Rattle.mergedfiles.proofs.Ordering.{In, at-in, in-at}
use Rattle.mergedfiles.proofs.ToldDifferences.{contained, inside, in_option, from_flat, to_flat}

abbrev HasGroupTable : Host → Type 0
HasGroupTable host = IsGroupTable host.groups

-- ---- members of lists

any-in : {X : Type 0} (P : X → Type 0) (xs : List X) (x : X) → In x xs → P x → Any P xs
any-in P xs x i p = let c = at-in x xs i in (c.0, x, c.1, c.2, p)

in-any : {X : Type 0} (P : X → Type 0) (xs : List X) → Any P xs → (x : X) × In x xs × P x
in-any P xs a = (a.1, in-at a.1 a.1 xs a.0 a.2 a.3, a.4)

-- a member of what a test keeps, and back
kept-in : {X : Type 0} (test : X → Bool) (x : X) (xs : List X) → In x (filter test xs) → In x xs
kept-in test x [] i = absurd i
kept-in test x (y ∷ xs) i = elim (cases_Bool (test y)) [
  | inl t ↦ one (λ j. kept-in test x xs j) (rw t at i)
  | inr f ↦ inr (kept-in test x xs (rw f at i))
]
  where
    one : (In x (filter test xs) → In x xs) → (x ≡ y) ⊎ In x (filter test xs) → In x (y ∷ xs)
    one later (inl e) = inl e
    one later (inr j) = inr (later j)

in-kept : {X : Type 0} (test : X → Bool) (x : X) (xs : List X) → test x ≡ true → In x xs → In x (filter test xs)
in-kept test x [] t i = absurd i
in-kept test x (y ∷ xs) t (inl e) = let here : test y ≡ true = subst (λ z. test z ≡ true) e t in rw here (inl e)
in-kept test x (y ∷ xs) t (inr i) = elim (cases_Bool (test y)) [
  | inl u ↦ rw u (inr (in-kept test x xs t i))
  | inr u ↦ rw u (in-kept test x xs t i)
]

-- ---- each where it appears first

firsts-in : (n : List ℕ) (ns : List (List ℕ)) → In n (first_appearances ns) → In n ns
unfolding first_appearances
firsts-in n [] i = absurd i
firsts-in n (m ∷ ns) (inl e) = inl e
firsts-in n (m ∷ ns) (inr i) = inr (firsts-in n ns (kept-in (λ x. not (bytes_eq m x)) n (first_appearances ns) i))

in-firsts : (n : List ℕ) (ns : List (List ℕ)) → In n ns → In n (first_appearances ns)
unfolding first_appearances
in-firsts n [] i = absurd i
in-firsts n (m ∷ ns) (inl e) = inl e
in-firsts n (m ∷ ns) (inr i) = elim (cases_Bool (bytes_eq m n)) [
  | inl t ↦ inl (sym (bytes_same m n t))
  | inr f ↦ inr (in-kept (λ x. not (bytes_eq m x)) n (first_appearances ns) (ap not f) (in-firsts n ns i))
]

none-at : (test : List ℕ → Bool) (ns : List (List ℕ)) (k : ℕ) (d : List ℕ) → list_any test ns ≡ false → k < length ns → test (get_or ns k d) ≡ false
none-at test [] k d e h = absurd (omega arith)
none-at test (n ∷ ns) zero d e h = (or_parts (test n) (list_any test ns) e).0
none-at test (n ∷ ns) (suc k) d e h = none-at test ns k d (or_parts (test n) (list_any test ns) e).1 (omega arith)

apart-more : (n : List ℕ) (ns : List (List ℕ)) → list_any (bytes_eq n) ns ≡ false → AreDistinct ns → AreDistinct (n ∷ ns)
apart-more n ns none apart = by
  where
    new : (j : ℕ) (d : List ℕ) → j < length ns → get_or ns j d ≢ n
    new j d h e = true≢false (sym (bytes_refl n) ∙ subst (λ m. bytes_eq n m ≡ false) e (none-at (bytes_eq n) ns j d none h))

    by : (i j : ℕ) (d : List ℕ) → i < length (n ∷ ns) → j < length (n ∷ ns) → get_or (n ∷ ns) i d ≡ get_or (n ∷ ns) j d → i ≡ j
    by zero zero d hi hj e = refl
    by zero (suc j) d hi hj e = absurd (new j d (omega arith) (sym e))
    by (suc i) zero d hi hj e = absurd (new i d (omega arith) e)
    by (suc i) (suc j) d hi hj e = ap suc (apart i j d (omega arith) (omega arith) e)

names-apart : (ns : List (List ℕ)) → AreNames ns → AreDistinct ns
unfolding AreNames
names-apart [] names = λ i j d hi hj e. absurd (omega (arith, hi))
names-apart (n ∷ ns) names = apart-more n ns names.0 (names-apart ns names.1)

-- what appears later stands later
firsts-before : (xs ys : List (List ℕ)) → (more : List (List ℕ)) × (first_appearances (xs ++ ys) ≡ first_appearances xs ++ more)
firsts-before xs [] = ([], ap first_appearances (append-nil xs) ∙ sym (append-nil (first_appearances xs)))
firsts-before xs (y ∷ ys) = by (firsts-before (xs ++ y ∷ []) ys) (cases_Bool (list_any (bytes_eq y) (first_appearances xs)))
  where
    by : (more : List (List ℕ)) × (first_appearances ((xs ++ y ∷ []) ++ ys) ≡ first_appearances (xs ++ y ∷ []) ++ more) → (list_any (bytes_eq y) (first_appearances xs) ≡ true) ⊎ (list_any (bytes_eq y) (first_appearances xs) ≡ false)
        → (more : List (List ℕ)) × (first_appearances (xs ++ y ∷ ys) ≡ first_appearances xs ++ more)
    by m (inl t) =
        let push : first_appearances (xs ++ y ∷ []) ≡ first_appearances xs = first_appearances-push xs y ∙ (rw t refl) in
        (m.0, ap first_appearances (sym (append_assoc xs (y ∷ []) ys)) ∙ m.1 ∙ ap (λ l. l ++ m.0) push)
    by m (inr f) =
        let push : first_appearances (xs ++ y ∷ []) ≡ first_appearances xs ++ y ∷ [] = first_appearances-push xs y ∙ (rw f refl) in
        (y ∷ m.0, ap first_appearances (sym (append_assoc xs (y ∷ []) ys)) ∙ m.1 ∙ ap (λ l. l ++ m.0) push ∙ append_assoc (first_appearances xs) (y ∷ []) m.0)

-- ---- the row of a name in a table whose names differ

tail-apart : (n : List ℕ) (ns : List (List ℕ)) → AreDistinct (n ∷ ns) → AreDistinct ns
tail-apart n ns apart = λ i j d hi hj e.
    let same : suc i ≡ suc j = apart (suc i) (suc j) d (omega arith) (omega arith) e in
    omega (arith, same)

abbrev name_of : Group → List ℕ
name_of row = row.name

found : (name : List ℕ) (rows : List Group) (row : Group) → AreDistinct (map name_of rows) → In row rows → row.name ≡ name → row_in name_of name rows ≡ Some row
found name [] row apart i e = absurd i
found name (r ∷ rows) row apart (inl same) e =
    let here : bytes_eq name r.name ≡ true = subst (λ x. bytes_eq name x.name ≡ true) same (subst (λ n. bytes_eq name n ≡ true) (sym e) (bytes_refl name)) in
    rw here (ap (λ x. Some x) (sym same))
found name (r ∷ rows) row apart (inr i) e = elim (cases_Bool (bytes_eq name r.name)) [
  | inl t ↦
      let c = at-in row rows i in
      let there : get_or (map name_of rows) c.0 [] ≡ row.name = get_or-map name_of rows c.0 row [] c.1 ∙ ap name_of c.2 in
      let within : c.0 < length (map name_of rows) = omega (arith, c.1, length-map rows name_of) in
      let same : 0 ≡ suc c.0 = apart 0 (suc c.0) [] (omega arith) (omega (arith, within)) (sym (bytes_same name r.name t) ∙ sym e ∙ sym there) in
      absurd (omega (arith, same))
  | inr f ↦ rw f (found name rows row (tail-apart r.name (map name_of rows) apart) i e)
]

-- ---- rows of hosts

-- it is the row of one of the hosts
abbrev IsOn : List ℕ → List Host → GroupRow → Type 0
IsOn name hosts g = (host : Host) × In host hosts × (group_on name host ≡ Some g)

on-host : (name : List ℕ) (hosts : List Host) (g : GroupRow) → In g (groups_named name hosts) → IsOn name hosts g
on-host name [] g i = absurd i
on-host name (h ∷ hs) g i = step (group_on name h) refl (λ j. on-host name hs g j) i
  where
    further : IsOn name hs g → IsOn name (h ∷ hs) g
    further there = (there.0, inr there.1, there.2)

    step : (o : Option GroupRow) → group_on name h ≡ o → (In g (groups_named name hs) → IsOn name hs g) → In g (cons_option o (groups_named name hs)) → IsOn name (h ∷ hs) g
    step None is later j = further (later j)
    step (Some r) is later (inl e) = (h, inl refl, is ∙ ap (λ x. Some x) (sym e))
    step (Some r) is later (inr j) = further (later j)

of-host : (name : List ℕ) (hosts : List Host) (host : Host) (g : GroupRow) → In host hosts → group_on name host ≡ Some g → In g (groups_named name hosts)
of-host name [] host g i e = absurd i
of-host name (h ∷ hs) host g (inl same) e =
    let here : group_on name h ≡ Some g = subst (λ x. group_on name x ≡ Some g) same e in
    rw here (inl refl)
of-host name (h ∷ hs) host g (inr i) e = in_option g (group_on name h) (groups_named name hs) (of-host name hs host g i e)

lawful-in : (hosts : List Host) → AllByRecursion HasGroupTable hosts → (host : Host) → In host hosts → AreDistinct (map name_of host.groups)
lawful-in [] all host i = absurd i
lawful-in (h ∷ hs) all host (inl e) = subst (λ (x : Host). AreDistinct (map name_of x.groups)) (sym e) all.0.names_differ
lawful-in (h ∷ hs) all host (inr i) = lawful-in hs all.1 host i

module _ (name : List ℕ) where
  abbrev members : GroupRow → List (List ℕ)
  members g = members_of g.row.members

  had : (hosts : List Host) (user : List ℕ) → In user (all_members (groups_named name hosts)) → Any (HasInGroup name user) hosts
  had hosts user i =
      let f = from_flat members (groups_named name hosts) user i in
      let on = on-host name hosts f.of f.member in
      let row = some-on name_of name (λ (host : Host). host.groups) group_made (λ (g : GroupRow). g.host) (λ (g : GroupRow). g.row) (λ host row. refl) on.0 f.of on.2 in
      any-in (HasInGroup name user) hosts on.0 on.1
      (any-in (λ row. (row.name ≡ name) × Contains (members_of row.members) user) on.0.groups f.of.row row.0 (row.1, contained (members f.of) user f.gives))

  joined : (hosts : List Host) → AllByRecursion HasGroupTable hosts → (user : List ℕ) → Any (HasInGroup name user) hosts → In user (all_members (groups_named name hosts))
  joined hosts lawful user a =
      let on = in-any (HasInGroup name user) hosts a in
      let host = on.0 in
      let row = in-any (λ row. (row.name ≡ name) × Contains (members_of row.members) user) host.groups on.2 in
      let g : GroupRow = group_made host row.0 in
      let is : group_on name host ≡ Some g = ap (λ o. option_map (group_made host) o) (found name host.groups row.0 (lawful-in hosts lawful host on.1) row.1 row.2.0) in
      to_flat members (groups_named name hosts) g user (of-host name hosts host g on.1 is) (inside (members g) user row.2.1)

  flat-append : (xs ys : List GroupRow) → all_members (xs ++ ys) ≡ all_members xs ++ all_members ys
  flat-append [] ys = refl
  flat-append (x ∷ xs) ys = ap (λ l. members x ++ l) (flat-append xs ys) ∙ sym (append_assoc (members x) (all_members xs) (all_members ys))

  in-order : (before behind : List Host) → (more : List (List ℕ)) × (merged_members name (before ++ behind) ≡ merged_members name before ++ more)
  in-order before behind =
      let parts : all_members (groups_named name (before ++ behind)) ≡ all_members (groups_named name before) ++ all_members (groups_named name behind) =
      ap all_members (filter_map-append (group_on name) before behind) ∙ flat-append (groups_named name before) (groups_named name behind) in
      let f = firsts-before (all_members (groups_named name before)) (all_members (groups_named name behind)) in
      (f.0, ap first_appearances parts ∙ f.1)

  -- the users of the first rows, and then the list of a row, of which a beginning is known
  added : (before behind : List Host) (host : Host) (one other : List ℕ) (g : GroupRow) → group_on name host ≡ Some g → AppearsBefore one other (members g) → ¬ Any (HasInGroup name other) before → AppearsBefore one other (merged_members name (before ++ host ∷ behind))
  added before behind host one other g is appears none =
      let start = appears.0 in
      let rest = appears.1 in
      let ahead = all_members (groups_named name before) in
      let after = all_members (groups_named name behind) in
      let rows : groups_named name (host ∷ behind) ≡ g ∷ groups_named name behind = (rw is refl) in
      let parts : all_members (groups_named name (before ++ host ∷ behind)) ≡ ahead ++ (members g ++ after) =
      ap all_members (filter_map-append (group_on name) before (host ∷ behind)) ∙ flat-append (groups_named name before) (groups_named name (host ∷ behind)) ∙ ap (λ rs. ahead ++ all_members rs) rows in
      let split : ahead ++ (members g ++ after) ≡ (ahead ++ start) ++ (rest ++ after) =
      ap (λ l. ahead ++ (l ++ after)) appears.2 ∙ ap (λ l. ahead ++ l) (append_assoc start rest after) ∙ sym (append_assoc ahead start (rest ++ after)) in
      let f = firsts-before (ahead ++ start) (rest ++ after) in (
        first_appearances (ahead ++ start),
        f.0,
        ap first_appearances (parts ∙ split) ∙ f.1,
        contained (first_appearances (ahead ++ start)) one (in-firsts one (ahead ++ start) (inside (ahead ++ start) one (Contains-append_right ahead start one appears.3))),
        λ there. elim (Contains-append_cases ahead start other (contained (ahead ++ start) other (firsts-in other (ahead ++ start) (inside (first_appearances (ahead ++ start)) other there)))) [
          | inl early ↦ none (had before other (inside ahead other early))
          | inr late ↦ appears.4 late
        ],
      )

  in-list-order : (before behind : List Host) (host : Host) (one other : List ℕ) → AreDistinct (map name_of host.groups) → ListsBefore name one other host → ¬ Any (HasInGroup name other) before → AppearsBefore one other (merged_members name (before ++ host ∷ behind))
  in-list-order before behind host one other apart lists none =
      let row = in-any (λ row. (row.name ≡ name) × AppearsBefore one other (members_of row.members)) host.groups lists in
      let g : GroupRow = group_made host row.0 in
      let is : group_on name host ≡ Some g = ap (λ o. option_map (group_made host) o) (found name host.groups row.0 apart row.1 row.2.0) in
      added before behind host one other g is row.2.1 none

pub of_all_hosts : MergedUsersAreOfAllHosts
of_all_hosts name hosts lawful = record {
  exactly = λ user. (
    λ c. had name hosts user (firsts-in user (all_members (groups_named name hosts)) (inside (merged_members name hosts) user c)),
    λ a. contained (merged_members name hosts) user (in-firsts user (all_members (groups_named name hosts)) (joined name hosts (recursion_from_All HasGroupTable hosts lawful) user a)),
  );
  once = names-apart (merged_members name hosts) (AreNames-first_appearances (all_members (groups_named name hosts)));
  first_hosts_first = λ before behind split.
      let ordered = in-order name before behind in
      (ordered.0, ap (λ hs. merged_members name hs) split ∙ ordered.1);
  added_in_order = λ before behind host one other split lists none.
      let all : All HasGroupTable (before ++ host ∷ behind) = subst (All HasGroupTable) split lawful in
      let apart = lawful-in (before ++ host ∷ behind) (recursion_from_All HasGroupTable (before ++ host ∷ behind) all) host (inside (before ++ host ∷ behind) host (Contains-append_right before (host ∷ behind) host (0, omega arith, refl))) in
      let P : List Host → Type 0 = λ hs. AppearsBefore one other (merged_members name hs) in
      subst P (sym split) (in-list-order name before behind host one other apart lists none);
}
