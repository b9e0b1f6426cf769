-- The lines of findings are read back.
use Rattle.std.proofs.Common.{◌≡◌, ℕ, ◌<◌, ◌≤◌, ◌==◌, ◌&&◌, ◌||◌, not, Bool, true, false, cond, List, [], ◌∷◌, ◌++◌, length, map, flat_map, decimal, Option, Some, None, refl, sym, ap, ◌∙◌, append_assoc, append-nil, arith}
use Rattle.std.specs.Prelude.{IfSome, codes, find, option_map}
use Rattle.std.specs.List.{All, AllByRecursion, list_any}
use Rattle.std.specs.Option.{option_map_or}
use Rattle.std.specs.Str.{bytes_eq}
use Rattle.std.proofs.lemmas.Bool.{and_parts}
use Rattle.std.proofs.lemmas.Fmt.{decimal_is_IsNumeral}
use Rattle.std.proofs.lemmas.List.Elements.{All-from_recursion, recursion_from_All}
use Rattle.std.proofs.lemmas.List.Splits.{slice_split_at}
use Rattle.accounts.specs.Rows.{Passwd, Group}
use Rattle.hosts_join.specs.Kinds.{group_at, user_at}
use Rattle.idtext.specs.Escapes.{escaped, is_plain, unescaped}
use Rattle.idtext.specs.Names.{is_lawful_name, is_separator}
use Rattle.idtext.specs.Numbers.{greatest_id}
use Rattle.idtext.specs.Pieces.{lines, pieces}
use Rattle.idtext.specs.Words.{words}
use Rattle.idtext.proofs.EscapeLemmas.{escape-other, escape-plain, escaped-back}
use Rattle.idtext.proofs.PieceLemmas.{lines-cut, lines-empty}
use Rattle.mtree_inv.specs.declared.entry.Entry.{Entry}
use Rattle.kept_names.specs.Kept.{Found}
use Rattle.kept_names.specs.LinesBack.{AreTellable, HasIds, IsTellable, IsTellableName, Line, LinesAreReadBack, Owner, line_said, line_told, name_said, number_said, told}
use Rattle.kept_names.specs.Telling.{details, group_change, kind_word, line_of, numbers_text, owner_text, owners_text, user_change}
use Rattle.kept_names.specs.declared.names.Accounts.{Accounts}
use Rattle.kept_names.specs.declared.names.Renumbering.{Renumbering}
use Rattle.kept_names.specs.declared.finding.What.{What}
use Rattle.kept_names.specs.declared.finding.What.TheVariants.{Missing, Changed, New, Unnamed, Left}
use Rattle.kept_names.proofs.LineWords.{IsWord, Lacks, escaped_word, given_word, lacks-append, number_word, spaced, spaced_lacks, words_spaced}

-- ---- the words after a path

abbrev shown : Option (List ℕ) → List ℕ
shown name = option_map_or escaped name (codes "-")

abbrev owner_words : Option (List ℕ) → ℕ → List (List ℕ) → List (List ℕ)
owner_words name number more = shown name ∷ decimal number ∷ more

owner-front : (name : Option (List ℕ)) (number : ℕ) (more : List (List ℕ)) → owner_text name number ++ spaced more ≡ spaced (owner_words name number more)
owner-front name number more = ap (λ t. 32 ∷ t) (append_assoc (shown name) (32 ∷ decimal number) (spaced more))

module _ (head : List ℕ) where
  abbrev one_words : Bool → Option (List ℕ) → ℕ → List (List ℕ) → List (List ℕ)
  one_words true name number more = head ∷ owner_words name number more
  one_words false name number more = more

  one-front : (asked : Bool) (name : Option (List ℕ)) (number : ℕ) (more : List (List ℕ)) → (cond asked ((32 ∷ head) ++ owner_text name number) []) ++ spaced more ≡ spaced (one_words asked name number more)
  one-front true name number more =
      append_assoc (32 ∷ head) (owner_text name number) (spaced more)
      ∙ ap (λ t. 32 ∷ head ++ t) (owner-front name number more)
  one-front false name number more = refl

  -- now: the name of the owner with a number
  abbrev change_words : Option (List ℕ) → ℕ → (ℕ → Option (List ℕ)) → Option ℕ → List (List ℕ) → List (List ℕ)
  change_words was number now None more = more
  change_words was number now (Some other) more = head ∷ owner_words was number (owner_words (now other) other more)

  change-front : (was : Option (List ℕ)) (number : ℕ) (now : Option (List ℕ)) (other : ℕ) (more : List (List ℕ))
      → ((32 ∷ head) ++ owner_text was number ++ owner_text now other) ++ spaced more ≡ spaced (head ∷ owner_words was number (owner_words now other more))
  change-front was number now other more =
      let old : List ℕ = owner_text was number in
      append_assoc ((32 ∷ head) ++ old) (owner_text now other) (spaced more)
      ∙ ap (λ t. ((32 ∷ head) ++ old) ++ t) (owner-front now other more)
      ∙ append_assoc (32 ∷ head) old (spaced (owner_words now other more))
      ∙ ap (λ t. (32 ∷ head) ++ t) (owner-front was number (owner_words now other more))

  abbrev number_words : Bool → ℕ → List (List ℕ) → List (List ℕ)
  number_words true number more = head ∷ decimal number ∷ more
  number_words false number more = more

  number-front : (asked : Bool) (number : ℕ) (more : List (List ℕ)) → (cond asked ((32 ∷ head) ++ 32 ∷ decimal number) []) ++ spaced more ≡ spaced (number_words asked number more)
  number-front true number more = append_assoc (32 ∷ head) (32 ∷ decimal number) (spaced more)
  number-front false number more = refl

module _ (renumbering : Renumbering) (file : Entry) where
  abbrev detail_words : What → List (List ℕ)
  detail_words Missing = []
  detail_words (Changed uid gid) =
      change_words (codes "user") (user_at renumbering.before.users file.uid) file.uid
      (user_at renumbering.after.users) uid
      (change_words (codes "group") (group_at renumbering.before.groups file.gid) file.gid
      (group_at renumbering.after.groups) gid [])
  detail_words New =
      one_words (codes "user") true (user_at renumbering.after.users file.uid) file.uid
      (one_words (codes "group") true (group_at renumbering.after.groups file.gid) file.gid [])
  detail_words (Unnamed user group) =
      number_words (codes "uid") user file.uid (number_words (codes "gid") group file.gid [])
  detail_words (Left user group) =
      one_words (codes "user") user (user_at renumbering.before.users file.uid) file.uid
      (one_words (codes "group") group (group_at renumbering.before.groups file.gid) file.gid [])

  user-changed : (uid : Option ℕ) (more : List (List ℕ))
      → user_change renumbering file uid ++ spaced more
      ≡ spaced
      (change_words (codes "user") (user_at renumbering.before.users file.uid) file.uid
      (user_at renumbering.after.users) uid more)
  user-changed None more = refl
  user-changed (Some uid) more =
      change-front (codes "user") (user_at renumbering.before.users file.uid) file.uid
      (user_at renumbering.after.users uid) uid more

  group-changed : (gid : Option ℕ)
      → group_change renumbering file gid
      ≡ spaced
      (change_words (codes "group") (group_at renumbering.before.groups file.gid) file.gid
      (group_at renumbering.after.groups) gid [])
  group-changed None = refl
  group-changed (Some gid) =
      sym (append-nil (group_change renumbering file (Some gid)))
      ∙ change-front (codes "group") (group_at renumbering.before.groups file.gid) file.gid
      (group_at renumbering.after.groups gid) gid []

  both-owners : (accounts : Accounts) (user group : Bool) → owners_text accounts file user group
      ≡ spaced (one_words (codes "user") user (user_at accounts.users file.uid) file.uid (one_words (codes "group") group (group_at accounts.groups file.gid) file.gid []))
  both-owners accounts user group =
      let users : List ℕ = cond user (codes " user" ++ owner_text (user_at accounts.users file.uid) file.uid) [] in
      let groups : List ℕ = cond group (codes " group" ++ owner_text (group_at accounts.groups file.gid) file.gid) [] in
      ap (λ t. users ++ t) (sym (append-nil groups) ∙ one-front (codes "group") group (group_at accounts.groups file.gid) file.gid [])
      ∙ one-front (codes "user") user (user_at accounts.users file.uid) file.uid (one_words (codes "group") group (group_at accounts.groups file.gid) file.gid [])

  both-numbers : (user group : Bool)
      → numbers_text file user group
      ≡ spaced
      (number_words (codes "uid") user file.uid (number_words (codes "gid") group file.gid []))
  both-numbers user group =
      let uids : List ℕ = cond user (codes " uid " ++ decimal file.uid) [] in
      let gids : List ℕ = cond group (codes " gid " ++ decimal file.gid) [] in
      ap (λ t. uids ++ t) (sym (append-nil gids) ∙ number-front (codes "gid") group file.gid [])
      ∙ number-front (codes "uid") user file.uid (number_words (codes "gid") group file.gid [])

  details-are : (what : What) → details renumbering file what ≡ spaced (detail_words what)
  details-are Missing = refl
  details-are (Changed uid gid) =
      ap (λ t. user_change renumbering file uid ++ t) (group-changed gid)
      ∙ user-changed uid
      (change_words (codes "group") (group_at renumbering.before.groups file.gid) file.gid
      (group_at renumbering.after.groups) gid [])
  details-are New = both-owners renumbering.after true true
  details-are (Unnamed user group) = both-numbers user group
  details-are (Left user group) = both-owners renumbering.before user group

  -- a line without its newline
  abbrev behind_first : What → List (List ℕ)
  behind_first what = kind_word what ∷ escaped file.path ∷ detail_words what

  abbrev bare : What → List ℕ
  bare what = codes "unify:" ++ spaced (behind_first what)

  line-is : (what : What)
      → line_of renumbering (record { file = file; what = what }) ≡ bare what ++ 10 ∷ []
  line-is what =
      let rest : List ℕ = spaced (detail_words what) in
      ap (λ t. t ++ 10 ∷ []) (
      ap (λ t. ((codes "unify: " ++ kind_word what) ++ 32 ∷ escaped file.path) ++ t) (details-are what)
      ∙ append_assoc (codes "unify: " ++ kind_word what) (32 ∷ escaped file.path) rest
      ∙ append_assoc (codes "unify: ") (kind_word what) ((32 ∷ escaped file.path) ++ rest)
      )

-- ---- what is read of them

name-back : (name : Option (List ℕ)) → IfSome name IsTellableName → name_said (shown name) ≡ name
name-back None is = refl
name-back (Some []) is = let lawful = is.lawful in absurd (cc)
name-back (Some (b ∷ bs)) is =
    let no_hyphen : (b == 45) ≡ false = first-byte b bs is.lawful in
    ap (λ t. cond t None (Some (unescaped (escaped (b ∷ bs))))) (unlike (is_plain b) refl no_hyphen)
    ∙ ap (λ n. Some n) (escaped-back (b ∷ bs) is.bytes).0
  where
    last : (p q r : Bool) → not ((p || q) || r) ≡ true → r ≡ false
    last true q r e = absurd (cc)
    last false true r e = absurd (cc)
    last false false true e = absurd (cc)
    last false false false e = refl

    first-byte : (c : ℕ) (cs : List ℕ) → is_lawful_name (c ∷ cs) ≡ true → (c == 45) ≡ false
    first-byte c cs lawful =
        let some = not (length (c ∷ cs) == 0) in
        let begins = not ((c == 35 || c == 43) || c == 45) in
        last (c == 35) (c == 43) (c == 45) (and_parts some begins (and_parts (some && begins) (not (list_any is_separator (c ∷ cs))) lawful).0).1

    unlike : (plain : Bool) → is_plain b ≡ plain → (b == 45) ≡ false → bytes_eq (escaped (b ∷ bs)) (codes "-") ≡ false
    unlike true is other = rw (← escape-plain b is, other) refl
    unlike false is other = rw (escape-other b is) refl

number-back : (n : ℕ) → n ≤ greatest_id → number_said (decimal n) ≡ n
number-back n small = (decimal_is_IsNumeral n (omega (arith, small))).1

shown_word : (name : Option (List ℕ)) → IfSome name IsTellableName → IsWord (shown name)
shown_word None is = record { some = omega arith; no_space = (refl, tt); no_tab = (refl, tt); no_end = (refl, tt) }
shown_word (Some name) is = escaped_word name (filled name is.lawful)
  where
    filled : (n : List ℕ) → is_lawful_name n ≡ true → 0 < length n
    filled [] lawful = absurd (cc)
    filled (b ∷ n) lawful = omega arith

user-named : (rows : List Passwd) (uid : ℕ) → AllByRecursion (λ (row : Passwd). IsTellableName row.name) rows → IfSome (user_at rows uid) IsTellableName
user-named [] uid all = tt
user-named (row ∷ rows) uid all = by (uid == row.uid) (user-named rows uid all.1)
  where
    by : (same : Bool) → IfSome (user_at rows uid) IsTellableName → IfSome (option_map (λ (r : Passwd). r.name) (cond same (Some row) (find (λ r. uid == r.uid) rows))) IsTellableName
    by true rest = all.0
    by false rest = rest

group-named : (rows : List Group) (gid : ℕ) → AllByRecursion (λ (row : Group). IsTellableName row.name) rows → IfSome (group_at rows gid) IsTellableName
group-named [] gid all = tt
group-named (row ∷ rows) gid all = by (gid == row.gid) (group-named rows gid all.1)
  where
    by : (same : Bool) → IfSome (group_at rows gid) IsTellableName → IfSome (option_map (λ (r : Group). r.name) (cond same (Some row) (find (λ r. gid == r.gid) rows))) IsTellableName
    by true rest = all.0
    by false rest = rest

piece-first : (line rest : List ℕ) → Lacks 10 line → pieces 10 (line ++ 10 ∷ rest) ≡ line ∷ pieces 10 rest
unfolding pieces
piece-first line rest none = slice_split_at (λ b. b == 10) line 10 rest (All-from_recursion (λ b. (b == 10) ≡ false) line none) refl

one-line : (line rest : List ℕ) → Lacks 10 line → lines (line ++ 10 ∷ rest) ≡ line ∷ lines rest
one-line line rest none = lines-cut (line ++ 10 ∷ rest) line rest (piece-first line rest none)

module _ (renumbering : Renumbering) (were : AreTellable renumbering.before)
    (are : AreTellable renumbering.after) where
  old-user : (uid : ℕ) → IfSome (user_at renumbering.before.users uid) IsTellableName
  old-user uid =
      user-named renumbering.before.users uid
      (recursion_from_All (λ (row : Passwd). IsTellableName row.name) renumbering.before.users
      were.users)

  new-user : (uid : ℕ) → IfSome (user_at renumbering.after.users uid) IsTellableName
  new-user uid =
      user-named renumbering.after.users uid
      (recursion_from_All (λ (row : Passwd). IsTellableName row.name) renumbering.after.users
      are.users)

  old-group : (gid : ℕ) → IfSome (group_at renumbering.before.groups gid) IsTellableName
  old-group gid =
      group-named renumbering.before.groups gid
      (recursion_from_All (λ (row : Group). IsTellableName row.name) renumbering.before.groups
      were.groups)

  new-group : (gid : ℕ) → IfSome (group_at renumbering.after.groups gid) IsTellableName
  new-group gid =
      group-named renumbering.after.groups gid
      (recursion_from_All (λ (row : Group). IsTellableName row.name) renumbering.after.groups
      are.groups)

  module _ (file : Entry) (filled : 0 < length file.path) (bytes : All (λ b. b < 256) file.path) (uid_small : file.uid ≤ greatest_id) (gid_small : file.gid ≤ greatest_id) where
    -- ---- words

    users : IsWord (codes "user")
    users = given_word _ _ refl refl refl

    groups : IsWord (codes "group")
    groups = given_word _ _ refl refl refl

    uids : IsWord (codes "uid")
    uids = given_word _ _ refl refl refl

    gids : IsWord (codes "gid")
    gids = given_word _ _ refl refl refl

    kinds : (what : What) → IsWord (kind_word what)
    kinds Missing = given_word _ _ refl refl refl
    kinds (Changed uid gid) = given_word _ _ refl refl refl
    kinds New = given_word _ _ refl refl refl
    kinds (Unnamed user group) = given_word _ _ refl refl refl
    kinds (Left user group) = given_word _ _ refl refl refl

    one-words : (head : List ℕ) → IsWord head → (asked : Bool) (name : Option (List ℕ)) (number : ℕ) (more : List (List ℕ)) → IfSome name IsTellableName → number ≤ greatest_id → AllByRecursion IsWord more → AllByRecursion IsWord (one_words head asked name number more)
    one-words head word true name number more is small all = (word, (shown_word name is, (number_word number small, all)))
    one-words head word false name number more is small all = all

    number-words : (head : List ℕ) → IsWord head → (asked : Bool) (number : ℕ) (more : List (List ℕ)) → number ≤ greatest_id → AllByRecursion IsWord more → AllByRecursion IsWord (number_words head asked number more)
    number-words head word true number more small all = (word, (number_word number small, all))
    number-words head word false number more small all = all

    change-words : (head : List ℕ) → IsWord head → (old : Option (List ℕ)) (number : ℕ) (new : ℕ → Option (List ℕ)) (other : Option ℕ) (more : List (List ℕ)) → IfSome old IsTellableName → number ≤ greatest_id → ((n : ℕ) → IfSome (new n) IsTellableName) → IfSome other (λ n. n ≤ greatest_id) → AllByRecursion IsWord more → AllByRecursion IsWord (change_words head old number new other more)
    change-words head word old number new None more is small then low all = all
    change-words head word old number new (Some other) more is small then low all = (word, (shown_word old is, (number_word number small, (shown_word (new other) (then other), (number_word other low, all)))))

    detail-words : (what : What) → HasIds what
        → AllByRecursion IsWord (detail_words renumbering file what)
    detail-words Missing ids = tt
    detail-words (Changed uid gid) ids =
        change-words (codes "user") users (user_at renumbering.before.users file.uid) file.uid
        (user_at renumbering.after.users) uid
        (change_words (codes "group") (group_at renumbering.before.groups file.gid) file.gid
        (group_at renumbering.after.groups) gid []) (old-user file.uid) uid_small new-user ids.0
        (change-words (codes "group") groups (group_at renumbering.before.groups file.gid) file.gid
        (group_at renumbering.after.groups) gid [] (old-group file.gid) gid_small new-group ids.1
        tt)
    detail-words New ids =
        one-words (codes "user") users true (user_at renumbering.after.users file.uid) file.uid
        (one_words (codes "group") true (group_at renumbering.after.groups file.gid) file.gid [])
        (new-user file.uid) uid_small
        (one-words (codes "group") groups true (group_at renumbering.after.groups file.gid) file.gid
        [] (new-group file.gid) gid_small tt)
    detail-words (Unnamed user group) ids =
        number-words (codes "uid") uids user file.uid (number_words (codes "gid") group file.gid [])
        uid_small (number-words (codes "gid") gids group file.gid [] gid_small tt)
    detail-words (Left user group) ids =
        one-words (codes "user") users user (user_at renumbering.before.users file.uid) file.uid
        (one_words (codes "group") group (group_at renumbering.before.groups file.gid) file.gid [])
        (old-user file.uid) uid_small
        (one-words (codes "group") groups group (group_at renumbering.before.groups file.gid)
        file.gid [] (old-group file.gid) gid_small tt)

    are-words : (what : What) → HasIds what
        → AllByRecursion IsWord (behind_first renumbering file what)
    are-words what ids = (kinds what, (escaped_word file.path filled, detail-words what ids))

    -- ---- what they say

    path-back : unescaped (escaped file.path) ≡ file.path
    path-back = (escaped-back file.path bytes).0

    abbrev read : Option (List ℕ) → ℕ → Owner
    read name number = record { name = name_said (shown name); number = number_said (decimal number) }

    abbrev owner : Option (List ℕ) → ℕ → Owner
    owner name number = record { name = name; number = number }

    owner-back : (name : Option (List ℕ)) (number : ℕ) → IfSome name IsTellableName → number ≤ greatest_id → read name number ≡ owner name number
    owner-back name number is small =
        ap (λ n. owner n (number_said (decimal number))) (name-back name is)
        ∙ ap (λ n. owner name n) (number-back number small)

    one-back : (name : Option (List ℕ)) (number : ℕ) → IfSome name IsTellableName → number ≤ greatest_id → ◌≡◌ {A = List Owner} (read name number ∷ []) (owner name number ∷ [])
    one-back name number is small = ap (λ (o : Owner). o ∷ []) (owner-back name number is small)

    two-back : (old new : Option (List ℕ)) (number other : ℕ) → IfSome old IsTellableName → IfSome new IsTellableName → number ≤ greatest_id → other ≤ greatest_id → ◌≡◌ {A = List Owner} (read old number ∷ read new other ∷ []) (owner old number ∷ owner new other ∷ [])
    two-back old new number other is then small low =
        ap (λ (o : Owner). o ∷ read new other ∷ []) (owner-back old number is small)
        ∙ ap (λ (os : List Owner). owner old number ∷ os) (one-back new other then low)

    abbrev line : List ℕ → List ℕ → List Owner → List Owner → List ℕ → List ℕ → Option Line
    line kind path us gs is js = Some (record { kind = kind; path = path; users = us; groups = gs; uids = is; gids = js })

    same : (kind : List ℕ) (us vs gs hs : List Owner) (is ks js ms : List ℕ) → us ≡ vs → gs ≡ hs → is ≡ ks → js ≡ ms → line kind (unescaped (escaped file.path)) us gs is js ≡ line kind file.path vs hs ks ms
    same kind us vs gs hs is ks js ms u g i j =
        ap (λ p. line kind p us gs is js) path-back
        ∙ ap (λ x. line kind file.path x gs is js) u
        ∙ ap (λ x. line kind file.path vs x is js) g
        ∙ ap (λ x. line kind file.path vs hs x js) i
        ∙ ap (λ x. line kind file.path vs hs ks x) j

    users-back : (uid : ℕ) → uid ≤ greatest_id
        → ◌≡◌ {A = List Owner}
        (read (user_at renumbering.before.users file.uid) file.uid
        ∷ read (user_at renumbering.after.users uid) uid ∷ [])
        (owner (user_at renumbering.before.users file.uid) file.uid
        ∷ owner (user_at renumbering.after.users uid) uid ∷ [])
    users-back uid low =
        two-back (user_at renumbering.before.users file.uid) (user_at renumbering.after.users uid)
        file.uid uid (old-user file.uid) (new-user uid) uid_small low

    groups-back : (gid : ℕ) → gid ≤ greatest_id
        → ◌≡◌ {A = List Owner}
        (read (group_at renumbering.before.groups file.gid) file.gid
        ∷ read (group_at renumbering.after.groups gid) gid ∷ [])
        (owner (group_at renumbering.before.groups file.gid) file.gid
        ∷ owner (group_at renumbering.after.groups gid) gid ∷ [])
    groups-back gid low =
        two-back (group_at renumbering.before.groups file.gid)
        (group_at renumbering.after.groups gid) file.gid gid (old-group file.gid) (new-group gid)
        gid_small low

    number-list : (n : ℕ) → n ≤ greatest_id → (number_said (decimal n) ∷ []) ≡ n ∷ []
    number-list n small = ap (λ m. m ∷ []) (number-back n small)

    said-back : (what : What) → HasIds what
        → line_said (codes "unify:" ∷ behind_first renumbering file what)
        ≡ Some (line_told renumbering file what)
    said-back Missing ids = same (codes "missing") _ _ _ _ _ _ _ _ refl refl refl refl
    said-back (Changed None None) ids = same (codes "changed") [] [] [] [] [] [] [] [] refl refl refl refl
    said-back (Changed (Some uid) None) ids = same (codes "changed") _ _ [] [] [] [] [] [] (users-back uid ids.0) refl refl refl
    said-back (Changed None (Some gid)) ids = same (codes "changed") [] [] _ _ [] [] [] [] refl (groups-back gid ids.1) refl refl
    said-back (Changed (Some uid) (Some gid)) ids = same (codes "changed") _ _ _ _ [] [] [] [] (users-back uid ids.0) (groups-back gid ids.1) refl refl
    said-back New ids =
        same (codes "new") _ _ _ _ [] [] [] []
        (one-back (user_at renumbering.after.users file.uid) file.uid (new-user file.uid)
        uid_small)
        (one-back (group_at renumbering.after.groups file.gid) file.gid (new-group file.gid)
        gid_small) refl refl
    said-back (Unnamed false false) ids = same (codes "unnamed") [] [] [] [] [] [] [] [] refl refl refl refl
    said-back (Unnamed true false) ids = same (codes "unnamed") [] [] [] [] _ _ [] [] refl refl (number-list file.uid uid_small) refl
    said-back (Unnamed false true) ids = same (codes "unnamed") [] [] [] [] [] [] _ _ refl refl refl (number-list file.gid gid_small)
    said-back (Unnamed true true) ids = same (codes "unnamed") [] [] [] [] _ _ _ _ refl refl (number-list file.uid uid_small) (number-list file.gid gid_small)
    said-back (Left false false) ids = same (codes "left") [] [] [] [] [] [] [] [] refl refl refl refl
    said-back (Left true false) ids =
        same (codes "left") _ _ [] [] [] [] [] []
        (one-back (user_at renumbering.before.users file.uid) file.uid (old-user file.uid)
        uid_small) refl refl refl
    said-back (Left false true) ids =
        same (codes "left") [] [] _ _ [] [] [] [] refl
        (one-back (group_at renumbering.before.groups file.gid) file.gid (old-group file.gid)
        gid_small) refl refl
    said-back (Left true true) ids =
        same (codes "left") _ _ _ _ [] [] [] []
        (one-back (user_at renumbering.before.users file.uid) file.uid (old-user file.uid)
        uid_small)
        (one-back (group_at renumbering.before.groups file.gid) file.gid (old-group file.gid)
        gid_small) refl refl

    line-back : (what : What) → HasIds what
        → line_said (words (bare renumbering file what)) ≡ Some (line_told renumbering file what)
    line-back what ids =
        ap line_said
        (words_spaced (codes "unify:") (behind_first renumbering file what)
        (given_word _ _ refl refl refl) (are-words what ids))
        ∙ said-back what ids

    bare-lacks : (what : What) → HasIds what → Lacks 10 (bare renumbering file what)
    bare-lacks what ids =
        lacks-append 10 (codes "unify:") (spaced (behind_first renumbering file what))
        (refl, (refl, (refl, (refl, (refl, (refl, tt))))))
        (spaced_lacks (behind_first renumbering file what) (are-words what ids))

  abbrev reads : List ℕ → Option Line
  reads text = line_said (words text)

  all-back : (found : List Found) → AllByRecursion IsTellable found
      → map reads (lines (flat_map (line_of renumbering) found))
      ≡ map (λ f. Some (told renumbering f)) found
  all-back [] all = ap (map reads) lines-empty
  all-back (f ∷ fs) all =
      let is = all.0 in
      let more : List ℕ = flat_map (line_of renumbering) fs in
      ap (λ l. map reads (lines (l ++ more))) (line-is renumbering f.file f.what)
      ∙ ap (λ text. map reads (lines text))
      (append_assoc (bare renumbering f.file f.what) (10 ∷ []) more)
      ∙ ap (map reads)
      (one-line (bare renumbering f.file f.what) more
      (bare-lacks f.file is.file.lawful.path.filled is.file.bytes is.file.lawful.uid
      is.file.lawful.gid f.what is.what))
      ∙ ap (λ first. first ∷ map reads (lines more)) (line-back f.file is.file.lawful.path.filled is.file.bytes is.file.lawful.uid is.file.lawful.gid f.what is.what)
      ∙ ap (λ others. Some (told renumbering f) ∷ others) (all-back fs all.1)

pub lines-back : LinesAreReadBack
lines-back renumbering found were are all =
    all-back renumbering were are found (recursion_from_All IsTellable found all)
