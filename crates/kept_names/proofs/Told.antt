-- What is found of a file, kind by kind.
use Rattle.std.proofs.Common.{◌≡◌, ◌≢◌, ℕ, suc, zero, ◌<◌, Bool, true, false, cond, not, List, [], ◌∷◌, ◌++◌, length, get_or, Option, Some, None, refl, sym, ◌∙◌, ap, arith, inl, inr, subst}
use Rattle.std.specs.Prelude.{◌⊎◌, ◌||◌, if◌then◌else◌}
use Rattle.std.specs.List.{Contains, filter_map, cons_option}
use Rattle.std.specs.Option.{is_none}
use Rattle.std.specs.Str.{bytes_eq}
use Rattle.std.proofs.lemmas.Bool.{cases_Bool, true≢false}
use Rattle.std.proofs.lemmas.List.Elements.{All-nil, Contains-append_cases, Contains-append_left, Contains-append_right}
use Rattle.std.proofs.lemmas.Option.{same_Some}
use Rattle.std.proofs.lemmas.Slice.Eq.{bytes_eq-Decides}
use Rattle.hosts_join.specs.Kinds.{user_at, group_at}
use Rattle.mtree_inv.specs.declared.entry.Entry.{Entry}
use Rattle.mtree_inv.specs.Files.{HaveDistinctFiles}
use Rattle.mtree_inv.specs.Inventory.{file_at}
use Rattle.kept_names.specs.Kept.{Found, agree, change_at, change_by, changed_to, findings, groups_agree, is_left, new_of, left_by, left_file, left_of, loss, loss_of, new_file, told_of, unnamed, unnamed_by, unnamed_of, users_agree}
use Rattle.kept_names.specs.Laws.{ChangedAreTold, HasNoFileAt, IsChanged, IsFound, IsLeft, LeftAreTold, MissingAreTold, NewAreTold, Says, SomeIsSet, TellsNumber, UnnamedAreTold, is_loss}
use Rattle.kept_names.specs.declared.names.Renumbering.{Renumbering}
use Rattle.kept_names.specs.declared.finding.What.{What}
use Rattle.kept_names.specs.declared.finding.What.TheVariants.{Missing, Changed, New, Unnamed, Left}
use Rattle.kept_names.proofs.Lost.{agree-keeps, cons-all, cons-contains, file-there, head-all, keeps-agree, tail-all, there-file}

-- ---- where a finding comes from

-- a file of these, of which this is found
abbrev Gives : (Entry → Option What) → List Entry → Entry → What → Type 0
Gives found files file what = Contains files file × (found file ≡ Some what)

told-is : (file other : Entry) (o : Option What) (what : What) → told_of other o ≡ Some (record { file = file; what = what }) → (other ≡ file) × (o ≡ Some what)
told-is file other None what e = absurd (cc)
told-is file other (Some w) what e =
    let same : record { file = other; what = w } ≡ record { file = file; what = what } = same_Some _ _ e in
    (ap (λ (f : Found). f.file) same, ap (λ (f : Found). Some f.what) same)

from-list : (found : Entry → Option What) (files : List Entry) (file : Entry) (what : What) → Contains (filter_map (λ f. told_of f (found f)) files) (record { file = file; what = what }) → Gives found files file what
from-list found [] file what there = absurd (omega (arith, there.1))
from-list found (f ∷ fs) file what there = by (found f) refl (λ within. from-list found fs file what within) there
  where
    rest : Found → Type 0
    rest it = Contains (filter_map (λ g. told_of g (found g)) fs) it

    by : (o : Option What) → found f ≡ o → (rest (record { file = file; what = what }) → Gives found fs file what) → Contains (cons_option (told_of f o) (filter_map (λ g. told_of g (found g)) fs)) (record { file = file; what = what }) → Gives found (f ∷ fs) file what
    by None e more within = let it = more within in (cons-contains f file fs it.0, it.1)
    by (Some w) e more (zero, lt, same) =
        let is = told-is file f (Some w) what (ap (λ (x : Found). Some x) same) in
        ((zero, omega arith, is.0), ap found (sym is.0) ∙ e ∙ is.1)
    by (Some w) e more (suc k, lt, same) = let it = more (k, omega (arith, lt), same) in (cons-contains f file fs it.0, it.1)

into-list : (found : Entry → Option What) (files : List Entry) (file : Entry) (what : What) → Gives found files file what → Contains (filter_map (λ f. told_of f (found f)) files) (record { file = file; what = what })
into-list found files file what (there, is) = at files there.0 there.1 there.2
  where
    it : Found
    it = record { file = file; what = what }

    behind : (o : Option Found) (more : List Found) → Contains more it → Contains (cons_option o more) it
    behind None more c = c
    behind (Some x) more c = (suc c.0, omega (arith, c.1), c.2)

    front : (o : Option Found) (more : List Found) → o ≡ Some it → Contains (cons_option o more) it
    front None more e = absurd (cc)
    front (Some x) more e = (zero, omega arith, same_Some x it e)

    at : (fs : List Entry) (k : ℕ) → k < length fs → get_or fs k file ≡ file → Contains (filter_map (λ f. told_of f (found f)) fs) it
    at [] k lt e = absurd (omega (arith, lt))
    at (f ∷ fs) zero lt e = front (told_of f (found f)) (filter_map (λ g. told_of g (found g)) fs) (ap (λ (g : Entry). told_of g (found g)) e ∙ ap (told_of file) is)
    at (f ∷ fs) (suc k) lt e = behind (told_of f (found f)) (filter_map (λ g. told_of g (found g)) fs) (at fs k (omega (arith, lt)) e)

module _ (renumbering : Renumbering) (before after : List Entry) (file : Entry) (what : What) where
  abbrev Origin : Type 0
  Origin =
      Gives (loss_of renumbering after) before file what
      ⊎ (Gives (new_of before) after file what
      ⊎ (Gives (unnamed_of renumbering.after) after file what
      ⊎ Gives (left_of renumbering before) after file what))

  abbrev found : Found
  found = record { file = file; what = what }

  abbrev losses : List Found
  losses = filter_map (loss renumbering after) before

  abbrev news : List Found
  news = filter_map (new_file before) after

  abbrev bare : List Found
  bare = filter_map (unnamed renumbering.after) after

  abbrev lefts : List Found
  lefts = filter_map (left_file renumbering before) after

  pub origin : IsFound renumbering before after file what → Origin
  unfolding findings
  origin c = fourth (Contains-append_cases (losses ++ news ++ bare) lefts found c)
    where
      second : Contains losses found ⊎ Contains news found → Origin
      second (inl c) = inl (from-list (loss_of renumbering after) before file what c)
      second (inr c) = inr (inl (from-list (new_of before) after file what c))

      third : Contains (losses ++ news) found ⊎ Contains bare found → Origin
      third (inl c) = second (Contains-append_cases losses news found c)
      third (inr c) = inr (inr (inl (from-list (unnamed_of renumbering.after) after file what c)))

      fourth : Contains (losses ++ news ++ bare) found ⊎ Contains lefts found → Origin
      fourth (inl c) = third (Contains-append_cases (losses ++ news) bare found c)
      fourth (inr c) = inr (inr (inr (from-list (left_of renumbering before) after file what c)))

  pub lost : Gives (loss_of renumbering after) before file what
      → IsFound renumbering before after file what
  unfolding findings
  lost g =
      Contains-append_left (losses ++ news ++ bare) lefts found
      (Contains-append_left (losses ++ news) bare found
      (Contains-append_left losses news found
      (into-list (loss_of renumbering after) before file what g)))

  pub fresh : Gives (new_of before) after file what → IsFound renumbering before after file what
  unfolding findings
  fresh g =
      Contains-append_left (losses ++ news ++ bare) lefts found
      (Contains-append_left (losses ++ news) bare found
      (Contains-append_right losses news found (into-list (new_of before) after file what g)))

  pub nameless : Gives (unnamed_of renumbering.after) after file what
      → IsFound renumbering before after file what
  unfolding findings
  nameless g =
      Contains-append_left (losses ++ news ++ bare) lefts found
      (Contains-append_right (losses ++ news) bare found
      (into-list (unnamed_of renumbering.after) after file what g))

  pub left : Gives (left_of renumbering before) after file what
      → IsFound renumbering before after file what
  unfolding findings
  left g =
      Contains-append_right (losses ++ news ++ bare) lefts found
      (into-list (left_of renumbering before) after file what g)

-- ---- which kinds each of them gives

loss-kind : (renumbering : Renumbering) (file : Entry) (o : Option Entry) (what : What)
    → change_at renumbering file o ≡ Some what → is_loss what ≡ true
loss-kind renumbering file None what e = ap is_loss (sym (same_Some Missing what e))
loss-kind renumbering file (Some there) what e =
    by (users_agree renumbering file there) (groups_agree renumbering file there) e
  where
    by : (u g : Bool) → change_by u g there ≡ Some what → is_loss what ≡ true
    by true true e = absurd (cc)
    by true false e = ap is_loss (sym (same_Some _ what e))
    by false true e = ap is_loss (sym (same_Some _ what e))
    by false false e = ap is_loss (sym (same_Some _ what e))

new-kind : (o : Option Entry) (what : What) → (if is_none o then Some New else None) ≡ Some what → (what ≡ New) × (o ≡ None)
new-kind None what e = (sym (same_Some New what e), refl)
new-kind (Some x) what e = absurd (cc)

some-set : (user group : Bool) → (user || group) ≡ true → SomeIsSet user group
some-set true group e = inl refl
some-set false true e = inr refl
some-set false false e = absurd (cc)

set-some : (user group : Bool) → SomeIsSet user group → (user || group) ≡ true
set-some true group h = refl
set-some false true h = refl
set-some false false (inl e) = absurd (cc)
set-some false false (inr e) = absurd (cc)

unnamed-kind : (user group : Bool) (what : What) → unnamed_by user group ≡ Some what → ((user || group) ≡ true) × (what ≡ Unnamed user group)
unnamed-kind true group what e = (refl, sym (same_Some (Unnamed true group) what e))
unnamed-kind false true what e = (refl, sym (same_Some (Unnamed false true) what e))
unnamed-kind false false what e = absurd (cc)

left-kind : (user group : Bool) (o : Option Entry) (what : What) → left_by user group o ≡ Some what → ((user || group) ≡ true) × (o ≡ None) × (what ≡ Left user group)
left-kind user group o what e = by (user || group) refl o e
  where
    by : (b : Bool) → (user || group) ≡ b → (p : Option Entry) → (if b then (if is_none p then Some (Left user group) else None) else None) ≡ Some what → ((user || group) ≡ true) × (p ≡ None) × (what ≡ Left user group)
    by true set None e = (set, refl, sym (same_Some (Left user group) what e))
    by true set (Some x) e = absurd (cc)
    by false set p e = absurd (cc)

-- ---- no file at a path

pub no-file : (files : List Entry) (path : List ℕ) → file_at files path ≡ None → HasNoFileAt files path
no-file [] path e = All-nil (λ (f : Entry). f.path ≢ path)
no-file (f ∷ fs) path e = by (bytes_eq path f.path) refl (λ rest. no-file fs path rest) e
  where
    by : (b : Bool) → bytes_eq path f.path ≡ b → (file_at fs path ≡ None → HasNoFileAt fs path) → cond b (Some f) (file_at fs path) ≡ None → HasNoFileAt (f ∷ fs) path
    by true same more e = absurd (cc)
    by false other more e = cons-all (λ (g : Entry). g.path ≢ path) f fs (λ alike. true≢false (sym ((bytes_eq-Decides path f.path).1 (sym alike)) ∙ other)) (more e)

pub file-none : (files : List Entry) (path : List ℕ) → HasNoFileAt files path → file_at files path ≡ None
file-none [] path none = refl
file-none (f ∷ fs) path none =
    elim (cases_Bool (bytes_eq path f.path)) [
      | inl same ↦ absurd (head-all (λ (g : Entry). g.path ≢ path) f fs none (sym ((bytes_eq-Decides path f.path).0 same)))
      | inr other ↦ ap (λ b. cond b (Some f) (file_at fs path)) other ∙ file-none fs path (tail-all (λ (g : Entry). g.path ≢ path) f fs none)
    ]

-- ---- flags

same-flag : (a b : Bool) (P : Type 0) → Says a P → Says b P → a ≡ b
same-flag true true P s t = refl
same-flag false false P s t = refl
same-flag true false P s t = absurd (true≢false (sym (t.1 (s.0 refl))))
same-flag false true P s t = absurd (true≢false (sym (s.1 (t.0 refl))))

says-none : (o : Option (List ℕ)) → Says (is_none o) (o ≡ None)
says-none None = ((λ e. refl), (λ e. refl))
says-none (Some x) = ((λ e. absurd (cc)), (λ e. absurd (cc)))

pub says-left : (was now : Option (List ℕ)) → Says (is_left was now) (IsLeft was now)
says-left None now = ((λ e. absurd (cc)), (λ it. let h = it.had in absurd (cc)))
says-left (Some w) None = ((λ e. record { name = w; had = refl; lost = λ none. absurd (cc) }), (λ it. refl))
says-left (Some w) (Some n) = (there, back)
  where
    there : not (bytes_eq w n) ≡ true → IsLeft (Some w) (Some n)
    there e = record { name = w; had = refl; lost = λ same. true≢false (sym e ∙ ap not ((bytes_eq-Decides w n).1 (sym (same_Some n w same)))) }

    back : IsLeft (Some w) (Some n) → not (bytes_eq w n) ≡ true
    back it = elim (cases_Bool (bytes_eq w n)) [
      | inl same ↦ absurd (it.lost (ap Some (sym ((bytes_eq-Decides w n).0 same)) ∙ it.had))
      | inr other ↦ ap not other
    ]

-- ---- of one file

module _ (renumbering : Renumbering) (before : List Entry) (file : Entry) where
  abbrev no_user : Bool
  no_user = is_none (user_at renumbering.after.users file.uid)

  abbrev no_group : Bool
  no_group = is_none (group_at renumbering.after.groups file.gid)

  abbrev user_left : Bool
  user_left =
      is_left (user_at renumbering.before.users file.uid) (user_at renumbering.after.users file.uid)

  abbrev group_left : Bool
  group_left =
      is_left (group_at renumbering.before.groups file.gid)
      (group_at renumbering.after.groups file.gid)

  new_is : (what : What) → new_of before file ≡ Some what → (what ≡ New) × (file_at before file.path ≡ None)
  new_is what e = new-kind (file_at before file.path) what e

  unnamed_is : (what : What) → unnamed_of renumbering.after file ≡ Some what
      → ((no_user || no_group) ≡ true) × (what ≡ Unnamed no_user no_group)
  unnamed_is what e = unnamed-kind no_user no_group what e

  left_is : (what : What) → left_of renumbering before file ≡ Some what
      → ((user_left || group_left) ≡ true) × (file_at before file.path ≡ None)
      × (what ≡ Left user_left group_left)
  left_is what e = left-kind user_left group_left (file_at before file.path) what e

-- ---- new and missing files

pub new_told : NewAreTold
new_told renumbering before after file = (there, back)
  where
    by : Origin renumbering before after file New
        → Contains after file × HasNoFileAt before file.path
    by (inl g) =
        absurd (true≢false (sym (loss-kind renumbering file (file_at after file.path) New g.1)))
    by (inr (inl g)) = (g.0, no-file before file.path (new_is renumbering before file New g.1).1)
    by (inr (inr (inl g))) = let it = (unnamed_is renumbering before file New g.1).1 in absurd (cc)
    by (inr (inr (inr g))) = let it = (left_is renumbering before file New g.1).2 in absurd (cc)

    there : IsFound renumbering before after file New
        → Contains after file × HasNoFileAt before file.path
    there c = by (origin renumbering before after file New c)

    back : Contains after file × HasNoFileAt before file.path
        → IsFound renumbering before after file New
    back (c, none) =
        fresh renumbering before after file New (
          c,
          ap (λ (o : Option Entry). if is_none o then Some New else None)
              (file-none before file.path none),
        )

missing-kind : (renumbering : Renumbering) (file : Entry) (o : Option Entry)
    → change_at renumbering file o ≡ Some Missing → o ≡ None
missing-kind renumbering file None e = refl
missing-kind renumbering file (Some there) e =
    absurd (by (users_agree renumbering file there) (groups_agree renumbering file there) e)
  where
    by : (u g : Bool) → change_by u g there ≡ Some Missing → ⊥
    by true true e = absurd (cc)
    by true false e = absurd (cc)
    by false true e = absurd (cc)
    by false false e = absurd (cc)

pub missing_told : MissingAreTold
missing_told renumbering before after file = (there, back)
  where
    by : Origin renumbering before after file Missing
        → Contains before file × HasNoFileAt after file.path
    by (inl g) =
        (g.0, no-file after file.path (missing-kind renumbering file (file_at after file.path) g.1))
    by (inr (inl g)) = let it = (new_is renumbering before file Missing g.1).0 in absurd (cc)
    by (inr (inr (inl g))) =
        let it = (unnamed_is renumbering before file Missing g.1).1 in absurd (cc)
    by (inr (inr (inr g))) = let it = (left_is renumbering before file Missing g.1).2 in absurd (cc)

    there : IsFound renumbering before after file Missing
        → Contains before file × HasNoFileAt after file.path
    there c = by (origin renumbering before after file Missing c)

    back : Contains before file × HasNoFileAt after file.path
        → IsFound renumbering before after file Missing
    back (c, none) =
        lost renumbering before after file Missing
        (c, ap (change_at renumbering file) (file-none after file.path none))

-- ---- unnamed files, and numbers that are left

abbrev user_flag : What → Bool
user_flag (Unnamed user group) = user
user_flag (Left user group) = user
user_flag Missing = false
user_flag New = false
user_flag (Changed uid gid) = false

abbrev group_flag : What → Bool
group_flag (Unnamed user group) = group
group_flag (Left user group) = group
group_flag Missing = false
group_flag New = false
group_flag (Changed uid gid) = false

same_set : (user group u g : Bool) → user ≡ u → group ≡ g → (u || g) ≡ true → (user || group) ≡ true
same_set user group u g p q set = ap (λ b. b || group) p ∙ ap (λ b. u || b) q ∙ set

pub unnamed_told : UnnamedAreTold
unnamed_told renumbering before after file user group = (there, back)
  where
    of_user : Type 0
    of_user = user_at renumbering.after.users file.uid ≡ None

    of_group : Type 0
    of_group = group_at renumbering.after.groups file.gid ≡ None

    Holds : Type 0
    Holds = Contains after file × SomeIsSet user group × Says user of_user × Says group of_group

    u : Bool
    u = is_none (user_at renumbering.after.users file.uid)

    g : Bool
    g = is_none (group_at renumbering.after.groups file.gid)

    by : Origin renumbering before after file (Unnamed user group) → Holds
    by (inl h) =
        absurd
        (true≢false
        (sym (loss-kind renumbering file (file_at after file.path) (Unnamed user group) h.1)))
    by (inr (inl h)) =
        let it = (new_is renumbering before file (Unnamed user group) h.1).0 in absurd (cc)
    by (inr (inr (inl h))) =
        let it = unnamed_is renumbering before file (Unnamed user group) h.1 in
        let p : user ≡ u = ap user_flag it.1 in
        let q : group ≡ g = ap group_flag it.1 in (
          h.0,
          some-set user group (same_set user group u g p q it.0),
          subst (λ (b : Bool). Says b of_user) (sym p)
              (says-none (user_at renumbering.after.users file.uid)),
          subst (λ (b : Bool). Says b of_group) (sym q)
              (says-none (group_at renumbering.after.groups file.gid)),
        )
    by (inr (inr (inr h))) =
        let it = (left_is renumbering before file (Unnamed user group) h.1).2 in absurd (cc)

    there : IsFound renumbering before after file (Unnamed user group) → Holds
    there c = by (origin renumbering before after file (Unnamed user group) c)

    set : (a b : Bool) → (a || b) ≡ true → unnamed_by a b ≡ Some (Unnamed a b)
    set a b e = ap (λ (c : Bool). if c then Some (Unnamed a b) else None) e

    back : Holds → IsFound renumbering before after file (Unnamed user group)
    back (c, some, says_user, says_group) =
        let p : u ≡ user =
        same-flag u user of_user (says-none (user_at renumbering.after.users file.uid))
        says_user in
        let q : g ≡ group =
        same-flag g group of_group (says-none (group_at renumbering.after.groups file.gid))
        says_group in
        nameless renumbering before after file (Unnamed user group)
        (c, (λ i. unnamed_by (p i) (q i)) ∙ set user group (set-some user group some))

pub left_told : LeftAreTold
left_told renumbering before after file user group = (there, back)
  where
    of_user : Type 0
    of_user =
        IsLeft (user_at renumbering.before.users file.uid)
        (user_at renumbering.after.users file.uid)

    of_group : Type 0
    of_group =
        IsLeft (group_at renumbering.before.groups file.gid)
        (group_at renumbering.after.groups file.gid)

    Holds : Type 0
    Holds = Contains after file × HasNoFileAt before file.path × SomeIsSet user group × Says user of_user × Says group of_group

    u : Bool
    u =
        is_left (user_at renumbering.before.users file.uid)
        (user_at renumbering.after.users file.uid)

    g : Bool
    g =
        is_left (group_at renumbering.before.groups file.gid)
        (group_at renumbering.after.groups file.gid)

    by : Origin renumbering before after file (Left user group) → Holds
    by (inl h) =
        absurd
        (true≢false
        (sym (loss-kind renumbering file (file_at after file.path) (Left user group) h.1)))
    by (inr (inl h)) =
        let it = (new_is renumbering before file (Left user group) h.1).0 in absurd (cc)
    by (inr (inr (inl h))) =
        let it = (unnamed_is renumbering before file (Left user group) h.1).1 in absurd (cc)
    by (inr (inr (inr h))) =
        let it = left_is renumbering before file (Left user group) h.1 in
        let p : user ≡ u = ap user_flag it.2 in
        let q : group ≡ g = ap group_flag it.2 in (
          h.0,
          no-file before file.path it.1,
          some-set user group (same_set user group u g p q it.0),
          subst (λ (b : Bool). Says b of_user) (sym p)
              (says-left (user_at renumbering.before.users file.uid)
              (user_at renumbering.after.users file.uid)),
          subst (λ (b : Bool). Says b of_group) (sym q)
              (says-left (group_at renumbering.before.groups file.gid)
              (group_at renumbering.after.groups file.gid)),
        )

    there : IsFound renumbering before after file (Left user group) → Holds
    there c = by (origin renumbering before after file (Left user group) c)

    set : (a b : Bool) → (a || b) ≡ true → left_by a b None ≡ Some (Left a b)
    set a b e = ap (λ (c : Bool). if c then Some (Left a b) else None) e

    back : Holds → IsFound renumbering before after file (Left user group)
    back (c, none, some, says_user, says_group) =
        let p : u ≡ user =
        same-flag u user of_user
        (says-left (user_at renumbering.before.users file.uid)
        (user_at renumbering.after.users file.uid)) says_user in
        let q : g ≡ group =
        same-flag g group of_group
        (says-left (group_at renumbering.before.groups file.gid)
        (group_at renumbering.after.groups file.gid)) says_group in
        left renumbering before after file (Left user group) (
          c,
          (λ i. left_by (p i) (q i) (file-none before file.path none i))
              ∙ set user group (set-some user group some),
        )

-- ---- changed files

abbrev uid_told : What → Option ℕ
uid_told (Changed uid gid) = uid
uid_told Missing = None
uid_told New = None
uid_told (Unnamed user group) = None
uid_told (Left user group) = None

abbrev gid_told : What → Option ℕ
gid_told (Changed uid gid) = gid
gid_told Missing = None
gid_told New = None
gid_told (Unnamed user group) = None
gid_told (Left user group) = None

-- an owner, of which this is told
module _ (was now : Option (List ℕ)) (old new : ℕ) (told : Option ℕ) where
  tells-by : (agrees : Bool) → agree was now old new ≡ agrees → told ≡ changed_to agrees new → TellsNumber was now old new told
  tells-by true same is = record { none = ((λ e. agree-keeps was now old new same), (λ keeps. is)); right = λ number e. absurd (cc) }
  tells-by false other is = record {
    none = ((λ e. absurd (cc)), (λ keeps. absurd (true≢false (sym (keeps-agree was now old new keeps) ∙ other))));
    right = λ number e. same_Some number new (sym e ∙ is);
  }

  told-by : TellsNumber was now old new told → told ≡ changed_to (agree was now old new) new
  told-by it = by (agree was now old new) refl told refl
    where
      by : (agrees : Bool) → agree was now old new ≡ agrees → (o : Option ℕ) → told ≡ o → told ≡ changed_to agrees new
      by true same o e = it.none.1 (agree-keeps was now old new same)
      by false other None e = absurd (true≢false (sym (keeps-agree was now old new (it.none.0 e)) ∙ other))
      by false other (Some number) e = e ∙ ap Some (it.right number e)

change-parts : (u g : Bool) (there : Entry) (uid gid : Option ℕ) → change_by u g there ≡ Some (Changed uid gid) → (uid ≡ changed_to u there.uid) × (gid ≡ changed_to g there.gid) × ((uid ≢ None) ⊎ (gid ≢ None))
change-parts u g there uid gid e = by u g e
  where
    some : (told : Option ℕ) (number : ℕ) → told ≡ Some number → told ≢ None
    some told number is none = absurd (cc)

    by : (u g : Bool) → change_by u g there ≡ Some (Changed uid gid) → (uid ≡ changed_to u there.uid) × (gid ≡ changed_to g there.gid) × ((uid ≢ None) ⊎ (gid ≢ None))
    by true true e = absurd (cc)
    by true false e =
        let is = sym (same_Some (Changed None (Some there.gid)) (Changed uid gid) e) in
        (ap uid_told is, ap gid_told is, inr (some gid there.gid (ap gid_told is)))
    by false true e =
        let is = sym (same_Some (Changed (Some there.uid) None) (Changed uid gid) e) in
        (ap uid_told is, ap gid_told is, inl (some uid there.uid (ap uid_told is)))
    by false false e =
        let is = sym (same_Some (Changed (Some there.uid) (Some there.gid)) (Changed uid gid) e) in
        (ap uid_told is, ap gid_told is, inl (some uid there.uid (ap uid_told is)))

change-from : (u g : Bool) (there : Entry) (uid gid : Option ℕ) → uid ≡ changed_to u there.uid → gid ≡ changed_to g there.gid → (uid ≢ None) ⊎ (gid ≢ None) → change_by u g there ≡ Some (Changed uid gid)
change-from true true there uid gid p q (inl some) = absurd (some p)
change-from true true there uid gid p q (inr some) = absurd (some q)
change-from true false there uid gid p q either = λ i. Some (Changed (sym p i) (sym q i))
change-from false true there uid gid p q either = λ i. Some (Changed (sym p i) (sym q i))
change-from false false there uid gid p q either = λ i. Some (Changed (sym p i) (sym q i))

module _ (renumbering : Renumbering) (before after : List Entry) (file : Entry) (uid gid : Option ℕ)
    (distinct : HaveDistinctFiles after) where
  abbrev IsThere : Type 0
  IsThere =
      (there : Entry) × Contains after there × (there.path ≡ file.path)
      × IsChanged renumbering file there uid gid

  changed-kind : (o : Option Entry) → file_at after file.path ≡ o
      → change_at renumbering file o ≡ Some (Changed uid gid) → IsThere
  changed-kind None e h = absurd (cc)
  changed-kind (Some there) e h =
      let at = file-there after file.path there e in
      let parts =
      change-parts (users_agree renumbering file there) (groups_agree renumbering file there)
      there uid gid h in (
        there,
        at.0,
        at.1,
        record {
          user =
              tells-by (user_at renumbering.before.users file.uid)
              (user_at renumbering.after.users there.uid) file.uid there.uid uid
              (users_agree renumbering file there) refl parts.0;
          group =
              tells-by (group_at renumbering.before.groups file.gid)
              (group_at renumbering.after.groups there.gid) file.gid there.gid gid
              (groups_agree renumbering file there) refl parts.1;
          either = parts.2;
        },
      )

  changed-from : IsThere → loss_of renumbering after file ≡ Some (Changed uid gid)
  changed-from (there, within, at, is) =
      ap (change_at renumbering file) (there-file after file.path there distinct within at)
      ∙ change-from (users_agree renumbering file there) (groups_agree renumbering file there) there
      uid gid
      (told-by (user_at renumbering.before.users file.uid)
      (user_at renumbering.after.users there.uid) file.uid there.uid uid is.user)
      (told-by (group_at renumbering.before.groups file.gid)
      (group_at renumbering.after.groups there.gid) file.gid there.gid gid is.group)
      is.either

  changed-origin : Origin renumbering before after file (Changed uid gid)
      → Contains before file × IsThere
  changed-origin (inl g) = (g.0, changed-kind (file_at after file.path) refl g.1)
  changed-origin (inr (inl g)) =
      let it = (new_is renumbering before file (Changed uid gid) g.1).0 in absurd (cc)
  changed-origin (inr (inr (inl g))) =
      let it = (unnamed_is renumbering before file (Changed uid gid) g.1).1 in absurd (cc)
  changed-origin (inr (inr (inr g))) =
      let it = (left_is renumbering before file (Changed uid gid) g.1).2 in absurd (cc)

pub changed_told : ChangedAreTold
changed_told renumbering before after file uid gid distinct = (there, back)
  where
    there : IsFound renumbering before after file (Changed uid gid)
        → Contains before file × IsThere renumbering before after file uid gid distinct
    there c =
        changed-origin renumbering before after file uid gid distinct
        (origin renumbering before after file (Changed uid gid) c)

    back : Contains before file × IsThere renumbering before after file uid gid distinct
        → IsFound renumbering before after file (Changed uid gid)
    back (c, is) =
        lost renumbering before after file (Changed uid gid)
        (c, changed-from renumbering before after file uid gid distinct is)
