-- What it means that nothing is lost.
use Rattle.std.proofs.Common.{◌≡◌, ℕ, suc, zero, Bool, true, false, cond, List, [], ◌∷◌, ◌++◌, get_or, Option, Some, None, refl, sym, ◌∙◌, ap, arith, inl, inr, subst}
use Rattle.std.specs.List.{All, Contains, filter_map, cons_option}
use Rattle.std.specs.Str.{bytes_eq}
use Rattle.std.specs.Option.{is_none}
use Rattle.std.proofs.lemmas.Bool.{cases_Bool}
use Rattle.std.proofs.lemmas.List.Elements.{All-append, All-nil}
use Rattle.std.proofs.lemmas.Slice.Eq.{bytes_eq-Decides}
use Rattle.std.proofs.lemmas.Bool.Decides.{Decides-eqb}
use Rattle.mtree_inv.specs.declared.entry.Entry.{Entry}
use Rattle.mtree_inv.specs.Files.{HaveDistinctFiles}
use Rattle.mtree_inv.specs.Inventory.{file_at}
use Rattle.hosts_join.specs.Kinds.{user_at, group_at}
use Rattle.kept_names.specs.Kept.{Found, told_of, agree, users_agree, groups_agree, change_by, change_at, loss_of, loss, new_file, unnamed_by, unnamed, is_left, left_by, left_file, findings}
use Rattle.kept_names.specs.Laws.{KeepsName, IsKept, is_loss, NothingLostIsKept}
use Rattle.kept_names.specs.declared.names.Renumbering.{Renumbering}
use Rattle.kept_names.specs.declared.finding.What.{What}
use Rattle.kept_names.specs.declared.finding.What.TheVariants.{New, Unnamed, Left}

-- ---- lists

pub head-all : {Y : Type 0} (P : Y → Type 0) (y : Y) (ys : List Y) → All P (y ∷ ys) → P y
head-all P y ys h = h 0 y (omega arith)

pub tail-all : {Y : Type 0} (P : Y → Type 0) (y : Y) (ys : List Y) → All P (y ∷ ys) → All P ys
tail-all P y ys h = λ k d below. h (suc k) d (omega arith)

pub cons-all : {Y : Type 0} (P : Y → Type 0) (y : Y) (ys : List Y) → P y → All P ys → All P (y ∷ ys)
cons-all P y ys first rest zero d below = first
cons-all P y ys first rest (suc k) d below = rest k d (omega arith)

pub front-all : {Y : Type 0} (P : Y → Type 0) (xs ys : List Y) → All P (xs ++ ys) → All P xs
front-all P [] ys h = All-nil P
front-all P (x ∷ xs) ys h = cons-all P x xs (head-all P x (xs ++ ys) h) (front-all P xs ys (tail-all P x (xs ++ ys) h))

-- what a property of all that is found says of one item, and the other way round
abbrev Given : {X Y : Type 0} → (X → Option Y) → (Y → Type 0) → X → Type 0
Given {X} {Y} f P x = (y : Y) → f x ≡ Some y → P y

step-given : {Y : Type 0} (P : Y → Type 0) (o : Option Y) (ys : List Y) → All P (cons_option o ys) → ((y : Y) → o ≡ Some y → P y) × All P ys
step-given P None ys h = ((λ y e. absurd (cc)), h)
step-given P (Some z) ys h =
    ((λ y e. let same : z ≡ y = cc in subst P same (head-all P z ys h)), tail-all P z ys h)

pub all-given : {X Y : Type 0} (f : X → Option Y) (P : Y → Type 0) (xs : List X) → All P (filter_map f xs) → All (Given f P) xs
all-given f P [] h = All-nil (Given f P)
all-given f P (x ∷ xs) h =
    let s = step-given P (f x) (filter_map f xs) h in
    cons-all (Given f P) x xs s.0 (all-given f P xs s.1)

step-all : {Y : Type 0} (P : Y → Type 0) (o : Option Y) (ys : List Y) → ((y : Y) → o ≡ Some y → P y) → All P ys → All P (cons_option o ys)
step-all P None ys h rest = rest
step-all P (Some z) ys h rest = cons-all P z ys (h z refl) rest

pub given-all : {X Y : Type 0} (f : X → Option Y) (P : Y → Type 0) (xs : List X) → All (Given f P) xs → All P (filter_map f xs)
given-all f P [] h = All-nil P
given-all f P (x ∷ xs) h = step-all P (f x) (filter_map f xs) (head-all (Given f P) x xs h) (given-all f P xs (tail-all (Given f P) x xs h))

pub each-all : {X : Type 0} (P Q : X → Type 0) (xs : List X) → ((x : X) → P x → Q x) → All P xs → All Q xs
each-all P Q xs h all = λ k d below. h (get_or xs k d) (all k d below)

pub every-all : {X : Type 0} (P : X → Type 0) (xs : List X) → ((x : X) → P x) → All P xs
every-all P xs h = λ k d below. h (get_or xs k d)

-- ---- a path among files

pub cons-contains : {X : Type 0} (y x : X) (ys : List X) → Contains ys x → Contains (y ∷ ys) x
cons-contains y x ys c = (suc c.0, omega (arith, c.1), c.2)

pub file-there : (files : List Entry) (path : List ℕ) (x : Entry) → file_at files path ≡ Some x → Contains files x × (x.path ≡ path)
file-there [] path x e = absurd (cc)
file-there (f ∷ fs) path x e = by (bytes_eq path f.path) refl (λ is. file-there fs path x is) e
  where
    by : (b : Bool) → bytes_eq path f.path ≡ b → (file_at fs path ≡ Some x → Contains fs x × (x.path ≡ path)) → cond b (Some f) (file_at fs path) ≡ Some x → Contains (f ∷ fs) x × (x.path ≡ path)
    by true same later is =
        let it : f ≡ x = cc in
        ((0, omega arith, it), sym (ap (λ (e : Entry). e.path) it) ∙ sym ((bytes_eq-Decides path f.path).0 same))
    by false other later is =
        let rest = later is in
        (cons-contains f x fs rest.0, rest.1)

tail-distinct : (f : Entry) (fs : List Entry) → HaveDistinctFiles (f ∷ fs) → HaveDistinctFiles fs
tail-distinct f fs h = λ i j d less below. h (suc i) (suc j) d (omega arith) (omega arith)

pub there-file : (files : List Entry) (path : List ℕ) (x : Entry) → HaveDistinctFiles files → Contains files x → x.path ≡ path → file_at files path ≡ Some x
there-file [] path x distinct c at = absurd (omega (arith, c.1))
there-file (f ∷ fs) path x distinct (zero, below, is) at =
    ap (λ b. cond b (Some f) (file_at fs path)) ((bytes_eq-Decides path f.path).1 (sym at ∙ ap (λ (e : Entry). e.path) (sym is))) ∙ ap Some is
there-file (f ∷ fs) path x distinct (suc k, below, is) at =
    elim (cases_Bool (bytes_eq path f.path)) [
      | inl same ↦ absurd (distinct 0 (suc k) x (omega arith) below (sym ((bytes_eq-Decides path f.path).0 same) ∙ sym at ∙ ap (λ (e : Entry). e.path) (sym is)))
      | inr other ↦ ap (λ b. cond b (Some f) (file_at fs path)) other ∙ there-file fs path x (tail-distinct f fs distinct) (k, omega (arith, below), is) at
    ]

-- ---- names

pub agree-keeps : (was now : Option (List ℕ)) (old new : ℕ) → agree was now old new ≡ true → KeepsName was now old new
agree-keeps (Some w) (Some n) old new e =
    record {
      named = λ name is. ap Some (sym ((bytes_eq-Decides w n).0 e)) ∙ is;
      unnamed = λ is. absurd (cc);
      number = λ is. absurd (cc);
    }
agree-keeps None None old new e = record { named = λ name is. absurd (cc); unnamed = λ is. refl; number = λ is. sym ((Decides-eqb old new).0 e) }
agree-keeps (Some w) None old new e = absurd (cc)
agree-keeps None (Some n) old new e = absurd (cc)

pub keeps-agree : (was now : Option (List ℕ)) (old new : ℕ) → KeepsName was now old new → agree was now old new ≡ true
keeps-agree (Some w) (Some n) old new k = let same : Some n ≡ Some w = k.named w refl in (bytes_eq-Decides w n).1 (cc)
keeps-agree None None old new k = (Decides-eqb old new).1 (sym (k.number refl))
keeps-agree (Some w) None old new k = let same : None ≡ Some w = k.named w refl in absurd (cc)
keeps-agree None (Some n) old new k = let same : Some n ≡ None = k.unnamed refl in absurd (cc)

-- ---- one file

abbrev NoLoss : Found → Type 0
NoLoss found = is_loss found.what ≡ false

no-change : (users groups : Bool) (file there : Entry) → ((y : Found) → told_of file (change_by users groups there) ≡ Some y → NoLoss y) → (users ≡ true) × (groups ≡ true)
no-change true true file there h = (refl, refl)
no-change true false file there h = let no = h _ refl in absurd (cc)
no-change false true file there h = let no = h _ refl in absurd (cc)
no-change false false file there h = let no = h _ refl in absurd (cc)

told-no-loss : (file : Entry) (what : What) (y : Found) → told_of file (Some what) ≡ Some y → is_loss what ≡ false → NoLoss y
told-no-loss file what y e harmless =
    let same : record { file = file; what = what } ≡ y = cc in
    subst NoLoss same harmless

module _ (renumbering : Renumbering) (before after : List Entry)
    (distinct : HaveDistinctFiles after) where
  kept-one : (file : Entry) → Given (loss renumbering after) NoLoss file
      → IsKept renumbering after file
  kept-one file h = by (file_at after file.path) refl h
    where
      by : (o : Option Entry) → file_at after file.path ≡ o
          → ((y : Found) → told_of file (change_at renumbering file o) ≡ Some y → NoLoss y)
          → IsKept renumbering after file
      by None e h = let no = h _ refl in absurd (cc)
      by (Some there) e h =
          let at = file-there after file.path there e in
          let same =
          no-change (users_agree renumbering file there) (groups_agree renumbering file there)
          file there h in (
            there,
            at.0,
            at.1,
            record {
              user =
                  agree-keeps (user_at renumbering.before.users file.uid)
                  (user_at renumbering.after.users there.uid) file.uid there.uid same.0;
              group =
                  agree-keeps (group_at renumbering.before.groups file.gid)
                  (group_at renumbering.after.groups there.gid) file.gid there.gid same.1;
            },
          )

  pub not-lost : (file : Entry) → IsKept renumbering after file
      → loss_of renumbering after file ≡ None
  not-lost file (there, within, at, keeps) =
      ap (change_at renumbering file) (there-file after file.path there distinct within at)
      ∙ ap (λ b. change_by b (groups_agree renumbering file there) there)
      (keeps-agree (user_at renumbering.before.users file.uid)
      (user_at renumbering.after.users there.uid) file.uid there.uid keeps.user)
      ∙ ap (λ b. change_by true b there)
      (keeps-agree (group_at renumbering.before.groups file.gid)
      (group_at renumbering.after.groups there.gid) file.gid there.gid keeps.group)

  lost-one : (file : Entry) → IsKept renumbering after file
      → Given (loss renumbering after) NoLoss file
  lost-one file kept y e =
      let none : loss renumbering after file ≡ None = ap (told_of file) (not-lost file kept) in
      absurd (cc)

  new-one : (file : Entry) → Given (new_file before) NoLoss file
  new-one file y e = by (is_none (file_at before file.path)) e
    where
      by : (b : Bool) → told_of file (cond b (Some New) None) ≡ Some y → NoLoss y
      by true e = told-no-loss file New y e refl
      by false e = absurd (cc)

  unnamed-one : (file : Entry) → Given (unnamed renumbering.after) NoLoss file
  unnamed-one file y e =
      by (is_none (user_at renumbering.after.users file.uid))
      (is_none (group_at renumbering.after.groups file.gid)) e
    where
      by : (u g : Bool) → told_of file (unnamed_by u g) ≡ Some y → NoLoss y
      by true g e = told-no-loss file (Unnamed true g) y e refl
      by false true e = told-no-loss file (Unnamed false true) y e refl
      by false false e = absurd (cc)

  left-one : (file : Entry) → Given (left_file renumbering before) NoLoss file
  left-one file y e =
      by
      (is_left (user_at renumbering.before.users file.uid)
      (user_at renumbering.after.users file.uid))
      (is_left (group_at renumbering.before.groups file.gid)
      (group_at renumbering.after.groups file.gid)) (file_at before file.path) e
    where
      by : (u g : Bool) (earlier : Option Entry) → told_of file (left_by u g earlier) ≡ Some y → NoLoss y
      by true g None e = told-no-loss file (Left true g) y e refl
      by true g (Some there) e = absurd (cc)
      by false true None e = told-no-loss file (Left false true) y e refl
      by false true (Some there) e = absurd (cc)
      by false false earlier e = absurd (cc)

  abbrev losses : List Found
  losses = filter_map (loss renumbering after) before

  abbrev news : List Found
  news = filter_map (new_file before) after

  abbrev bare : List Found
  bare = filter_map (unnamed renumbering.after) after

  abbrev lefts : List Found
  lefts = filter_map (left_file renumbering before) after

  pub lost-is-not-kept : All NoLoss (findings renumbering before after)
      → All (IsKept renumbering after) before
  unfolding findings
  lost-is-not-kept h =
      each-all (Given (loss renumbering after) NoLoss) (IsKept renumbering after) before kept-one
      (all-given (loss renumbering after) NoLoss before
      (front-all NoLoss losses news
      (front-all NoLoss (losses ++ news) bare
      (front-all NoLoss (losses ++ news ++ bare) lefts h))))

  pub kept-is-not-lost : All (IsKept renumbering after) before
      → All NoLoss (findings renumbering before after)
  unfolding findings
  kept-is-not-lost h =
      All-append NoLoss (losses ++ news ++ bare) lefts
      (All-append NoLoss (losses ++ news) bare
      (All-append NoLoss losses news
      (given-all (loss renumbering after) NoLoss before
      (each-all (IsKept renumbering after) (Given (loss renumbering after) NoLoss) before lost-one
      h))
      (given-all (new_file before) NoLoss after (every-all (Given (new_file before) NoLoss) after new-one)))
      (given-all (unnamed renumbering.after) NoLoss after
      (every-all (Given (unnamed renumbering.after) NoLoss) after unnamed-one)))
      (given-all (left_file renumbering before) NoLoss after
      (every-all (Given (left_file renumbering before) NoLoss) after left-one))

pub nothing-lost-is-kept : NothingLostIsKept
nothing-lost-is-kept renumbering before after distinct = (
  lost-is-not-kept renumbering before after distinct,
  kept-is-not-lost renumbering before after distinct,
)
