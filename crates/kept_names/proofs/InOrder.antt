-- The exit status.
use Rattle.std.proofs.Common.{◌≡◌, ◌≢◌, ℕ, ◌+◌, ◌<◌, Bool, true, false, cond, List, [], ◌∷◌, ◌++◌, length, take, get_or, Option, Some, None, refl, sym, ap, ◌∙◌, subst, ◌⊎◌, inl, inr}
use Rattle.std.specs.Prelude.{◌||◌, filter_map}
use Rattle.std.specs.List.{All, list_any}
use Rattle.std.specs.Option.{is_none}
use Rattle.std.proofs.lemmas.Bool.{true≢false}
use Rattle.std.proofs.lemmas.List.Elements.{All-append, All-nil}
use Rattle.std.proofs.lemmas.List.Folds.{list_any_none, list_any_more, list_any_at}
use Rattle.hosts_join.specs.Kinds.{user_at, group_at}
use Rattle.mtree_inv.specs.declared.entry.Entry.{Entry}
use Rattle.mtree_inv.specs.Files.{HaveDistinctFiles}
use Rattle.mtree_inv.specs.Inventory.{file_at}
use Rattle.kept_names.specs.Kept.{Found, findings, is_left, left_by, left_file, loss, new_file, told_of, unnamed, unnamed_by}
use Rattle.kept_names.specs.Laws.{HasNoFileAt, IsKept, IsLeft, is_loss}
use Rattle.kept_names.specs.Telling.{is_fault, status_of}
use Rattle.kept_names.specs.TellingLaws.{HasNames, HasNoLeftNumber, IsInOrder, StatusIsElseOne, StatusTellsOrder}
use Rattle.kept_names.specs.declared.finding.What.{What}
use Rattle.kept_names.specs.declared.finding.What.TheVariants.{Missing, Changed, New, Unnamed, Left}
use Rattle.kept_names.specs.declared.names.Renumbering.{Renumbering}
use Rattle.kept_names.proofs.Lost.{all-given, cons-all, each-all, every-all, front-all, given-all, not-lost, nothing-lost-is-kept, tail-all}
use Rattle.kept_names.proofs.Told.{file-none, no-file, says-left}

abbrev fails : Found → Bool
fails f = is_fault f.what

abbrev IsFine : Found → Type 0
IsFine f = fails f ≡ false

abbrev status : Bool → ℕ
status b = cond b 1 0

-- ---- the loop

pub none-more : (found : List Found) (i : ℕ) (f : Found) → i < length found → f ≡ get_or found i f → list_any fails (take i found) ≡ false → fails f ≡ false → list_any fails (take (i + 1) found) ≡ false
none-more found i f below at none fine =
    list_any_more fails found i f below
    ∙ ap (λ b. b || fails (get_or found i f)) none
    ∙ ap fails (sym at) ∙ fine

pub one-fails : (found : List Found) (i : ℕ) (f : Found) → i < length found → f ≡ get_or found i f → fails f ≡ true → status_of found ≡ 1
one-fails found i f below at fault = ap status (list_any_at fails found i f below (ap fails (sym at) ∙ fault))

-- ---- lists

back-all : {Y : Type 0} (P : Y → Type 0) (xs ys : List Y) → All P (xs ++ ys) → All P ys
back-all P [] ys h = h
back-all P (x ∷ xs) ys h = back-all P xs ys (tail-all P x (xs ++ ys) h)

all-fine : (found : List Found) → list_any fails found ≡ false → All IsFine found
all-fine [] e = All-nil IsFine
all-fine (f ∷ fs) e = by (fails f) refl (λ rest. all-fine fs rest) e
  where
    by : (b : Bool) → fails f ≡ b → (list_any fails fs ≡ false → All IsFine fs) → (b || list_any fails fs) ≡ false → All IsFine (f ∷ fs)
    by true is more e = absurd (true≢false e)
    by false is more e = cons-all IsFine f fs is (more e)

status-fine : (found : List Found) → status_of found ≡ 0 → All IsFine found
status-fine found e = by (list_any fails found) refl e
  where
    by : (b : Bool) → list_any fails found ≡ b → status b ≡ 0 → All IsFine found
    by true is e = absurd (cc)
    by false is e = all-fine found is

fine-status : (found : List Found) → All IsFine found → status_of found ≡ 0
fine-status found all = ap status (list_any_none fails found all)

fine-no_loss : (f : Found) → IsFine f → is_loss f.what ≡ false
fine-no_loss f = by f.what
  where
    by : (what : What) → is_fault what ≡ false → is_loss what ≡ false
    by Missing e = e
    by (Changed uid gid) e = e
    by New e = refl
    by (Unnamed user group) e = refl
    by (Left user group) e = refl

-- ---- one file of the second inventory

abbrev AreFine : (Entry → Option Found) → Entry → Type 0
AreFine found file = (y : Found) → found file ≡ Some y → IsFine y

not-fine : (file : Entry) (what : What) (o : Option What) → is_fault what ≡ true → o ≡ Some what → ((y : Found) → told_of file o ≡ Some y → IsFine y) → ⊥
not-fine file what o fault e fine = true≢false (sym fault ∙ fine (record { file = file; what = what }) (ap (told_of file) e))

nothing : (file : Entry) (o : Option What) → o ≡ None → (y : Found) → told_of file o ≡ Some y → IsFine y
nothing file o none y e = let is : told_of file o ≡ None = ap (told_of file) none in absurd (cc)

module _ (renumbering : Renumbering) (before after : List Entry) where
  named-one : (file : Entry) → AreFine (unnamed renumbering.after) file
      → HasNames renumbering.after file
  named-one file fine = record {
    user =
        λ none. by-user (is_none (group_at renumbering.after.groups file.gid))
        (ap (λ u. unnamed_by (is_none u) (is_none (group_at renumbering.after.groups file.gid)))
        none);
    group =
        λ none. by-group (is_none (user_at renumbering.after.users file.uid))
        (ap (λ g. unnamed_by (is_none (user_at renumbering.after.users file.uid)) (is_none g))
        none);
  }
    where
      o : Option What
      o =
          unnamed_by (is_none (user_at renumbering.after.users file.uid))
          (is_none (group_at renumbering.after.groups file.gid))

      by-user : (g : Bool) → o ≡ unnamed_by true g → ⊥
      by-user g e = not-fine file (Unnamed true g) o refl e fine

      by-group : (u : Bool) → o ≡ unnamed_by u true → ⊥
      by-group true e = not-fine file (Unnamed true true) o refl e fine
      by-group false e = not-fine file (Unnamed false true) o refl e fine

  one-named : (file : Entry) → HasNames renumbering.after file
      → AreFine (unnamed renumbering.after) file
  one-named file has =
      nothing file _
      (by (user_at renumbering.after.users file.uid) (group_at renumbering.after.groups file.gid)
      has.user has.group)
    where
      by : (u g : Option (List ℕ)) → u ≢ None → g ≢ None → unnamed_by (is_none u) (is_none g) ≡ None
      by None g some other = absurd (some refl)
      by (Some x) None some other = absurd (other refl)
      by (Some x) (Some y) some other = refl

  new-one : (file : Entry) → AreFine (left_file renumbering before) file
      → HasNoFileAt before file.path → HasNoLeftNumber renumbering file
  new-one file fine new = record {
    user =
        λ it. by-user group_left
        (λ i. left_by
        ((says-left (user_at renumbering.before.users file.uid)
        (user_at renumbering.after.users file.uid)).1 it i) group_left
        (file-none before file.path new i));
    group =
        λ it. by-group user_left
        (λ i. left_by user_left
        ((says-left (group_at renumbering.before.groups file.gid)
        (group_at renumbering.after.groups file.gid)).1 it i)
        (file-none before file.path new i));
  }
    where
      user_left : Bool
      user_left =
          is_left (user_at renumbering.before.users file.uid)
          (user_at renumbering.after.users file.uid)

      group_left : Bool
      group_left =
          is_left (group_at renumbering.before.groups file.gid)
          (group_at renumbering.after.groups file.gid)

      o : Option What
      o = left_by user_left group_left (file_at before file.path)

      by-user : (g : Bool) → o ≡ left_by true g None → ⊥
      by-user g e = not-fine file (Left true g) o refl e fine

      by-group : (u : Bool) → o ≡ left_by u true None → ⊥
      by-group true e = not-fine file (Left true true) o refl e fine
      by-group false e = not-fine file (Left false true) o refl e fine

  one-new : (file : Entry) → (HasNoFileAt before file.path → HasNoLeftNumber renumbering file)
      → AreFine (left_file renumbering before) file
  one-new file has =
      nothing file _
      (by user_left group_left (file_at before file.path)
      (says-left (user_at renumbering.before.users file.uid)
      (user_at renumbering.after.users file.uid)).0
      (says-left (group_at renumbering.before.groups file.gid)
      (group_at renumbering.after.groups file.gid)).0
      (λ none. has (no-file before file.path none)))
    where
      user_left : Bool
      user_left =
          is_left (user_at renumbering.before.users file.uid)
          (user_at renumbering.after.users file.uid)

      group_left : Bool
      group_left =
          is_left (group_at renumbering.before.groups file.gid)
          (group_at renumbering.after.groups file.gid)

      OfUser : Type 0
      OfUser =
          IsLeft (user_at renumbering.before.users file.uid)
          (user_at renumbering.after.users file.uid)

      OfGroup : Type 0
      OfGroup =
          IsLeft (group_at renumbering.before.groups file.gid)
          (group_at renumbering.after.groups file.gid)

      by : (u g : Bool) (p : Option Entry) → (u ≡ true → OfUser) → (g ≡ true → OfGroup)
          → (p ≡ None → HasNoLeftNumber renumbering file) → left_by u g p ≡ None
      by true g None user group none = absurd ((none refl).user (user refl))
      by true g (Some x) user group none = refl
      by false true None user group none = absurd ((none refl).group (group refl))
      by false true (Some x) user group none = refl
      by false false p user group none = refl

  new-fine : (file : Entry) → AreFine (new_file before) file
  new-fine file y e = by (is_none (file_at before file.path)) e
    where
      by : (b : Bool) → told_of file (cond b (Some New) None) ≡ Some y → IsFine y
      by true e = let same : record { file = file; what = New } ≡ y = cc in subst IsFine same refl
      by false e = absurd (cc)

  abbrev losses : List Found
  losses = filter_map (loss renumbering after) before

  abbrev news : List Found
  news = filter_map (new_file before) after

  abbrev bare : List Found
  bare = filter_map (unnamed renumbering.after) after

  abbrev lefts : List Found
  lefts = filter_map (left_file renumbering before) after

  abbrev NewHasNoLeft : Entry → Type 0
  NewHasNoLeft file = HasNoFileAt before file.path → HasNoLeftNumber renumbering file

  parts : All IsFine (findings renumbering before after) → All IsFine bare × All IsFine lefts
  unfolding findings
  parts h = (back-all IsFine (losses ++ news) bare (front-all IsFine (losses ++ news ++ bare) lefts h), back-all IsFine (losses ++ news ++ bare) lefts h)

  whole : All IsFine losses → All IsFine news → All IsFine bare → All IsFine lefts
      → All IsFine (findings renumbering before after)
  unfolding findings
  whole a b c d = All-append IsFine (losses ++ news ++ bare) lefts (All-append IsFine (losses ++ news) bare (All-append IsFine losses news a b) c) d

  module _ (distinct : HaveDistinctFiles after) where
    fine-order : All IsFine (findings renumbering before after) → IsInOrder renumbering before after
    fine-order all = record {
      kept =
          (nothing-lost-is-kept renumbering before after distinct).0
          (each-all IsFine (λ f. is_loss f.what ≡ false) (findings renumbering before after)
          fine-no_loss all);
      named =
          each-all (AreFine (unnamed renumbering.after)) (HasNames renumbering.after) after
          named-one (all-given (unnamed renumbering.after) IsFine after (parts all).0);
      new =
          each-all (AreFine (left_file renumbering before)) NewHasNoLeft after new-one
          (all-given (left_file renumbering before) IsFine after (parts all).1);
    }

    order-fine : IsInOrder renumbering before after → All IsFine (findings renumbering before after)
    order-fine is =
        whole
        (given-all (loss renumbering after) IsFine before
        (each-all (IsKept renumbering after) (AreFine (loss renumbering after)) before
        (λ file kept. nothing file _ (not-lost renumbering before after distinct file kept))
        is.kept))
        (given-all (new_file before) IsFine after (every-all (AreFine (new_file before)) after new-fine))
        (given-all (unnamed renumbering.after) IsFine after
        (each-all (HasNames renumbering.after) (AreFine (unnamed renumbering.after)) after
        one-named is.named))
        (given-all (left_file renumbering before) IsFine after
        (each-all NewHasNoLeft (AreFine (left_file renumbering before)) after one-new is.new))

pub status-tells : StatusTellsOrder
status-tells renumbering before after distinct = (
  (λ e. fine-order renumbering before after distinct
      (status-fine (findings renumbering before after) e)),
  (λ is. fine-status (findings renumbering before after)
      (order-fine renumbering before after distinct is)),
)

either : (b : Bool) → (let status : ℕ = cond b 1 0 in (status ≡ 0) ⊎ (status ≡ 1))
either true = inr refl
either false = inl refl

pub status-else-one : StatusIsElseOne
status-else-one found = either (list_any fails found)
