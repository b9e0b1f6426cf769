-- The users of a group, between commas, read back.
use Rattle.std.proofs.Common.{◌≡◌, ℕ, ◌==◌, not, Bool, true, List, [], ◌∷◌, ◌++◌, length, refl, ap, ◌∙◌, inl, inr}
use Rattle.std.specs.List.{join_with_byte, filter, AllByRecursion}
use Rattle.std.specs.Str.{bytes_eq}
use Rattle.std.proofs.lemmas.Bool.{cases_Bool}
use Rattle.idtext.specs.Pieces.{pieces}
use Rattle.accounts.specs.Rows.{members_of}
use Rattle.hosts_join.specs.Accounts.{first_appearances}
use Rattle.mergedfiles.specs.Rows.{GroupRow, all_members, joined_users}
use Rattle.mergedfiles.proofs.ReadLines.{Lacks, IsPlain, lacks-append, pieces-cut, pieces-lack, piece-first, piece-last}

-- a user that may stand between commas
abbrev pub IsMember : List ℕ → Type 0
IsMember user = Lacks 44 user × (not (length user == 0) ≡ true) × IsPlain user

abbrev is_filled : List ℕ → Bool
is_filled user = not (length user == 0)

-- ---- the users of a row

all-filled : (ps : List (List ℕ)) → AllByRecursion (Lacks 44) ps → AllByRecursion (Lacks 58) ps → AllByRecursion (Lacks 10) ps → AllByRecursion IsMember (filter is_filled ps)
all-filled [] a b c = tt
all-filled (p ∷ ps) a b c = elim (cases_Bool (is_filled p)) [
  | inl t ↦ rw t ((a.0, t, (b.0, c.0)), all-filled ps a.1 b.1 c.1)
  | inr f ↦ rw f (all-filled ps a.1 b.1 c.1)
]

pub members-are : (users : List ℕ) → IsPlain users → AllByRecursion IsMember (members_of users)
unfolding members_of
members-are users plain = all-filled (pieces 44 users) (pieces-cut 44 users) (pieces-lack 58 44 users plain.0) (pieces-lack 10 44 users plain.1)

-- ---- those of all rows

all-append : {X : Type 0} (P : X → Type 0) (xs ys : List X) → AllByRecursion P xs → AllByRecursion P ys → AllByRecursion P (xs ++ ys)
all-append P [] ys a b = b
all-append P (x ∷ xs) ys a b = (a.0, all-append P xs ys a.1 b)

all-filter : {X : Type 0} (P : X → Type 0) (p : X → Bool) (xs : List X) → AllByRecursion P xs → AllByRecursion P (filter p xs)
all-filter P p [] a = tt
all-filter P p (x ∷ xs) a = elim (cases_Bool (p x)) [ inl t ↦ rw t (a.0, all-filter P p xs a.1) | inr f ↦ rw f (all-filter P p xs a.1) ]

all-first : (P : List ℕ → Type 0) (ns : List (List ℕ)) → AllByRecursion P ns → AllByRecursion P (first_appearances ns)
unfolding first_appearances
all-first P [] a = tt
all-first P (n ∷ ns) a = (a.0, all-filter P (λ m. not (bytes_eq n m)) (first_appearances ns) (all-first P ns a.1))

every-member : (rows : List GroupRow) → AllByRecursion (λ (group : GroupRow). IsPlain group.row.members) rows → AllByRecursion IsMember (all_members rows)
every-member [] all = tt
every-member (row ∷ rows) all = all-append IsMember (members_of row.row.members) (all_members rows) (members-are row.row.members all.0) (every-member rows all.1)

pub joined-are : (rows : List GroupRow) → AllByRecursion (λ (group : GroupRow). IsPlain group.row.members) rows → AllByRecursion IsMember (joined_users rows)
joined-are rows all = all-first IsMember (all_members rows) (every-member rows all)

-- ---- between commas

pub members-plain : (users : List (List ℕ)) → AllByRecursion IsMember users → IsPlain (join_with_byte 44 users)
members-plain [] all = (tt, tt)
members-plain (user ∷ []) all = all.0.2
members-plain (user ∷ next ∷ users) all =
    let rest = members-plain (next ∷ users) all.1 in (
      lacks-append 58 user (44 ∷ join_with_byte 44 (next ∷ users)) all.0.2.0 (refl, rest.0),
      lacks-append 10 user (44 ∷ join_with_byte 44 (next ∷ users)) all.0.2.1 (refl, rest.1),
    )

filled-first : (user : List ℕ) (users : List (List ℕ)) → is_filled user ≡ true → filter is_filled (user ∷ users) ≡ user ∷ filter is_filled users
filled-first user users t = rw t refl

pub members-back : (users : List (List ℕ)) → AllByRecursion IsMember users → members_of (join_with_byte 44 users) ≡ users
unfolding members_of
members-back [] all = ap (filter is_filled) (piece-last 44 [] tt)
members-back (user ∷ []) all = ap (filter is_filled) (piece-last 44 user all.0.0) ∙ filled-first user [] all.0.1
members-back (user ∷ next ∷ users) all =
    ap (filter is_filled) (piece-first 44 user (join_with_byte 44 (next ∷ users)) refl all.0.0)
    ∙ filled-first user (pieces 44 (join_with_byte 44 (next ∷ users))) all.0.1
    ∙ ap (λ rest. user ∷ rest) (members-back (next ∷ users) all.1)
