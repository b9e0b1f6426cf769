-- Who is on a user list, and in which order, in words of the bytes of the list.
-- Source: group(5), DESCRIPTION (the user list: names between commas). That nothing between two
-- commas is no name is this project's own rule.
use Rattle.std.specs.Prelude.{◌≡◌, ◌≢◌, ◌⊎◌, ◌↔◌, ℕ, List, [], ◌∷◌, ◌++◌, Contains}
use Rattle.accounts.specs.Rows.{members_of}

abbrev pub EndsInComma : List ℕ → Type 0
EndsInComma text = (before : List ℕ) × (text ≡ before ++ 44 ∷ [])

abbrev pub BeginsWithComma : List ℕ → Type 0
BeginsWithComma text = (after : List ℕ) × (text ≡ 44 ∷ after)

-- the user is in the list, from its beginning or right after a comma, and up to its end or right
-- before a comma
pub record StandsBetweenCommas (user list : List ℕ) : Type 0 where
  pub front : List ℕ
  pub behind : List ℕ
  pub there : list ≡ front ++ user ++ behind
  pub from : (front ≡ []) ⊎ EndsInComma front
  pub up_to : (behind ≡ []) ⊎ BeginsWithComma behind

-- a text that may be a user of a list: not empty, and without a comma
abbrev pub MayBeListed : List ℕ → Type 0
MayBeListed user = (user ≢ []) × ¬ Contains user 44

-- the users of a list are exactly the texts between its commas that may be
abbrev pub ListsHaveTheirMembers : Type 0
ListsHaveTheirMembers =
    (list user : List ℕ)
    → Contains (members_of list) user ↔ (MayBeListed user × StandsBetweenCommas user list)

-- An empty list has no user, and a list without a comma has one. A list with a comma has the users
-- before the comma, and then the users after it.
pub record MembersStandInOrder : Type 0 where
  pub none : members_of [] ≡ []
  pub one : (user : List ℕ) → MayBeListed user → members_of user ≡ user ∷ []
  pub more : (list rest : List ℕ)
      → members_of (list ++ 44 ∷ rest) ≡ members_of list ++ members_of rest
