-- The numbers of users and groups that a plan changes, and the processes that have one or may
-- take one.
-- Source: proc(5), /proc/PID/task/TID/status of a thread: after the words `Uid:` and `Gid:` stand
-- the real, the effective, the saved and the file system number of a user and of a group, and
-- after `Groups:` the numbers of its other groups; after `State:` stands `Z` or `X` where it has
-- ended. The status of a process is that of all its threads that have not ended, one after the
-- other, since each may have other numbers (credentials(7)).
-- user_namespaces(7), "User and group ID mappings": each line of /proc/PID/uid_map and of gid_map
-- tells a range of numbers that a process may take: the first as it is inside of its user
-- namespace, the first as it is outside, and how many. The one line of the initial namespace
-- is `0 0 4294967295`.
use Rattle.std.specs.Prelude.{ℕ, ◌==◌, ◌&&◌, ◌||◌, ◌+◌, Bool, false, List, [], ◌∷◌, not, codes}
use Rattle.std.specs.Prelude.{nat_eq, nat_le, nat_lt}
use Rattle.std.specs.List.{list_any}
use Rattle.std.specs.Option.{option_map_or}
use Rattle.std.specs.Str.{bytes_eq}
use Rattle.idtext.specs.Numbers.{id_of}
use Rattle.idtext.specs.Pieces.{lines}
use Rattle.idtext.specs.Words.{words}
use Rattle.reown_plan.specs.declared.plan.Owner.{Owner}
use Rattle.reown_plan.specs.declared.plan.Record.{Record}

-- ---- what is looked for

-- a record changes the number of its file, and has this one before or after
abbrev pub is_sought : (Owner → ℕ) → List Record → ℕ → Bool
is_sought number records v =
    list_any (λ r. not (number r.before == number r.after)
    && (number r.before == v || number r.after == v)) records

abbrev pub is_sought_user : List Record → ℕ → Bool
is_sought_user records v = is_sought (λ owner. owner.uid) records v

abbrev pub is_sought_group : List Record → ℕ → Bool
is_sought_group records v = is_sought (λ owner. owner.gid) records v

-- ---- statuses

-- a word writes one of these numbers
abbrev pub writes_one : List ℕ → List ℕ → Bool
writes_one numbers word = option_map_or (λ v. list_any (nat_eq v) numbers) (id_of word) false

-- a line begins with this word, and one after it writes one of these numbers
abbrev pub has_one : List ℕ → List ℕ → List (List ℕ) → Bool
has_one head numbers [] = false
has_one head numbers (word ∷ more) = bytes_eq word head && list_any (writes_one numbers) more

-- users, groups: the numbers that are looked for
module _ (users groups : List ℕ) where
  abbrev pub tells_one : List ℕ → Bool
  tells_one line =
      has_one (codes "Uid:") users (words line)
      || has_one (codes "Gid:") groups (words line)
      || has_one (codes "Groups:") groups (words line)

  -- a process with this status has such a number
  abbrev pub runs_as_one : List ℕ → Bool
  runs_as_one status = list_any tells_one (lines status)

-- the words of a line tell a thread that has ended: a zombie, or dead
abbrev pub tell_end : List (List ℕ) → Bool
tell_end (head ∷ state ∷ more) =
    bytes_eq head (codes "State:") && (bytes_eq state (codes "Z") || bytes_eq state (codes "X"))
tell_end _ = false

-- a thread with this status has ended
abbrev pub has_ended : List ℕ → Bool
has_ended status = list_any (λ line. tell_end (words line)) (lines status)

-- ---- maps

-- one of these numbers is among so many from the first
abbrev pub have_within : List ℕ → ℕ → ℕ → Bool
have_within numbers first count =
    list_any (λ v. nat_le first v && nat_lt v (first + count)) numbers

-- The words of a line of a map tell a range that has one of these numbers outside. In the initial
-- namespace a process takes no number by its map. The count of the line there is one more than the
-- greatest number of an account, so that no range is told.
abbrev pub tell_range_with : List ℕ → List (List ℕ) → Bool
tell_range_with numbers (inside ∷ outside ∷ count ∷ more) =
    option_map_or
    (λ first. option_map_or (λ many. have_within numbers first many) (id_of count) false)
    (id_of outside) false
tell_range_with numbers _ = false

-- a line of a map tells such a range
abbrev pub maps_one : List ℕ → List ℕ → Bool
maps_one numbers map = list_any (λ line. tell_range_with numbers (words line)) (lines map)

-- ---- processes

-- a process with this status and these maps has one of the numbers, or may take one
abbrev pub is_found : List ℕ → List ℕ → List ℕ → List ℕ → List ℕ → Bool
is_found users groups status uid_map gid_map =
    runs_as_one users groups status || maps_one users uid_map || maps_one groups gid_map
