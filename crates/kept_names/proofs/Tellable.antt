-- What is found of accepted texts can be told.
use Rattle.std.proofs.Common.{◌≡◌, ℕ, ◌<◌, ◌≤◌, ◌||◌, Bool, true, false, cond, List, ◌∷◌, ◌++◌, Option, Some, None, Ok, refl, subst}
use Rattle.std.specs.List.{All, AllByRecursion, filter_map}
use Rattle.std.specs.Option.{is_none}
use Rattle.std.proofs.lemmas.List.Elements.{All-append, All-contains, All-from_recursion, recursion_from_All}
use Rattle.accounts.specs.Rows.{Passwd, Group}
use Rattle.accounts.specs.Tables.{group_table, passwd_table}
use Rattle.accounts.proofs.TableRows.{each-group, each-user}
use Rattle.hosts_join.specs.Kinds.{group_at, user_at}
use Rattle.idtext.specs.Numbers.{greatest_id}
use Rattle.idtext.specs.Pieces.{fields_of}
use Rattle.idtext.proofs.EachByte.{each-line, each-piece}
use Rattle.mtree_inv.specs.declared.entry.Entry.{Entry}
use Rattle.mtree_inv.specs.Inventory.{file_at}
use Rattle.kept_names.specs.Kept.{Found, change_at, change_by, findings, groups_agree, is_left, left_by, left_file, loss, loss_of, new_file, new_of, told_of, unnamed, unnamed_of, users_agree}
use Rattle.kept_names.specs.LinesBack.{FindingsAreTellable, HasIds, IsTellable, IsTellableFile, IsTellableName, TablesAreTellable}
use Rattle.kept_names.specs.declared.names.Renumbering.{Renumbering}
use Rattle.kept_names.specs.declared.finding.What.{What}
use Rattle.kept_names.specs.declared.finding.What.TheVariants.{Missing, Changed, New, Unnamed, Left}
use Rattle.kept_names.proofs.Lost.{each-all, file-there, given-all}

-- ---- names

abbrev AreBytes : List ℕ → Type 0
AreBytes text = AllByRecursion (λ b. b < 256) text

first-bytes : (line first : List ℕ) (more : List (List ℕ)) → AreBytes line → fields_of line ≡ first ∷ more → AreBytes first
first-bytes line first more all are = (subst (λ (fs : List (List ℕ)). AllByRecursion AreBytes fs) are (each-piece (λ b. b < 256) 58 line all)).0

users-tellable : (text : List ℕ) (rows : List Passwd) → AreBytes text → passwd_table text ≡ Ok rows → AllByRecursion (λ (row : Passwd). IsTellableName row.name) rows
users-tellable text rows all =
    each-user AreBytes (λ row. IsTellableName row.name)
    (λ n line row bytes is. record { lawful = is.lawful; bytes = All-from_recursion (λ b. b < 256) row.name (first-bytes line row.name _ bytes is.are) })
    text rows (each-line (λ b. b < 256) text all)

groups-tellable : (text : List ℕ) (rows : List Group) → AreBytes text → group_table text ≡ Ok rows → AllByRecursion (λ (row : Group). IsTellableName row.name) rows
groups-tellable text rows all =
    each-group AreBytes (λ row. IsTellableName row.name)
    (λ n line row bytes is. record { lawful = is.lawful; bytes = All-from_recursion (λ b. b < 256) row.name (first-bytes line row.name _ bytes is.are) })
    text rows (each-line (λ b. b < 256) text all)

pub tables-tellable : TablesAreTellable
tables-tellable passwd group accounts passwd_bytes group_bytes users groups = record {
  users = All-from_recursion (λ (row : Passwd). IsTellableName row.name) accounts.users
      (users-tellable passwd accounts.users (recursion_from_All (λ b. b < 256) passwd passwd_bytes) users);
  groups = All-from_recursion (λ (row : Group). IsTellableName row.name) accounts.groups
      (groups-tellable group accounts.groups (recursion_from_All (λ b. b < 256) group group_bytes) groups);
}

-- ---- findings

tellable : (file : Entry) (what : Option What) → IsTellableFile file → ((w : What) → what ≡ Some w → HasIds w) → (f : Found) → told_of file what ≡ Some f → IsTellable f
tellable file None is ids f e = absurd (cc)
tellable file (Some w) is ids f e =
    let found : Found = record { file = file; what = w } in
    let same : found ≡ f = cc in
    subst IsTellable same (record { file = is; what = ids w refl })

only : (b : Bool) (v w : What) → HasIds v → cond b (Some v) None ≡ Some w → HasIds w
only true v w ids e = let same : v ≡ w = cc in subst HasIds same ids
only false v w ids e = absurd (cc)

only-left : (b new : Bool) (v w : What) → HasIds v → cond b (cond new (Some v) None) None ≡ Some w → HasIds w
only-left true new v w ids e = only new v w ids e
only-left false new v w ids e = absurd (cc)

changed : (users groups : Bool) (there : Entry) → there.uid ≤ greatest_id → there.gid ≤ greatest_id → (w : What) → change_by users groups there ≡ Some w → HasIds w
changed true true there uid gid w e = absurd (cc)
changed true false there uid gid w e = let same : Changed None (Some there.gid) ≡ w = cc in subst HasIds same (tt, gid)
changed false true there uid gid w e = let same : Changed (Some there.uid) None ≡ w = cc in subst HasIds same (uid, tt)
changed false false there uid gid w e = let same : Changed (Some there.uid) (Some there.gid) ≡ w = cc in subst HasIds same (uid, gid)

abbrev Gives : (Entry → Option Found) → Entry → Type 0
Gives of file = (f : Found) → of file ≡ Some f → IsTellable f

module _ (renumbering : Renumbering) (before after : List Entry)
    (there : All IsTellableFile after) where
  lost-ids : (file : Entry) (found : Option Entry) → file_at after file.path ≡ found → (w : What)
      → change_at renumbering file found ≡ Some w → HasIds w
  lost-ids file None at w e = let same : Missing ≡ w = cc in subst HasIds same tt
  lost-ids file (Some other) at w e =
      let is =
      All-contains IsTellableFile after other there (file-there after file.path other at).0 in
      changed (users_agree renumbering file other) (groups_agree renumbering file other) other
      is.lawful.uid is.lawful.gid w e

  lost : All IsTellableFile before → All IsTellable (filter_map (loss renumbering after) before)
  lost all =
      given-all (loss renumbering after) IsTellable before
      (each-all IsTellableFile (Gives (loss renumbering after)) before
      (λ file is f e. tellable file (loss_of renumbering after file) is
      (lost-ids file (file_at after file.path) refl) f e) all)

  news : All IsTellable (filter_map (new_file before) after)
  news =
      given-all (new_file before) IsTellable after
      (each-all IsTellableFile (Gives (new_file before)) after
      (λ file is f e. tellable file (new_of before file) is
      (λ w. only (is_none (file_at before file.path)) New w tt) f e) there)

  bare : All IsTellable (filter_map (unnamed renumbering.after) after)
  bare =
      given-all (unnamed renumbering.after) IsTellable after
      (each-all IsTellableFile (Gives (unnamed renumbering.after)) after
      (λ file is f e.
      let user = is_none (user_at renumbering.after.users file.uid) in
      let group = is_none (group_at renumbering.after.groups file.gid) in
      tellable file (unnamed_of renumbering.after file) is
      (λ w. only (user || group) (Unnamed user group) w tt) f e) there)

  lefts : All IsTellable (filter_map (left_file renumbering before) after)
  lefts =
      given-all (left_file renumbering before) IsTellable after
      (each-all IsTellableFile (Gives (left_file renumbering before)) after
      (λ file is f e.
      let user =
      is_left (user_at renumbering.before.users file.uid)
      (user_at renumbering.after.users file.uid) in
      let group =
      is_left (group_at renumbering.before.groups file.gid)
      (group_at renumbering.after.groups file.gid) in
      let earlier = file_at before file.path in
      tellable file (left_by user group earlier) is
      (λ w. only-left (user || group) (is_none earlier) (Left user group) w tt) f e) there)

pub findings-tellable : FindingsAreTellable
unfolding findings
findings-tellable renumbering before after here there =
    let losses = filter_map (loss renumbering after) before in
    let newer = filter_map (new_file before) after in
    let nameless = filter_map (unnamed renumbering.after) after in
    let olds = filter_map (left_file renumbering before) after in
    All-append IsTellable ((losses ++ newer) ++ nameless) olds
    (All-append IsTellable (losses ++ newer) nameless
    (All-append IsTellable losses newer (lost renumbering before after there here)
    (news renumbering before after there))
    (bare renumbering before after there))
    (lefts renumbering before after there)
