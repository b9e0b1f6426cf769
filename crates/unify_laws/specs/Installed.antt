-- What the merged passwd and group that a merge prints say, once they are installed.
-- Source: passwd(5) and group(5); the sentence is this project's own.
use Rattle.std.specs.Prelude.{◌≡◌, ◌↔◌, ℕ, List, Some, All}
use Rattle.hosts_join.specs.Kinds.{user_at, group_at}
use Rattle.hosts_join.specs.Pairs.{number_of}
use Rattle.ownership.specs.declared.mapping.Mappings.{Mappings}
use Rattle.mergedfiles.specs.InPart.{IsMergedPasswdInPart}
use Rattle.mergedfiles.specs.ReadBack.{IsMergedPasswd, IsMergedGroupFile, WasRead}
use Rattle.unify_texts.specs.declared.map_text.MapText.{MapText}
use Rattle.unify.specs.declared.outcome.Outcome.{Outcome}
use Rattle.unify.specs.Outcomes.{hosts_in}
use Rattle.unify.specs.Reading.{WholeSite}

-- The merged passwd and group have exactly one row for each name, with the number that the mappings
-- give it, and say exactly the map's pairs: they name a number as a user, or as a group, where the
-- map gives this name this number, and nowhere else. Where all rows of the hosts were joined, each
-- gid of passwd is the new number of the user's primary group.
-- map: the printed map, as it is read
pub record AreInstalled (site : WholeSite) (outcome : Outcome) (m : Mappings) (map : MapText) : Type
    0 where
  pub passwd : IsMergedPasswdInPart (hosts_in site) site.joined m outcome.passwd
  pub passwd_in_full : All WasRead (hosts_in site)
      → IsMergedPasswd (hosts_in site) site.joined m outcome.passwd
  pub group : IsMergedGroupFile (hosts_in site) site.joined m outcome.group
  pub users_agree : (name : List ℕ) (uid : ℕ) → (user_at passwd.rows uid ≡ Some name)
      ↔ (number_of map.users name ≡ Some uid)
  pub groups_agree : (name : List ℕ) (gid : ℕ) → (group_at group.rows gid ≡ Some name)
      ↔ (number_of map.groups name ≡ Some gid)
