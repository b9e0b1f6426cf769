-- How a plan is spelled.
-- Source: this project's own format. That 4294967295 is no number of an owner is that of chown(2).
use Rattle.std.specs.Prelude.{◌≡◌, ◌≢◌, ◌≤◌, ℕ, List, [], ◌∷◌, ◌++◌, All, true, length, flat_map}
use Rattle.std.specs.Prelude.{codes, decimal}
use Rattle.idtext.specs.Numbers.{greatest_id}
use Rattle.hosts_join.specs.Checks.{is_host_name}
use Rattle.mtree_inv.specs.Files.{IsLawfulPath}
use Rattle.reown_plan.specs.declared.plan.Owner.{Owner}
use Rattle.reown_plan.specs.PlanData.{PlanRecord, PlanData, HaveDistinctPaths}

-- a number and the space after it
abbrev pub number : ℕ → List ℕ
number n = decimal n ++ 32 ∷ []

abbrev pub head : List ℕ → List ℕ
head host = codes "unify plan 1 " ++ host ++ 10 ∷ []

-- old and new numbers, the length of the path and the path, which may hold spaces and newlines
abbrev pub line : PlanRecord → List ℕ
line c =
    number c.before.uid ++ number c.before.gid ++ number c.after.uid ++ number c.after.gid
    ++ number (length c.path) ++ c.path ++ 10 ∷ []

abbrev pub end : List ℕ
end = codes "end\n"

abbrev pub lines : List PlanRecord → List ℕ
lines records = flat_map line records

abbrev pub spelling : PlanData → List ℕ
spelling plan = head plan.host ++ lines plan.records ++ end

abbrev pub IsHostName : List ℕ → Type 0
IsHostName name = is_host_name name ≡ true

-- the numbers of an account
abbrev pub IsOwner : Owner → Type 0
IsOwner owner = (owner.uid ≤ greatest_id) × (owner.gid ≤ greatest_id)

pub record IsLawfulRecord (c : PlanRecord) : Type 0 where
  pub before : IsOwner c.before
  pub after : IsOwner c.after
  pub differ : c.before ≢ c.after
  pub path : IsLawfulPath c.path

pub record IsLawful (plan : PlanData) : Type 0 where
  pub host : IsHostName plan.host
  pub records : All IsLawfulRecord plan.records
  pub distinct : HaveDistinctPaths plan.records

-- where a text is no plan: there begins the first header, record or end that is not lawful
pub data IsFaultAt (text : List ℕ) : ℕ → Type 0 where
  no_head : ((host rest : List ℕ) → IsHostName host → text ≢ head host ++ rest) → IsFaultAt text 0
  -- after a lawful header and lawful records stands no record of another path, and no end
  no_record : (host : List ℕ) (records : List PlanRecord) (rest : List ℕ) → IsHostName host
      → All IsLawfulRecord records → HaveDistinctPaths records
      → text ≡ head host ++ lines records ++ rest
      → ((c : PlanRecord) (after : List ℕ) → IsLawfulRecord c → All (λ d. d.path ≢ c.path) records
      → rest ≢ line c ++ after)
      → ((after : List ℕ) → rest ≢ end ++ after)
      → IsFaultAt text (length (head host ++ lines records))
  -- something stands after the end
  trailing : (plan : PlanData) (rest : List ℕ) → IsLawful plan → text ≡ spelling plan ++ rest
      → rest ≢ [] → IsFaultAt text (length (spelling plan))
