-- The files of a merge, in the order in which they were written.
-- Words of the code and not of the subject: only private contracts, views and invariants cite them.
use Rattle.std.specs.Prelude.{◌≡◌, ℕ, Bool, List, [], ◌∷◌, ◌++◌, length, map, if◌then◌else◌}
use Rattle.unify.specs.declared.site_files.NamedText.{NamedText}

-- after those of the whole site, among which are passwd and group unless a name is kept, stand the
-- plan of each host, the own files of hosts, and the report
pub record ArePartedFor (keeps : Bool) (hosts : ℕ) (files : List NamedText)
    (plans : List (List ℕ)) (own : List NamedText) : Type 0 where
  pub first : List NamedText
  pub first_are : length first ≡ (if keeps then 2 else 4)
  pub planned : List NamedText
  pub a_plan_each : length planned ≡ hosts
  pub plans_are : map (λ file. file.text) planned ≡ plans
  pub report : NamedText
  pub files_are : files ≡ first ++ (planned ++ (own ++ report ∷ []))
