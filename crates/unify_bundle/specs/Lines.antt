-- The lines that tell what a command answered.
-- Source: this project's own formats.
use Rattle.std.specs.Prelude.{ℕ, List, [], ◌∷◌, ◌++◌, codes, decimal, flat_map}
use Rattle.idtext.specs.Pieces.{lines}
use Rattle.hosts_join.specs.declared.texts.HostText.{HostText}
use Rattle.unify.specs.declared.counting.Cost.{Cost}
use Rattle.unify.specs.declared.outcome.Outcome.{Outcome}
use Rattle.unify.specs.declared.site_files.NamedText.{NamedText}
use Rattle.unify.specs.declared.site_files.SiteFiles.{SiteFiles}
use Rattle.unify_merge.specs.Merge.{account_files}
use Rattle.unify_merge.specs.SecondReading.{plan_files}

abbrev pub cost_lines : Cost → List ℕ
cost_lines cost =
    codes "user-fields " ++ decimal cost.users ++ codes "\ngroup-fields " ++ decimal cost.groups
    ++ 10 ∷ []

-- a certificate that is accepted, with its cost
abbrev pub accepted_line : ℕ → List ℕ
accepted_line cost = codes "accepted " ++ decimal cost ++ 10 ∷ []

-- a plan that was carried out, with the number of its records
abbrev pub records_lines : ℕ → List ℕ
records_lines n = codes "records " ++ decimal n ++ codes "\ndone\n"

-- a line of a file in a bundle
abbrev pub barred : List ℕ → List ℕ
barred line = 124 ∷ line ++ 10 ∷ []

-- a file as a bundle has it: its name, and each line of its text after a bar
abbrev pub file_lines : List ℕ → List ℕ → List ℕ
file_lines name text = codes "file " ++ name ++ 10 ∷ flat_map barred (lines text)

-- files after one another
abbrev pub named_lines : List NamedText → List ℕ
named_lines files = flat_map (λ file. file_lines file.name file.text) files

-- what a merge writes for the whole site, and the plans after that
abbrev pub merge_lines : List HostText → Outcome → List ℕ
merge_lines hosts outcome =
    named_lines (account_files outcome) ++ file_lines (codes "map") outcome.map
    ++ file_lines (codes "certificate") outcome.certificate
    ++ file_lines (codes "report") outcome.report
    ++ named_lines (plan_files hosts outcome.plans)

-- what a merge writes with each host's own files: these after all others
abbrev pub site_lines : List HostText → SiteFiles → List ℕ
site_lines hosts files = merge_lines hosts files.outcome ++ named_lines files.own.items
