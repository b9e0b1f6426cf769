-- What goes out for a command, read line by line.
-- Source: this project's own formats.
use Rattle.std.specs.Prelude.{◌≡◌, ◌≢◌, ℕ, ◌<◌, ◌^◌, true, List, [], ◌∷◌, ◌++◌, length, map, drop}
use Rattle.std.specs.Prelude.{codes, Some, All, if◌then◌else◌, ◌||◌}
use Rattle.idtext.specs.Pieces.{begins_with, lines as lines_of}
use Rattle.hosts_join.specs.Checks.{is_host_name}
use Rattle.hosts_join.specs.declared.texts.HostText.{HostText}
use Rattle.unify_texts.specs.ReportBack.{number_told}
use Rattle.unify.specs.declared.counting.Cost.{Cost}
use Rattle.unify.specs.declared.outcome.Outcome.{Outcome}
use Rattle.unify.specs.declared.site_files.NamedText.{NamedText}
use Rattle.unify.specs.declared.site_files.SiteFiles.{SiteFiles}
use Rattle.unify_merge.specs.Merge.{account_files}
use Rattle.unify_merge.specs.SecondReading.{plan_files}
use Rattle.unify_bundle.specs.Lines.{cost_lines, accepted_line, records_lines, merge_lines}
use Rattle.unify_bundle.specs.Lines.{site_lines}

-- ---- numbers

-- each kind of fields has its number after its words, in a line of its own
pub record TellsCost (text : List ℕ) (cost : Cost) : Type 0 where
  pub users : number_told text (codes "user-fields") (codes "user-fields") ≡ Some cost.users
  pub groups : number_told text (codes "group-fields") (codes "group-fields") ≡ Some cost.groups
  pub two : length (lines_of text) ≡ 2

abbrev pub CostsAreRead : Type 0
CostsAreRead =
    (cost : Cost) → cost.users < 2 ^ 64 → cost.groups < 2 ^ 64 → TellsCost (cost_lines cost) cost

abbrev pub AcceptedIsRead : Type 0
AcceptedIsRead = (cost : ℕ) → cost < 2 ^ 64
    → (number_told (accepted_line cost) (codes "accepted") (codes "accepted") ≡ Some cost)
    × (length (lines_of (accepted_line cost)) ≡ 1)

-- a line with the number of records, and one that says `done`
abbrev pub RecordsAreRead : Type 0
RecordsAreRead = (n : ℕ) → n < 2 ^ 64
    → (number_told (records_lines n) (codes "records") (codes "records") ≡ Some n)
    × (drop 1 (lines_of (records_lines n)) ≡ codes "done" ∷ [])

-- the lines of some numbers, byte by byte
pub record NumbersByExample : Type 0 where
  pub costs : cost_lines (record { users = 3; groups = 20 })
      ≡ codes "user-fields 3\ngroup-fields 20\n"
  pub accepted : accepted_line 1207 ≡ codes "accepted 1207\n"
  pub records : records_lines 45 ≡ codes "records 45\ndone\n"

-- ---- files

-- a file of an answer: its name, and the lines of its text
pub record FileLines : Type 0 where
  pub name : List ℕ
  pub lines : List (List ℕ)

abbrev pub in_lines : NamedText → FileLines
in_lines file = record { name = file.name; lines = lines_of file.text }

-- what lines say, read from the last one on: the files, and before them lines of which none has
-- told the file as yet
pub record Said : Type 0 where
  pub barred : List (List ℕ)
  pub files : List FileLines

-- `file NAME` tells the file of the lines after it, of which each has a bar in front
abbrev pub with_line : List ℕ → Said → Said
with_line line said =
    if begins_with (codes "file ") line
    then record {
      barred = [];
      files = record { name = drop 5 line; lines = said.barred } ∷ said.files;
    }
    else record said { barred = drop 1 line ∷ said.barred }

abbrev pub said_by : List (List ℕ) → Said
said_by [] = record { barred = []; files = [] }
said_by (line ∷ lines) = with_line line (said_by lines)

-- the files that an answer has
abbrev pub files_told : List ℕ → List FileLines
files_told text = (said_by (lines_of text)).files

-- passwd and group, unless a name is kept, map, certificate, report, and the plans
abbrev pub whole_files : List HostText → Outcome → List NamedText
whole_files hosts outcome =
    account_files outcome
    ++ (record { name = codes "map"; text = outcome.map }
    ∷ record { name = codes "certificate"; text = outcome.certificate }
    ∷ record { name = codes "report"; text = outcome.report } ∷ plan_files hosts outcome.plans)

-- where the names of hosts are lawful
abbrev pub HaveHostNames : List HostText → Type 0
HaveHostNames hosts = All (λ (host : HostText). is_host_name host.name ≡ true) hosts

-- the files of a merge, each by its name, and with the same lines
abbrev pub MergesAreRead : Type 0
MergesAreRead = (hosts : List HostText) (outcome : Outcome) → HaveHostNames hosts
    → files_told (merge_lines hosts outcome) ≡ map in_lines (whole_files hosts outcome)

-- the same, and after them the own files of each host, of whose names each is of one line
abbrev pub MergesWithHostsAreRead : Type 0
MergesWithHostsAreRead = (hosts : List HostText) (files : SiteFiles) → HaveHostNames hosts
    → All (λ (file : NamedText). All (λ b. b ≢ 10) file.name) files.own.items
    → files_told (site_lines hosts files)
    ≡ map in_lines (whole_files hosts files.outcome ++ files.own.items)

-- a line that names a file, or one of its text, which has a bar in front
abbrev pub IsFileLine : List ℕ → Type 0
IsFileLine line = (begins_with (codes "file ") line || begins_with (codes "|") line) ≡ true

-- all lines are such lines, and the first names a file
pub record IsOfFiles (text : List ℕ) : Type 0 where
  pub first : begins_with (codes "file ") text ≡ true
  pub lines : All IsFileLine (lines_of text)

-- so is what a merge answers, also with the own files of each host
abbrev pub MergesAreOfFiles : Type 0
MergesAreOfFiles =
    (hosts : List HostText) (files : SiteFiles) → HaveHostNames hosts
    → All (λ (file : NamedText). All (λ b. b ≢ 10) file.name) files.own.items
    → IsOfFiles (merge_lines hosts files.outcome) × IsOfFiles (site_lines hosts files)
