-- What a bundle is answered with: the bytes that go out, and the status.
-- Source: this project's own formats.
use Rattle.std.specs.Prelude.{ℕ, Bool, true, false, ◌<◌, ◌≤◌, ◌≡◌, MatchBool, List, [], ◌∷◌, Option}
use Rattle.std.specs.Prelude.{Result, Ok, Err, codes, if◌then◌else◌, ◌==◌, map, drop, length, ◌⊎◌}
use Rattle.std.specs.Prelude.{IfSome}
use Rattle.std.specs.Io.KnownBytes.{Appends, Consumes}
use Rattle.idtext.specs.First.{◌>>=◌}
use Rattle.hosts_join.specs.declared.texts.HostText.{HostText}
use Rattle.unify_texts.specs.declared.fault.Fault.{Fault}
use Rattle.unify_texts.specs.declared.fault.Fault.TheVariants as fault
use Rattle.unify_texts.specs.declared.bundle.Bundle.{Bundle}
use Rattle.unify_texts.specs.declared.places.Place.{Place}
use Rattle.unify_texts.specs.declared.places.NamedFile.{NamedFile}
use Rattle.unify_texts.specs.declared.bundle_line.FileName.{FileName}
use Rattle.unify_texts.specs.declared.bundle_line.FileName.TheVariants as file
use Rattle.unify_texts.specs.declared.bundle_line.Command.TheVariants.{Count, Merge, MergeHosts}
use Rattle.unify_texts.specs.declared.bundle_line.Command.TheVariants.{Check, Rehearse}
use Rattle.unify_texts.specs.declared.bundle_line.Command.{Command}
use Rattle.unify_texts.specs.BundleLines.{file_index}
use Rattle.unify_texts.specs.Bundles.{bundle_of}
use Rattle.unify_texts.specs.Codes.{code_of, status_of}
use Rattle.unify_texts.specs.Faults.{fault_line}
use Rattle.unify.specs.declared.outcome.Outcome.{Outcome}
use Rattle.site_tables.specs.declared.rules.KeepRules.{KeepRules}
use Rattle.site_tables.specs.declared.rules.SiteRules.{SiteRules}
use Rattle.unify.specs.declared.site_files.SiteFiles.{SiteFiles}
use Rattle.unify_bundle.specs.declared.input.ReadFault.{ReadFault}
use Rattle.unify_bundle.specs.declared.input.ReadFault.TheVariants.{Read, Memory}
use Rattle.unify.specs.Checking.{check_of}
use Rattle.unify.specs.Count.{count_of}
use Rattle.unify_bundle.specs.Lines.{cost_lines, accepted_line, records_lines, merge_lines}
use Rattle.unify_bundle.specs.Lines.{site_lines}
use Rattle.unify.specs.Outcomes.{IsOutcome}
use Rattle.unify.specs.Reading.{WholeSite, site_read}
use Rattle.rehearsal.specs.Rehearsing.{IsRehearsed}
use Rattle.site_tables.specs.Rules.{rules_by}
use Rattle.site_tables.specs.Survey.{surveyed}
use Rattle.unify_laws.specs.HostTexts.{AreSiteFiles}

-- the text of a file, empty where there is none
abbrev pub text_in : List NamedFile → FileName → List ℕ
text_in [] file = []
text_in (named ∷ files) file =
    if file_index named.file == file_index file then named.text else text_in files file

-- the texts of a host
abbrev pub host_text : Place → HostText
host_text place = record {
  name = place.name;
  passwd = text_in place.files file.Passwd;
  group = text_in place.files file.Group;
  logindefs = text_in place.files file.LoginDefs;
  mtree = text_in place.files file.Mtree;
}

abbrev pub host_texts : List Place → List HostText
host_texts places = map host_text places

-- the files before the first host
abbrev pub files_before_hosts : List Place → List NamedFile
files_before_hosts [] = []
files_before_hosts (place ∷ places) = place.files

-- rules by these texts, with the numbers that the files of the hosts have without an account, where
-- the keep text keeps them
abbrev pub rules_for : List HostText → List ℕ → List ℕ → Result SiteRules Fault
rules_for hosts pins keep = surveyed hosts keep >>= λ unowned. Ok (rules_by pins keep unowned)

-- what the site of a bundle goes by
abbrev pub rules_in : List Place → Result SiteRules Fault
rules_in places =
    rules_for (host_texts (drop 1 places)) (text_in (files_before_hosts places) file.Pins)
    (text_in (files_before_hosts places) file.Keep)

abbrev pub counted : List HostText → KeepRules → List ℕ → Result (List ℕ) Fault
counted hosts keep map = count_of hosts keep map >>= λ cost. Ok (cost_lines cost)

abbrev pub count_lines : List Place → Result (List ℕ) Fault
count_lines places =
    rules_in places >>= λ rules.
    counted (host_texts (drop 1 places)) rules.keep (text_in (files_before_hosts places) file.Map)

abbrev pub checked : List HostText → SiteRules → List ℕ → Result (List ℕ) Fault
checked hosts rules certificate =
    check_of hosts rules certificate >>= λ cost. Ok (accepted_line cost)

abbrev pub check_lines : List Place → Result (List ℕ) Fault
check_lines places =
    rules_in places >>= λ rules.
    checked (host_texts (drop 1 places)) rules
    (text_in (files_before_hosts places) file.Certificate)

-- what a command answers by rules, or the fault where there are none
abbrev pub IsToldBy : (SiteRules → Result (List ℕ) Fault → Type 0) → Result SiteRules Fault
    → Result (List ℕ) Fault → Type 0
IsToldBy tells (Ok rules) reply = tells rules reply
IsToldBy tells (Err f) reply = reply ≡ Err f

-- the lines of some outcome that is right for the site, or its first fault
abbrev pub IsMergeTold : List HostText → SiteRules → Result (List ℕ) Fault → Type 0
IsMergeTold hosts rules (Ok text) =
    (site : WholeSite) × (site_read hosts rules ≡ Ok site) × (outcome : Outcome)
    × IsOutcome site outcome × (text ≡ merge_lines hosts outcome)
IsMergeTold hosts rules (Err f) = site_read hosts rules ≡ Err f

abbrev pub IsMergeReply : List Place → Result (List ℕ) Fault → Type 0
IsMergeReply places reply =
    IsToldBy (IsMergeTold (host_texts (drop 1 places))) (rules_in places) reply

-- the same with each host's own files, by the map of the outcome and with what they guarantee
abbrev pub IsMergeWithHostsTold : List HostText → SiteRules → Result (List ℕ) Fault → Type 0
IsMergeWithHostsTold hosts rules (Ok text) =
    (site : WholeSite) × (site_read hosts rules ≡ Ok site) × (files : SiteFiles)
    × AreSiteFiles hosts site files × (text ≡ site_lines hosts files)
IsMergeWithHostsTold hosts rules (Err f) = site_read hosts rules ≡ Err f

abbrev pub IsMergeWithHostsReply : List Place → Result (List ℕ) Fault → Type 0
IsMergeWithHostsReply places reply =
    IsToldBy (IsMergeWithHostsTold (host_texts (drop 1 places))) (rules_in places) reply

-- the lines of a rehearsal, or its first fault
abbrev pub IsRehearsalTold : List ℕ → List ℕ → Result (List ℕ) Fault → Type 0
IsRehearsalTold plan mtree reply =
    (answer : Result ℕ Fault) × IsRehearsed plan mtree answer
    × (reply ≡ (answer >>= λ n. Ok (records_lines n)))

abbrev pub IsRehearseReply : List Place → Result (List ℕ) Fault → Type 0
IsRehearseReply places reply =
    IsRehearsalTold (text_in (files_before_hosts places) file.Plan)
    (text_in (files_before_hosts places) file.Mtree) reply

-- the bytes and the status of an answer
pub record Answer : Type 0 where
  pub text : List ℕ
  pub status : ℕ

abbrev pub answered : Result (List ℕ) Fault → Answer
answered (Ok text) = record { text = text; status = 0 }
answered (Err f) = record { text = fault_line f; status = status_of (code_of f) }

-- What a command with its files may be answered with: lines, or the first fault. It is a relation,
-- since a merge may have several right answers.
abbrev pub IsReply : Command → List Place → Result (List ℕ) Fault → Type 0
IsReply Count places reply = reply ≡ count_lines places
IsReply Merge places reply = IsMergeReply places reply
IsReply MergeHosts places reply = IsMergeWithHostsReply places reply
IsReply Check places reply = reply ≡ check_lines places
IsReply Rehearse places reply = IsRehearseReply places reply

-- a bundle that is none is answered with its first bad line
abbrev pub IsReplyTo : Result Bundle Fault → Result (List ℕ) Fault → Type 0
IsReplyTo (Ok bundle) reply = IsReply bundle.command bundle.places reply
IsReplyTo (Err f) reply = reply ≡ Err f

-- the answer is that of such a reply
abbrev pub Answers : (Result (List ℕ) Fault → Type 0) → Answer → Type 0
Answers IsRight answer = (reply : Result (List ℕ) Fault) × IsRight reply × (answer ≡ answered reply)

-- what may go out for a bundle
unfoldable pub IsOutput : List ℕ → Answer → Type 0
IsOutput input answer = Answers (IsReplyTo (bundle_of input)) answer

abbrev pub read_failed : Answer
read_failed = record { text = codes "unify: read\n"; status = 3 }

abbrev pub memory_refused : Answer
memory_refused = answered (Err fault.Memory)

-- how many bytes a bundle may have
abbrev pub most_bundle_bytes : ℕ
most_bundle_bytes = 268435456

-- why the input was not read: a read failed, or there is too much
abbrev pub IsReadTold : Option (List ℕ) → Bool → ReadFault → Type 0
IsReadTold left failed Read =
    (failed ≡ true) ⊎ IfSome left (λ input. most_bundle_bytes < length input)
IsReadTold left failed Memory = Unit {0}

-- What may be told where these bytes were left to read: what goes out for a bundle, where no read
-- failed and the bytes are few enough; that the read failed, where a read failed or there are too
-- many; or that a growth was refused.
-- failed: whether a read has failed
abbrev pub IsTold : List ℕ → Bool → Answer → Type 0
IsTold input failed answer =
    ((failed ≡ false) × (length input ≤ most_bundle_bytes) × IsOutput input answer)
    ⊎ (((answer ≡ read_failed) × ((failed ≡ true) ⊎ (most_bundle_bytes < length input)))
    ⊎ (answer ≡ memory_refused))

-- What stands in the writer after the call, and with which status, where no call on the reader or
-- the writer had failed before. There are bytes, those that were left to read where these are
-- known: after a failed write the status is 3, and nothing is said of how much went out; else what
-- was told of the bytes stands after what was there, and the status is its own.
abbrev pub Tells : Option (List ℕ) → Bool → Option (List ℕ) → Option (List ℕ) → Bool → ℕ → Type 0
Tells left read_failed old new write_failed status =
    (input : List ℕ) × IfSome left (λ known. known ≡ input)
    × MatchBool write_failed (status ≡ 3)
    ((answer : Answer) × IsTold input read_failed answer × (status ≡ answer.status)
    × Appends old new answer.text)

-- at most so many bytes were taken
abbrev pub TakesAtMost : ℕ → Option (List ℕ) → Option (List ℕ) → Type 0
TakesAtMost most old new = (bytes : List ℕ) × Consumes old new bytes × (length bytes ≤ most)
