-- Which file of a bundle goes where, and what its command replies by these files.
-- Source: this project's own formats.
use Rattle.std.specs.Prelude.{◌≡◌, ◌≢◌, ◌↔◌, ℕ, List, [], ◌∷◌, Some, Result, Ok, Err, map, length}
use Rattle.std.specs.Prelude.{slice_get}
use Rattle.std.specs.List.{Contains, IsDistinct}
use Rattle.hosts_join.specs.declared.texts.HostText.{HostText}
use Rattle.unify_texts.specs.declared.fault.Fault.{Fault}
use Rattle.unify_texts.specs.declared.places.Place.{Place}
use Rattle.unify_texts.specs.declared.bundle_line.Command.{Command}
use Rattle.unify_texts.specs.declared.bundle_line.Command.TheVariants.{Count, Merge, MergeHosts}
use Rattle.unify_texts.specs.declared.bundle_line.Command.TheVariants.{Check, Rehearse}
use Rattle.unify_texts.specs.declared.bundle_line.FileName.{FileName}
use Rattle.unify_texts.specs.declared.bundle_line.FileName.TheVariants as file
use Rattle.unify_texts.specs.BundleLines.{same_file}
use Rattle.site_tables.specs.declared.rules.SiteRules.{SiteRules}
use Rattle.unify.specs.Checking.{check_of}
use Rattle.unify.specs.Count.{count_of}
use Rattle.unify.specs.Outcomes.{IsOutcome}
use Rattle.unify.specs.Reading.{WholeSite, site_read}
use Rattle.rehearsal.specs.Rehearsing.{IsRehearsed}
use Rattle.site_tables.specs.Survey.{surveyed}
use Rattle.unify_laws.specs.HostTexts.{AreSiteFiles}
use Rattle.unify_bundle.specs.Lines.{accepted_line, cost_lines, merge_lines, records_lines}
use Rattle.unify_bundle.specs.Lines.{site_lines}
use Rattle.unify_bundle.specs.Output.{IsReply, host_texts, rules_in}

-- ---- the texts of places

-- a place has this file, with this text
abbrev pub Has : Place → FileName → List ℕ → Type 0
Has place file text = Contains place.files (record { file = file; text = text })

-- it has no such file
abbrev pub Lacks : Place → FileName → Type 0
Lacks place file = (text : List ℕ) → Has place file text → ⊥

-- no file stands twice in it
abbrev pub HasEachOnce : Place → Type 0
HasEachOnce place = IsDistinct same_file (map (λ named. named.file) place.files)

-- the text that is taken as this file of a place: its own, or an empty one where there is no file
pub record IsTextAt (place : Place) (file : FileName) (text : List ℕ) : Type 0 where
  pub own : (its : List ℕ) → Has place file its → text ≡ its
  pub empty : Lacks place file → text ≡ []

-- where no file stands twice there is such a text for each file, and no other
pub record FilesHaveOneText : Type 0 where
  pub found : (place : Place) (file : FileName) → HasEachOnce place
      → (text : List ℕ) × IsTextAt place file text
  pub alone : (place : Place) (file : FileName) (text other : List ℕ) → IsTextAt place file text
      → IsTextAt place file other → text ≡ other

-- the texts of a host are those of its files
pub record IsHostAt (place : Place) (host : HostText) : Type 0 where
  pub name : host.name ≡ place.name
  pub passwd : IsTextAt place file.Passwd host.passwd
  pub group : IsTextAt place file.Group host.group
  pub logindefs : IsTextAt place file.LoginDefs host.logindefs
  pub mtree : IsTextAt place file.Mtree host.mtree

-- for each place there is its host, and no other
pub record AreHostsAt (places : List Place) (hosts : List HostText) : Type 0 where
  pub number : length hosts ≡ length places
  pub each : (h : ℕ) (place : Place) (host : HostText) → slice_get places h ≡ Some place
      → slice_get hosts h ≡ Some host → IsHostAt place host

-- The rules of a site are by the pins and the keep text before its hosts, the numbers without an
-- account by the same keep text.
pub record AreRulesAt (head : Place) (hosts : List HostText) (rules : SiteRules) : Type 0 where
  pub pins : IsTextAt head file.Pins rules.pins
  pub keep : IsTextAt head file.Keep rules.keep.text
  pub unowned : surveyed hosts rules.keep.text ≡ Ok rules.keep.unowned

-- the hosts of a bundle are such, where no file of a place stands twice, and so are its rules
pub record HostsHaveTheirFiles : Type 0 where
  pub number : (places : List Place) → length (host_texts places) ≡ length places
  pub each : (places : List Place) (h : ℕ) (place : Place) (host : HostText)
      → slice_get places h ≡ Some place → slice_get (host_texts places) h ≡ Some host
      → HasEachOnce place → IsHostAt place host

abbrev pub RulesHaveTheirFiles : Type 0
RulesHaveTheirFiles = (head : Place) (hosts : List Place) (rules : SiteRules)
    → rules_in (head ∷ hosts) ≡ Ok rules → HasEachOnce head
    → AreRulesAt head (host_texts hosts) rules

-- ---- what commands reply

-- the lines of what was found, or its fault
abbrev pub TellsFound : {X : Type 0} → (X → List ℕ) → Result X Fault → Result (List ℕ) Fault
    → Type 0
TellsFound lines (Ok found) reply = reply ≡ Ok (lines found)
TellsFound lines (Err f) reply = reply ≡ Err f

-- the lines of something that is right for the site that was read, or the fault of reading it
abbrev pub TellsRight : {X : Type 0} → (WholeSite → X → Type 0) → (X → List ℕ)
    → Result WholeSite Fault → Result (List ℕ) Fault → Type 0
TellsRight {X} IsRight lines (Ok site) reply =
    (right : X) × IsRight site right × (reply ≡ Ok (lines right))
TellsRight IsRight lines (Err f) reply = reply ≡ Err f

-- `run count`: what the map before the hosts costs them
abbrev pub CountsHaveTheirMap : Type 0
CountsHaveTheirMap = (head : Place) (places : List Place) (hosts : List HostText)
    (rules : SiteRules) (text : List ℕ) (reply : Result (List ℕ) Fault) → AreHostsAt places hosts
    → AreRulesAt head hosts rules → IsTextAt head file.Map text
    → IsReply Count (head ∷ places) reply
    ↔ TellsFound cost_lines (count_of hosts rules.keep text) reply

-- `run check`: what the certificate before the hosts proves of them
abbrev pub ChecksHaveTheirCertificate : Type 0
ChecksHaveTheirCertificate = (head : Place) (places : List Place) (hosts : List HostText)
    (rules : SiteRules) (text : List ℕ) (reply : Result (List ℕ) Fault) → AreHostsAt places hosts
    → AreRulesAt head hosts rules → IsTextAt head file.Certificate text
    → IsReply Check (head ∷ places) reply
    ↔ TellsFound accepted_line (check_of hosts rules text) reply

-- `run merge`: a right outcome for the hosts; `run merge hosts`: that with the own files of each
abbrev pub MergesHaveTheirHosts : Type 0
MergesHaveTheirHosts = (head : Place) (places : List Place) (hosts : List HostText)
    (rules : SiteRules) (reply : Result (List ℕ) Fault) → AreHostsAt places hosts
    → AreRulesAt head hosts rules
    → (IsReply Merge (head ∷ places) reply
    ↔ TellsRight IsOutcome (merge_lines hosts) (site_read hosts rules) reply)
    × (IsReply MergeHosts (head ∷ places) reply
    ↔ TellsRight (AreSiteFiles hosts) (site_lines hosts) (site_read hosts rules) reply)

-- where the numbers without an account are not found, each of these four replies why
abbrev pub SurveysRefuse : Type 0
SurveysRefuse = (command : Command) (head : Place) (places : List Place) (hosts : List HostText)
    (keep : List ℕ) (f : Fault) (reply : Result (List ℕ) Fault) → command ≢ Rehearse
    → AreHostsAt places hosts → IsTextAt head file.Keep keep → surveyed hosts keep ≡ Err f
    → IsReply command (head ∷ places) reply ↔ (reply ≡ Err f)

-- `run rehearse`: the plan, carried out on the inventory beside it
abbrev pub RehearsalsHaveTheirFiles : Type 0
RehearsalsHaveTheirFiles = (head : Place) (places : List Place) (plan mtree : List ℕ)
    (reply : Result (List ℕ) Fault) → IsTextAt head file.Plan plan
    → IsTextAt head file.Mtree mtree
    → IsReply Rehearse (head ∷ places) reply
    ↔ ((found : Result ℕ Fault) × IsRehearsed plan mtree found
    × TellsFound records_lines found reply)
