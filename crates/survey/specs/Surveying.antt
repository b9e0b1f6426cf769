-- What a survey of the files of a host stands for.
-- Source: this project's own rule.
use Rattle.std.specs.Prelude.{◌≡◌, ℕ, false, List, [], None, nat_eq}
use Rattle.std.specs.BTreeSet.{contains}
use Rattle.std.specs.List.{list_any}
use Rattle.std.specs.Ordering.{nat_cmp}
use Rattle.mtree_inv.specs.Standing as reader
use Rattle.mtree_inv.specs.declared.entry.Entry.{Entry}
use Rattle.hosts_join.specs.declared.host.Host.{Host}
use Rattle.survey.specs.Unowned.{unowned_uids, unowned_gids}
use Rattle.survey.specs.declared.host_survey.HostSurvey.{HostSurvey}
use Rattle.survey.specs.declared.noting.NotedNumbers.{NotedNumbers}
use Rattle.survey.specs.declared.number_set.NumberSet.{NumberSet}

-- the set has these numbers, in this order, and finds them and no others
pub record HasNumbers (numbers : List ℕ) (set : NumberSet) : Type 0 where
  pub listed : set.numbers.items ≡ numbers
  pub found : (number : ℕ) → contains nat_cmp set.found number ≡ list_any (nat_eq number) numbers

-- these are the numbers that files of the host have, and no account of it
pub record AreOf (host : Host) (files : List Entry) (noted : NotedNumbers) : Type 0 where
  pub users : HasNumbers (unowned_uids host files) noted.users
  pub groups : HasNumbers (unowned_gids host files) noted.groups

-- the survey has the numbers of these files
abbrev pub HasNumbersOf : Host → List Entry → HostSurvey → Type 0
HasNumbersOf host files survey = AreOf host files survey.noted

-- Of the inventory of the host this text has come, in which there is no fault so far; most: the
-- most files that are taken.
pub record StandsFor (most : ℕ) (host : Host) (survey : HostSurvey) (text : List ℕ) : Type 0 where
  pub reading : reader.StandsFor survey.reader text
  pub takes : survey.reader.most ≡ most
  pub going : survey.reader.is_finished ≡ false
  pub sound : survey.reader.fault ≡ None
  pub waiting : survey.reader.waiting ≡ []
  pub numbers : HasNumbersOf host survey.reader.files survey
