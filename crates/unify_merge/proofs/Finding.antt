-- A survey of the inventories of hosts, as a command has it made.
use Rattle.std.proofs.Common.{◌≡◌, ℕ, List, Ok, sym, ap, ◌∙◌, inr}
use Rattle.idtext.specs.First.{◌>>=◌}
use Rattle.mtree_inv.specs.declared.entry.Entry.{Entry}
use Rattle.hosts_join.specs.declared.host.Host.{Host}
use Rattle.hosts_join.specs.declared.texts.HostText.{HostText}
use Rattle.kept_accounts.specs.Reserving.{UnownedNumbers, no_numbers}
use Rattle.site_tables.specs.Others.{keep_read}
use Rattle.site_tables.specs.Survey.{surveyed_hosts, unowned_over}
use Rattle.unify_merge.specs.FirstReading.{ReadsOnly}
use Rattle.unify_merge.specs.Ledger.{Ledger}
use Rattle.unify_merge.specs.Survey.{HasSurveyed, StopsSurvey}
use Rattle.unify_merge.specs.Surveyed.{StopsFinding, WereFound}
use Rattle.unify_merge.specs.declared.fault.MergeFault.{MergeFault}
use Rattle.unify_merge.proofs.Stops.{stops_map}

-- ---- the survey

module _ (hosts : List HostText) (keep : List ℕ) (surveying : List Host) (are : surveyed_hosts hosts (keep_read keep) ≡ Ok surveying) (old new : Ledger) where
  pub were_found : (unowned : UnownedNumbers) → HasSurveyed surveying old new unowned → ReadsOnly old new → WereFound hosts keep old new unowned
  were_found unowned has reads = record {
    surveying = surveying;
    surveying_are = are;
    texts = has.texts;
    one_each = has.one_each;
    within = has.within;
    found = ap (λ r. r >>= λ (listed : List (Host × List Entry)). Ok (unowned_over no_numbers listed)) has.are_listed ∙ ap (λ u. Ok u) (sym has.numbers);
    readings = has.readings;
    reads = reads;
  }

  pub finding_stopped : (fault : MergeFault) → StopsSurvey surveying old new fault → StopsFinding hosts keep old new fault
  finding_stopped fault = stops_map _ _ new fault (λ f refused. inr (surveying, are, refused))
