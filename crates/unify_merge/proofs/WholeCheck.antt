-- What a check answers, and what it stops for.
use Rattle.std.proofs.Common.{◌≡◌, ◌++◌, ℕ, List, length, Ok, Err, sym, ap, subst, ◌∙◌, inl, inr}
use Rattle.std.specs.Prelude.{IfSome}
use Rattle.idtext.specs.First.{each}
use Rattle.certcheck.specs.Reading.{certificate_in}
use Rattle.mtree_inv.specs.declared.entry.Entry.{Entry}
use Rattle.hosts_join.specs.Site.{Joined}
use Rattle.hosts_join.specs.declared.host.Host.{Host}
use Rattle.hosts_join.specs.declared.texts.HostText.{HostText}
use Rattle.unify_texts.specs.Told.{told}
use Rattle.unify_texts.specs.declared.fault.Fault.{Fault}
use Rattle.site_tables.specs.declared.rules.SiteRules.{SiteRules}
use Rattle.unify.specs.Checking.{checked}
use Rattle.unify.specs.Count.{site_of}
use Rattle.site_tables.specs.Loading.{loaded_from}
use Rattle.site_tables.specs.Begun.{BegunSite, site_begun}
use Rattle.unify.specs.Reading.{WholeSite, site_read}
use Rattle.unify.specs.Told.{in_certificate}
use Rattle.unify_merge.specs.Check.{HasChecked, StopsCheck}
use Rattle.unify_merge.specs.FirstReading.{AreWithinLimit, IsInventoryFault, StopsCounting, WereEachRead, readings_from, with_inventories}
use Rattle.unify_merge.specs.Ledger.{Ledger}
use Rattle.unify_merge.specs.declared.fault.MergeFault.{MergeFault}
use Rattle.unify_merge.specs.declared.fault.MergeFault.TheVariants.{Refused}
use Rattle.unify_merge.proofs.Checked.{answer_of_site, cost_means}
use Rattle.unify_merge.proofs.Inventories.{read-with}
use Rattle.unify_merge.proofs.Stops.{if_told, stops_map}

-- the reading of the inventories ended early, and so did the check
pub check_counted_stopped : (texts : List HostText) (rules : SiteRules) (certificate : List ℕ) (begun : BegunSite) (hosts : List Host) (old new : Ledger) (fault : MergeFault) → site_begun texts rules ≡ Ok begun → hosts ≡ begun.hosts
    → StopsCounting hosts old new fault → StopsCheck texts rules certificate old new fault
check_counted_stopped texts rules certificate begun hosts old new fault is same stops =
    stops_map _ _ new fault (λ f found. inr (inl (begun, is, subst (λ (hs : List Host). IsInventoryFault hs old new f) same found))) stops

-- The inventories of hosts were read as these texts.
pub record IsReadSite (hosts : List HostText) (rules : SiteRules) (old new : Ledger) (joined : Joined) (texts : List (List ℕ)) (read : List (Host × List Entry)) : Type 0 where
  pub were_read : WereEachRead hosts texts old new
  pub is : site_read (with_inventories hosts texts) rules ≡ Ok (record { hosts = read; joined = joined })

pub read_site : (hosts : List HostText) (rules : SiteRules) (begun : BegunSite) (joined : Joined) (old new : Ledger) (texts : List (List ℕ)) (read : List (Host × List Entry)) → site_begun hosts rules ≡ Ok begun → joined ≡ begun.joined
    → length texts ≡ length hosts → each site_of (loaded_from begun.hosts texts) ≡ Ok read → new.read ≡ old.read ++ readings_from 0 texts → AreWithinLimit texts → IsReadSite hosts rules old new joined texts read
read_site hosts rules begun joined old new texts read is join one_each accepted readings within = record {
  were_read = record { one_each = one_each; within = within; readings = readings };
  is = read-with hosts texts rules begun read one_each is accepted ∙ ap (λ j. Ok (record { hosts = read; joined = j })) (sym join);
}

module _ (hosts : List HostText) (rules : SiteRules) (certificate : List ℕ) (old new : Ledger) (joined : Joined) (texts : List (List ℕ)) (read : List (Host × List Entry)) (site : IsReadSite hosts rules old new joined texts read) where
  abbrev pub whole : WholeSite
  whole = record { hosts = read; joined = joined }

  -- the answer is that of the counters
  pub has_checked : (cost : ℕ) → checked whole (in_certificate (certificate_in certificate)) ≡ Ok cost → HasChecked hosts rules certificate old new cost
  has_checked cost is = record {
    texts = texts;
    were_read = site.were_read;
    answer = answer_of_site (with_inventories hosts texts) rules certificate whole site.is ∙ is;
    means = cost_means (with_inventories hosts texts) rules certificate whole site.is (Ok cost) is;
  }

  -- and so is the fault
  pub check_refused : (e : Fault) → IfSome (told e) (λ f. checked whole (in_certificate (certificate_in certificate)) ≡ Err f) → StopsCheck hosts rules certificate old new (Refused e)
  check_refused e fault = if_told (told e) _ _ (λ f is. inr (inr (texts, site.were_read, answer_of_site (with_inventories hosts texts) rules certificate whole site.is ∙ is))) fault
