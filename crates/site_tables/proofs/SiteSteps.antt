-- What comes before the inventories of a site, step by step.
use Rattle.std.proofs.Common.{◌≡◌, List, map, Result, Ok, Err, refl, sym, ap, subst, ◌∙◌}
use Rattle.std.specs.List.{All}
use Rattle.std.proofs.lemmas.List.Elements.{All-map}
use Rattle.idtext.specs.First.{◌>>=◌}
use Rattle.idtext.proofs.OkLemmas.{ok_same}
use Rattle.hosts_join.specs.Checks.{hosts_checked}
use Rattle.hosts_join.specs.Hosts.{IsLawfulHost}
use Rattle.hosts_join.specs.PinPairs.{PinPairs}
use Rattle.hosts_join.specs.Site.{Joined, joined_site}
use Rattle.hosts_join.proofs.Knowing.{site-is}
use Rattle.mergedfiles.specs.Together.{AreJoined}
use Rattle.hosts_join.specs.declared.fault.SiteFault.{SiteFault}
use Rattle.hosts_join.specs.declared.host.Host.{Host}
use Rattle.hosts_join.specs.declared.texts.HostText.{HostText}
use Rattle.unify_texts.specs.declared.fault.Fault.{Fault}
use Rattle.site_tables.specs.declared.host.Loaded.{Loaded}
use Rattle.site_tables.specs.declared.rules.SiteRules.{SiteRules}
use Rattle.site_tables.specs.Others.{Others, others_loaded, pinned_site}
use Rattle.site_tables.specs.Begun.{BegunSite, site_begun}
use Rattle.site_tables.specs.Told.{in_site}

pub site_ok : {A : Type 0} (r : Result A SiteFault) (x : A) → in_site r ≡ Ok x → r ≡ Ok x
site_ok (Ok y) x h = ap (λ z. Ok z) (ok_same y x h)
site_ok (Err e) x h = absurd (cc)

module _ (texts : List HostText) (rules : SiteRules) where
  pub list_refused : (f : Fault) → in_site (hosts_checked texts) ≡ Err f → site_begun texts rules ≡ Err f
  unfolding site_begun
  list_refused f l = rw l refl

  module _ (listed : Unit {0}) (l : in_site (hosts_checked texts) ≡ Ok listed) where
    pub others_refused : (f : Fault) → others_loaded texts rules.keep ≡ Err f → site_begun texts rules ≡ Err f
    unfolding site_begun
    others_refused f o = rw (l, o) refl

    module _ (others : Others) (o : others_loaded texts rules.keep ≡ Ok others) where
      abbrev begun_with : Result Joined Fault → Result BegunSite Fault
      begun_with joining = joining >>= λ joined. Ok (record { hosts = others.hosts; joined = joined })

      begun_steps : site_begun texts rules ≡ begun_with (pinned_site others rules.pins)
      unfolding site_begun
      begun_steps = rw (l, o) refl

      pub join_refused : (f : Fault) → pinned_site others rules.pins ≡ Err f → site_begun texts rules ≡ Err f
      join_refused f j = begun_steps ∙ ap begun_with j

      pub begun_is : (joined : Joined) → pinned_site others rules.pins ≡ Ok joined → site_begun texts rules ≡ Ok (record { hosts = others.hosts; joined = joined })
      begun_is joined j = begun_steps ∙ ap begun_with j

-- the hosts that were loaded are lawful
pub all_lawful : (loaded : List Loaded) (hosts : List Host) → hosts ≡ map (λ l. l.host) loaded → All (λ l. IsLawfulHost l.host) loaded → All IsLawfulHost hosts
all_lawful loaded hosts same lawful = subst (λ hs. All IsLawfulHost hs) (sym same) (All-map IsLawfulHost (λ (l : Loaded). l.host) loaded lawful)

-- what was joined belongs together
pub together : (hosts : List Host) (pins : PinPairs) (site : Joined) → joined_site hosts pins ≡ Ok site → AreJoined hosts site
together hosts pins site e =
    let is = site-is hosts pins site e in
    record { pins = pins; users = sym (ap (λ (s : Joined). s.users) is); groups = sym (ap (λ (s : Joined). s.groups) is) }
