-- The tables of a site and then its inventories are the site.
use Rattle.std.proofs.Common.{◌≡◌, List, map, Result, Ok, Err, refl, ap, ◌∙◌}
use Rattle.idtext.specs.First.{◌>>=◌, each}
use Rattle.mtree_inv.specs.declared.entry.Entry.{Entry}
use Rattle.hosts_join.specs.Checks.{hosts_checked}
use Rattle.hosts_join.specs.declared.host.Host.{Host}
use Rattle.hosts_join.specs.declared.texts.HostText.{HostText}
use Rattle.unify_texts.specs.declared.fault.Fault.{Fault}
use Rattle.site_tables.specs.declared.rules.SiteRules.{SiteRules}
use Rattle.unify.specs.Count.{site_of}
use Rattle.site_tables.specs.Loading.{loaded_from}
use Rattle.site_tables.specs.Others.{others_loaded, pinned_site}
use Rattle.site_tables.specs.Begun.{BegunSite, site_begun}
use Rattle.unify.specs.Reading.{WholeSite, site_read}
use Rattle.site_tables.specs.Told.{in_site}
use Rattle.unify_laws.specs.Laws.{PassesReadTheSite}

-- a step before two steps, and before what goes on after the one of them
pub first-step : {A B C F : Type 0} (r : Result A F) (whole : A → Result C F) (begun : A → Result B F) (rest : B → Result C F) → ((x : A) → r ≡ Ok x → whole x ≡ (begun x >>= rest)) → (r >>= whole) ≡ ((r >>= begun) >>= rest)
first-step (Ok x) whole begun rest h = h x refl
first-step (Err e) whole begun rest h = refl

-- what the inventories say
abbrev inventories : List HostText → BegunSite → Result WholeSite Fault
inventories texts begun = each site_of (loaded_from begun.hosts (map (λ t. t.mtree) texts)) >>= λ hosts. Ok (record { hosts = hosts; joined = begun.joined })

pub passes_read_the_site : PassesReadTheSite
unfolding site_read site_begun
passes_read_the_site texts rules =
    first-step (in_site (hosts_checked texts)) _ _ (inventories texts)
    (λ listed l. first-step (others_loaded texts rules.keep) _ _ (inventories texts)
    (λ others o. first-step (pinned_site others rules.pins) _ _ (inventories texts)
    (λ joined j. refl)))

-- ---- what a site reads as, from what comes before the inventories

pub begun_refused : (texts : List HostText) (rules : SiteRules) (f : Fault) → site_begun texts rules ≡ Err f → site_read texts rules ≡ Err f
begun_refused texts rules f h = passes_read_the_site texts rules ∙ ap (λ r. r >>= inventories texts) h

pub inventories_refused : (texts : List HostText) (rules : SiteRules) (begun : BegunSite) (f : Fault) → site_begun texts rules ≡ Ok begun → each site_of (loaded_from begun.hosts (map (λ t. t.mtree) texts)) ≡ Err f → site_read texts rules ≡ Err f
inventories_refused texts rules begun f h e = passes_read_the_site texts rules ∙ ap (λ r. r >>= inventories texts) h ∙ rw e refl

pub site_is : (texts : List HostText) (rules : SiteRules) (begun : BegunSite) (read : List (Host × List Entry)) → site_begun texts rules ≡ Ok begun → each site_of (loaded_from begun.hosts (map (λ t. t.mtree) texts)) ≡ Ok read
    → site_read texts rules ≡ Ok (record { hosts = read; joined = begun.joined })
site_is texts rules begun read h e = passes_read_the_site texts rules ∙ ap (λ r. r >>= inventories texts) h ∙ rw e refl
