-- What a map changes is what comes before the inventories, and then, host by host, what the inventories say.
use Rattle.std.proofs.Common.{◌≡◌, ℕ, List, Result, Ok, Err, refl, ap, ◌∙◌}
use Rattle.idtext.specs.First.{◌>>=◌, each}
use Rattle.hosts_join.specs.Checks.{hosts_checked}
use Rattle.hosts_join.specs.declared.texts.HostText.{HostText}
use Rattle.unify_texts.specs.declared.fault.Fault.{Fault}
use Rattle.unify.specs.declared.counting.Cost.{Cost}
use Rattle.site_tables.specs.declared.rules.KeepRules.{KeepRules}
use Rattle.site_tables.specs.Mapped.{BegunCost, cost_begun, mapped_names}
use Rattle.unify.specs.Count.{count_of, site_of, total_of}
use Rattle.site_tables.specs.Loading.{loaded_from}
use Rattle.site_tables.specs.Others.{others_loaded}
use Rattle.site_tables.specs.Told.{in_site}
use Rattle.unify_laws.specs.Texts.{mtrees}
use Rattle.unify_laws.proofs.TwoPasses.{first-step}

abbrev inventories : List HostText → BegunCost → Result Cost Fault
inventories texts begun = total_of begun.names (each site_of (loaded_from begun.hosts (mtrees texts)))

count_steps : (texts : List HostText) (keep : KeepRules) (map_text : List ℕ) → count_of texts keep map_text ≡ (cost_begun texts keep map_text >>= inventories texts)
unfolding count_of cost_begun
count_steps texts keep map_text =
    first-step (in_site (hosts_checked texts)) _ _ (inventories texts)
    (λ listed l. first-step (others_loaded texts keep) _ _ (inventories texts)
    (λ others o. first-step (mapped_names map_text others.hosts) _ _ (inventories texts)
    (λ pairs p. refl)))

pub count_refused : (texts : List HostText) (keep : KeepRules) (map_text : List ℕ) (f : Fault) → cost_begun texts keep map_text ≡ Err f → count_of texts keep map_text ≡ Err f
count_refused texts keep map_text f h = count_steps texts keep map_text ∙ ap (λ r. r >>= inventories texts) h

pub count_behind : (texts : List HostText) (keep : KeepRules) (map_text : List ℕ) (begun : BegunCost) → cost_begun texts keep map_text ≡ Ok begun → count_of texts keep map_text ≡ total_of begun.names (each site_of (loaded_from begun.hosts (mtrees texts)))
count_behind texts keep map_text begun h = count_steps texts keep map_text ∙ ap (λ r. r >>= inventories texts) h
