-- What comes before the inventories of a count, step by step.
use Rattle.std.proofs.Common.{◌≡◌, ℕ, List, Result, Ok, Err, refl, ap, ◌∙◌}
use Rattle.idtext.specs.First.{◌>>=◌}
use Rattle.hosts_join.specs.Checks.{hosts_checked}
use Rattle.hosts_join.specs.declared.texts.HostText.{HostText}
use Rattle.unify_texts.specs.declared.fault.Fault.{Fault}
use Rattle.unify_texts.specs.declared.map_text.MapText.{MapText}
use Rattle.site_tables.specs.declared.rules.KeepRules.{KeepRules}
use Rattle.site_tables.specs.Mapped.{BegunCost, cost_begun, mapped_names}
use Rattle.site_tables.specs.Others.{Others, others_loaded}
use Rattle.site_tables.specs.Told.{in_site}

module _ (texts : List HostText) (keep : KeepRules) (map_text : List ℕ) where
  pub list_refused : (f : Fault) → in_site (hosts_checked texts) ≡ Err f → cost_begun texts keep map_text ≡ Err f
  unfolding cost_begun
  list_refused f l = rw l refl

  module _ (u : Unit {0}) (listed : in_site (hosts_checked texts) ≡ Ok u) where
    pub others_refused : (f : Fault) → others_loaded texts keep ≡ Err f → cost_begun texts keep map_text ≡ Err f
    unfolding cost_begun
    others_refused f o = rw (listed, o) refl

    module _ (others : Others) (o : others_loaded texts keep ≡ Ok others) where
      abbrev with_names : Result MapText Fault → Result BegunCost Fault
      with_names reading = reading >>= λ pairs. Ok (record { hosts = others.hosts; names = pairs })

      begun_steps : cost_begun texts keep map_text ≡ with_names (mapped_names map_text others.hosts)
      unfolding cost_begun
      begun_steps = rw (listed, o) refl

      pub names_refused : (f : Fault) → mapped_names map_text others.hosts ≡ Err f → cost_begun texts keep map_text ≡ Err f
      names_refused f n = begun_steps ∙ ap with_names n

      pub begun_is : (pairs : MapText) → mapped_names map_text others.hosts ≡ Ok pairs → cost_begun texts keep map_text ≡ Ok (record { hosts = others.hosts; names = pairs })
      begun_is pairs n = begun_steps ∙ ap with_names n
