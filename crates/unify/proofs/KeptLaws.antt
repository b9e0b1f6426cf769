-- Whether a name is kept, in words of the texts.
use Rattle.std.proofs.Common.{ap, ◌∙◌}
use Rattle.std.proofs.lemmas.Bool.Decides.{Decides-at}
use Rattle.unify_texts.specs.ReservedLines.{keeps_a_name}
use Rattle.unify.specs.KeptLaws.{OutcomesTellKeptNames}
use Rattle.site_tables.proofs.TextLaws.{begun_sites_are_of_texts}
use Rattle.site_tables.proofs.KeptNames.{some_stays}

pub outcomes_tell_kept_names : OutcomesTellKeptNames
outcomes_tell_kept_names texts rules begun site outcome is same answered =
    let of = begun_sites_are_of_texts texts rules begun is in
    record {
      hosts = of.hosts;
      told = Decides-at outcome.keeps_names (keeps_a_name begun.joined) (answered.printed.keeps ∙ ap keeps_a_name same) (some_stays texts rules begun of);
    }
