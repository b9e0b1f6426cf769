-- The cost that a merge tells.
use Rattle.std.proofs.Common.{◌≡◌, List, Ok, codes, sym, ap, subst, ◌∙◌}
use Rattle.unify.specs.Reading.{WholeSite, site_read}
use Rattle.unify.specs.declared.counting.Cost.{Cost}
use Rattle.unify.specs.declared.site_files.NamedText.{NamedText}
use Rattle.unify_laws.specs.Headline.{fields}
use Rattle.unify_laws.proofs.Agreeing.{printed_certificates_are_accepted}
use Rattle.unify_laws.proofs.Counted.{printed_maps_are_counted}
use Rattle.unify_merge.specs.CostTold.{MergesTellTheirCost}
use Rattle.unify_merge.specs.FirstReading.{with_inventories}
use Rattle.unify_merge.specs.NamedFiles.{Have}
use Rattle.unify_merge.proofs.Inventories.{read-with}
use Rattle.unify_merge.proofs.NamedFiles.{files_have_their_names}
use Rattle.unify_merge.proofs.ReadTexts.{as-many-begun}
use Rattle.unify_merge.proofs.Settled.{merges-settled}

pub merges_tell_their_cost : MergesTellTheirCost
merges_tell_their_cost texts rules old new cost m =
    let with_read = with_inventories texts m.second in
    let site : WholeSite = record { hosts = m.are; joined = m.begun.joined } in
    let read : site_read with_read rules ≡ Ok site =
    read-with texts m.second rules m.begun m.are (m.second_read.one_each ∙ as-many-begun texts rules m.begun m.begun_is) m.begun_is m.second_read.accepted in
    let named = files_have_their_names texts m.begun m.is_correct.mappings m.outcome in
    let finished = sym (merges-settled texts rules old new cost m).finished in
    record {
      map = m.outcome.map;
      map_stands = subst (λ (files : List NamedText). Have files (codes "map") m.outcome.map) finished named.map;
      counted = printed_maps_are_counted with_read rules site m.outcome read m.is_right ∙ ap (λ (c : Cost). Ok c) (sym m.cost_is);
      certificate = m.outcome.certificate;
      certificate_stands = subst (λ (files : List NamedText). Have files (codes "certificate") m.outcome.certificate) finished named.certificate;
      accepted = printed_certificates_are_accepted with_read rules site m.outcome read m.is_right ∙ ap (λ (c : Cost). Ok (fields c)) (sym m.cost_is);
    }
