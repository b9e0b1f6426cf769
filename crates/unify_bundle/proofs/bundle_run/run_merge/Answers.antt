use Rattle.std.proofs.Common.{◌≡◌, Err, ap, subst, ◌∙◌}
use Rattle.std.specs.Prelude.{IfSome, drop}
use Rattle.unify_texts.specs.Told.{told}
use Rattle.unify_texts.specs.declared.bundle_line.FileName.TheVariants as file
use Rattle.unify_bundle.specs.Output.{IsMergeTold, IsToldBy, files_before_hosts, host_texts, rules_for, rules_in, text_in}
use Rattle.unify_bundle.proofs.FaultAnswers.{no_rules, refused_answers}
use Rattle.unify_bundle.proofs.bundle_run.run_merge.Goals as goal

pub returns : goal.returns
returns c =
    let places = c.args.places.items in
    let hosts : c.deref.result.now ≡ host_texts (drop 1 places) = c.deref.ensures.value ∙ c.in_ok-hosts.ensures ∙ ap host_texts c.take_head-head.ensures.rest in
    let pins : c.take_rules-texts.result.pins ≡ text_in (files_before_hosts places) file.Pins = c.take_rules-texts.ensures.pins ∙ ap (λ fs. text_in fs file.Pins) c.take_head-head.ensures.files in
    let keep : c.take_rules-texts.result.keep ≡ text_in (files_before_hosts places) file.Keep = c.take_rules-texts.ensures.keep ∙ ap (λ fs. text_in fs file.Keep) c.take_head-head.ensures.files in
    let same : rules_for c.deref.result.now c.take_rules-texts.result.pins c.take_rules-texts.result.keep ≡ rules_in places = λ j. rules_for (hosts j) (pins j) (keep j) in
    let tells = IsMergeTold (host_texts (drop 1 places)) in
    let none = subst (λ r. IfSome (told c.in-Err.fault) (λ f. r ≡ Err f)) same c.in-Err.ensures in
    refused_answers (IsToldBy tells (rules_in places)) c.in-Err.fault c.refused.result (no_rules tells (rules_in places) (told c.in-Err.fault) none) c.refused.ensures
