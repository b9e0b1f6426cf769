use Rattle.std.proofs.Common.{◌==◌, sym, ap, ◌∙◌}
use Rattle.std.specs.List.{position}
use Rattle.unify_texts.specs.BundleLines.{file_index}
use Rattle.std.proofs.lemmas.List.Quantifiers.{position-Some}
use Rattle.unify_bundle.proofs.Taking.{text_first, text_other, text_none}
use Rattle.unify_bundle.proofs.bundle_run.take_text.Goals as goal

pub returns-in-Some-clause-text : goal.returns-in-Some-clause-text
returns-in-Some-clause-text c =
    let at = position-Some (λ n. file_index n.file == file_index c.args.file) c.args.files.now.items c.in-Some.index c.index_mut.result.now (ap (position (λ n. file_index n.file == file_index c.args.file)) (sym c.as_slice.ensures.value) ∙ sym c.index_of.ensures ∙ c.in-Some.is) in
    c.replace.ensures.value ∙ ap (λ n. n.text) c.index_mut.ensures.value ∙ sym (text_first c.args.files.now.items c.args.file c.in-Some.index c.index_mut.result.now at.0 at.1 at.2)

pub returns-in-Some-clause-others : goal.returns-in-Some-clause-others
returns-in-Some-clause-others c = λ other differ.
    let at = position-Some (λ n. file_index n.file == file_index c.args.file) c.args.files.now.items c.in-Some.index c.index_mut.result.now (ap (position (λ n. file_index n.file == file_index c.args.file)) (sym c.as_slice.ensures.value) ∙ sym c.index_of.ensures ∙ c.in-Some.is) in
    text_other c.args.files.now.items c.args.file other c.in-Some.index c.index_mut.result.now (record { file = c.index_mut.result.now.file; text = c.replace.new.dest }) at.1 (ap (λ n. n.file) c.index_mut.ensures.value) differ

pub returns-in-None-clause-text : goal.returns-in-None-clause-text
returns-in-None-clause-text c = c.new-in-None.ensures ∙ sym (text_none c.args.files.now.items c.args.file (ap (position (λ n. file_index n.file == file_index c.args.file)) (sym c.as_slice.ensures.value) ∙ sym c.index_of.ensures ∙ c.in-None.is))
