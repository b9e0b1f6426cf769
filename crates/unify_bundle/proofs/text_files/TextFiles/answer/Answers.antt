use Rattle.std.proofs.Common.{subst}
use Rattle.unify_laws.specs.Texts.{mtrees}
use Rattle.unify_bundle.specs.TextFiles.{ReadsTexts, TextFilesValue, ledger_of, open_file}
use Rattle.unify_bundle.proofs.InMemory.{reads_texts}
use Rattle.unify_bundle.proofs.text_files.TextFiles.answer.Goals as goal

pub returns-clause-read : goal.returns-clause-read
returns-clause-read g c =
    let f = c.self.inside in
    subst (λ (v : TextFilesValue). ReadsTexts v.texts (ledger_of v)) c.self.view_is
    (reads_texts (mtrees f.hosts.now) f.left.now f.files.items (open_file f.is_writing f.name.items f.text.items) f.log.ledger f.failure c.self.invariant)
