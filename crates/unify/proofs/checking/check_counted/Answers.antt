use Rattle.std.proofs.Common.{refl}
use Rattle.idtext.specs.First.{Gives}
use Rattle.certcheck.specs.Check.{answer}
use Rattle.certcheck.specs.Reading.{certificate_in}
use Rattle.unify_texts.specs.Told.{told}
use Rattle.unify.specs.Checking.{checked}
use Rattle.unify.specs.Reading.{files_of_site}
use Rattle.unify.specs.Told.{in_certificate, in_check}
use Rattle.unify_texts.proofs.Faults.{passed_on}
use Rattle.unify.proofs.checking.check_counted.Goals as goal

pub returns-in-Err : goal.returns-in-Err
returns-in-Err c = λ whole joined stands.
    passed_on (told c.in-Err.fault) (in_certificate (certificate_in c.args.certificate.now)) (checked whole (in_certificate (certificate_in c.args.certificate.now)))
    (λ f bad. rw bad refl)
    c.in-Err.ensures

pub returns-in-Ok : goal.returns-in-Ok
returns-in-Ok c = λ whole joined stands.
    let answered : Gives (λ cost. cost) told c.check_site.result (in_check (answer c.args.site.now (files_of_site whole) c.in-Ok.certificate)) = c.check_site.ensures (files_of_site whole) stands in
    rw (c.in-Ok.ensures, ← joined) answered
