use Rattle.std.proofs.Common.{◌≡◌, ℕ, Result, Err, ap, subst, sym}
use Rattle.std.specs.Prelude.{IfSome}
use Rattle.certcheck.specs.Check.{answer}
use Rattle.certcheck.specs.Told.{told as certcheck_told}
use Rattle.certcheck.specs.declared.fault.CheckFault.{CheckFault}
use Rattle.certcheck.specs.declared.fault.CheckFault.TheVariants.{NameMissing, NumberTwice, OutsidePool, PinBroken, NotCovered, SumsDiffer, Memory}
use Rattle.unify_texts.specs.declared.fault.Fault.{Fault}
use Rattle.unify_texts.specs.Told.{told}
use Rattle.unify.specs.Told.{check_told, in_check}
use Rattle.unify.proofs.checking.check_site.Goals as goal

-- a fault of a check, as the program tells it
told_so : (e : CheckFault) (given : Result ℕ CheckFault) → IfSome (certcheck_told e) (λ f. given ≡ Err f) → IfSome (told (check_told e)) (λ f. in_check given ≡ Err f)
told_so Memory given h = tt
told_so (NameMissing kind name) given h = ap in_check h
told_so (NumberTwice kind number) given h = ap in_check h
told_so (OutsidePool kind name) given h = ap in_check h
told_so (PinBroken kind name) given h = ap in_check h
told_so (NotCovered kind name number) given h = ap in_check h
told_so (SumsDiffer kind sum weight) given h = ap in_check h

pub returns-in-Err : goal.returns-in-Err
returns-in-Err c = λ files stands.
    let P : Fault → Type 0 = λ x. IfSome (told x) (λ f. in_check (answer c.args.site.now files c.args.certificate.now) ≡ Err f) in
    subst P (sym c.check_fault.ensures) (told_so c.in-Err.fault (answer c.args.site.now files c.args.certificate.now) (c.in-Err.ensures.exact files stands))
