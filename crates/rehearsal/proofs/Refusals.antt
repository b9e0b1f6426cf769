-- What a rehearsal answers for a text that is refused.
use Rattle.std.proofs.Common.{[], length, refl, ap}
use Rattle.idtext.specs.First.{◌>>=◌, first_fault, unless}
use Rattle.unify_texts.specs.Told.{in_file}
use Rattle.unify_texts.specs.declared.bundle_line.FileName.TheVariants.{Mtree}
use Rattle.rehearsal.specs.Rehearsing.{record_fault}
use Rattle.rehearsal.specs.RehearsalLaws.{RefusalsAreTold}

pub refusals_are_told : RefusalsAreTold
refusals_are_told = record {
  plan = λ offset mtree. refl;
  mtree = λ plan mtree fault refused. ap (λ r. in_file plan.host Mtree r >>= λ files. unless (first_fault (record_fault files) [] plan.records) (length plan.records)) refused;
}
