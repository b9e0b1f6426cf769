-- What looks tell of names, of one file and of modes that were lost.
use Rattle.std.proofs.Common.{◌≡◌, true, false, refl, ap}
use Rattle.reown_plan.specs.declared.plan.Owner.{Owner}
use Rattle.reown_files.specs.NamesExample.{ExampleOfAllNames, ExampleOfOneFile, ExampleOfLostModes}
use Rattle.reown_files.specs.declared.walk.Kind.TheVariants.{Regular, Directory, Other}
use Rattle.reown_files.proofs.Laws.{differ}

pub all_names : ExampleOfAllNames
all_names =
    record {
      both = λ several. refl;
      one = λ h. differ 1 2 refl (h refl);
      three = λ h. differ 3 2 refl (h refl);
      single = λ several. let e : false ≡ true = several in absurd cc;
      same = λ several other. other refl;
      other_group = λ h. h refl (λ e. differ 20 30 refl (ap (λ (o : Owner). o.gid) e));
      other_user = λ h. h refl (λ e. differ 200 100 refl (ap (λ (o : Owner). o.uid) e));
    }

pub one_file : ExampleOfOneFile
one_file =
    record {
      changed = (refl, refl, refl);
      device = λ h. differ 4 3 refl h.0;
      inode = λ h. differ 6 5 refl h.1;
      kind = λ h. let e : Other ≡ Regular = h.2 in cc;
    }

pub lost_modes : ExampleOfLostModes
lost_modes =
    record {
      set_user = (refl, differ 493 2541 refl, refl);
      set_group = (refl, differ 493 1517 refl, refl);
      both = (refl, differ 493 3565 refl, refl);
      one_left = (refl, differ 2541 3565 refl, refl);
      none = λ h. h.1 refl;
      other_bits = λ h. differ 2496 2541 refl h.2;
      sticky_bit = λ h. differ 493 1005 refl h.2;
      more = λ h. differ 3565 2541 refl h.2;
      directory = λ mode h. let e : Directory ≡ Regular = h.0 in cc;
      link = λ mode h. let e : Other ≡ Regular = h.0 in cc;
    }
