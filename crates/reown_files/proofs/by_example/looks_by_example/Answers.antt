use Rattle.std.proofs.Common.{refl}
use Rattle.reown_files.proofs.LooksExample.{all_names, one_file, lost_modes}
use Rattle.reown_files.proofs.by_example.looks_by_example.Goals as goal

pub returns-clause-looks : goal.returns-clause-looks
returns-clause-looks c =
    record {
      set_user = refl;
      set_group = refl;
      plain = refl;
      directory = refl;
      link = refl;
    }

pub returns-clause-meeting : goal.returns-clause-meeting
returns-clause-meeting c =
    record {
      before = refl;
      after = refl;
      journal = refl;
      link = refl;
      line = refl;
      no_bits = refl;
      no_change = refl;
    }

pub returns-clause-names : goal.returns-clause-names
returns-clause-names c =
    record {
      both = refl;
      one = refl;
      done = refl;
      other_device = refl;
      other_inode = refl;
      first = refl;
      last = refl;
      single = refl;
      first_path = refl;
      no_path = refl;
    }

pub returns-clause-all_names : goal.returns-clause-all_names
returns-clause-all_names c = all_names

pub returns-clause-one_file : goal.returns-clause-one_file
returns-clause-one_file c = one_file

pub returns-clause-lost : goal.returns-clause-lost
returns-clause-lost c = lost_modes
