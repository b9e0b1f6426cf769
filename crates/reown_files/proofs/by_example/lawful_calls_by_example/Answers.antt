use Rattle.std.proofs.Common.{refl}
use Rattle.reown_files.proofs.by_example.lawful_calls_by_example.Goals as goal

pub returns : goal.returns
returns c =
    record {
      note = refl;
      program = refl;
      both = refl;
      second = refl;
      unread = refl;
      unmet = refl;
      unchecked = refl;
      unasked = refl;
      unsettled = refl;
      unwritten = refl;
      met_late = refl;
      met_twice = refl;
      met_for_old = refl;
      links_between = refl;
      mode_left = refl;
      other_mode = refl;
      old_owner = refl;
      failed_mode = refl;
      given_to_another = refl;
      not_kept = refl;
      not_settled = refl;
      settled_early = refl;
      marked_early = refl;
      not_set_back = refl;
      back_for_old = refl;
      back_not_kept = refl;
    }
