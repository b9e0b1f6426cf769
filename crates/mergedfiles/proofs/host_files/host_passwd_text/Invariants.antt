use Rattle.std.proofs.Common.{◌≡◌, ◌++◌, length}
use Rattle.mergedfiles.specs.HostFiles.{renumbered_text, renumbered_user}
use Rattle.mergedfiles.specs.Coming.{IsUnderWay}
use Rattle.mergedfiles.proofs.host_files.host_passwd_text.Given as goal

abbrev pub invariant-loop-line : goal.invariant-loop-line
invariant-loop-line l = record {
  written : l.new.items ++ renumbered_text (renumbered_user l.host l.site l.mappings) l.rest ≡ renumbered_text (renumbered_user l.host l.site l.mappings) l.fn.text;
  coming : IsUnderWay l.host l.site l.mappings.groups l.coming;
}

abbrev pub decreases-loop-line : goal.decreases-loop-line
decreases-loop-line l = length l.rest
