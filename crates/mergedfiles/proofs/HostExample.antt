-- The example of a host's own files.
use Rattle.std.proofs.Common.{refl}
use Rattle.std.specs.Fmt.{digits}
use Rattle.idtext.specs.Numbers.{numeral}
use Rattle.idtext.specs.Pieces.{pieces}
use Rattle.mergedfiles.specs.HostExample.{ExampleOfPasswd, ExampleOfGroup}
use Rattle.mergedfiles.specs.HostFiles.{renumbered_line, renumbered_text}

pub passwd_by_example : ExampleOfPasswd
unfolding renumbered_text renumbered_line pieces numeral digits
passwd_by_example name ranges = refl

pub group_by_example : ExampleOfGroup
unfolding renumbered_text renumbered_line pieces numeral digits
group_by_example = refl
