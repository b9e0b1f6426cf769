use Rattle.std.proofs.Common.{◌≡◌, ◌++◌, take}
use Rattle.unify_bundle.specs.Lines.{named_lines}
use Rattle.unify_bundle.proofs.merge_text.push_files.Given as goal

abbrev pub invariant-loop-file : goal.invariant-loop-file
invariant-loop-file l = l.out.items ≡ l.fn.out.items ++ named_lines (take l.file-index l.files)
