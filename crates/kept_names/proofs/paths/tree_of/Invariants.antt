use Rattle.std.proofs.Common.{take}
use Rattle.kept_names.specs.Found.{FindsFiles}
use Rattle.kept_names.proofs.paths.tree_of.Given as goal

abbrev pub invariant-loop-file : goal.invariant-loop-file
invariant-loop-file l = FindsFiles l.tree.entries (take l.file-index l.files)
