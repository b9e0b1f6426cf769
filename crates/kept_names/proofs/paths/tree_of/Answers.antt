use Rattle.std.proofs.Common.{refl}
use Rattle.kept_names.proofs.Noted.{one_more_file}
use Rattle.kept_names.proofs.paths.tree_of.Goals as goal

pub loop-file-preserved : goal.loop-file-preserved
loop-file-preserved c =
    one_more_file c.args.files.now c.loop-file.file-index c.file-item.result c.requires c.loop-file-test.true c.file-item.is c.loop-file.tree.entries c.insert.new.self.entries c.bytes.result _ c.bytes.ensures refl c.loop-file.invariant c.in_ok-insert.ensures.updates.0
