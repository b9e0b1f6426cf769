use Rattle.std.proofs.Common.{sym, ap, ◌∙◌}
use Rattle.kept_names.specs.Kept.{left_file, told_of}
use Rattle.kept_names.proofs.Finds.{one_found, none_found}
use Rattle.kept_names.proofs.changes.push_left.Goals as goal
use Rattle.kept_names.proofs.changes.push_left.Goals.{in-Some+in_ok-push, in_default}

pub loop-file-preserved : goal.loop-file-preserved
loop-file-preserved c =
    let f = left_file c.args.renumbering.now c.args.before.now in
    elim c.match-find_left.branch [
      | in-Some+in_ok-push w ↦
          rw w.found-is
          (one_found f c.args.found.now.items c.loop-file.found.items _ c.args.files.now
          c.loop-file.file-index c.file-item.result c.loop-file-test.true c.file-item.is
          c.loop-file.invariant _
          (ap (told_of c.file-item.result) (sym c.find_left.ensures ∙ w.in-Some.is))
          w.in_ok-push.ensures.items)
      | in_default w ↦
          rw w.found-is
          (none_found f c.args.found.now.items c.loop-file.found.items c.loop-file.found.items
          c.args.files.now c.loop-file.file-index c.file-item.result c.loop-file-test.true
          c.file-item.is c.loop-file.invariant
          (ap (told_of c.file-item.result) (sym c.find_left.ensures ∙ w.in_default.is)))
    ]
