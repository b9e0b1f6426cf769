use Rattle.std.proofs.Common.{Contains, sym, ap, subst}
use Rattle.reown_runner.specs.Memory.{known_mem}
use Rattle.reown_runner.specs.MemoryReads.{last_of_two}
use Rattle.reown_files.specs.Real.{RealData}
use Rattle.reown_files.proofs.real_tree.RealTreeTree.reopen.Goals as goal

pub returns-clause-mark : goal.returns-clause-mark
returns-clause-mark g c =
    let tree = c.args.self.now.tree in
    subst (Contains (known_mem tree).marks_left) (sym (ap (λ (r : RealData). (known_mem r.tree).mark) c.leave.ensures.rest)) (last_of_two tree.mark_synced tree.mark_now)
