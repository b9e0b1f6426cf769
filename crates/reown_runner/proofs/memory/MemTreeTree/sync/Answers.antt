use Rattle.std.proofs.Common.{ap, sym, ◌∙◌}
use Rattle.reown_runner.specs.Memory.{Mem}
use Rattle.reown_runner.proofs.Memories.{sync_done}
use Rattle.reown_runner.proofs.memory.MemTreeTree.sync.Goals as goal

pub returns-clause-done : goal.returns-clause-done
returns-clause-done c =
    sync_done c.args.self.now c.settle.new.self (ap (λ (m : Mem). m.paths) c.settle.ensures) (ap (λ (m : Mem). m.cells) c.settle.ensures) (ap (λ (m : Mem). m.mark_now) c.settle.ensures)
    (ap (λ (m : Mem). m.mark_synced) c.settle.ensures ∙ sym (ap (λ (m : Mem). m.mark_now) c.settle.ensures))
