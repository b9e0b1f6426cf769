use Rattle.std.proofs.Common.{[], sym, subst, arith}
use Rattle.std.proofs.lemmas.Grind.{common_steps}
use Rattle.mtree_inv.specs.declared.entry.Entry.{Entry}
use Rattle.mtree_inv.specs.Files.{HaveDistinctFiles}
use Rattle.reown_runner.specs.Memory.{Mem, known_mem, owner_in}
use Rattle.reown_runner.specs.Tree.{cells_of}
use Rattle.reown_runner.specs.Finished.{IsFresh}
use Rattle.reown_runner.proofs.Memories.{new_fresh}
use Rattle.reown_runner.proofs.Places.{distinct-map}
use Rattle.reown_runner.proofs.memory.MemTree.new.Goals as goal

pub new-requires : goal.new-requires
new-requires c =
    let distinct = subst HaveDistinctFiles (sym c.entries-entries.ensures.files) c.entries-entries.ensures.lawful.distinct in
    distinct-map (λ (e : Entry). e.path) (record { path = []; uid = 0; gid = 0 }) c.entries-entries.result.now c.in_ok-paths_in.field-0 distinct c.in_ok-paths_in.ensures

pub returns-clause-starts : goal.returns-clause-starts
returns-clause-starts c = grind (arith, common_steps)

pub returns-clause-fresh : goal.returns-clause-fresh
returns-clause-fresh c = λ plan. subst (λ (m : Mem). IsFresh (owner_in c.args.inventory.now) (cells_of plan (known_mem m))) (sym (returns-clause-starts c)) (new_fresh c.args.inventory.now plan)
