use Rattle.std.proofs.Common.{IfOk, subst}
use Rattle.reown_files.specs.RootData.{RootData}
use Rattle.reown_files.specs.Trees.{AreRead}
use Rattle.reown_files.proofs.root.RootDisk.read_modes.Goals as goal

pub returns-clause-read : goal.returns-clause-read
returns-clause-read c =
    let new = c.read-told.new.self in
    subst
    (λ (r : RootData). IfOk c.read-told.result (λ begun. AreRead r.mark_path r.modes_path c.args.plan.now c.args.mark begun r.actions c.read-told.new.log.actions r.read r.modes new.plan new.noted.entries))
    c.self.view_is c.read-told.ensures.read
