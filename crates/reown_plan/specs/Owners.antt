-- The owner of a file.
-- Source: chown(2): an owner is a uid with a gid.
use Rattle.std.specs.Prelude.{Bool, ◌&&◌, ◌==◌}
use Rattle.mtree_inv.specs.declared.entry.Entry.{Entry}
use Rattle.reown_plan.specs.declared.plan.Owner.{Owner}

-- the numbers of a file of an inventory
abbrev pub owner_of : Entry → Owner
owner_of file = record { uid = file.uid; gid = file.gid }

abbrev pub owner_eq : Owner → Owner → Bool
owner_eq a b = (a.uid == b.uid) && (a.gid == b.gid)
