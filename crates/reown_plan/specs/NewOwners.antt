-- The owners that the files of a host get, by what a call is lent.
-- Values that are lent, without the borrow: words of the code and not of the subject.
use Rattle.mtree_inv.specs.declared.entry.Entry.{Entry}
use Rattle.ownership.specs.Mappings.{AreForSite}
use Rattle.reown_plan.specs.declared.change.NewOwners.{NewOwners}
use Rattle.reown_plan.specs.declared.plan.Owner.{Owner}
use Rattle.reown_plan.specs.OwnerChange.{IsChange, OwnerChange}
use Rattle.reown_plan.specs.Target.{target}

-- the mappings have one number for each name of the site
abbrev pub HasNumbers : NewOwners → Type 0
HasNumbers owners = AreForSite owners.site.now owners.mappings.now

-- what a file gets
abbrev pub target_of : NewOwners → Entry → Owner
target_of owners = target owners.site.now owners.mappings.now owners.host

-- it is what the files of the owner get
abbrev pub IsChangeOf : NewOwners → Owner → OwnerChange → Type 0
IsChangeOf owners owner change =
    IsChange owners.site.now owners.mappings.now owners.host owner change
