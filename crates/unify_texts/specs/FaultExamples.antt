-- Each fault by example: the line that tells it, byte by byte; and the exit status of each.
-- Source: this project's own formats.
use Rattle.std.specs.Prelude.{◌≡◌, ℕ, List, [], ◌∷◌, ◌++◌, map, codes, Some, None}
use Rattle.idtext.specs.declared.faults.TextCode.{TextCode}
use Rattle.idtext.specs.declared.faults.TextCode.TheVariants as code
use Rattle.hosts_join.specs.declared.Which.TheVariants.{User, Group}
use Rattle.hosts_join.specs.declared.fault.PoolClass.TheVariants as class
use Rattle.hosts_join.specs.declared.reserving.Reserved.{Reserved}
use Rattle.hosts_join.specs.declared.reserving.Reserver.{Reserver}
use Rattle.hosts_join.specs.declared.reserving.Reserver.TheVariants as by
use Rattle.unify_texts.specs.declared.bundle_line.FileName.{FileName}
use Rattle.unify_texts.specs.declared.bundle_line.FileName.TheVariants as file
use Rattle.unify_texts.specs.declared.fault.Fault.{Fault}
use Rattle.unify_texts.specs.declared.fault.Fault.TheVariants as fault
use Rattle.unify_texts.specs.Codes.{code_of, status_of}
use Rattle.unify_texts.specs.Faults.{fault_line}

-- a fault, and the line that is to tell it
abbrev pub Example : Type 0
Example = Fault × List ℕ

abbrev pub told : Fault → List ℕ → Example
told f line = (f, line)

abbrev pub AreTold : List Example → Type 0
AreTold examples = map (λ e. fault_line e.0) examples ≡ map (λ e. e.1) examples

-- ---- the lines of a host's files

-- a fault of a line of a file of the host `web`
abbrev pub on_web : FileName → TextCode → ℕ → Fault
on_web file what line = fault.Line (codes "web") file what line

abbrev pub account_lines : List Example
account_lines =
    told (on_web file.Passwd code.BadFields 7)
    (codes "unify: 1 BadFields host web passwd line 7\n")
    ∷ told (on_web file.Group code.BadName 12) (codes "unify: 2 BadName host web group line 12\n")
    ∷ told (on_web file.LoginDefs code.BadNumber 3)
    (codes "unify: 3 BadNumber host web login.defs line 3\n")
    ∷ told (on_web file.Group code.CompatLine 4)
    (codes "unify: 4 CompatLine host web group line 4\n")
    ∷ told (on_web file.Passwd code.NameTwice 5)
    (codes "unify: 5 NameTwice host web passwd line 5\n")
    ∷ told (on_web file.Passwd code.SharedNumber 60)
    (codes "unify: 6 SharedNumber host web passwd line 60\n")
    ∷ told (on_web file.Group code.TooManyLines 65537)
    (codes "unify: 7 TooManyLines host web group line 65537\n")
    ∷ told (on_web file.Mtree code.LineTooLong 1)
    (codes "unify: 8 LineTooLong host web mtree line 1\n")
    ∷ told (on_web file.LoginDefs code.RangesOverlap 0)
    (codes "unify: 9 RangesOverlap host web login.defs line 0\n")
    ∷ []

abbrev pub inventory_lines : List Example
inventory_lines =
    told (on_web file.Mtree code.BadCommand 2)
    (codes "unify: 10 BadCommand host web mtree line 2\n")
    ∷ told (on_web file.Mtree code.NoUid 3) (codes "unify: 11 NoUid host web mtree line 3\n")
    ∷ told (on_web file.Mtree code.NoGid 4) (codes "unify: 12 NoGid host web mtree line 4\n")
    ∷ told (on_web file.Mtree code.DotDotAbove 5)
    (codes "unify: 13 DotDotAbove host web mtree line 5\n")
    ∷ told (on_web file.Mtree code.BadPath 6) (codes "unify: 14 BadPath host web mtree line 6\n")
    ∷ told (on_web file.Mtree code.OwnersDiffer 7)
    (codes "unify: 15 OwnersDiffer host web mtree line 7\n")
    ∷ told (on_web file.Mtree code.TooManyEntries 8)
    (codes "unify: 16 TooManyEntries host web mtree line 8\n")
    ∷ told (on_web file.Mtree code.CutContinuation 9)
    (codes "unify: 17 CutContinuation host web mtree line 9\n")
    ∷ told (on_web file.Mtree code.CutInventory 18446744073709551615)
    (codes "unify: 45 CutInventory host web mtree line 18446744073709551615\n")
    ∷ []

-- ---- the hosts and their names

abbrev pub host_faults : List Example
host_faults =
    told (fault.BadHostName (codes "a b")) (codes "unify: 18 BadHostName a\\040b\n")
    ∷ told (fault.BadHostName []) (codes "unify: 18 BadHostName -\n")
    ∷ told (fault.HostTwice (codes "db")) (codes "unify: 19 HostTwice db\n")
    ∷ told (fault.HostCount 65) (codes "unify: 20 HostCount 65\n")
    ∷ told (fault.NoPrimaryGroup (codes "web") (codes "ann"))
    (codes "unify: 21 NoPrimaryGroup host web user ann\n")
    ∷ told (fault.UnownedUid (codes "web") 1001 (codes "srv/a b"))
    (codes "unify: 25 UnownedUid host web uid 1001 srv/a\\040b\n")
    ∷ told (fault.UnownedGid (codes "db") 50 (codes "caf" ++ 195 ∷ 169 ∷ []))
    (codes "unify: 26 UnownedGid host db gid 50 caf\\303\\251\n")
    ∷ told (fault.InventoryChanged (codes "web")) (codes "unify: 41 InventoryChanged host web\n")
    ∷ []

-- numbers that are reserved
abbrev pub reserved : ℕ → ℕ → Reserver → Reserved
reserved low high by = record { numbers = record { low = low; high = high }; by = by }

abbrev pub joining_faults : List Example
joining_faults =
    told (fault.PinDisagrees User (codes "ann") (Some (codes "web")) (codes "db"))
    (codes "unify: 22 PinDisagrees user ann web db\n")
    ∷ told (fault.PinDisagrees Group (codes "adm") None (codes "db"))
    (codes "unify: 22 PinDisagrees group adm - db\n")
    ∷ told (fault.PinClash User 1001 (codes "ann") (codes "ben"))
    (codes "unify: 23 PinClash user 1001 ann ben\n")
    ∷ told (fault.PoolTooSmall User class.Regular 30 20)
    (codes "unify: 24 PoolTooSmall user regular 30 20\n")
    ∷ told (fault.PoolTooSmall Group class.System 2 1)
    (codes "unify: 24 PoolTooSmall group system 2 1\n")
    ∷ told (fault.PinReserved User 500 (codes "ann") (reserved 0 999 by.Range))
    (codes "unify: 47 PinReserved user 500 ann range 0 999\n")
    ∷ told
    (fault.PinReserved Group 70 (codes "adm")
    (reserved 70 70 (by.Name (codes "db") (codes "staff"))))
    (codes "unify: 47 PinReserved group 70 adm name db staff\n")
    ∷ told (fault.PinReserved User 71 (codes "ben") (reserved 71 71 (by.Unowned (codes "db"))))
    (codes "unify: 47 PinReserved user 71 ben unowned db\n")
    ∷ []

-- ---- certificates, plans, trees, and the other texts

abbrev pub certificate_faults : List Example
certificate_faults =
    told (fault.BadCertificate 6) (codes "unify: 28 BadCertificate line 6\n")
    ∷ told (fault.NameMissing User (codes "ann")) (codes "unify: 29 NameMissing user ann\n")
    ∷ told (fault.NumberTwice Group 100) (codes "unify: 30 NumberTwice group 100\n")
    ∷ told (fault.OutsidePool User (codes "ben")) (codes "unify: 31 OutsidePool user ben\n")
    ∷ told (fault.PinBroken Group (codes "adm")) (codes "unify: 32 PinBroken group adm\n")
    ∷ told (fault.NotCovered User (codes "kim") 1002)
    (codes "unify: 33 NotCovered user kim 1002\n")
    ∷ told (fault.SumsDiffer User 38 37) (codes "unify: 34 SumsDiffer user 38 37\n")
    ∷ []

abbrev pub plan_faults : List Example
plan_faults =
    told (fault.BadPlan 40) (codes "unify: 35 BadPlan byte 40\n")
    ∷ told fault.Device (codes "unify: 36 Device\n")
    ∷ told (fault.Missing (codes "etc/a")) (codes "unify: 37 Missing etc/a\n")
    ∷ told (fault.Foreign (codes "etc/b")) (codes "unify: 38 Foreign etc/b\n")
    ∷ told (fault.Unfinished (codes "etc/c")) (codes "unify: 44 Unfinished etc/c\n")
    ∷ told (fault.AlreadyChanged (codes "etc/d")) (codes "unify: 48 AlreadyChanged etc/d\n")
    ∷ []

abbrev pub text_faults : List Example
text_faults =
    told fault.Memory (codes "unify: memory\n")
    ∷ told (fault.BadMap 0) (codes "unify: 40 BadMap line 0\n")
    ∷ told (fault.BadBundle 1) (codes "unify: 42 BadBundle line 1\n")
    ∷ told (fault.BadPins 1048577) (codes "unify: 43 BadPins line 1048577\n")
    ∷ told (fault.BadKeep 8) (codes "unify: 46 BadKeep line 8\n")
    ∷ []

-- ---- exit statuses

-- 3 for memory and devices, 2 for a bundle that is not lawful, 4 for a certificate that is lawful
-- and is rejected, and 1 for anything else
abbrev pub status_for : Fault → ℕ
status_for fault.Memory = 3
status_for fault.Device = 3
status_for (fault.BadBundle line) = 2
status_for (fault.NameMissing kind name) = 4
status_for (fault.NumberTwice kind number) = 4
status_for (fault.OutsidePool kind name) = 4
status_for (fault.PinBroken kind name) = 4
status_for (fault.NotCovered kind name number) = 4
status_for (fault.SumsDiffer kind sum weight) = 4
status_for other = 1

-- the exit status that goes with the number of a fault is that of the fault
abbrev pub StatusesGoByFaults : Type 0
StatusesGoByFaults = (f : Fault) → status_of (code_of f) ≡ status_for f
