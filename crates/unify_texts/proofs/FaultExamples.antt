-- The examples of faults, and their exit statuses.
use Rattle.std.proofs.Common.{refl}
use Rattle.std.specs.Fmt.{digits}
use Rattle.idtext.specs.declared.faults.TextCode.TheVariants as code
use Rattle.unify_texts.specs.declared.fault.Fault.TheVariants as fault
use Rattle.unify_texts.specs.FaultExamples.{AreTold, StatusesGoByFaults, account_lines, certificate_faults, host_faults, inventory_lines, joining_faults, plan_faults, text_faults}

pub account_lines_told : AreTold account_lines
unfolding digits
account_lines_told = refl

pub inventory_lines_told : AreTold inventory_lines
unfolding digits
inventory_lines_told = refl

pub host_faults_told : AreTold host_faults
unfolding digits
host_faults_told = refl

pub joining_faults_told : AreTold joining_faults
unfolding digits
joining_faults_told = refl

pub certificate_faults_told : AreTold certificate_faults
unfolding digits
certificate_faults_told = refl

pub plan_faults_told : AreTold plan_faults
unfolding digits
plan_faults_told = refl

pub text_faults_told : AreTold text_faults
unfolding digits
text_faults_told = refl

pub statuses_go_by_faults : StatusesGoByFaults
statuses_go_by_faults fault.Memory = refl
statuses_go_by_faults (fault.Line host file code.BadFields line) = refl
statuses_go_by_faults (fault.Line host file code.BadName line) = refl
statuses_go_by_faults (fault.Line host file code.BadNumber line) = refl
statuses_go_by_faults (fault.Line host file code.CompatLine line) = refl
statuses_go_by_faults (fault.Line host file code.NameTwice line) = refl
statuses_go_by_faults (fault.Line host file code.SharedNumber line) = refl
statuses_go_by_faults (fault.Line host file code.TooManyLines line) = refl
statuses_go_by_faults (fault.Line host file code.LineTooLong line) = refl
statuses_go_by_faults (fault.Line host file code.RangesOverlap line) = refl
statuses_go_by_faults (fault.Line host file code.BadCommand line) = refl
statuses_go_by_faults (fault.Line host file code.NoUid line) = refl
statuses_go_by_faults (fault.Line host file code.NoGid line) = refl
statuses_go_by_faults (fault.Line host file code.DotDotAbove line) = refl
statuses_go_by_faults (fault.Line host file code.BadPath line) = refl
statuses_go_by_faults (fault.Line host file code.OwnersDiffer line) = refl
statuses_go_by_faults (fault.Line host file code.TooManyEntries line) = refl
statuses_go_by_faults (fault.Line host file code.CutContinuation line) = refl
statuses_go_by_faults (fault.Line host file code.CutInventory line) = refl
statuses_go_by_faults (fault.BadHostName name) = refl
statuses_go_by_faults (fault.HostTwice name) = refl
statuses_go_by_faults (fault.HostCount n) = refl
statuses_go_by_faults (fault.NoPrimaryGroup host user) = refl
statuses_go_by_faults (fault.PinDisagrees kind name first second) = refl
statuses_go_by_faults (fault.PinReserved kind number name by) = refl
statuses_go_by_faults (fault.PinClash kind number first second) = refl
statuses_go_by_faults (fault.PoolTooSmall kind class names numbers) = refl
statuses_go_by_faults (fault.UnownedUid host uid path) = refl
statuses_go_by_faults (fault.UnownedGid host gid path) = refl
statuses_go_by_faults (fault.BadCertificate n) = refl
statuses_go_by_faults (fault.NameMissing kind name) = refl
statuses_go_by_faults (fault.NumberTwice kind number) = refl
statuses_go_by_faults (fault.OutsidePool kind name) = refl
statuses_go_by_faults (fault.PinBroken kind name) = refl
statuses_go_by_faults (fault.NotCovered kind name number) = refl
statuses_go_by_faults (fault.SumsDiffer kind sum weight) = refl
statuses_go_by_faults (fault.BadPlan offset) = refl
statuses_go_by_faults fault.Device = refl
statuses_go_by_faults (fault.Missing path) = refl
statuses_go_by_faults (fault.Foreign path) = refl
statuses_go_by_faults (fault.Unfinished path) = refl
statuses_go_by_faults (fault.AlreadyChanged path) = refl
statuses_go_by_faults (fault.BadMap n) = refl
statuses_go_by_faults (fault.InventoryChanged host) = refl
statuses_go_by_faults (fault.BadBundle n) = refl
statuses_go_by_faults (fault.BadPins n) = refl
statuses_go_by_faults (fault.BadKeep n) = refl
