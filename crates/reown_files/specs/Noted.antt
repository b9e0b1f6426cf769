-- What a call is in the record of calls.
-- Values that borrow from the input, without the borrow: words of the code and not of the subject.
use Rattle.reown_files.specs.Calls.{Called, Looked, Met, MetMark, Gave, SetMode, Kept, Settled}
use Rattle.reown_files.specs.Calls.{PutMark, LostMode, PutModes, Saw, SawMark, CheckedLinks}
use Rattle.reown_files.specs.Calls.{KeptMark, ReadModes, NotSeen, MarkNotSeen}
use Rattle.reown_files.specs.declared.log.Call.{Call}
use Rattle.reown_files.specs.declared.log.Call.TheVariants as call

abbrev pub noted : Call → Called
noted (call.Looked path seen) = Looked path.now seen
noted (call.Met path after found) = Met path.now after found
noted (call.MetMark plan set) = MetMark plan.now set
noted (call.Saw path found) = Saw path.now found
noted (call.SawMark plan set) = SawMark plan.now set
noted (call.NotSeen path trouble) = NotSeen path.now trouble
noted (call.MarkNotSeen plan trouble) = MarkNotSeen plan.now trouble
noted (call.CheckedLinks path done) = CheckedLinks path.now done
noted (call.Gave path before after modes) = Gave path.now before after modes
noted (call.SetMode path owner mode done) = SetMode path.now owner mode done
noted (call.Kept path owner done) = Kept path.now owner done
noted (call.Settled done) = Settled done
noted (call.PutMark plan done) = PutMark plan.now done
noted (call.KeptMark done) = KeptMark done
noted (call.ReadModes plan set begun) = ReadModes plan.now set begun
noted (call.LostMode plan path owner mode) = LostMode plan.now path.now owner mode
noted (call.PutModes plan done) = PutModes plan.now done
