-- What is noted in the record of what the system is asked.
-- Values that borrow from the input, without the borrow: words of the code and not of the subject.
use Rattle.reown_files.specs.Asked.{Asked, Told, Counted, Awaited, Given, ModeGiven, Synced}
use Rattle.reown_files.specs.declared.asked.Ask.{Ask}
use Rattle.reown_files.specs.declared.asked.Ask.TheVariants as ask

abbrev pub asked_of : Ask → Asked
asked_of (ask.Told path found) = Told path.now found
asked_of (ask.Counted path found after) = Counted path.now found after
asked_of (ask.Awaited found) = Awaited found
asked_of (ask.Given path after) = Given path.now after
asked_of (ask.ModeGiven path mode) = ModeGiven path.now mode
asked_of (ask.Synced path) = Synced path.now
