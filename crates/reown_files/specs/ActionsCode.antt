-- What is noted in the record of what is done to the mark, to the modes and to the root.
-- Values that borrow from the input or own, without the borrow or the memory: words of the code and
-- not of the subject.
use Rattle.std.specs.Prelude.{ℕ, List, Option, None, Some, Vec}
use Rattle.std.specs.declared.alloc.Global.{Global}
use Rattle.reown_files.specs.Actions.{Action, FileRead, TextPut, NameSynced, FileRemoved}
use Rattle.reown_files.specs.Actions.{RootSettled}
use Rattle.reown_files.specs.declared.actions.Action.{Action as ActionCode}
use Rattle.reown_files.specs.declared.actions.Action.TheVariants as code

abbrev pub action_of : ActionCode → Action
action_of (code.FileRead path text) = FileRead path.now (Some text.now)
action_of (code.FileMissed path) = FileRead path.now None
action_of (code.TextPut new path text) = TextPut new.now path.now text.now
action_of (code.NameSynced path) = NameSynced path.now
action_of (code.FileRemoved path) = FileRemoved path.now
action_of code.RootSettled = RootSettled

-- the text of a file, if it is there
abbrev pub text_in : Option (Vec ℕ Global) → Option (List ℕ)
text_in None = None
text_in (Some text) = Some text.items
