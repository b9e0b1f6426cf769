-- Modes as they are read.
-- Values that borrow or own, without the memory: words of the code and not of the subject.
use Rattle.reown_files.specs.declared.modes_file.Noted.{Noted}
use Rattle.reown_files.specs.MarkText.{Entry, entry}

abbrev pub entry_of : Noted → Entry
entry_of noted = entry noted.path.items noted.mode
