use Rattle.std.proofs.Common.{◌≡◌, ◌++◌, take}
use Rattle.reown_files.specs.MarkText.{host_text}
use Rattle.reown_files.proofs.mark_file.push_host.Given as goal

abbrev pub invariant-loop-byte : goal.invariant-loop-byte
invariant-loop-byte l = l.text.items ≡ l.fn.text.items ++ host_text (take l.byte-index l.host)
