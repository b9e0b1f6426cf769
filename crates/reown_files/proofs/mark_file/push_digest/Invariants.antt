use Rattle.std.proofs.Common.{◌≡◌, ◌++◌, take}
use Rattle.reown_files.specs.MarkText.{hex_text}
use Rattle.reown_files.proofs.mark_file.push_digest.Given as goal

abbrev pub invariant-loop-byte : goal.invariant-loop-byte
invariant-loop-byte l = l.text.items ≡ l.fn.text.items ++ hex_text (take l.byte-index l.digest)
