-- What a text ends with (this project's own).
use Rattle.std.specs.Prelude.{ℕ, ◌-◌, Bool, List, length, take, drop, if◌then◌else◌}
use Rattle.std.specs.Str.{bytes_eq}

abbrev pub ends_with : List ℕ → List ℕ → Bool
ends_with end text = bytes_eq (drop (length text - length end) text) end

-- the text without this end, if it has it
abbrev pub without_end : List ℕ → List ℕ → List ℕ
without_end end text =
    if ends_with end text then take (length text - length end) text else text
