-- What the command prints (this project's own format).
use Rattle.std.specs.Prelude.{ℕ, List, [], ◌∷◌, ◌++◌, codes, decimal, flat_map}
use Rattle.reown_files.specs.declared.counting.OwnerCounts.{OwnerCounts}

-- a line: a word, a space and a number
abbrev pub count_line : List ℕ × ℕ → List ℕ
count_line row = row.0 ++ 32 ∷ decimal row.1 ++ 10 ∷ []

-- a plan with so many records was carried out
abbrev pub done_text : ℕ → List ℕ
done_text records = count_line (codes "records", records) ++ codes "done\n"

-- what is counted of the files of a plan, and how many mounts are below them
abbrev pub counted : OwnerCounts → ℕ → List (List ℕ × ℕ)
counted counts mounts =
    (codes "before", counts.before) ∷ (codes "after", counts.after)
    ∷ (codes "missing", counts.missing) ∷ (codes "foreign", counts.foreign)
    ∷ (codes "set-id", counts.set_id) ∷ (codes "linked", counts.linked)
    ∷ (codes "mounts", mounts) ∷ []

-- a line for each
abbrev pub counts_text : OwnerCounts → ℕ → List ℕ
counts_text counts mounts = flat_map count_line (counted counts mounts)
