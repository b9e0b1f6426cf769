-- A count of files by example.
-- Source: this project's own rule; chown(2) for owners.
use Rattle.std.specs.Prelude.{◌≡◌, Bool, true, false, List, [], ◌∷◌, None, Some}
use Rattle.reown_plan.specs.declared.plan.Owner.{Owner}
use Rattle.reown_files.specs.Counting.{Look, counts_of}
use Rattle.reown_files.specs.Runs.{old, new, foreign, note}

-- a look at a file that is there at this owner, with or without set-ID bits and other names
abbrev pub seen_at : Owner → Bool → Bool → Look
seen_at owner set_id linked =
    (note, Some (record { owner = owner; has_set_id = set_id; has_several_names = linked }))

abbrev pub absent : Look
absent = (note, None)

-- one at its old owner, two at the new one, three that are not there, four of another owner; of
-- which five have set-ID bits and six have several names
abbrev pub looks : List Look
looks =
    seen_at old true true ∷ seen_at new true true ∷ seen_at new true true
    ∷ absent ∷ absent ∷ absent
    ∷ seen_at foreign true true ∷ seen_at foreign true true ∷ seen_at foreign false true
    ∷ seen_at foreign false false ∷ []

abbrev pub ExampleOfCounts : Type 0
ExampleOfCounts =
    counts_of looks
    ≡ record { before = 1; after = 2; missing = 3; foreign = 4; set_id = 5; linked = 6 }
