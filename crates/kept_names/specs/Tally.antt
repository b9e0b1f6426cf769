-- Words of private contracts: how many findings are of each kind, as they are counted.
use Rattle.std.specs.Prelude.{ℕ, ◌+◌, ◌-◌, List, ◌∷◌, [], codes, flat_map}
use Rattle.kept_names.specs.Kept.{Found}
use Rattle.kept_names.specs.Telling.{Counts, more_of, number_of}
use Rattle.kept_names.specs.declared.finding.What.{What}
use Rattle.kept_names.specs.declared.finding.What.TheVariants.{Missing, Changed, New, Unnamed, Left}
use Rattle.kept_names.specs.declared.tally.Tally.{Tally}

abbrev pub tally_of : List Found → Tally
tally_of found =
    record {
      missing = number_of (codes "missing") found;
      changed = number_of (codes "changed") found;
      new = number_of (codes "new") found;
      unnamed = number_of (codes "unnamed") found;
      left = number_of (codes "left") found;
    }

-- how many are of the kind
abbrev pub tallied : Tally → What → ℕ
tallied tally Missing = tally.missing
tallied tally (Changed uid gid) = tally.changed
tallied tally New = tally.new
tallied tally (Unnamed user group) = tally.unnamed
tallied tally (Left user group) = tally.left

abbrev pub one_more : Tally → What → Tally
one_more tally Missing = record tally { missing = tally.missing + 1 }
one_more tally (Changed uid gid) = record tally { changed = tally.changed + 1 }
one_more tally New = record tally { new = tally.new + 1 }
one_more tally (Unnamed user group) = record tally { unnamed = tally.unnamed + 1 }
one_more tally (Left user group) = record tally { left = tally.left + 1 }

-- the counts, of so many files of the first inventory
abbrev pub counts_by : ℕ → Tally → Counts
counts_by files tally =
    record {
      kept = files - tally.missing - tally.changed;
      missing = tally.missing;
      changed = tally.changed;
      new = tally.new;
      unnamed = tally.unnamed;
      left = tally.left;
    }

abbrev pub more_lines : ℕ → Tally → List ℕ
more_lines most tally =
    flat_map (λ (row : List ℕ × ℕ). more_of most row.0 row.1)
    ((codes "missing", tally.missing) ∷ (codes "changed", tally.changed)
    ∷ (codes "new", tally.new) ∷ (codes "unnamed", tally.unnamed)
    ∷ (codes "left", tally.left) ∷ [])
