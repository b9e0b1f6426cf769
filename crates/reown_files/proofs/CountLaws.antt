-- What a count of files looks at, and how its numbers add up.
use Rattle.std.proofs.Common.{◌≡◌, List, [], ◌∷◌, Some, map, take, length, refl, ◌∙◌, ap, arith}
use Rattle.std.proofs.lemmas.List.{length-map}
use Rattle.reown_plan.specs.PlanData.{PlanRecord}
use Rattle.reown_files.specs.Calls.{Called}
use Rattle.reown_files.specs.CountLaws.{path_looked_at, LooksAtEach, StopsAtFile, FilesAreAllCounted}
use Rattle.reown_files.specs.Counting.{Look, call_of, files_of, AreLookedAt, StopsCount}
use Rattle.reown_files.specs.declared.answers.OpenFault.{OpenFault}
use Rattle.reown_files.specs.declared.answers.OpenFault.TheVariants.{Missing, Foreign, Unfinished, AlreadyChanged, File, Disk, Modes, Memory}
use Rattle.reown_files.proofs.Countings.{each_once}

paths_of : (looks : List Look) → map path_looked_at (map call_of looks) ≡ map (λ (r : PlanRecord). Some r.path) (map (λ (look : Look). look.0) looks)
paths_of [] = refl
paths_of ((r, seen) ∷ looks) = ap (λ paths. Some r.path ∷ paths) (paths_of looks)

each_looked_at : (records : List PlanRecord) (old new : List Called) → AreLookedAt records old new → LooksAtEach records old new
each_looked_at records old new (looks, are, calls) =
    (map call_of looks, calls, paths_of looks ∙ ap (map (λ (r : PlanRecord). Some r.path)) are)

stops_at : (records : List PlanRecord) (old new : List Called) (fault : OpenFault) → StopsCount records old new fault → StopsAtFile records old new fault
stops_at records old new (File i trouble) (r, here, before, looked, last) =
    record { i = i; trouble = trouble; r = r; before = before; told = refl; here = here; looked = each_looked_at (take i records) old before looked; last = last }
stops_at records old new (Missing at) h = absurd h
stops_at records old new (Foreign at owner) h = absurd h
stops_at records old new (Unfinished at) h = absurd h
stops_at records old new (AlreadyChanged at) h = absurd h
stops_at records old new (Disk trouble) h = absurd h
stops_at records old new (Modes trouble) h = absurd h
stops_at records old new Memory h = absurd h

pub all_counted : (records : List PlanRecord) (old new : List Called) → FilesAreAllCounted records old new
all_counted records old new =
    record {
      looked = λ counts h. each_looked_at records old new (h.0, h.1, h.2);
      add_up = λ counts h. omega (arith, ap files_of h.3, each_once h.0, length-map h.0 (λ (look : Look). look.0), ap (λ (rs : List PlanRecord). length rs) h.1);
      stopped = stops_at records old new;
    }
