-- Hosts with the texts of their inventories.
-- Source: this project's own rule.
use Rattle.std.specs.Prelude.{ℕ, List, [], ◌∷◌}
use Rattle.hosts_join.specs.declared.host.Host.{Host}
use Rattle.site_tables.specs.declared.host.Loaded.{Loaded}

-- hosts with the texts of their inventories
abbrev pub loaded_from : List Host → List (List ℕ) → List Loaded
loaded_from [] mtrees = []
loaded_from (host ∷ hosts) [] = []
loaded_from (host ∷ hosts) (mtree ∷ mtrees) =
    record { host = host; mtree = mtree } ∷ loaded_from hosts mtrees
