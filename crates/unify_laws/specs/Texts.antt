-- The inventories among texts.
-- Source: this project's own rule.
use Rattle.std.specs.Prelude.{ℕ, List, map}
use Rattle.hosts_join.specs.declared.texts.HostText.{HostText}

abbrev pub mtrees : List HostText → List (List ℕ)
mtrees texts = map (λ t. t.mtree) texts
