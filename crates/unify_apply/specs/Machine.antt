-- The machine that a plan is carried out on, and who does so.
-- Source: proc(5): /proc/sys/kernel/hostname; /proc/PID/status, whose line `Uid:` has the real and
-- then the effective user. That a machine is a host too if its name begins with the host's and a
-- dot, and that a word of the command may name a host that is called otherwise, are this project's
-- own rules.
use Rattle.std.specs.Prelude.{ℕ, Bool, false, ◌&&◌, ◌||◌, List, ◌∷◌, ◌++◌, Option, None, Some}
use Rattle.std.specs.Prelude.{codes, if◌then◌else◌}
use Rattle.std.specs.List.{list_any}
use Rattle.std.specs.Str.{bytes_eq}
use Rattle.idtext.specs.Pieces.{begins_with, lines}
use Rattle.idtext.specs.Words.{words}
use Rattle.unify_apply.specs.Ends.{without_end}
use Rattle.unify_apply.specs.declared.machine.HostFit.{HostFit}
use Rattle.unify_apply.specs.declared.machine.HostFit.TheVariants.{Same, Named, Other}

-- ---- its name

-- the name that a text tells: without the newline after it
abbrev pub name_in : List ℕ → List ℕ
name_in text = without_end (codes "\n") text

abbrev pub is_called : List ℕ → List ℕ → Bool
is_called host machine = bytes_eq machine host || begins_with (host ++ codes ".") machine

-- How a machine fits the host of a plan: a machine that is not called so is that host only if it
-- is named so; and where another host is named, it is none.
abbrev pub fit_of : List ℕ → Option (List ℕ) → List ℕ → HostFit
fit_of host None machine = if is_called host machine then Same else Other
fit_of host (Some name) machine =
    if bytes_eq name host then (if is_called host machine then Same else Named) else Other

-- ---- who calls

-- the words of a line that tells that the effective user is 0
abbrev pub have_root : List (List ℕ) → Bool
have_root (head ∷ real ∷ effective ∷ more) =
    bytes_eq head (codes "Uid:") && bytes_eq effective (codes "0")
have_root _ = false

abbrev pub tells_root : List ℕ → Bool
tells_root line = have_root (words line)

-- a status tells so by one of its lines
abbrev pub is_of_root : List ℕ → Bool
is_of_root status = list_any tells_root (lines status)
