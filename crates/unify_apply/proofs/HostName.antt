-- What the name of a machine is that begins with a host's and a dot.
use Rattle.std.proofs.Common.{◌≡◌, ℕ, ◌==◌, ◌&&◌, Bool, true, false, List, [], ◌∷◌, ◌++◌, drop, length, refl, ap, ◌∙◌}
use Rattle.std.specs.Prelude.{codes}
use Rattle.idtext.specs.Pieces.{begins_with}

and-assoc : (a b c : Bool) → (a && (b && c)) ≡ (a && b && c)
and-assoc true b c = refl
and-assoc false b c = refl

pub dotted : (host machine : List ℕ)
    → begins_with (host ++ codes ".") machine ≡ (begins_with host machine && begins_with (codes ".") (drop (length host) machine))
dotted [] machine = refl
dotted (b ∷ host) [] = refl
dotted (b ∷ host) (c ∷ machine) =
    ap (λ t. c == b && t) (dotted host machine)
    ∙ and-assoc (c == b) (begins_with host machine) (begins_with (codes ".") (drop (length host) machine))
