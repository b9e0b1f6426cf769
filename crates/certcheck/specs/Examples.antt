-- The text of a certificate by example.
-- Source: this project's own format; the text is this project's own.
use Rattle.std.specs.Prelude.{◌≡◌, ℕ, List, [], ◌∷◌, ◌++◌, codes}
use Rattle.certcheck.specs.Certificate.{Row}
use Rattle.certcheck.specs.declared.certificate.Certificate.{Certificate}
use Rattle.certcheck.specs.Spelling.{spelling}

-- a name, its number and its y
abbrev row : List ℕ → ℕ → ℕ → Row
row name number y = record { name = name; number = number; y = y }

-- two users and a group; one number of each kind has a z
abbrev pub certificate : Certificate
certificate = record {
  users = record {
    rows = row (codes "ann") 1001 40 ∷ row (codes "ben") 1002 0 ∷ [];
    z = (1003, 7) ∷ [];
  };
  groups = record { rows = row (codes "staff") 50 6 ∷ []; z = (51, 2) ∷ [] };
}

abbrev pub ExampleOfCertificate : Type 0
ExampleOfCertificate =
    spelling certificate
    ≡ codes "unify certificate 2\n" ++ codes "user ann 1001 40\n" ++ codes "user ben 1002 0\n"
    ++ codes "zuser 1003 7\n" ++ codes "group staff 50 6\n" ++ codes "zgroup 51 2\n"
    ++ codes "end\n"
