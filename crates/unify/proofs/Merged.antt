-- What a merge answers, from what its layers answer.
use Rattle.std.proofs.Common.{◌≡◌, ℕ, List, sym, ap, subst, ◌∙◌, arith}
use Rattle.hosts_join.specs.Accounts.{Accounts}
use Rattle.ownership.specs.Costs.{IsOptimal}
use Rattle.ownership.specs.Files.{File}
use Rattle.ownership.specs.Mappings.{IsAdmissible}
use Rattle.ownership.specs.declared.mapping.Mappings.{Mappings}
use Rattle.ownership.specs.Potentials.{AreCertifying}
use Rattle.ownership.specs.Weights.{IsFilled, IsFresh}
use Rattle.certcheck.specs.Certificate.{Side, IsSide}
use Rattle.certcheck.specs.Check.{mapping_of, potentials_of}
use Rattle.certcheck.specs.Made.{IsSideOf}
use Rattle.unify.specs.Solving.{IsSolved}
use Rattle.unify.specs.Outcomes.{AreAnswered, user_files, group_files}
use Rattle.unify.specs.Reading.{WholeSite}

abbrev mappings_with : List ℕ → List ℕ → Mappings
mappings_with users groups = record { users = users; groups = groups }

-- a solution with its side of the certificate; b are the accounts of the rows
pub solved_names : (a b : Accounts) → b ≡ a → (files : List File) (m y : List ℕ) (z : List (ℕ × ℕ)) (side : Side) → IsAdmissible b m → IsOptimal b files m → IsFilled b (IsFresh b files m) m → AreCertifying b files m y z → IsSideOf a m y z side → IsSide side → IsSolved a files m side
solved_names a b same files m y z side admissible optimal filled certifying told ordered =
    let mine : IsAdmissible a m = subst (λ x. IsAdmissible x m) same admissible in
    let proved : AreCertifying a files m y z = subst (λ x. AreCertifying x files m y z) same certifying in
    record {
      admissible = mine;
      optimal = subst (λ x. IsOptimal x files m) same optimal;
      filled = subst (λ x. IsFilled x (IsFresh x files m) m) same filled;
      given = told.mapping;
      certified = record {
        names = told.names;
        admissible = subst (λ x. IsAdmissible a x) (sym told.mapping) mine;
        certifying = subst (λ x. AreCertifying a files x (potentials_of a side.rows) side.z) (sym told.mapping) (subst (λ x. AreCertifying a files m x side.z) (sym told.ys) (subst (λ x. AreCertifying a files m y x) (sym told.z) proved));
      };
      ordered = ordered;
    }

-- both kinds together
pub both_answered : (site : WholeSite) (users groups : List ℕ) (user_side group_side : Side) → IsSolved site.joined.users (user_files site) users user_side → IsSolved site.joined.groups (group_files site) groups group_side
    → AreAnswered site (record { users = users; groups = groups }) (record { users = user_side; groups = group_side })
both_answered site users groups user_side group_side u g = record {
  least = record {
    admissible = record { users = u.admissible; groups = g.admissible };
    least = λ other its.
        let one = u.optimal.least other.users its.users in
        let two = g.optimal.least other.groups its.groups in
        omega (arith, one, two);
  };
  fewest_user_rows = u.optimal.fewest_rows;
  fewest_group_rows = g.optimal.fewest_rows;
  filled_users = u.filled;
  filled_groups = g.filled;
  certified = record { users = u.certified; groups = g.certified };
  certificate_has = ap (λ (x : List ℕ). mappings_with x (mapping_of site.joined.groups group_side.rows)) u.given ∙ ap (mappings_with users) g.given;
  user_side = u.ordered;
  group_side = g.ordered;
}
