-- What certifies a mapping in the rows certifies it for the files that were weighed.
use Rattle.std.proofs.Common.{◌≡◌, ℕ, ◌<◌, Bool, true, false, cond, List, length, refl, ap, ◌∙◌, arith}
use Rattle.std.proofs.lemmas.Bool.{cond-true}
use Rattle.hosts_join.specs.declared.Class.{Class}
use Rattle.hosts_join.specs.declared.Class.TheVariants.{Pinned, Regular, System}
use Rattle.hosts_join.specs.Accounts.{Accounts}
use Rattle.hosts_join.specs.Rules.{class_at, in_pool, is_free_class}
use Rattle.ownership.specs.Files.{File}
use Rattle.ownership.specs.Mappings.{number_at, MayHave, IsAdmissible}
use Rattle.ownership.specs.Potentials.{AreCertifying}
use Rattle.ownership.specs.Sums.{sum_below}
use Rattle.ownership.specs.Weights.{weight, IsFilled, IsFresh}
use Rattle.candidates.specs.Rows.{Choices, AreRowsOf}
use Rattle.assignment.specs.Solutions.{row_weight, Proves, IsFreshIn}
use Rattle.ownership.proofs.SumsBelow.{sum_below-same}

-- a free name's number is in its pool, and a pinned name has no pool
lawful_weight : (a : Accounts) (c : Class) (v w : ℕ) → MayHave a c v → cond (in_pool a c v) w 0 ≡ cond (is_free_class c) w 0
lawful_weight a (Pinned p) v w may = refl
lawful_weight a Regular v w may = cond-true _ w 0 may
lawful_weight a System v w may = cond-true _ w 0 may

pub certifies : (c : Choices) (m y : List ℕ) (z : List (ℕ × ℕ)) → length c.rows ≡ length c.accounts.names → IsAdmissible c.accounts m → Proves c m y z → (files : List File) → AreRowsOf c files → AreCertifying c.accounts files m y z
certifies c m y z len admissible proves files rows =
    let a = c.accounts in
    record {
      len = proves.len ∙ len;
      cover = λ i v l pooled.
          let weighs = (rows i l).weights v ∙ cond-true _ (weight a files i v) 0 pooled in
          let covered = proves.cover i v (omega (arith, l, len)) in
          omega (arith, weighs, covered);
      equal =
          let all = ap (sum_below (λ i. row_weight c i (number_at m i))) len in
          let weights = sum_below-same (λ i. row_weight c i (number_at m i)) (λ i. cond (is_free_class (class_at a i)) (weight a files i (number_at m i)) 0) (length a.names) (λ i l. (rows i l).weights (number_at m i) ∙ lawful_weight a (class_at a i) (number_at m i) (weight a files i (number_at m i)) (admissible.lawful i l)) in
          proves.equal ∙ all ∙ weights;
    }

pub fresh_filled : (c : Choices) (m : List ℕ) → IsFilled c.accounts (IsFreshIn c m) m → (files : List File) → AreRowsOf c files → IsFilled c.accounts (IsFresh c.accounts files m) m
fresh_filled c m filled files rows i v l waits pooled below =
    let fresh : (k : ℕ) → k < length c.accounts.names → IsFresh c.accounts files m k → IsFreshIn c m k = λ k h f. record { free = f.free; weightless = (rows k h).weights (number_at m k) ∙ nothing (in_pool c.accounts (class_at c.accounts k) (number_at m k)) _ f.weightless } in
    let had = filled i v l (fresh i l waits) pooled below in
    record { by = had.by; within = had.within; other = had.other; has = had.has; earlier = λ w. had.earlier (fresh had.by had.within w) }
  where
    nothing : (b : Bool) (w : ℕ) → w ≡ 0 → cond b w 0 ≡ 0
    nothing true w e = e
    nothing false w e = refl
