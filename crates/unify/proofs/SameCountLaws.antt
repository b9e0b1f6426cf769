-- What it means that each account of a host owns as many files of two inventories.
use Rattle.std.proofs.Common.{◌≡◌, ℕ, zero, suc, ◌==◌, List, [], ◌∷◌, map, count_by, refl, ap, subst, arith}
use Rattle.std.specs.List.{Contains}
use Rattle.accounts.specs.Rows.{Passwd, Group}
use Rattle.mtree_inv.specs.declared.entry.Entry.{Entry}
use Rattle.unify.specs.RowFiles.{RowFiles}
use Rattle.unify.specs.SameCountLaws.{OwnAsMany, SameCountsAreByAccount}
use Rattle.unify.specs.SecondPass.{HaveSameCounts}

first-same : (x y : ℕ) (xs ys : List ℕ) → x ∷ xs ≡ y ∷ ys → x ≡ y
first-same x y xs ys e = cc

rest-same : (x y : ℕ) (xs ys : List ℕ) → x ∷ xs ≡ y ∷ ys → xs ≡ ys
rest-same x y xs ys e = cc

-- two numbers of each row are the same where they are the same in their order
module _ {Row : Type 0} (one other : Row → ℕ) where
  of-rows : (rows : List Row) → map one rows ≡ map other rows → (row : Row) → Contains rows row → one row ≡ other row
  of-rows [] same row there = absurd (omega (arith, there.1))
  of-rows (r ∷ rows) same row (zero, h, is) = let first = first-same (one r) (other r) (map one rows) (map other rows) same in subst (λ x. one x ≡ other x) is first
  of-rows (r ∷ rows) same row (suc k, h, is) = of-rows rows (rest-same (one r) (other r) (map one rows) (map other rows) same) row (k, omega (arith, h), is)

  in-order : (rows : List Row) → ((row : Row) → Contains rows row → one row ≡ other row) → map one rows ≡ map other rows
  in-order [] same = refl
  in-order (r ∷ rows) same =
      let first = same r (0, omega arith, refl) in
      let rest = in-order rows (λ row there. same row (suc there.0, omega (arith, there.1), there.2)) in
      cc

pub same_counts_are_by_account : SameCountsAreByAccount
same_counts_are_by_account host files others = (there, back)
  where
    there : HaveSameCounts host files others → OwnAsMany host files others
    there same = record {
      users = of-rows (λ (r : Passwd). count_by (λ (e : Entry). e.uid == r.uid) files) (λ (r : Passwd). count_by (λ (e : Entry). e.uid == r.uid) others) host.users (ap (λ (rows : RowFiles). rows.users) same);
      groups = of-rows (λ (r : Group). count_by (λ (e : Entry). e.gid == r.gid) files) (λ (r : Group). count_by (λ (e : Entry). e.gid == r.gid) others) host.groups (ap (λ (rows : RowFiles). rows.groups) same);
    }

    back : OwnAsMany host files others → HaveSameCounts host files others
    back as_many =
        let users = in-order (λ (r : Passwd). count_by (λ (e : Entry). e.uid == r.uid) files) (λ (r : Passwd). count_by (λ (e : Entry). e.uid == r.uid) others) host.users as_many.users in
        let groups = in-order (λ (r : Group). count_by (λ (e : Entry). e.gid == r.gid) files) (λ (r : Group). count_by (λ (e : Entry). e.gid == r.gid) others) host.groups as_many.groups in
        λ i. record { users = users i; groups = groups i }
