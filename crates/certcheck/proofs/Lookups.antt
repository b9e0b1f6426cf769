-- Look-ups in a list that is seen through a function, as rows are.
use Rattle.std.proofs.Common.{◌≡◌, ℕ, zero, suc, ◌+◌, ◌<◌, ◌≤◌, Bool, true, false, List, [], ◌∷◌, map, length, get_or, Some, None, refl, sym, ap, ◌∙◌, ⊎_elim, arith, subst}
use Rattle.std.specs.List.{find}
use Rattle.std.specs.Str.{bytes_eq}
use Rattle.std.proofs.lemmas.Slice.Eq.{bytes_eq-Decides}
use Rattle.std.proofs.lemmas.List.{get_or-map, get_or_default}
use Rattle.std.proofs.lemmas.Bool.{cond-true, cond-false, eq-eqb, ne_eqb, cases_lt}
use Rattle.certcheck.specs.declared.certificate.CertRow.{CertRow}
use Rattle.certcheck.specs.Certificate.{Row, AreAscending, ComesBefore}
use Rattle.ownership.specs.Potentials.{AscendsByNumber, value_at}
use Rattle.certcheck.specs.Views.{row_of, rows_of}
use Rattle.certcheck.specs.Check.{row_named}
use Rattle.certcheck.proofs.Order.{eq_before, eq_after, before_trans}

-- the first that passes
pub find_at : {X Y : Type 0} (f : X → Y) (p : Y → Bool) (xs : List X) (i : ℕ) (d : X) → i < length xs → ((k : ℕ) → k < i → p (f (get_or xs k d)) ≡ false) → p (f (get_or xs i d)) ≡ true → find p (map f xs) ≡ Some (f (get_or xs i d))
find_at f p [] i d l before here = absurd (omega arith)
find_at f p (x ∷ xs) zero d l before here = cond-true _ _ _ here
find_at f p (x ∷ xs) (suc i) d l before here = cond-false _ _ _ (before 0 (omega arith)) ∙ find_at f p xs i d (omega arith) (λ k h. before (suc k) (omega arith)) here

pub find_nowhere : {X Y : Type 0} (f : X → Y) (p : Y → Bool) (xs : List X) → ((k : ℕ) (d : X) → k < length xs → p (f (get_or xs k d)) ≡ false) → find p (map f xs) ≡ None
find_nowhere f p [] none = refl
find_nowhere f p (x ∷ xs) none = cond-false _ _ _ (none 0 x (omega arith)) ∙ find_nowhere f p xs (λ k d h. none (suc k) d (omega arith))

pub ascending_rows : (rs : List CertRow) → AreAscending (rows_of rs) → (i j : ℕ) (d : CertRow) → i < j → j < length rs → ComesBefore (get_or rs i d).name.now (get_or rs j d).name.now
ascending_rows rs up i j d h l =
    let one : ComesBefore (get_or (rows_of rs) i (row_of d)).name (get_or (rows_of rs) j (row_of d)).name = up i j (row_of d) h (rw (length-rows rs) l) in
    let P : Row → Type 0 = λ r. ComesBefore r.name (get_or rs j d).name.now in
    let Q : Row → Type 0 = λ r. ComesBefore (get_or (rows_of rs) i (row_of d)).name r.name in
    subst P (get_or-map row_of rs i d (row_of d) (omega arith)) (subst Q (get_or-map row_of rs j d (row_of d) l) one)
  where
    length-rows : (rs : List CertRow) → length (rows_of rs) ≡ length rs
    length-rows [] = refl
    length-rows (x ∷ xs) = ap suc (length-rows xs)

-- the row of a name, by a search that has passed the rows before a place and after it
pub row_found : (rs : List CertRow) (n : List ℕ) (i : ℕ) (d : CertRow) → i < length rs → ((k : ℕ) → k < i → ComesBefore (get_or rs k d).name.now n) → bytes_eq n (get_or rs i d).name.now ≡ true → row_named (rows_of rs) n ≡ Some (row_of (get_or rs i d))
row_found rs n i d l before here = find_at row_of (λ r. bytes_eq n r.name) rs i d l (λ k h. eq_after _ n (before k h)) here

pub row_absent : (rs : List CertRow) (n : List ℕ) (i : ℕ) → ((k : ℕ) (d : CertRow) → k < i → ComesBefore (get_or rs k d).name.now n) → ((k : ℕ) (d : CertRow) → i ≤ k → k < length rs → ComesBefore n (get_or rs k d).name.now) → row_named (rows_of rs) n ≡ None
row_absent rs n i before after = find_nowhere row_of (λ r. bytes_eq n r.name) rs (λ k d h.
    ⊎_elim
    (λ (low : k < i). eq_after _ n (before k d low))
    (λ (high : i ≤ k). eq_before n _ (after k d high h))
    (cases_lt k i))

-- the value of a number
pub value_found : (z : List (ℕ × ℕ)) (v i : ℕ) (d : ℕ × ℕ) → i < length z → ((k : ℕ) → k < i → (get_or z k d).0 < v) → (get_or z i d).0 ≡ v → value_at z v ≡ (get_or z i d).1
value_found [] v i d l before here = absurd (omega arith)
value_found (e ∷ es) v zero d l before here = cond-true _ _ _ (eq-eqb e.0 v here)
value_found (e ∷ es) v (suc i) d l before here =
    let less : e.0 < v = before 0 (omega arith) in
    cond-false _ _ _ (ne_eqb e.0 v (λ q. absurd (omega (arith, less, q)))) ∙ value_found es v i d (omega arith) (λ k h. before (suc k) (omega arith)) here

pub value_absent : (z : List (ℕ × ℕ)) (v : ℕ) → ((k : ℕ) (d : ℕ × ℕ) → k < length z → (get_or z k d).0 ≡ v → ⊥) → value_at z v ≡ 0
value_absent [] v none = refl
value_absent (e ∷ es) v none = cond-false _ _ _ (ne_eqb e.0 v (none 0 e (omega arith))) ∙ value_absent es v (λ k d h. none (suc k) d (omega arith))

-- a search that halves: what stands up to a place is below, what stands from a place on is above
pub z_below : (z : List (ℕ × ℕ)) (v m : ℕ) (e : ℕ × ℕ) → AscendsByNumber z → m < length z → (get_or z m e).0 < v → (k : ℕ) (d : ℕ × ℕ) → k < m + 1 → (get_or z k d).0 < v
z_below z v m e up l here k d h =
    ⊎_elim
    (λ (low : k < m).
    let more : (get_or z k d).0 < (get_or z m d).0 = up k m d low l in
    let same : (get_or z m d).0 ≡ (get_or z m e).0 = ap (λ (x : ℕ × ℕ). x.0) (get_or_default z m d e l) in
    omega (arith, more, same, here))
    (λ (high : m ≤ k).
    let at : k ≡ m = omega arith in
    let same : (get_or z k d).0 ≡ (get_or z m e).0 = ap (λ n. (get_or z n d).0) at ∙ ap (λ (x : ℕ × ℕ). x.0) (get_or_default z m d e l) in
    omega (arith, same, here))
    (cases_lt k m)

pub z_above : (z : List (ℕ × ℕ)) (v m : ℕ) (e : ℕ × ℕ) → AscendsByNumber z → m < length z → v < (get_or z m e).0 → (k : ℕ) (d : ℕ × ℕ) → m ≤ k → k < length z → v < (get_or z k d).0
z_above z v m e up l here k d h in' =
    ⊎_elim
    (λ (high : m < k).
    let more : (get_or z m d).0 < (get_or z k d).0 = up m k d high in' in
    let same : (get_or z m d).0 ≡ (get_or z m e).0 = ap (λ (x : ℕ × ℕ). x.0) (get_or_default z m d e l) in
    omega (arith, more, same, here))
    (λ (low : k ≤ m).
    let at : k ≡ m = omega arith in
    let same : (get_or z k d).0 ≡ (get_or z m e).0 = ap (λ n. (get_or z n d).0) at ∙ ap (λ (x : ℕ × ℕ). x.0) (get_or_default z m d e l) in
    omega (arith, same, here))
    (cases_lt m k)

pub rows_below : (rs : List CertRow) (n : List ℕ) (m : ℕ) (e : CertRow) → AreAscending (rows_of rs) → m < length rs → ComesBefore (get_or rs m e).name.now n → (k : ℕ) (d : CertRow) → k < m + 1 → ComesBefore (get_or rs k d).name.now n
rows_below rs n m e up l here k d h =
    let P : CertRow → Type 0 = λ r. ComesBefore r.name.now n in
    let there : ComesBefore (get_or rs m d).name.now n = subst P (get_or_default rs m e d l) here in
    ⊎_elim
    (λ (low : k < m). before_trans (get_or rs k d).name.now (get_or rs m d).name.now n (ascending_rows rs up k m d low l) there)
    (λ (high : m ≤ k).
    let Q : ℕ → Type 0 = λ i. ComesBefore (get_or rs i d).name.now n in
    let at : m ≡ k = omega arith in
    subst Q at there)
    (cases_lt k m)

pub rows_above : (rs : List CertRow) (n : List ℕ) (m : ℕ) (e : CertRow) → AreAscending (rows_of rs) → m < length rs → ComesBefore n (get_or rs m e).name.now → (k : ℕ) (d : CertRow) → m ≤ k → k < length rs → ComesBefore n (get_or rs k d).name.now
rows_above rs n m e up l here k d h in' =
    let P : CertRow → Type 0 = λ r. ComesBefore n r.name.now in
    let there : ComesBefore n (get_or rs m d).name.now = subst P (get_or_default rs m e d l) here in
    ⊎_elim
    (λ (high : m < k). before_trans n (get_or rs m d).name.now (get_or rs k d).name.now there (ascending_rows rs up m k d high in'))
    (λ (low : k ≤ m).
    let Q : ℕ → Type 0 = λ i. ComesBefore n (get_or rs i d).name.now in
    let at : m ≡ k = omega arith in
    subst Q at there)
    (cases_lt m k)

pub row_at : (rs : List CertRow) (n : List ℕ) (i : ℕ) (d : CertRow) → AreAscending (rows_of rs) → i < length rs → (get_or rs i d).name.now ≡ n → row_named (rows_of rs) n ≡ Some (row_of (get_or rs i d))
row_at rs n i d up l same =
    let P : List ℕ → Type 0 = λ m. (k : ℕ) → k < i → ComesBefore (get_or rs k d).name.now m in
    row_found rs n i d l (subst P same (λ k h. ascending_rows rs up k i d h l)) ((bytes_eq-Decides n _).1 (sym same))
