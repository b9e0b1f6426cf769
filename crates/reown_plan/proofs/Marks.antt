-- Marks, and the plans that they are of.
use Rattle.std.proofs.Common.{◌≡◌, ◌↔◌, ◌≤◌, ◌-◌, ℕ, zero, suc, Bool, true, false, not, ◌&&◌, ◌||◌, ◌==◌, nat_lt, slice_index, List, [], ◌∷◌, ◌++◌, length, replicate, refl, sym, ◌∙◌, ap, arith}
use Rattle.std.specs.List.{list_all}
use Rattle.std.specs.Cmp.Lexicographic.{bytes_decides}
use Rattle.std.specs.Str.{bytes_eq}
use Rattle.std.proofs.lemmas.Bool.{eq-eqb, true≢false}
use Rattle.std.proofs.lemmas.Bool.Decides.{nat_tests}
use Rattle.sha2.specs.Sha256.{sha256}
use Rattle.hosts_join.specs.Checks.{is_host_byte, is_host_name}
use Rattle.reown_plan.specs.declared.mark.PlanMark.{PlanMark}
use Rattle.reown_plan.specs.Mark.{mark_of, mark_eq}
use Rattle.reown_plan.specs.PlanData.{PlanData}
use Rattle.reown_plan.specs.Spelling.{IsHostName, spelling}

first_holds : (x y : Bool) → (x && y) ≡ true → x ≡ true
first_holds true y h = refl
first_holds false y h = h

second_holds : (x y : Bool) → (x && y) ≡ true → y ≡ true
second_holds true y h = h
second_holds false y h = absurd (true≢false (sym h))

pub mark_eq-refl : (a : PlanMark) → mark_eq a a ≡ true
mark_eq-refl a = rw ((bytes_decides a.host a.host).1 refl, eq-eqb a.length a.length refl, (bytes_decides a.digest a.digest).1 refl) refl

mark_eq-same : (a b : PlanMark) → mark_eq a b ≡ true → a ≡ b
mark_eq-same a b h =
    let front = first_holds (bytes_eq a.host b.host && (a.length == b.length)) (bytes_eq a.digest b.digest) h in
    let hosts = first_holds (bytes_eq a.host b.host) (a.length == b.length) front in
    let numbers = second_holds (bytes_eq a.host b.host) (a.length == b.length) front in
    let digests = second_holds (bytes_eq a.host b.host && (a.length == b.length)) (bytes_eq a.digest b.digest) h in
    let host = (bytes_decides a.host b.host).0 hosts in
    let size : a.length ≡ b.length = grind (arith, nat_tests) in
    let digest = (bytes_decides a.digest b.digest).0 digests in
    λ i. record { host = host i; length = size i; digest = digest i }

pub marks_compare : (a b : PlanMark) → (mark_eq a b ≡ true) ↔ (a ≡ b)
marks_compare a b = (mark_eq-same a b, λ same. ap (mark_eq a) (sym same) ∙ mark_eq-refl a)

-- a zero byte stands in no name of a host
no_zero : (b : ℕ) → is_host_byte b ≡ true → b ≡ 0 → ⊥
no_zero b h zero_is = true≢false (sym h ∙ ap is_host_byte zero_is)

unpadded : (n : ℕ) (a b : List ℕ) → length a ≤ n → length b ≤ n → list_all is_host_byte a ≡ true → list_all is_host_byte b ≡ true
    → a ++ replicate (n - length a) 0 ≡ b ++ replicate (n - length b) 0 → a ≡ b
unpadded n [] [] within within' of of' h = refl
unpadded zero [] (y ∷ ys) within within' of of' h = absurd (omega (arith, within'))
unpadded zero (x ∷ xs) b within within' of of' h = absurd (omega (arith, within))
unpadded (suc n) [] (y ∷ ys) within within' of of' h =
    let all : suc n - 0 ≡ suc n = omega arith in
    let zeros : 0 ∷ replicate n 0 ≡ y ∷ (ys ++ replicate (suc n - length (y ∷ ys)) 0) = ap (λ k. replicate k 0) (sym all) ∙ h in
    absurd (no_zero y (first_holds (is_host_byte y) (list_all is_host_byte ys) of') (let same : 0 ≡ y = cc in sym same))
unpadded (suc n) (x ∷ xs) [] within within' of of' h =
    let all : suc n - 0 ≡ suc n = omega arith in
    let zeros : x ∷ (xs ++ replicate (suc n - length (x ∷ xs)) 0) ≡ 0 ∷ replicate n 0 = h ∙ ap (λ k. replicate k 0) all in
    absurd (no_zero x (first_holds (is_host_byte x) (list_all is_host_byte xs) of) (let same : x ≡ 0 = cc in same))
unpadded (suc n) (x ∷ xs) (y ∷ ys) within within' of of' h =
    let first : x ≡ y = cc in
    let one : suc n - length (x ∷ xs) ≡ n - length xs = omega arith in
    let other : suc n - length (y ∷ ys) ≡ n - length ys = omega arith in
    let tails : xs ++ replicate (suc n - length (x ∷ xs)) 0 ≡ ys ++ replicate (suc n - length (y ∷ ys)) 0 = cc in
    let rest = ap (λ k. xs ++ replicate k 0) (sym one) ∙ tails ∙ ap (λ k. ys ++ replicate k 0) other in
    let same = unpadded n xs ys (omega (arith, within)) (omega (arith, within')) (second_holds (is_host_byte x) (list_all is_host_byte xs) of) (second_holds (is_host_byte y) (list_all is_host_byte ys) of') rest in
    λ i. first i ∷ same i

abbrev begun : List ℕ → Bool
begun name = not ((slice_index name 0 == 46) || (slice_index name 0 == 45)) && list_all is_host_byte name

pub short_name : (name : List ℕ) → is_host_name name ≡ true → length name ≤ 64
short_name name h =
    let short : not ((length name == 0) || nat_lt 64 (length name)) ≡ true = first_holds (not ((length name == 0) || nat_lt 64 (length name))) (begun name) h in
    grind (arith, nat_tests)

of_host_bytes : (name : List ℕ) → is_host_name name ≡ true → list_all is_host_byte name ≡ true
of_host_bytes name h =
    second_holds (not ((slice_index name 0 == 46) || (slice_index name 0 == 45))) (list_all is_host_byte name)
    (second_holds (not ((length name == 0) || nat_lt 64 (length name))) (begun name) h)

pub marks_tell_hosts : (a b : PlanData) → IsHostName a.host → IsHostName b.host → mark_of a ≡ mark_of b → a.host ≡ b.host
marks_tell_hosts a b lawful lawful' same =
    unpadded 64 a.host b.host (short_name a.host lawful) (short_name b.host lawful') (of_host_bytes a.host lawful) (of_host_bytes b.host lawful') (ap (λ (m : PlanMark). m.host) same)

pub marks_tell_texts : (a b : PlanData) → mark_of a ≡ mark_of b
    → (length (spelling a) ≡ length (spelling b)) × (sha256 (spelling a) ≡ sha256 (spelling b))
marks_tell_texts a b same = (ap (λ (m : PlanMark). m.length) same, ap (λ (m : PlanMark). m.digest) same)
