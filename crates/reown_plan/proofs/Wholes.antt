-- What a plan's text is made of.
use Rattle.std.proofs.Common.{◌≡◌, ◌<◌, ℕ, List, [], ◌∷◌, ◌++◌, length, sym, ◌∙◌, subst, arith, append_assoc}
use Rattle.std.specs.Prelude.{decimal, codes}
use Rattle.std.specs.Char.{digit_value}
use Rattle.std.specs.Str.Parse.{AllDigits}
use Rattle.std.proofs.lemmas.Fmt.{decimal_is_IsNumeral}
use Rattle.reown_plan.specs.PlanData.{PlanRecord, PlanData}
use Rattle.reown_plan.specs.Spelling.{number, head, line, lines, end, spelling, IsLawfulRecord}

pub spelling_parts : (plan : PlanData) → spelling plan ≡ head plan.host ++ (lines plan.records ++ end)
spelling_parts plan = append_assoc (head plan.host) (lines plan.records) end

no_digit : (ds rest more : List ℕ) → AllDigits 10 ds → 0 < length ds → 101 ∷ more ≡ ds ++ rest → ⊥
no_digit [] rest more all some e = omega arith
no_digit (c ∷ cs) rest more all some e =
    let first : 101 ≡ c = cc in
    let big : digit_value 101 < 10 = subst (λ d. digit_value d < 10) (sym first) all.0 in
    omega (arith, big)

pub end_no_line_more : (c : PlanRecord) (after rest : List ℕ) → IsLawfulRecord c → end ++ rest ≡ line c ++ after → ⊥
end_no_line_more c after rest lawful e =
    let is = decimal_is_IsNumeral c.before.uid (let b = lawful.before.0 in omega arith) in
    let parts : line c ++ after ≡ decimal c.before.uid ++ (32 ∷ (number c.before.gid ++ (number c.after.uid ++ (number c.after.gid ++ (number (length c.path) ++ (c.path ++ 10 ∷ after)))))) = simp append_assoc in
    no_digit (decimal c.before.uid) (32 ∷ (number c.before.gid ++ (number c.after.uid ++ (number c.after.gid ++ (number (length c.path) ++ (c.path ++ 10 ∷ after)))))) (codes "nd\n" ++ rest) is.0.1 is.0.0 (e ∙ parts)

pub end_no_line : (c : PlanRecord) (after : List ℕ) → IsLawfulRecord c → end ≡ line c ++ after → ⊥
end_no_line c after lawful e =
    let is = decimal_is_IsNumeral c.before.uid (let b = lawful.before.0 in omega arith) in
    let parts : line c ++ after ≡ decimal c.before.uid ++ (32 ∷ (number c.before.gid ++ (number c.after.uid ++ (number c.after.gid ++ (number (length c.path) ++ (c.path ++ 10 ∷ after)))))) = simp append_assoc in
    no_digit (decimal c.before.uid) (32 ∷ (number c.before.gid ++ (number c.after.uid ++ (number c.after.gid ++ (number (length c.path) ++ (c.path ++ 10 ∷ after)))))) (codes "nd\n") is.0.1 is.0.0 (e ∙ parts)
