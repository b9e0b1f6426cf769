-- Records as they are read.
use Rattle.std.proofs.Common.{◌≡◌, ℕ, true, List, [], ◌∷◌, ◌++◌, All, map, length, take, drop, take-append-drop, sym, ◌∙◌, ap, subst, append_assoc}
use Rattle.std.specs.Prelude.{codes}
use Rattle.std.specs.Str.{bytes_eq}
use Rattle.std.specs.Cmp.Lexicographic.{bytes_decides}
use Rattle.std.proofs.lemmas.List.{map-append, append-nil}
use Rattle.std.proofs.lemmas.List.Elements.{All-push}
use Rattle.reown_plan.specs.declared.plan.Record.{Record}
use Rattle.reown_plan.specs.PlanData.{PlanRecord}
use Rattle.reown_plan.specs.Records.{record_of}
use Rattle.reown_plan.specs.Spelling.{number, head, line, lines, IsLawfulRecord}

pub spelled_line : (c : PlanRecord) (t0 t1 t2 t3 rest : List ℕ) (n : ℕ) → t0 ≡ number c.before.uid ++ number c.before.gid ++ t1 → t1 ≡ number c.after.uid ++ number c.after.gid ++ t2 → t2 ≡ number n ++ t3 → length c.path ≡ n → t3 ≡ c.path ++ 10 ∷ rest → t0 ≡ line c ++ rest
spelled_line c t0 t1 t2 t3 rest n e0 e1 e2 same e3 =
    e0
    ∙ ap (λ t. (number c.before.uid ++ number c.before.gid) ++ t) (e1 ∙ ap (λ t. (number c.after.uid ++ number c.after.gid) ++ t) (e2 ∙ (λ i. number (sym same i) ++ e3 i)))
    ∙ simp append_assoc

pub lines-append : (records : List PlanRecord) (c : PlanRecord) → lines (records ++ c ∷ []) ≡ lines records ++ line c
lines-append [] c = append-nil (line c)
lines-append (x ∷ xs) c = ap (λ l. line x ++ l) (lines-append xs c) ∙ sym (append_assoc (line x) (lines xs) (line c))

pub spelled_head : (text after host rest : List ℕ) → bytes_eq (take 13 text) (codes "unify plan 1 ") ≡ true → after ≡ drop 13 text → after ≡ host ++ 10 ∷ rest → text ≡ head host ++ rest
spelled_head text after host rest is from cut =
    sym (take-append-drop 13 text) ∙ (λ i. (bytes_decides (take 13 text) (codes "unify plan 1 ")).0 is i ++ (sym from ∙ cut) i) ∙ simp append_assoc

pub lawful_more : (records : List Record) (r : Record) → All IsLawfulRecord (map record_of records) → IsLawfulRecord (record_of r) → All IsLawfulRecord (map record_of (records ++ r ∷ []))
lawful_more records r all one = subst (All IsLawfulRecord) (sym (map-append record_of records (r ∷ []))) (All-push IsLawfulRecord (map record_of records) (record_of r) all one)
