-- A plan has one spelling, and none begins another.
use Rattle.std.proofs.Common.{◌≡◌, ◌<◌, ◌^◌, ℕ, List, [], ◌∷◌, ◌++◌, All, length, drop, refl, sym, ◌∙◌, ap, arith, append_assoc}
use Rattle.std.specs.Prelude.{decimal}
use Rattle.std.proofs.lemmas.List.{append_cancel_left}
use Rattle.std.proofs.lemmas.List.Elements.{All-head, All-tail}
use Rattle.reown_plan.specs.declared.plan.Owner.{Owner}
use Rattle.reown_plan.specs.PlanData.{PlanRecord, PlanData}
use Rattle.reown_plan.specs.Spelling.{number, head, line, lines, end, spelling, IsOwner, IsLawfulRecord, IsLawful}
use Rattle.reown_plan.proofs.Cuts.{no_space, cut_unique, same_decimal, after_path, after_owners, after_old, line_parts, short_path, head_unique, name_no_newline}
use Rattle.reown_plan.proofs.Wholes.{end_no_line, end_no_line_more}

number_unique : (m n : ℕ) (a b : List ℕ) → m < 2 ^ 32 → n < 2 ^ 32 → number m ++ a ≡ number n ++ b → (m ≡ n) × (a ≡ b)
number_unique m n a b small less e =
    let u = cut_unique 32 (decimal m) a (decimal n) b (no_space m small) (no_space n less) (sym (append_assoc (decimal m) (32 ∷ []) a) ∙ e ∙ append_assoc (decimal n) (32 ∷ []) b) in
    (same_decimal m n small less u.0, u.1)

owner_unique : (m n : Owner) (a b : List ℕ) → IsOwner m → IsOwner n → number m.uid ++ number m.gid ++ a ≡ number n.uid ++ number n.gid ++ b → (m ≡ n) × (a ≡ b)
owner_unique m n a b small less e =
    let u = number_unique m.uid n.uid (number m.gid ++ a) (number n.gid ++ b) (let s = small.0 in omega arith) (let s = less.0 in omega arith) (sym (append_assoc (number m.uid) (number m.gid) a) ∙ e ∙ append_assoc (number n.uid) (number n.gid) b) in
    let v = number_unique m.gid n.gid a b (let s = small.1 in omega arith) (let s = less.1 in omega arith) u.1 in
    ((λ i. record { uid = u.0 i; gid = v.0 i }), v.1)

same_front : (xs ys a b : List ℕ) → length xs ≡ length ys → xs ++ a ≡ ys ++ b → (xs ≡ ys) × (a ≡ b)
same_front [] [] a b h e = (refl, e)
same_front [] (y ∷ ys) a b h e = absurd (omega arith)
same_front (x ∷ xs) [] a b h e = absurd (omega arith)
same_front (x ∷ xs) (y ∷ ys) a b h e =
    let first : x ≡ y = cc in
    let rest : xs ++ a ≡ ys ++ b = cc in
    let u = same_front xs ys a b (omega arith) rest in
    ((λ i. first i ∷ u.0 i), u.1)

same_tail : (x : ℕ) (a b : List ℕ) → x ∷ a ≡ x ∷ b → a ≡ b
same_tail x a b e = cc

pub line_unique : (c d : PlanRecord) (a b : List ℕ) → IsLawfulRecord c → IsLawfulRecord d → line c ++ a ≡ line d ++ b → (c ≡ d) × (a ≡ b)
line_unique c d a b l m e =
    let u = owner_unique c.before d.before (after_old c a) (after_old d b) l.before m.before (sym (line_parts c a) ∙ e ∙ line_parts d b) in
    let v = owner_unique c.after d.after (after_owners c a) (after_owners d b) l.after m.after u.1 in
    let w = number_unique (length c.path) (length d.path) (after_path c a) (after_path d b) (short_path c l) (short_path d m) v.1 in
    let x = same_front c.path d.path (10 ∷ a) (10 ∷ b) w.0 w.1 in
    let y : a ≡ b = same_tail 10 a b x.1 in
    ((λ i. record { before = u.0 i; after = v.0 i; path = x.0 i }), y)

lines_unique : (cs ds : List PlanRecord) (rest : List ℕ) → All IsLawfulRecord cs → All IsLawfulRecord ds → lines ds ++ end ≡ lines cs ++ (end ++ rest) → (cs ≡ ds) × (rest ≡ [])
lines_unique [] [] rest l m e = (refl, sym (append_cancel_left end [] rest e))
lines_unique [] (d ∷ ds) rest l m e = absurd (end_no_line_more d (lines ds ++ end) rest (All-head IsLawfulRecord d ds m) (sym e ∙ append_assoc (line d) (lines ds) end))
lines_unique (c ∷ cs) [] rest l m e = absurd (end_no_line c (lines cs ++ (end ++ rest)) (All-head IsLawfulRecord c cs l) (e ∙ append_assoc (line c) (lines cs) (end ++ rest)))
lines_unique (c ∷ cs) (d ∷ ds) rest l m e =
    let u = line_unique d c (lines ds ++ end) (lines cs ++ (end ++ rest)) (All-head IsLawfulRecord d ds m) (All-head IsLawfulRecord c cs l) (sym (append_assoc (line d) (lines ds) end) ∙ e ∙ append_assoc (line c) (lines cs) (end ++ rest)) in
    let v = lines_unique cs ds rest (All-tail IsLawfulRecord c cs l) (All-tail IsLawfulRecord d ds m) u.1 in
    ((λ i. sym u.0 i ∷ v.0 i), v.1)

pub spelling_unique : (p q : PlanData) (rest : List ℕ) → IsLawful p → IsLawful q → spelling q ≡ spelling p ++ rest → (p ≡ q) × (rest ≡ [])
spelling_unique p q rest l m e =
    let text = spelling q in
    let whole : text ≡ head p.host ++ (lines p.records ++ (end ++ rest)) = e ∙ simp append_assoc in
    let cut : drop 13 text ≡ p.host ++ 10 ∷ (lines p.records ++ (end ++ rest)) = ap (drop 13) whole ∙ append_assoc p.host (10 ∷ []) (lines p.records ++ (end ++ rest)) in
    let u = head_unique text (drop 13 text) p.host (lines p.records ++ (end ++ rest)) q.host (lines q.records ++ end) refl cut (name_no_newline p.host l.host) m.host (append_assoc (head q.host) (lines q.records) end) in
    let v = lines_unique p.records q.records rest l.records m.records u.1 in
    let h = sym u.0 in
    ((λ i. record { host = h i; records = v.0 i }), v.1)
