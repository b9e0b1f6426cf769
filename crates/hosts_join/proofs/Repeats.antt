-- Claims with one more.
use Rattle.std.proofs.Common.{◌≡◌, ℕ, ◌==◌, Bool, true, false, cond, List, [], ◌∷◌, ◌++◌, map, Option, None, Some, refl, sym, ◌∙◌, ap, inl, inr, arith}
use Rattle.std.specs.List.{find}
use Rattle.std.specs.Prelude.{nat_lt, if◌then◌else◌}
use Rattle.std.specs.Option.{option_map, option_to_list, option_or}
use Rattle.std.proofs.lemmas.Bool.{cases_Bool, ltb-true, ltb-false, lt-ltb, le-ltb, eqb-true}
use Rattle.std.proofs.lemmas.List.{append-nil, append_assoc}
use Rattle.std.proofs.lemmas.List.Folds.{find-append}
use Rattle.hosts_join.specs.Accounts.{Pair}
use Rattle.hosts_join.specs.Rules.{Clash, repeats, repeat_of, least, lesser, clash_of}

pub repeats-push : (before ps : List Pair) (p : Pair) → repeats before (ps ++ p ∷ []) ≡ repeats before ps ++ repeat_of (before ++ ps) p
unfolding repeats
repeats-push before [] p = rw (append-nil before) (append-nil (repeat_of before p))
repeats-push before (q ∷ ps) p =
    rw (repeats-push (before ++ q ∷ []) ps p, append_assoc before (q ∷ []) ps) (sym (append_assoc (repeat_of before q) (repeats (before ++ q ∷ []) ps) (repeat_of (before ++ q ∷ ps) p)))

pub clash_of-push : (ps : List Pair) (p : Pair) → clash_of (ps ++ p ∷ []) ≡ least (repeats [] ps ++ repeat_of ps p)
clash_of-push ps p = ap least (repeats-push [] ps p)

-- the one of two with the lesser number, and the first where they are equal
abbrev pub lesser_last : Option Clash → Clash → Clash
lesser_last None c = c
lesser_last (Some d) c = if nat_lt c.number d.number then c else d

lesser-three : (a d c : Clash) → lesser a (Some (lesser_last (Some d) c)) ≡ lesser_last (Some (lesser a (Some d))) c
lesser-three a d c = elim (cases_Bool (nat_lt c.number d.number)) [
  | inl cd ↦ elim (cases_Bool (nat_lt d.number a.number)) [
    | inl da ↦ let ca = lt-ltb c.number a.number (omega (arith, ltb-true _ _ cd, ltb-true _ _ da)) in rw (cd, da, ca, cd) refl
    | inr ad ↦ rw (cd, ad) refl
  ]
  | inr dc ↦ elim (cases_Bool (nat_lt d.number a.number)) [
    | inl da ↦ rw (dc, da, dc) refl
    | inr ad ↦ let ac = le-ltb c.number a.number (omega (arith, ltb-false _ _ dc, ltb-false _ _ ad)) in rw (dc, ad, ac) refl
  ]
]

lesser-more : (a c : Clash) (o : Option Clash) → lesser a (Some (lesser_last o c)) ≡ lesser_last (Some (lesser a o)) c
lesser-more a c None = refl
lesser-more a c (Some d) = lesser-three a d c

pub least-push : (cs : List Clash) (c : Clash) → least (cs ++ c ∷ []) ≡ Some (lesser_last (least cs) c)
unfolding least
least-push [] c = refl
least-push (a ∷ cs) c = rw (least-push cs c) (ap Some (lesser-more a c (least cs)))

-- the first of a number among the claims, with one more
pub first-push : (ps : List Pair) (p : Pair) (v : ℕ) → option_map (λ (q : Pair). q.name) (find (λ q. q.number == v) (ps ++ p ∷ [])) ≡ option_or (option_map (λ (q : Pair). q.name) (find (λ q. q.number == v) ps)) (cond (p.number == v) (Some p.name) None)
first-push ps p v = ap (option_map (λ (q : Pair). q.name)) (find-append (λ q. q.number == v) ps (p ∷ [])) ∙ joined (find (λ q. q.number == v) ps) (p.number == v)
  where
    joined : (o : Option Pair) (b : Bool) → option_map (λ (q : Pair). q.name) (option_or o (cond b (Some p) None)) ≡ option_or (option_map (λ (q : Pair). q.name) o) (cond b (Some p.name) None)
    joined None true = refl
    joined None false = refl
    joined (Some q) b = refl

-- where nobody had the number, nothing clashes
pub clash_of-apart : (ps : List Pair) (p : Pair) → option_map (λ (q : Pair). q.name) (find (λ q. q.number == p.number) ps) ≡ None → clash_of (ps ++ p ∷ []) ≡ clash_of ps
clash_of-apart ps p none = clash_of-push ps p ∙ ap (λ cs. least (repeats [] ps ++ cs)) (nothing (find (λ q. q.number == p.number) ps) none) ∙ ap least (append-nil (repeats [] ps))
  where
    nothing : (o : Option Pair) → option_map (λ (q : Pair). q.name) o ≡ None → ◌≡◌ {A = List Clash} (map (λ q. record { number = p.number; first = q.name; second = p.name }) (option_to_list o)) []
    nothing None e = refl
    nothing (Some q) e = (cc)

pub clash_of-again : (ps : List Pair) (p : Pair) (n : List ℕ) → option_map (λ (q : Pair). q.name) (find (λ q. q.number == p.number) ps) ≡ Some n
    → clash_of (ps ++ p ∷ []) ≡ Some (lesser_last (clash_of ps) (record { number = p.number; first = n; second = p.name }))
clash_of-again ps p n some = clash_of-push ps p ∙ ap (λ cs. least (repeats [] ps ++ cs)) (one (find (λ q. q.number == p.number) ps) some) ∙ least-push (repeats [] ps) _
  where
    one : (o : Option Pair) → option_map (λ (q : Pair). q.name) o ≡ Some n → ◌≡◌ {A = List Clash} (map (λ q. record { number = p.number; first = q.name; second = p.name }) (option_to_list o)) (record { number = p.number; first = n; second = p.name } ∷ [])
    one None e = (cc)
    one (Some q) e = let same : q.name ≡ n = (cc) in rw same refl

abbrev pub first_name : List Pair → ℕ → Option (List ℕ)
first_name ps v = option_map (λ (q : Pair). q.name) (find (λ q. q.number == v) ps)

or-none : {X : Type 0} (o : Option X) → option_or o None ≡ o
or-none None = refl
or-none (Some x) = refl

pub firsts-stay : (ps : List Pair) (p : Pair) (n : List ℕ) (v : ℕ) → first_name ps p.number ≡ Some n → first_name (ps ++ p ∷ []) v ≡ first_name ps v
firsts-stay ps p n v some = first-push ps p v ∙ elim (cases_Bool (p.number == v)) [
  | inl t ↦ let e : p.number ≡ v = eqb-true p.number v t in let some' : first_name ps v ≡ Some n = rw e at some in rw some' refl
  | inr f ↦ rw f (or-none _)
]

pub firsts-new : (ps : List Pair) (p : Pair) (v : ℕ) → first_name ps p.number ≡ None → first_name (ps ++ p ∷ []) v ≡ cond (p.number == v) (Some p.name) (first_name ps v)
firsts-new ps p v none = first-push ps p v ∙ elim (cases_Bool (p.number == v)) [
  | inl t ↦ let e : p.number ≡ v = eqb-true p.number v t in let none' : first_name ps v ≡ None = rw e at none in rw (none', t) refl
  | inr f ↦ rw f (or-none _)
]
