-- The first fault of a kind, by what each step of the check found.
use Rattle.std.proofs.Common.{◌≡◌, ℕ, ◌+◌, eqb, List, Option, Some, None, Ok, Err, refl, sym, ap, ◌∙◌}
use Rattle.std.specs.Option.{option_map}
use Rattle.std.proofs.lemmas.Bool.{eq-eqb, ne_eqb, cond-true, cond-false}
use Rattle.idtext.specs.First.{or_else, unless}
use Rattle.hosts_join.specs.declared.Which.{Which}
use Rattle.hosts_join.specs.Accounts.{Accounts}
use Rattle.ownership.specs.Counts.{Tally}
use Rattle.ownership.specs.Weights.{told_weight}
use Rattle.certcheck.specs.declared.fault.CheckFault.{CheckFault}
use Rattle.certcheck.specs.declared.fault.CheckFault.TheVariants.{NameMissing, NumberTwice, OutsidePool, PinBroken, NotCovered, SumsDiffer}
use Rattle.certcheck.specs.Certificate.{Row, Side}
use Rattle.certcheck.specs.Check.{missing, repeated, outside, broken, uncovered, mapping_of, differ, sums_differ, kind_fault}
use Rattle.certcheck.specs.OneKind.{told_cost, kind_answer}

-- what the steps find, one after another
abbrev pub steps : Which → Option (List ℕ) → Option ℕ → Option (List ℕ) → Option (List ℕ) → Option (List ℕ × ℕ) → Option CheckFault → Option CheckFault
steps kind m r o b u d =
    or_else (option_map (λ n. NameMissing kind n) m)
    (or_else (option_map (λ v. NumberTwice kind v) r)
    (or_else (option_map (λ n. OutsidePool kind n) o)
    (or_else (option_map (λ n. PinBroken kind n) b)
    (or_else (option_map (λ (p : List ℕ × ℕ). NotCovered kind p.0 p.1) u) d))))

name_map : (f : List ℕ → CheckFault) (o : Option Row) → option_map (λ (r : Row). f r.name) o ≡ option_map f (option_map (λ (r : Row). r.name) o)
name_map f None = refl
name_map f (Some r) = refl

-- the first fault, where the steps found this
pub fault_is : (kind : Which) (a : Accounts) (w : ℕ → ℕ → ℕ) (s : Side) (m : Option (List ℕ)) (r : Option ℕ) (o b : Option (List ℕ)) (u : Option (List ℕ × ℕ)) (d : Option CheckFault) → m ≡ missing a s.rows → r ≡ repeated s.rows → o ≡ option_map (λ (x : Row). x.name) (outside a s.rows) → b ≡ option_map (λ (x : Row). x.name) (broken a s.rows) → u ≡ uncovered a w s → d ≡ sums_differ kind a w s → kind_fault kind a w s ≡ steps kind m r o b u d
unfolding kind_fault
fault_is kind a w s m r o b u d em er eo eb eu ed =
    ap (λ x. or_else (option_map (λ n. NameMissing kind n) x) (or_else (option_map (λ v. NumberTwice kind v) (repeated s.rows)) (or_else (option_map (λ (x : Row). OutsidePool kind x.name) (outside a s.rows)) (or_else (option_map (λ (x : Row). PinBroken kind x.name) (broken a s.rows)) (or_else (option_map (λ (p : List ℕ × ℕ). NotCovered kind p.0 p.1) (uncovered a w s)) (sums_differ kind a w s)))))) (sym em)
    ∙ ap (λ x. or_else (option_map (λ n. NameMissing kind n) m) (or_else (option_map (λ v. NumberTwice kind v) x) (or_else (option_map (λ (x : Row). OutsidePool kind x.name) (outside a s.rows)) (or_else (option_map (λ (x : Row). PinBroken kind x.name) (broken a s.rows)) (or_else (option_map (λ (p : List ℕ × ℕ). NotCovered kind p.0 p.1) (uncovered a w s)) (sums_differ kind a w s)))))) (sym er)
    ∙ ap (λ x. or_else (option_map (λ n. NameMissing kind n) m) (or_else (option_map (λ v. NumberTwice kind v) r) (or_else x (or_else (option_map (λ (x : Row). PinBroken kind x.name) (broken a s.rows)) (or_else (option_map (λ (p : List ℕ × ℕ). NotCovered kind p.0 p.1) (uncovered a w s)) (sums_differ kind a w s)))))) (name_map (λ n. OutsidePool kind n) (outside a s.rows) ∙ ap (option_map (λ n. OutsidePool kind n)) (sym eo))
    ∙ ap (λ x. or_else (option_map (λ n. NameMissing kind n) m) (or_else (option_map (λ v. NumberTwice kind v) r) (or_else (option_map (λ n. OutsidePool kind n) o) (or_else x (or_else (option_map (λ (p : List ℕ × ℕ). NotCovered kind p.0 p.1) (uncovered a w s)) (sums_differ kind a w s)))))) (name_map (λ n. PinBroken kind n) (broken a s.rows) ∙ ap (option_map (λ n. PinBroken kind n)) (sym eb))
    ∙ ap (λ x. or_else (option_map (λ n. NameMissing kind n) m) (or_else (option_map (λ v. NumberTwice kind v) r) (or_else (option_map (λ n. OutsidePool kind n) o) (or_else (option_map (λ n. PinBroken kind n) b) (or_else (option_map (λ (p : List ℕ × ℕ). NotCovered kind p.0 p.1) x) (sums_differ kind a w s)))))) (sym eu)
    ∙ ap (steps kind m r o b u) (sym ed)

pub refused : (kind : Which) (a : Accounts) (tallies : List Tally) (s : Side) (f : CheckFault) → kind_fault kind a (told_weight a tallies) s ≡ Some f → kind_answer kind a tallies s ≡ Err f
refused kind a tallies s f e = ap (λ o. unless o (told_cost a tallies (mapping_of a s.rows))) e

pub accepted : (kind : Which) (a : Accounts) (tallies : List Tally) (s : Side) → kind_fault kind a (told_weight a tallies) s ≡ None → kind_answer kind a tallies s ≡ Ok (told_cost a tallies (mapping_of a s.rows))
accepted kind a tallies s e = ap (λ o. unless o (told_cost a tallies (mapping_of a s.rows))) e

-- the sums agree or not
pub no_difference : (kind : Which) (total weighs : ℕ) → total ≡ weighs → None ≡ differ kind total weighs
no_difference kind total weighs e = sym (cond-true (eqb total weighs) None (Some (SumsDiffer kind total weighs)) (eq-eqb total weighs e))

pub difference : (kind : Which) (total weighs : ℕ) → (total ≡ weighs → ⊥) → Some (SumsDiffer kind total weighs) ≡ differ kind total weighs
difference kind total weighs h = sym (cond-false (eqb total weighs) None (Some (SumsDiffer kind total weighs)) (ne_eqb total weighs h))

-- the same, where the steps looked at rows and z that are the side's
pub fault_found : (kind : Which) (a : Accounts) (w : ℕ → ℕ → ℕ) (s : Side) (rows : List Row) (z : List (ℕ × ℕ)) (m : Option (List ℕ)) (r : Option ℕ) (o b : Option (List ℕ)) (u : Option (List ℕ × ℕ)) (d : Option CheckFault) → rows ≡ s.rows → z ≡ s.z → m ≡ missing a rows → r ≡ repeated rows → o ≡ option_map (λ (x : Row). x.name) (outside a rows) → b ≡ option_map (λ (x : Row). x.name) (broken a rows) → u ≡ uncovered a w (record { rows = rows; z = z }) → d ≡ sums_differ kind a w (record { rows = rows; z = z }) → kind_fault kind a w s ≡ steps kind m r o b u d
fault_found kind a w s rows z m r o b u d er ez em ep eo eb eu ed =
    fault_is kind a w s m r o b u d
    (em ∙ ap (missing a) er)
    (ep ∙ ap repeated er)
    (eo ∙ ap (λ rs. option_map (λ (x : Row). x.name) (outside a rs)) er)
    (eb ∙ ap (λ rs. option_map (λ (x : Row). x.name) (broken a rs)) er)
    (eu ∙ ap (λ rs. uncovered a w (record { rows = rs; z = z })) er ∙ ap (λ zs. uncovered a w (record { rows = s.rows; z = zs })) ez)
    (ed ∙ ap (λ rs. sums_differ kind a w (record { rows = rs; z = z })) er ∙ ap (λ zs. sums_differ kind a w (record { rows = s.rows; z = zs })) ez)

pub moved_same : (a : Accounts) (tallies : List Tally) (rows rows' : List Row) (moved : ℕ) → rows ≡ rows' → moved ≡ told_cost a tallies (mapping_of a rows) → told_cost a tallies (mapping_of a rows') ≡ moved
moved_same a tallies rows rows' moved e h = sym (h ∙ ap (λ rs. told_cost a tallies (mapping_of a rs)) e)

pub differ_same : (kind : Which) (y z w y' z' w' : ℕ) → y ≡ y' → z ≡ z' → w ≡ w' → differ kind (y + z) w ≡ differ kind (y' + z') w'
differ_same kind y z w y' z' w' ey ez ew = ap (λ n. differ kind (n + z) w) ey ∙ ap (λ n. differ kind (y' + n) w) ez ∙ ap (λ n. differ kind (y' + z') n) ew
