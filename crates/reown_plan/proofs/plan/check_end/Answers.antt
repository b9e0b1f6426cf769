use Rattle.std.proofs.Common.{◌≡◌, ◌+◌, ◌-◌, true, false, map, take, length, sym, ap, subst, ◌∙◌, arith}
use Rattle.std.specs.List.{starts_with}
use Rattle.std.specs.Str.{bytes_eq}
use Rattle.std.specs.Cmp.Lexicographic.{bytes_decides}
use Rattle.std.proofs.Math.Dec.{eqb}
use Rattle.reown_plan.specs.Records.{record_of}
use Rattle.reown_plan.specs.Spelling.{end, IsFaultAt}
use Rattle.reown_plan.proofs.Faults.{told, end_fault, behind_fault}
use Rattle.reown_plan.proofs.plan.check_end.Goals.{then-starts_with, else-starts_with}
use Rattle.reown_plan.proofs.plan.check_end.Goals as goal

pub returns-clause-fault : goal.returns-clause-fault
returns-clause-fault c = λ offset e.
    let text = c.args.text.now in
    let rest = c.args.behind.now in
    let records = map record_of c.args.records.now in
    let host = c.requires.front.0 in
    let front = c.requires.front.1 in
    let at = length text - length rest in
    let differs : rest ≡ end → ⊥ = λ ended.
    (let it_is : c.eq.result ≡ true = c.eq.ensures ∙ (bytes_decides rest c.as_slice.result.now).1 (ended ∙ sym c.as_slice.ensures) in
    let not_it : c.eq.result ≡ false = c.if-eq.false in
    cc) in
    let tested : c.starts_with.result ≡ bytes_eq end (take 4 rest) = c.starts_with.ensures.value ∙ ap (starts_with eqb rest) c.as_slice-2.ensures in
    elim c.if-starts_with.branch [
      | then-starts_with w ↦
          told text (at + c.if-starts_with.known) offset e
          (subst (λ n. IsFaultAt text (at + n)) (sym w.known-is) (behind_fault text host records rest front.name front.lawful c.requires.distinct front.read differs (sym tested ∙ w.if-starts_with.true)))
      | else-starts_with w ↦
          let same : at + c.if-starts_with.known ≡ at = omega (arith, w.known-is) in
          told text (at + c.if-starts_with.known) offset e
          (subst (IsFaultAt text) (sym same) (end_fault text host records rest front.name front.lawful c.requires.distinct front.read c.requires.all (sym tested ∙ w.if-starts_with.false)))
    ]
