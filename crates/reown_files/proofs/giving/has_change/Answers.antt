use Rattle.std.proofs.Common.{◌≡◌, ◌<◌, ◌≤◌, ◌∙◌, false, None, Some, map, length, sym, ap, arith}
use Rattle.std.specs.Option.{option_map, option_map_or}
use Rattle.std.proofs.lemmas.List.{get_or-map, length-map}
use Rattle.reown_plan.specs.Records.{record_of}
use Rattle.reown_runner.proofs.Lists.{slice_get-map, slice_get-past, slice_get-read}
use Rattle.reown_files.specs.Lawful.{is_of}
use Rattle.reown_files.proofs.Laws.{nothing, any_at}
use Rattle.reown_files.proofs.giving.has_change.Goals as goal

pub returns-then-i-records-clause-planned : goal.returns-then-i-records-clause-planned
returns-then-i-records-clause-planned c e =
    let rs = c.args.records.now in
    let p = is_of c.args.path.now c.args.before c.args.after in
    let below : c.args.i < length rs = omega arith in
    any_at p (map record_of rs) c.args.i nothing (omega (arith, length-map rs record_of)) (ap p (get_or-map record_of rs c.args.i _ nothing below) ∙ sym c.is_change.ensures ∙ e)

pub returns-then-i-records-clause-other : goal.returns-then-i-records-clause-other
returns-then-i-records-clause-other c e = λ r here.
    let rs = c.args.records.now in
    let i = c.args.i in
    let p = is_of c.args.path.now c.args.before c.args.after in
    let below : i < length rs = omega arith in
    ap (λ o. option_map_or p o false) (sym here ∙ slice_get-map record_of rs i ∙ ap (option_map record_of) (slice_get-read rs i _ below)) ∙ sym c.is_change.ensures ∙ e

pub returns-else-i-records-clause-other : goal.returns-else-i-records-clause-other
returns-else-i-records-clause-other c e = λ r here.
    let rs = map record_of c.args.records.now in
    let past : length rs ≤ c.args.i = omega (arith, length-map c.args.records.now record_of) in
    absurd (let none : Some r ≡ None = sym here ∙ slice_get-past rs c.args.i past in cc)
