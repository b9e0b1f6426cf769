use Rattle.std.proofs.Common.{◌<◌, ◌∙◌, ◌∷◌, ◌++◌, [], List, get_or, map, length, sym, ap, arith}
use Rattle.std.proofs.lemmas.List.{get_or-map, length-map, map-append, take_more}
use Rattle.std.specs.Option.{option_map}
use Rattle.std.proofs.lemmas.List.Sums.{count_by-le-length}
use Rattle.reown_plan.specs.PlanData.{PlanRecord}
use Rattle.reown_plan.specs.Records.{record_of}
use Rattle.reown_runner.proofs.Lists.{slice_get-map, slice_get-read}
use Rattle.reown_files.specs.Calls.{Looked}
use Rattle.reown_files.specs.declared.counting.OwnerCounts.{OwnerCounts}
use Rattle.reown_files.specs.Counting.{Look, has_set_id, has_several_names, files_of, with_one}
use Rattle.reown_files.proofs.Laws.{nothing}
use Rattle.reown_files.proofs.Countings.{each_once, one_more_counted, many_looked, one_more_call}
use Rattle.reown_files.proofs.counting.count_owners.Goals as goal

pub loop-i-preserved : goal.loop-i-preserved
loop-i-preserved g c =
    let rs = c.args.records.now in
    let i = c.loop-i.i in
    let old = g.D.Disk.calls c.loop-i.disk in
    let seen = c.in-Ok.seen in
    let below : i < length rs = omega arith in
    let below_map : i < length (map record_of rs) = omega (arith, length-map rs record_of) in
    let here = get_or (map record_of rs) i nothing in
    let is = get_or-map record_of rs i _ nothing below in
    let looks = c.loop-i.invariant.0 in
    let look : Look = (here, seen) in (
      looks ++ look ∷ [],
      map-append (λ (l : Look). l.0) looks (look ∷ []) ∙ ap (λ (xs : List PlanRecord). xs ++ here ∷ []) c.loop-i.invariant.1 ∙ sym (take_more (map record_of rs) i nothing below_map),
      one_more_call looks look (g.D.Disk.calls c.args.disk.now) old (g.D.Disk.calls c.look.new.self) c.loop-i.invariant.2 (c.in-Ok.ensures.looked ∙ ap (λ (r : PlanRecord). Looked r.path seen ∷ old) (sym is)),
      one_more_counted looks look c.loop-i.owners c.count.new.self c.loop-i.invariant.3 (c.count.ensures ∙ ap (λ (r : PlanRecord). with_one (r, seen) c.loop-i.owners) (sym is)),
    )

pub count-requires : goal.count-requires
count-requires g c =
    let rs = c.args.records.now in
    let i = c.loop-i.i in
    let below : i < length rs = omega arith in
    let looks = c.loop-i.invariant.0 in
    let many = many_looked looks (map record_of rs) i (omega (arith, below, length-map rs record_of)) c.loop-i.invariant.1 in
    let files = ap files_of c.loop-i.invariant.3 ∙ each_once looks in
    record {
      room = omega (arith, below, many, files);
      set_id = omega (arith, below, many, ap (λ (k : OwnerCounts). k.set_id) c.loop-i.invariant.3, count_by-le-length has_set_id looks);
      linked = omega (arith, below, many, ap (λ (k : OwnerCounts). k.linked) c.loop-i.invariant.3, count_by-le-length has_several_names looks);
    }

pub returns-in-Err-clause-refused : goal.returns-in-Err-clause-refused
returns-in-Err-clause-refused g c =
    let rs = c.args.records.now in
    let i = c.loop-i.i in
    let below : i < length rs = omega arith in
    let here = slice_get-map record_of rs i ∙ ap (option_map record_of) (slice_get-read rs i _ below) in
    (record_of (get_or rs i _), here, g.D.Disk.calls c.loop-i.disk, (c.loop-i.invariant.0, c.loop-i.invariant.1, c.loop-i.invariant.2), c.in-Err.ensures.failed)
