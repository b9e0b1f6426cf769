use Rattle.std.proofs.Common.{refl}
use Rattle.std.proofs.lemmas.Slice.Zip.{Zip-more, either_empty_from_Zip}
use Rattle.std.specs.Iterator.Adapters.{zip_first, zip_second}
use Rattle.std.specs.Slice.Iter.{iter_rest}
use Rattle.accounts.specs.Selected.{those}
use Rattle.accounts.proofs.SelectedLemmas.{taken-new, taken-all}
use Rattle.accounts.proofs.table.select_rows.Goals as goal

pub push-requires : goal.push-requires
push-requires g c κs =
    let turn = Zip-more c.loop-row.row-iterator c.next.new.self _ (c.in-Some.row, c.in-Some.flag) c.in-Some.is c.next.ensures.steps in
    let new = taken-new g.R.Row.line_of g.R.Row.name_of g.R.Row.number_of c.args.flags.now _ _ _ c.args.rows.now _ _ c.loop-row.selected.list.items _ c.copied.result c.requires.table c.loop-row.invariant.list turn.1 turn.0 c.if-flag.true c.copied.ensures in
    ((refl, tt), (c.loop-row.invariant.known, new))

pub returns-clause-those : goal.returns-clause-those
returns-clause-those g c =
    let end = either_empty_from_Zip c.loop-row.row-iterator c.next.new.self _ c.in-None.is c.next.ensures.steps in
    taken-all (iter_rest (zip_second c.loop-row.row-iterator)) c.loop-row.selected.list.items (iter_rest (zip_first c.loop-row.row-iterator)) (those c.args.flags.now c.args.rows.now) c.loop-row.invariant.list end
