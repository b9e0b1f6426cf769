use Rattle.std.proofs.Common.{◌≡◌, ℕ, ◌+◌, ◌==◌, cond, get_or, true, refl, sym, ap, ◌∙◌, arith}
use Rattle.std.proofs.lemmas.Bool.{eq-eqb}
use Rattle.std.proofs.lemmas.List.Elements.{All-get_or}
use Rattle.ownership.specs.declared.tally.Cell.{Cell}
use Rattle.ownership.specs.Counts.{count_in, has_cell}
use Rattle.ownership.proofs.NoteLemmas.{count-first, count-next, count-no_notes, total-first, total-next}
use Rattle.ownership.proofs.counting.settle.Goals as goal

abbrev none : Cell
none = record { number = 0; files = 0 }

pub loop-note-init : goal.loop-note-init
loop-note-init c = record { total = omega arith; cells = λ v. refl; counts = λ v. sym (count-no_notes c.args.tally.now v) }

pub add-requires-clause-there : goal.add-requires-clause-there
add-requires-clause-there c =
    let t = c.args.tally.now in
    let notes = c.args.notes.now in
    let k = c.loop-note.note-index in
    c.loop-note.invariant.cells (get_or notes k none).number ∙ All-get_or (λ (x : Cell). has_cell t.cells x.number ≡ true) notes k none c.loop-note-test.true c.requires.there

pub add-requires-clause-kept : goal.add-requires-clause-kept
add-requires-clause-kept c =
    let t = c.args.tally.now in
    let notes = c.args.notes.now in
    let k = c.loop-note.note-index in
    let note = get_or notes k none in
    let there = All-get_or (λ (x : Cell). has_cell t.cells x.number ≡ true) notes k none c.loop-note-test.true c.requires.there in
    let next = count-next t notes k none note.number c.loop-note-test.true there in
    let all : cond {A = ℕ} (note.number == note.number) note.files 0 ≡ note.files = ap (λ b. cond {A = ℕ} b note.files 0) (eq-eqb note.number note.number refl) in
    omega (arith, next, all, count-first t notes (k + 1) note.number, c.requires.kept note.number, c.loop-note.invariant.counts note.number, c.from.ensures)

pub add-requires-clause-total : goal.add-requires-clause-total
add-requires-clause-total c =
    let t = c.args.tally.now in
    let notes = c.args.notes.now in
    let k = c.loop-note.note-index in
    omega (arith, total-next t notes k none c.loop-note-test.true, total-first t notes (k + 1), c.requires.total, c.loop-note.invariant.total, c.from.ensures)

pub loop-note-preserved : goal.loop-note-preserved
loop-note-preserved c =
    let t = c.args.tally.now in
    let notes = c.args.notes.now in
    let k = c.loop-note.note-index in
    let note = get_or notes k none in
    let there = All-get_or (λ (x : Cell). has_cell t.cells x.number ≡ true) notes k none c.loop-note-test.true c.requires.there in
    record {
      total = omega (arith, total-next t notes k none c.loop-note-test.true, c.add.ensures.total, c.loop-note.invariant.total, c.from.ensures);
      cells = λ v. c.add.ensures.cells v ∙ c.loop-note.invariant.cells v;
      counts = λ v.
          c.add.ensures.counts v ∙ ap (λ m. count_in c.loop-note.tally.cells v + cond {A = ℕ} (note.number == v) m 0) c.from.ensures
          ∙ ap (λ m. m + cond {A = ℕ} (note.number == v) note.files 0) (c.loop-note.invariant.counts v)
          ∙ sym (count-next t notes k none v c.loop-note-test.true there);
    }
