use Rattle.std.proofs.Common.{◌≡◌, ℕ, ◌+◌, ◌-◌, ◌*◌, ◌<◌, ◌≤◌, ◌^◌, ◌==◌, List, map, length, get_or, refl, sym, ◌∙◌, ap, arith}
use Rattle.std.specs.List.{list_any}
use Rattle.std.proofs.lemmas.List.{get_or-map, length-map}
use Rattle.hosts_join.specs.Accounts.{Accounts, all_lines, lines}
use Rattle.hosts_join.specs.Rules.{account, in_pool, class_at}
use Rattle.hosts_join.specs.declared.Class.{Class}
use Rattle.ownership.specs.Cells.{cell_of}
use Rattle.ownership.specs.Counts.{Tally, AreMadeFor, AreWithin, count_in, has_cell, tally_at, told_kept}
use Rattle.ownership.specs.Potentials.{AscendsByNumber}
use Rattle.ownership.specs.Weights.{told_weight}
use Rattle.ownership.specs.declared.tally.Cell.{Cell}
use Rattle.candidates.proofs.LineLemmas.{IsEnough, count-at, left-all, left-many, left-one, numbers-few, some-line}
use Rattle.candidates.proofs.RowLemmas.{key_at, lines-few, so-far-end, so-far-none, so-far-push, so-far-skip, weight-fits}
use Rattle.candidates.proofs.candidates_of.Goals as goal
use Rattle.candidates.proofs.candidates_of.Goals.{then-has+in_ok-push, else-has}

abbrev zero_cell : Cell
zero_cell = record { number = 0; files = 0 }

-- the number of a counter, and its files
number-at : (cs : List Cell) (k : ℕ) → k < length cs → (get_or cs k zero_cell).number ≡ key_at (map cell_of cs) k
number-at cs k h = sym (ap (λ (e : ℕ × ℕ). e.0) (get_or-map cell_of cs k zero_cell (0, 0) h))

module _ (a : Accounts) (tallies : List Tally) (i k : ℕ) (cs : List Cell) (made : AreMadeFor a.names tallies) (within : i < length a.names) (are : map cell_of cs ≡ (tally_at tallies i).cells) (up : AscendsByNumber (map cell_of cs)) (here : k < length cs) where
  abbrev es : List (ℕ × ℕ)
  es = map cell_of cs

  there : k < length es
  there = omega (arith, here, length-map cs cell_of)

  same : (v : ℕ) → has_cell es v ≡ list_any (λ s. v == s.number) (account a i).spots
  same v = ap (λ (es : List (ℕ × ℕ)). has_cell es v) are ∙ made.cells i v within

  files-at : (get_or cs k zero_cell).files ≡ told_kept tallies i (key_at es k)
  files-at =
      sym (ap (λ (e : ℕ × ℕ). e.1) (get_or-map cell_of cs k zero_cell (0, 0) here)) ∙ sym (count-at es k up there) ∙ ap (λ (es : List (ℕ × ℕ)). count_in es (key_at (map cell_of cs) k)) are

  number-is : (get_or cs k zero_cell).number ≡ key_at es k
  number-is = number-at cs k here

  some : 1 ≤ lines (account a i) (get_or cs k zero_cell).number
  some = omega (arith, some-line (account a i) es k same there, ap (lines (account a i)) number-is)

  few : (more : ℕ) → IsEnough (account a i) es k more → lines (account a i) (get_or cs k zero_cell).number ≤ more + 1
  few more enough = omega (arith, enough, left-one (account a i) es up same k there, left-many (account a i) es up same (k + 1), ap (lines (account a i)) number-is)

  next : (more lines_here : ℕ) → lines_here ≡ lines (account a i) (get_or cs k zero_cell).number → IsEnough (account a i) es k more → IsEnough (account a i) es (k + 1) (more - (lines_here - 1))
  next more lines_here is enough = omega (arith, is, enough, some, few more enough, left-one (account a i) es up same k there, ap (lines (account a i)) number-is)

  passed : (more : ℕ) → IsEnough (account a i) es k more → IsEnough (account a i) es (k + 1) more
  passed more enough = omega (arith, enough, some, left-one (account a i) es up same k there, ap (lines (account a i)) number-is)

  fits : (weight lines_here : ℕ) → weight ≤ 4194305 → lines_here ≡ lines (account a i) (get_or cs k zero_cell).number → all_lines a.names ≤ 4194304 → AreWithin tallies 2147483648 → weight * (get_or cs k zero_cell).files + lines_here < 2 ^ 63
  fits weight lines_here light is few bound =
      let kept = bound.kept_le i (key_at es k) in
      let least = lines-few a.names i (get_or cs k zero_cell).number in
      weight-fits weight (get_or cs k zero_cell).files lines_here light (omega (arith, files-at, kept)) (omega (arith, is, least, few))

same-numbers : (a : Accounts) (tallies : List Tally) (i : ℕ) (cs : List Cell) → AreMadeFor a.names tallies → i < length a.names → map cell_of cs ≡ (tally_at tallies i).cells → (v : ℕ) → has_cell (map cell_of cs) v ≡ list_any (λ s. v == s.number) (account a i).spots
same-numbers a tallies i cs made within are v = ap (λ (es : List (ℕ × ℕ)). has_cell es v) are ∙ made.cells i v within

pub overflow_sub-more : goal.overflow_sub-more
overflow_sub-more c =
    let a = c.args.names.now in
    let cs = c.cells-cells.result.now in
    let few = numbers-few (account a c.args.index) (map cell_of cs) c.cells-cells.ensures.ascending (same-numbers a c.args.counts.now c.args.index cs c.requires.made c.requires.within c.cells-cells.ensures.cells) in
    omega (arith, few, ap length c.spots.ensures, length-map cs cell_of)

pub loop-cell-init : goal.loop-cell-init
loop-cell-init c =
    let a = c.args.names.now in
    let i = c.args.index in
    let cs = c.cells-cells.result.now in
    let up = c.cells-cells.ensures.ascending in
    let same = same-numbers a c.args.counts.now i cs c.requires.made c.requires.within c.cells-cells.ensures.cells in
    record {
      row = rw c.in_ok-row.ensures.items (so-far-none a c.args.counts.now i (map cell_of cs));
      enough = omega (arith, left-all (account a i) (map cell_of cs) up same, numbers-few (account a i) (map cell_of cs) up same, ap length c.spots.ensures, length-map cs cell_of);
    }

pub lines_of-lines-requires-clause-some : goal.lines_of-lines-requires-clause-some
lines_of-lines-requires-clause-some c = some c.args.names.now c.args.counts.now c.args.index c.loop-cell.cell-index c.cells-cells.result.now c.requires.made c.requires.within c.cells-cells.ensures.cells c.cells-cells.ensures.ascending c.loop-cell-test.true

pub lines_of-lines-requires-clause-few : goal.lines_of-lines-requires-clause-few
lines_of-lines-requires-clause-few c = few c.args.names.now c.args.counts.now c.args.index c.loop-cell.cell-index c.cells-cells.result.now c.requires.made c.requires.within c.cells-cells.ensures.cells c.cells-cells.ensures.ascending c.loop-cell-test.true c.loop-cell.more c.loop-cell.invariant.enough

pub overflow_sub-more-then-has : goal.overflow_sub-more-then-has
overflow_sub-more-then-has c =
    let least = some c.args.names.now c.args.counts.now c.args.index c.loop-cell.cell-index c.cells-cells.result.now c.requires.made c.requires.within c.cells-cells.ensures.cells c.cells-cells.ensures.ascending c.loop-cell-test.true in
    omega (arith, least, c.lines_of-lines.ensures)

pub overflow_sub-more-then-has-2 : goal.overflow_sub-more-then-has-2
overflow_sub-more-then-has-2 c =
    let most = few c.args.names.now c.args.counts.now c.args.index c.loop-cell.cell-index c.cells-cells.result.now c.requires.made c.requires.within c.cells-cells.ensures.cells c.cells-cells.ensures.ascending c.loop-cell-test.true c.loop-cell.more c.loop-cell.invariant.enough in
    omega (arith, most, c.lines_of-lines.ensures)

pub overflow_mul-file_weight : goal.overflow_mul-file_weight
overflow_mul-file_weight c =
    let fit = fits c.args.names.now c.args.counts.now c.args.index c.loop-cell.cell-index c.cells-cells.result.now c.requires.made c.requires.within c.cells-cells.ensures.cells c.cells-cells.ensures.ascending c.loop-cell-test.true
    (c.all_lines-file_weight.result + 1) c.lines_of-lines.result (omega (arith, c.all_lines-file_weight.ensures.few)) c.lines_of-lines.ensures (omega (arith, c.all_lines-file_weight.ensures.lines, c.all_lines-file_weight.ensures.few)) c.requires.few in
    rw c.from.ensures (omega (arith, fit))

pub overflow_add-file_weight-then-has : goal.overflow_add-file_weight-then-has
overflow_add-file_weight-then-has c =
    let fit = fits c.args.names.now c.args.counts.now c.args.index c.loop-cell.cell-index c.cells-cells.result.now c.requires.made c.requires.within c.cells-cells.ensures.cells c.cells-cells.ensures.ascending c.loop-cell-test.true
    (c.all_lines-file_weight.result + 1) c.lines_of-lines.result (omega (arith, c.all_lines-file_weight.ensures.few)) c.lines_of-lines.ensures (omega (arith, c.all_lines-file_weight.ensures.lines, c.all_lines-file_weight.ensures.few)) c.requires.few in
    rw c.from.ensures (omega (arith, fit))

pub loop-cell-preserved : goal.loop-cell-preserved
loop-cell-preserved c =
    let a = c.args.names.now in
    let tallies = c.args.counts.now in
    let i = c.args.index in
    let k = c.loop-cell.cell-index in
    let cs = c.cells-cells.result.now in
    let here : k < length cs = c.loop-cell-test.true in
    let es : List (ℕ × ℕ) = map cell_of cs in
    let within : k < length es = omega (arith, here, length-map cs cell_of) in
    let row = c.loop-cell.row.items in
    let pooled : c.has.result ≡ in_pool a (class_at a i) (key_at es k) = c.has.ensures ∙ c.pool-pool.ensures.members (get_or cs k zero_cell).number ∙ ap (λ (x : Class). in_pool a x (get_or cs k zero_cell).number) c.class.ensures ∙ ap (in_pool a (class_at a i)) (number-at cs k here) in
    elim c.if-has.branch [
      | then-has+in_ok-push w ↦
          let weight = c.all_lines-file_weight.result + 1 in
          let files = (get_or cs k zero_cell).files in
          let lines_here : w.lines_of-lines.result ≡ lines (account a i) (key_at es k) = w.lines_of-lines.ensures ∙ ap (lines (account a i)) (number-at cs k here) in
          let w' : ℕ = (c.all_lines-file_weight.result + 1) * files + w.lines_of-lines.result in
          let kept = files-at a tallies i k cs c.requires.made c.requires.within c.cells-cells.ensures.cells c.cells-cells.ensures.ascending here in
          let is : w' ≡ told_weight a tallies i (key_at es k) = rw (c.all_lines-file_weight.ensures.lines, kept, lines_here) refl in
          let least = some a tallies i k cs c.requires.made c.requires.within c.cells-cells.ensures.cells c.cells-cells.ensures.ascending here in
          let fit = fits a tallies i k cs c.requires.made c.requires.within c.cells-cells.ensures.cells c.cells-cells.ensures.ascending here
          (c.all_lines-file_weight.result + 1) w.lines_of-lines.result (omega (arith, c.all_lines-file_weight.ensures.few)) w.lines_of-lines.ensures (omega (arith, c.all_lines-file_weight.ensures.lines, c.all_lines-file_weight.ensures.few)) c.requires.few in
          let pushed = so-far-push a tallies i k w' es row c.cells-cells.ensures.ascending within (sym pooled ∙ w.if-has.true) is (omega (arith, w.lines_of-lines.ensures, least)) fit c.loop-cell.invariant.row in
          record {
            row = rw (w.row-is, w.in_ok-push.ensures.ok, w.from.ensures, number-at cs k here) pushed;
            enough = rw w.more-is (next a tallies i k cs c.requires.made c.requires.within c.cells-cells.ensures.cells c.cells-cells.ensures.ascending here c.loop-cell.more w.lines_of-lines.result w.lines_of-lines.ensures c.loop-cell.invariant.enough);
          }
      | else-has w ↦ record {
        row = rw w.row-is (so-far-skip a tallies i k es row within (sym pooled ∙ w.if-has.false) c.loop-cell.invariant.row);
        enough = rw w.more-is (passed a tallies i k cs c.requires.made c.requires.within c.cells-cells.ensures.cells c.cells-cells.ensures.ascending here c.loop-cell.more c.loop-cell.invariant.enough);
      }
    ]

pub returns : goal.returns
returns c = so-far-end c.args.names.now c.args.counts.now c.args.index c.loop-cell.cell-index (map cell_of c.cells-cells.result.now) c.loop-cell.row.items c.requires.made c.requires.within c.cells-cells.ensures.cells
    (omega (arith, c.loop-cell-test.false, length-map c.cells-cells.result.now cell_of)) c.loop-cell.invariant.row
