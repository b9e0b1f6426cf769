use Rattle.std.proofs.Common.{◌<◌, ◌==◌, ◌&&◌, length, get_or, refl, sym, ◌∙◌, arith}
use Rattle.hosts_join.specs.Accounts.{owner}
use Rattle.ownership.specs.Files.{is_place}
use Rattle.ownership.proofs.OwnerCells.{owner-counted}
use Rattle.ownership.proofs.RowSums.{rows-empty, rows-none, rows-owned, rows-unowned, next-within}
use Rattle.ownership.proofs.counting.KindCounting.add_rows.Goals as goal
use Rattle.ownership.proofs.counting.KindCounting.add_rows.Goals.{in-Some+in_ok-note_files, in_default}

pub loop-row-init : goal.loop-row-init
loop-row-init g c = rows-none c.args.names.now.names c.args.index (g.K.Kind.listed c.args.host.now) c.args.files.now c.args.self.now

pub note_files-requires-clause-there : goal.note_files-requires-clause-there
note_files-requires-clause-there g c =
    c.loop-row.invariant.cells c.in-Some.name c.number-number.result
    ∙ (owner-counted c.args.names.now.names c.args.self.now c.args.index c.number-number.result c.in-Some.name c.requires.made (sym c.in-Some.ensures.owner)).1

pub note_files-requires-clause-kept : goal.note_files-requires-clause-kept
note_files-requires-clause-kept g c =
    let name = c.in-Some.name in
    let number = c.number-number.result in
    let within : c.loop-row.row < length c.args.files.now = omega (arith, c.loop-row-test.true, c.count-row-end.ensures, c.requires.rows) in
    let rows = next-within (λ n. is_place name (owner c.args.names.now.names c.args.index n) && (n == number)) (g.K.Kind.listed c.args.host.now) c.args.files.now c.loop-row.row within in
    omega (arith, rows, c.loop-row.invariant.kept name number, c.requires.room.kept_le name number, c.requires.few)

pub note_files-requires-clause-total : goal.note_files-requires-clause-total
note_files-requires-clause-total g c =
    let name = c.in-Some.name in
    let within : c.loop-row.row < length c.args.files.now = omega (arith, c.loop-row-test.true, c.count-row-end.ensures, c.requires.rows) in
    let rows = next-within (λ n. is_place name (owner c.args.names.now.names c.args.index n)) (g.K.Kind.listed c.args.host.now) c.args.files.now c.loop-row.row within in
    omega (arith, rows, c.loop-row.invariant.total name, c.requires.room.total_le name, c.requires.few)

pub loop-row-preserved-then-files-row-eq0 : goal.loop-row-preserved-then-files-row-eq0
loop-row-preserved-then-files-row-eq0 g c =
    rows-empty c.args.names.now.names c.args.index (g.K.Kind.listed c.args.host.now) c.args.files.now c.loop-row.row c.args.self.now c.loop-row.self c.if-files-row-eq0.true c.loop-row.invariant

pub loop-row-preserved : goal.loop-row-preserved
loop-row-preserved g c =
    let names = c.args.names.now.names in
    let index = c.args.index in
    let pairs = g.K.Kind.listed c.args.host.now in
    let files = c.args.files.now in
    let place = c.loop-row.row in
    let old = c.args.self.now in
    let now = c.loop-row.self in
    let number = c.number-number.result in
    elim c.match-owner_of_row.branch [
      | in-Some+in_ok-note_files w ↦
          rw w.self-is (rows-owned names index pairs files place w.in-Some.name number (get_or files place 0) c.owner_of_row.result old now w.note_files.new.self
          c.number-number.ensures refl c.owner_of_row.ensures.owner w.in-Some.is c.loop-row.invariant w.in_ok-note_files.ensures.more)
      | in_default w ↦
          rw w.self-is (rows-unowned names index pairs files place number c.owner_of_row.result old now
          c.number-number.ensures c.owner_of_row.ensures.owner w.in_default.is c.loop-row.invariant)
    ]
