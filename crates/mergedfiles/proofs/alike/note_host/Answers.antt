use Rattle.std.proofs.Common.{get_or, ◌∙◌, ap, arith, refl, subst, sym}
use Rattle.std.specs.List.{All}
use Rattle.std.proofs.lemmas.List.{take_all}
use Rattle.accounts.specs.Rows.{Passwd}
use Rattle.hosts_join.specs.Accounts.{owner}
use Rattle.mergedfiles.specs.Alike.{IsCovered}
use Rattle.mergedfiles.specs.Differences.{group_name}
use Rattle.mergedfiles.proofs.SameRows.{covered-more, noted, unowned, row_on}
use Rattle.mergedfiles.proofs.alike.note_host.Goals as goal
use Rattle.mergedfiles.proofs.alike.note_host.Goals.{in-Some, in_default}

pub loop-at-preserved : goal.loop-at-preserved
loop-at-preserved c =
    let names = c.args.names.now.names in
    let h = c.args.index in
    let host = c.args.host.now in
    let rows = c.rows-row-items.result.now in
    let k = c.loop-at.at in
    let row = c.row-item.result in
    let old = c.loop-at.seen.items in
    let owned = c.owner_of_row.ensures.owner ∙ ap (λ (r : Passwd). owner names h r.uid) c.row.view_is in
    elim c.match-owner_of_row.branch [
      | in-Some w ↦
          let new = w.note.new.seen.items in
          let here = noted names h host new w.in-Some.user row (get_or rows k row) c.owner_of_row.result c.row-item.is owned w.in-Some.is (w.note.ensures.covered (row_on host row) (refl, c.next_primary-primary.ensures.name ∙ ap (λ (r : Passwd). group_name host r.gid) c.row.view_is)) in
          rw w.seen-is (record {
            len = w.note.ensures.len ∙ c.loop-at.invariant.len;
            covered = covered-more names h host old new rows k row c.loop-at-test.true w.note.ensures.kept here c.loop-at.invariant.covered;
            primary = c.next_primary-primary.ensures.name ∙ ap (group_name host) (sym c.next_primary-primary.ensures.gid);
            kept = λ i other was. w.note.ensures.kept i other (c.loop-at.invariant.kept i other was);
          })
      | in_default w ↦
          let here = unowned names h host old row (get_or rows k row) c.owner_of_row.result c.row-item.is owned w.in_default.is in
          rw w.seen-is (record {
            len = c.loop-at.invariant.len;
            covered = covered-more names h host old old rows k row c.loop-at-test.true (λ i other was. was) here c.loop-at.invariant.covered;
            primary = c.next_primary-primary.ensures.name ∙ ap (group_name host) (sym c.next_primary-primary.ensures.gid);
            kept = c.loop-at.invariant.kept;
          })
    ]

pub returns-clause-covered : goal.returns-clause-covered
returns-clause-covered c =
    let rows = c.rows-row-items.result.now in
    let P = λ (row : Passwd). IsCovered c.args.names.now.names c.loop-at.seen.items c.args.index (row_on c.args.host.now row) in
    subst (All P) (take_all c.loop-at.at rows (omega arith) ∙ c.rows-row-items.ensures.rows) c.loop-at.invariant.covered
