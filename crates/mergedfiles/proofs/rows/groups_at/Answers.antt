use Rattle.std.proofs.Common.{sym, ◌∙◌, ap, ◌∷◌, [], List, map, take}
use Rattle.std.proofs.lemmas.List.{map-append}
use Rattle.mergedfiles.specs.Rows.{GroupRow}
use Rattle.mergedfiles.specs.Seen.{group_seen, group_told}
use Rattle.mergedfiles.specs.Spots.{group_at}
use Rattle.mergedfiles.specs.Spots as spots
use Rattle.mergedfiles.proofs.Steps.{given_more, one_given, none_given}
use Rattle.mergedfiles.proofs.rows.groups_at.Goals as goal
use Rattle.mergedfiles.proofs.rows.groups_at.Goals.{in-Some+in_ok-push, in_default}

pub loop-spot-preserved : goal.loop-spot-preserved
loop-spot-preserved c =
    let f = group_at c.args.hosts.now c.args.name.now in
    let before : List GroupRow = map group_seen c.loop-spot.groups.items in
    let all : List GroupRow = spots.groups_at c.args.hosts.now c.args.name.now (take c.loop-spot.spot-index c.args.among.now) in
    elim c.match-group_at.branch [
      | in-Some+in_ok-push w ↦ rw w.groups-is (one_given before all _ _ (group_seen w.in-Some.group) c.loop-spot.invariant (sym c.group_at.ensures ∙ ap group_told w.in-Some.is) (ap (map group_seen) w.in_ok-push.ensures.items ∙ map-append group_seen c.loop-spot.groups.items (w.in-Some.group ∷ [])) ∙ sym (given_more f c.args.among.now c.loop-spot.spot-index _ c.loop-spot-test.true))
      | in_default w ↦ rw w.groups-is (none_given before all _ c.loop-spot.invariant (sym c.group_at.ensures ∙ ap group_told w.in_default.is) ∙ sym (given_more f c.args.among.now c.loop-spot.spot-index _ c.loop-spot-test.true))
    ]
