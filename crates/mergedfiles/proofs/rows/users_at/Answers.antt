use Rattle.std.proofs.Common.{sym, ◌∙◌, ap, ◌∷◌, [], List, map, take}
use Rattle.std.proofs.lemmas.List.{map-append}
use Rattle.mergedfiles.specs.Rows.{UserRow}
use Rattle.mergedfiles.specs.Seen.{user_seen, user_told}
use Rattle.mergedfiles.specs.Spots.{user_at}
use Rattle.mergedfiles.specs.Spots as spots
use Rattle.mergedfiles.proofs.Steps.{given_more, one_given, none_given}
use Rattle.mergedfiles.proofs.rows.users_at.Goals as goal
use Rattle.mergedfiles.proofs.rows.users_at.Goals.{in-Some+in_ok-push, in_default}

pub loop-spot-preserved : goal.loop-spot-preserved
loop-spot-preserved c =
    let f = user_at c.args.hosts.now c.args.name.now in
    let before : List UserRow = map user_seen c.loop-spot.users.items in
    let all : List UserRow = spots.users_at c.args.hosts.now c.args.name.now (take c.loop-spot.spot-index c.args.among.now) in
    elim c.match-user_at.branch [
      | in-Some+in_ok-push w ↦ rw w.users-is (one_given before all _ _ (user_seen w.in-Some.user) c.loop-spot.invariant (sym c.user_at.ensures ∙ ap user_told w.in-Some.is) (ap (map user_seen) w.in_ok-push.ensures.items ∙ map-append user_seen c.loop-spot.users.items (w.in-Some.user ∷ [])) ∙ sym (given_more f c.args.among.now c.loop-spot.spot-index _ c.loop-spot-test.true))
      | in_default w ↦ rw w.users-is (none_given before all _ c.loop-spot.invariant (sym c.user_at.ensures ∙ ap user_told w.in_default.is) ∙ sym (given_more f c.args.among.now c.loop-spot.spot-index _ c.loop-spot-test.true))
    ]
