use Rattle.std.proofs.Common.{◌≡◌, true, refl, sym, ◌∙◌}
use Rattle.hosts_join.specs.Hosts.{allows_gid, allows_uid, spares_group, spares_user}
use Rattle.unify.proofs.FileCounts.{allowed_place, both_allowed, group_allowed, group_refused, refused_place, spared_place, user_allowed, user_refused}
use Rattle.unify.proofs.FilePlaces.{group-few, own-each, user-few}
use Rattle.unify.proofs.row_files.places_of.Goals as goal
use Rattle.unify.proofs.row_files.places_of.Goals.{else-is_none-via-then-is_none+else-not-has, else-is_none-via-else-is_none, else-is_none-2-via-then-is_none-2+else-not-has-2, else-is_none-2-via-else-is_none-2}

pub returns-then-not-has-clause-owned : goal.returns-then-not-has-clause-owned
returns-then-not-has-clause-owned c =
    let host = c.args.host.now in
    let file = c.args.file.now in
    let place = c.place_of_number-user.result in
    let spared = sym c.has.ensures ∙ c.if-not-has.true in
    user_refused host file (user_allowed host file place _ (sym c.place_of_number-user.ensures.place) (refused_place place c.is_none.result (spares_user host file.uid) c.is_none.ensures c.if-is_none.true spared))

pub returns-then-not-has-2-clause-owned : goal.returns-then-not-has-2-clause-owned
returns-then-not-has-2-clause-owned c =
    let host = c.args.host.now in
    let file = c.args.file.now in
    let place = c.place_of_number-group.result in
    let spared = sym c.has-then-is_none-2.ensures ∙ c.if-not-has-2.true in
    group_refused host file (group_allowed host file place _ (sym c.place_of_number-group.ensures.place) (refused_place place c.is_none-2.result (spares_group host file.gid) c.is_none-2.ensures c.if-is_none-2.true spared))

pub place_of_row-requires : goal.place_of_row-requires
place_of_row-requires c = user-few c.args.host.now c.args.file.now c.place_of_number-user.result (sym c.place_of_number-user.ensures.place) c.place_of_number-user.ensures.table

pub place_of_row-requires-2 : goal.place_of_row-requires-2
place_of_row-requires-2 c = group-few c.args.host.now c.args.file.now c.place_of_number-group.result (sym c.place_of_number-group.ensures.place) c.place_of_number-group.ensures.table

pub returns : goal.returns
returns c =
    let host = c.args.host.now in
    let file = c.args.file.now in
    let user = c.place_of_number-user.result in
    let group = c.place_of_number-group.result in
    let user_is : allows_uid host file.uid ≡ true = user_allowed host file user true (sym c.place_of_number-user.ensures.place) (elim c.else-is_none.branch [
      | else-is_none-via-then-is_none+else-not-has w ↦ spared_place user (spares_user host file.uid) (sym w.has.ensures ∙ w.if-not-has.false)
      | else-is_none-via-else-is_none w ↦ allowed_place user c.is_none.result (spares_user host file.uid) c.is_none.ensures w.if-is_none.false
    ]) in
    let group_is : allows_gid host file.gid ≡ true = group_allowed host file group true (sym c.place_of_number-group.ensures.place) (elim c.else-is_none-2.branch [
      | else-is_none-2-via-then-is_none-2+else-not-has-2 w ↦ spared_place group (spares_group host file.gid) (sym w.has-then-is_none-2.ensures ∙ w.if-not-has-2.false)
      | else-is_none-2-via-else-is_none-2 w ↦ allowed_place group c.is_none-2.result (spares_group host file.gid) c.is_none-2.ensures w.if-is_none-2.false
    ]) in
    let each = own-each host file (record { uid = file.uid; gid = file.gid; user = c.place_of_row.result; group = c.place_of_row-2.result }) refl refl (sym c.place_of_number-user.ensures.place ∙ sym c.place_of_row.ensures) (sym c.place_of_number-group.ensures.place ∙ sym c.place_of_row-2.ensures) c.place_of_number-user.ensures.table c.place_of_number-group.ensures.table user_is group_is in
    record { numbers = (refl, refl); owned = both_allowed host file user_is group_is; owns = each file refl refl; places = each }
