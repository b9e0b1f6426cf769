use Rattle.std.proofs.Common.{◌≡◌, ℕ, ◌==◌, cond, Some, None}
use Rattle.std.proofs.lemmas.List.Elements.{All-push}
use Rattle.hosts_join.specs.HostOwners.{place_in}
use Rattle.hosts_join.proofs.HostOwnerTables.{IsOwned, all-stay, is-new}
use Rattle.hosts_join.proofs.host_owners.HostOwners.insert.Goals as goal

pub invariant_of-self-in_err-push : goal.invariant_of-self-in_err-push
invariant_of-self-in_err-push c =
    let old = c.self.inside.places.entries in
    let new = c.insert.new.self.entries in
    let free : place_in old c.args.number ≡ None = rw c.self.view_is c.requires in
    let given : (v : ℕ) → place_in new v ≡ cond (c.args.number == v) (Some c.args.place) (place_in old v) = c.in_ok-insert.ensures.updates.0 in
    rw c.in_err-push.ensures.items (all-stay old new c.args.number c.args.place free given c.self.inside.rows.items c.self.invariant)

pub invariant_of-self-2 : goal.invariant_of-self-2
invariant_of-self-2 c =
    let old = c.self.inside.places.entries in
    let new = c.insert.new.self.entries in
    let free : place_in old c.args.number ≡ None = rw c.self.view_is c.requires in
    let given : (v : ℕ) → place_in new v ≡ cond (c.args.number == v) (Some c.args.place) (place_in old v) = c.in_ok-insert.ensures.updates.0 in
    let before = all-stay old new c.args.number c.args.place free given c.self.inside.rows.items c.self.invariant in
    rw c.in_ok-push.ensures.items (All-push (IsOwned new) c.self.inside.rows.items (record { number = c.args.number; place = c.args.place }) before (is-new old new c.args.number c.args.place free given))

pub returns : goal.returns
returns c = rw (← c.self.view_is) (c.in_ok-insert.ensures.updates.0)
