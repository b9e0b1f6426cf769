use Rattle.std.proofs.Common.{◌≡◌, ◌∙◌, ℕ, true, List, ◌++◌, ◌∷◌, [], take, drop, length, sym, subst, arith, true≢false}
use Rattle.std.specs.Prelude.{Option, IfNone}
use Rattle.std.proofs.lemmas.List.{take_at}
use Rattle.mtree_inv.specs.declared.places.Place.{Place}
use Rattle.mtree_inv.specs.Cuts.{Cut, IsNew, IsPlaceOf}
use Rattle.mtree_inv.specs.Places.{IsFoundAt}
use Rattle.mtree_inv.specs.Following.{AreApart, IsApart, AreKept}
use Rattle.mtree_inv.proofs.PlaceLemmas.{settled_more, distinct_more}
use Rattle.mtree_inv.proofs.FollowLemmas.{apart_still, apart_more}
use Rattle.mtree_inv.proofs.cuts.Cuts.find_or_push.Goals as goal

pub make_room-requires-clause-found : goal.make_room-requires-clause-found
make_room-requires-clause-found c = c.stop_following.ensures.found c.in_ok-stop_following.ensures.stops

-- what the places are after a call on the slice of them
whole : (old new : List Place) (n : ℕ) → length new ≡ n → take n (new ++ drop (length new) old) ≡ new
whole old new n e = take_at new (drop (length new) old) n e

-- the cuts that were apart still are, with the new one
apart : (c : goal.In_ok-push-in-None) → c.find_or_settle.new.are_apart ≡ true → AreApart (c.self.inside.rows ++ c.args.cut.now ∷ []) c.find_or_settle.new.others.entries
apart c stays =
    let rows = c.self.inside.rows in
    let cut : Cut = c.args.cut.now in
    let others = c.find_or_settle.new.others.entries in
    let told = c.in_ok-index.ensures.apart stays in
    let before = c.self.invariant.apart told.0 in
    let stopped = apart_still rows c.self.inside.others.entries c.stop_following.new.others.entries c.stop_following.ensures.others before in
    let roomy = apart_still rows c.stop_following.new.others.entries c.make_room.new.others.entries c.make_room.ensures.others stopped in
    let settled = apart_still rows c.make_room.new.others.entries others c.find_or_settle.ensures.others roomy in
    apart_more rows others cut settled (subst (λ (known : Option ℕ). IfNone known (IsApart rows others cut)) c.in-None.is told.1)

pub invariant_of-self-in-None : goal.invariant_of-self-in-None
invariant_of-self-in-None c =
    let rows = c.self.inside.rows in
    let cut : Cut = c.args.cut.now in
    let new = c.find_or_settle.new.places in
    let others = c.find_or_settle.new.others.entries in
    let is_new : IsNew rows cut = subst (IsPlaceOf rows cut) c.in-None.is c.in_ok-index.ensures.place in
    let last : IsFoundAt new others cut (length rows) =
    subst (λ (known : Option ℕ). IfNone known (IsFoundAt new others cut (length rows))) c.in-None.is c.in_ok-index.ensures.settled in
    let Kept : List Cut → List Place → Type 0 = λ cuts places. AreKept cuts places others c.self.inside.expected c.stop_following.new.follows c.find_or_settle.new.are_apart in
    let settled : Kept (rows ++ cut ∷ []) new = record {
      found = λ stopped. settled_more rows cut new others c.find_or_settle.ensures.found last;
      followed = λ follows. absurd (true≢false (sym follows ∙ c.in_ok-stop_following.ensures.stops));
      distinct = distinct_more rows cut c.self.invariant.distinct is_new;
      apart = λ stays. apart c stays;
    } in
    subst (λ (l : List Place). Kept c.push-in-None.new.self l)
    (sym (whole c.make_room.new.places.items new c.make_room.new.places.len (omega (arith, c.find_or_settle.ensures.len, c.deref_mut.ensures.len))))
    (subst (λ (l : List Cut). Kept l new) (sym c.in_ok-push-in-None.ensures) settled)
