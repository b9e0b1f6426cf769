use Rattle.std.proofs.Common.{◌∙◌, ℕ, List, sym, ap, subst, arith}
use Rattle.std.specs.Prelude.{Option, Result, IfOk}
use Rattle.std.specs.declared.alloc.AllocError.{AllocError}
use Rattle.mtree_inv.specs.declared.places.Place.{Place}
use Rattle.mtree_inv.specs.Cuts.{Cut, IsNew, IsPlaceOf}
use Rattle.mtree_inv.specs.Places.{place_at, AreFound}
use Rattle.mtree_inv.proofs.PlaceLemmas.{new_without_places, new_at_free, place_when_full}
use Rattle.mtree_inv.proofs.cuts.Cuts.find.Goals as goal
use Rattle.mtree_inv.proofs.cuts.Cuts.find.Goals.{in-At, in-Free, in-Full}

pub returns-then-len-le-MOST_PROBES-clause-place : goal.returns-then-len-le-MOST_PROBES-clause-place
returns-then-len-le-MOST_PROBES-clause-place c =
    subst (λ (l : List Cut). IsNew l c.args.cut.now) c.self.view_is
    (new_without_places c.self.inside.rows c.stop_following.new.places.items c.stop_following.new.others.entries (c.stop_following.ensures.found c.in_ok-stop_following.ensures.stops)
    c.args.cut.now (omega (arith, c.if-len-le-MOST_PROBES.true, c.len.ensures)))

pub returns-clause-place : goal.returns-clause-place
returns-clause-place c =
    let cut : Cut = c.args.cut.now in
    let rows = c.self.inside.rows in
    let others = c.stop_following.new.others.entries in
    let found : AreFound rows c.deref.result.now others =
    subst (λ (l : List Place). AreFound rows l others) (sym c.deref.ensures.value) (c.stop_following.ensures.found c.in_ok-stop_following.ensures.stops) in
    let Told : Result (Option ℕ) AllocError → Type 0 = λ answer. IfOk answer (IsPlaceOf rows cut) in
    subst (λ (l : List Cut). IfOk c.match-look_at_places.result (IsPlaceOf l cut)) c.self.view_is
    (elim c.match-look_at_places.branch [
      | in-At w ↦ subst Told (sym w.result-is) w.in-At.ensures
      | in-Free w ↦
          let h = w.in-Free.ensures in
          subst Told (sym w.result-is) (new_at_free rows c.deref.result.now others found cut h.0 h.1 (ap (λ (n : ℕ). (place_at c.deref.result.now n).number) (sym h.2) ∙ h.3) h.5)
      | in-Full w ↦
          subst Told (sym w.result-is) (place_when_full rows c.deref.result.now others found cut w.in-Full.ensures.1 w.other.result w.other.ensures.found w.other.ensures.none)
    ])
