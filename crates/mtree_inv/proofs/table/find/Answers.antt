use Rattle.std.proofs.Common.{◌≡◌, ◌<◌, length, refl, sym, ap, ◌∙◌, subst, arith}
use Rattle.std.proofs.lemmas.Option.{slice_get_within, slice_get_read}
use Rattle.std.specs.Prelude.{Option, Some, None, Result, IfOk, option_map, slice_get}
use Rattle.std.specs.declared.alloc.AllocError.{AllocError}
use Rattle.mtree_inv.specs.declared.table.Owner.{Owner}
use Rattle.mtree_inv.specs.Cuts.{Cut, IsNew, IsPlaceOf}
use Rattle.mtree_inv.specs.Fronts.{IsCut, path_of_cut}
use Rattle.mtree_inv.specs.Inventory.{file_at}
use Rattle.mtree_inv.specs.Table.{TableValue, file}
use Rattle.mtree_inv.proofs.TableLemmas.{file_at-new, file_at-known}
use Rattle.mtree_inv.proofs.table.find.Goals as goal
use Rattle.mtree_inv.proofs.table.find.Goals.{in-None, in-Some}

abbrev Tells : Cut → Option Owner → TableValue → Type 0
Tells cut owner t = option_map (file (path_of_cut t.fronts cut)) owner ≡ file_at t.files (path_of_cut t.fronts cut)

inside_cut : (t u : TableValue) (cut : Cut) → t ≡ u → IsCut u.fronts cut → IsCut t.fronts cut
inside_cut t u cut e is = subst (λ (v : TableValue). IsCut v.fronts cut) (sym e) is

pub returns-clause-found : goal.returns-clause-found
returns-clause-found c =
    let cut : Cut = c.args.cut.now in
    let t = c.table.invariant in
    let fronts = c.table.inside.fronts in
    let paths = c.table.inside.paths in
    let owners = c.table.inside.owners.items in
    let inside = inside_cut _ _ cut c.table.view_is c.requires in
    let Told : Result (Option Owner) AllocError → Type 0 = λ answer. IfOk answer (λ owner. Tells cut owner c.args.table.now) in
    elim c.match-branch-2.branch [
      | in-None w ↦
          let is_new : IsNew paths cut = subst (IsPlaceOf paths cut) w.in-None.is c.in_ok-find.ensures.place in
          subst Told (sym w.result-is) (subst (Tells cut None) c.table.view_is (sym (file_at-new fronts paths owners cut t.fronts_are t.cut inside is_new)))
      | in-Some w ↦
          let at : slice_get paths w.in-Some.index ≡ Some cut = subst (IsPlaceOf paths cut) w.in-Some.is c.in_ok-find.ensures.place in
          let within : w.in-Some.index < length owners = omega (arith, slice_get_within paths w.in-Some.index cut at, t.owned) in
          subst Told (sym w.result-is) (subst (Tells cut (Some w.index.result.now)) c.table.view_is
          (ap (option_map (file (path_of_cut fronts cut))) (sym (slice_get_read owners (length owners) w.in-Some.index w.index.result.now refl within w.index.ensures))
          ∙ sym (file_at-known fronts paths owners cut w.in-Some.index t.fronts_are t.cut t.distinct t.owned inside at)))
    ]
