use Rattle.std.proofs.Common.{◌≡◌, ◌<◌, List, ◌++◌, ◌∷◌, [], length, refl, sym, ap, ◌∙◌, subst, arith}
use Rattle.std.proofs.lemmas.Option.{slice_get_within, slice_get_read}
use Rattle.std.specs.Prelude.{Option, Some, None, is_none, option_map, slice_get, if◌then◌else◌}
use Rattle.mtree_inv.specs.declared.entry.Entry.{Entry}
use Rattle.mtree_inv.specs.declared.table.Owner.{Owner}
use Rattle.mtree_inv.specs.Cuts.{Cut, IsNew, IsPlaceOf, with_cut}
use Rattle.mtree_inv.specs.Fronts.{IsCut, path_of_cut}
use Rattle.mtree_inv.specs.Inventory.{file_at}
use Rattle.mtree_inv.specs.Machine.{with_new_file}
use Rattle.mtree_inv.specs.Table.{TableValue, file, files_in}
use Rattle.mtree_inv.proofs.TableLemmas.{file_at-new, file_at-known, table-new, files-new}
use Rattle.mtree_inv.proofs.table.find_or_insert.Goals as goal

inside_cut : (t u : TableValue) (p : Cut) → t ≡ u → IsCut u.fronts p → IsCut t.fronts p
inside_cut t u p e is = subst (λ (v : TableValue). IsCut v.fronts p) (sym e) is

-- what is told of the files is told of them with one more, or with none
with_told : (files : List Entry) (one : Entry) (known : Option Entry) → known ≡ file_at files one.path → (if is_none known then files ++ one ∷ [] else files) ≡ with_new_file files one
with_told files one known is = ap (λ (o : Option Entry). if is_none o then files ++ one ∷ [] else files) is

-- ---- a file that is known

at : (c : goal.After-result-1) → slice_get c.table.inside.paths c.in-Some.index ≡ Some c.args.cut.now
at c = subst (IsPlaceOf c.table.inside.paths c.args.cut.now) c.in-Some.is c.in_ok-index.ensures.place

known : (c : goal.After-result-1) → Some (file (path_of_cut c.table.inside.fronts c.args.cut.now) c.index.result.now)
    ≡ file_at (files_in c.table.inside.fronts c.table.inside.paths c.table.inside.owners.items) (path_of_cut c.table.inside.fronts c.args.cut.now)
known c =
    let cut : Cut = c.args.cut.now in
    let t = c.table.invariant in
    let owners = c.table.inside.owners.items in
    let items = c.in_ok-reserve.ensures.items in
    let within : c.in-Some.index < length owners = omega (arith, slice_get_within c.table.inside.paths c.in-Some.index cut (at c), t.owned) in
    let read : slice_get owners c.in-Some.index ≡ Some c.index.result.now =
    subst (λ (l : List Owner). slice_get l c.in-Some.index ≡ Some c.index.result.now) items
    (slice_get_read c.reserve.new.self.items (length c.reserve.new.self.items) c.in-Some.index c.index.result.now refl (subst (λ (l : List Owner). c.in-Some.index < length l) (sym items) within) c.index.ensures) in
    ap (option_map (file (path_of_cut c.table.inside.fronts cut))) (sym read)
    ∙ sym (file_at-known c.table.inside.fronts c.table.inside.paths owners cut c.in-Some.index t.fronts_are t.cut t.distinct t.owned (inside_cut _ _ cut c.table.view_is c.requires) (at c))

pub returns-in-Some-clause-known : goal.returns-in-Some-clause-known
returns-in-Some-clause-known c =
    let cut : Cut = c.args.cut.now in
    subst (λ (t : TableValue). Some (file (path_of_cut t.fronts cut) c.index.result.now) ≡ file_at t.files (path_of_cut t.fronts cut)) c.table.view_is (known c)

pub returns-in-Some-clause-files : goal.returns-in-Some-clause-files
returns-in-Some-clause-files c =
    let cut : Cut = c.args.cut.now in
    let fronts = c.table.inside.fronts in
    let one : Entry = file (path_of_cut fronts cut) c.args.owner in
    let same : c.find_or_push.new.self ≡ c.table.inside.paths = c.in_ok-index.ensures.cuts ∙ ap (with_cut c.table.inside.paths cut) c.in-Some.is in
    ap (λ (l : List Cut). files_in fronts l c.reserve.new.self.items) same
    ∙ ap (files_in fronts c.table.inside.paths) c.in_ok-reserve.ensures.items
    ∙ with_told (files_in fronts c.table.inside.paths c.table.inside.owners.items) one _ (known c)
    ∙ ap (λ (t : TableValue). with_new_file t.files (file (path_of_cut t.fronts cut) c.args.owner)) c.table.view_is

-- ---- a new one

is_new : (c : goal.After-push_reserved) → IsNew c.table.inside.paths c.args.cut.now
is_new c = subst (IsPlaceOf c.table.inside.paths c.args.cut.now) c.in-None.is c.in_ok-index.ensures.place

more : (c : goal.After-push_reserved) → c.find_or_push.new.self ≡ c.table.inside.paths ++ c.args.cut.now ∷ []
more c = c.in_ok-index.ensures.cuts ∙ ap (with_cut c.table.inside.paths c.args.cut.now) c.in-None.is

owners : (c : goal.After-push_reserved) → c.push_reserved.new.self.items ≡ c.table.inside.owners.items ++ c.args.owner ∷ []
owners c = c.push_reserved.ensures.items ∙ ap (λ (l : List Owner). l ++ c.args.owner ∷ []) c.in_ok-reserve.ensures.items

nowhere : (c : goal.After-push_reserved) → None ≡ file_at (files_in c.table.inside.fronts c.table.inside.paths c.table.inside.owners.items) (path_of_cut c.table.inside.fronts c.args.cut.now)
nowhere c =
    let cut : Cut = c.args.cut.now in
    let t = c.table.invariant in
    sym (file_at-new c.table.inside.fronts c.table.inside.paths c.table.inside.owners.items cut t.fronts_are t.cut (inside_cut _ _ cut c.table.view_is c.requires) (is_new c))

pub invariant_of-table-in-None : goal.invariant_of-table-in-None
invariant_of-table-in-None c =
    let cut : Cut = c.args.cut.now in
    rw (more c, owners c)
    (table-new c.table.inside.fronts c.table.inside.paths c.table.inside.owners.items cut c.args.owner c.table.invariant (inside_cut _ _ cut c.table.view_is c.requires) (is_new c))

pub returns-in-None-clause-known : goal.returns-in-None-clause-known
returns-in-None-clause-known c =
    let cut : Cut = c.args.cut.now in
    subst (λ (t : TableValue). None ≡ file_at t.files (path_of_cut t.fronts cut)) c.table.view_is (nowhere c)

pub returns-in-None-clause-files : goal.returns-in-None-clause-files
returns-in-None-clause-files c =
    let cut : Cut = c.args.cut.now in
    let fronts = c.table.inside.fronts in
    let one : Entry = file (path_of_cut fronts cut) c.args.owner in
    ap (λ (l : List Cut). files_in fronts l c.push_reserved.new.self.items) (more c)
    ∙ ap (files_in fronts (c.table.inside.paths ++ cut ∷ [])) (owners c)
    ∙ files-new fronts c.table.inside.paths cut c.table.inside.owners.items c.args.owner c.table.invariant.owned
    ∙ with_told (files_in fronts c.table.inside.paths c.table.inside.owners.items) one None (nowhere c)
    ∙ ap (λ (t : TableValue). with_new_file t.files (file (path_of_cut t.fronts cut) c.args.owner)) c.table.view_is
