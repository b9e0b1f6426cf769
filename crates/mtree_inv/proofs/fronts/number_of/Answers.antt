use Rattle.std.proofs.Common.{◌≡◌, ◌<◌, ◌++◌, ◌∙◌, List, [], ◌∷◌, ℕ, suc, length, refl, sym, ap, subst}
use Rattle.std.specs.Prelude.{Option, Some, None, Result, IfSome, IfOk}
use Rattle.std.specs.Option.{ok_or}
use Rattle.std.specs.declared.alloc.AllocError.{AllocError}
use Rattle.mtree_inv.specs.Cuts.{Cut, IsNew, IsPlaceOf, with_cut}
use Rattle.mtree_inv.specs.Fronts.{path_of_cut, fronts_in, IsFrontAt, AreFrontCuts}
use Rattle.mtree_inv.proofs.FrontLemmas.{are_fronts, fronts-new, front_is-new, front_cuts-new}
use Rattle.mtree_inv.proofs.fronts.number_of.Goals as goal

-- a number that is told is the index, counted from 1
counted : (P : ℕ → Type 0) (index : ℕ) (told : Option ℕ) (answer : Result ℕ AllocError) (e : AllocError)
    → IfSome told (λ n. n ≡ suc index) → answer ≡ ok_or told e → P (suc index) → IfOk answer P
counted P index None answer e is a p = subst (λ (r : Result ℕ AllocError). IfOk r P) (sym a) tt
counted P index (Some n) answer e is a p = subst (λ (r : Result ℕ AllocError). IfOk r P) (sym a) (subst P (sym is) p)

none_of : (found : Option ℕ) → ((i : ℕ) → found ≡ Some i → ⊥) → found ≡ None
none_of None none = refl
none_of (Some i) none = absurd (none i refl)

pub returns-in-Some-clause-ok : goal.returns-in-Some-clause-ok
returns-in-Some-clause-ok c =
    let cut : Cut = (c.args.front, c.args.block.now) in
    let place = subst (λ (of : Cut). IsPlaceOf c.fronts.inside.cuts of c.in_ok-index.field-0) c.new.ensures c.in_ok-index.ensures.place in
    let at = subst (IsPlaceOf c.fronts.inside.cuts cut) c.in-Some.is place in
    let same : c.find_or_push.new.self ≡ c.fronts.inside.cuts =
    c.in_ok-index.ensures.cuts
    ∙ ap (λ (of : Cut). with_cut c.fronts.inside.cuts of c.in_ok-index.field-0) c.new.ensures
    ∙ ap (with_cut c.fronts.inside.cuts cut) c.in-Some.is in
    counted (IsFrontAt (fronts_in c.find_or_push.new.self) cut) c.in-Some.index c.number_at.result c.ok_or.result _ c.number_at.ensures c.ok_or.ensures.value
    (subst (λ (cuts : List Cut). IsFrontAt (fronts_in cuts) cut (suc c.in-Some.index)) (sym same) (c.fronts.invariant.told c.in-Some.index cut at))

-- ---- a front that was not there

abbrev cut_in : goal.After-ok_or-2 → Cut
cut_in c = (c.args.front, c.args.block.now)

none : (c : goal.After-ok_or-2) → c.in_ok-index.field-0 ≡ None
none c = none_of c.in_ok-index.field-0 c.in_default.not-Some

is_new : (c : goal.After-ok_or-2) → IsNew c.fronts.inside.cuts (cut_in c)
is_new c =
    subst (IsPlaceOf c.fronts.inside.cuts (cut_in c)) (none c)
    (subst (λ (of : Cut). IsPlaceOf c.fronts.inside.cuts of c.in_ok-index.field-0) c.new.ensures c.in_ok-index.ensures.place)

more : (c : goal.After-ok_or-2) → c.find_or_push.new.self ≡ c.fronts.inside.cuts ++ cut_in c ∷ []
more c =
    c.in_ok-index.ensures.cuts
    ∙ ap (λ (of : Cut). with_cut c.fronts.inside.cuts of c.in_ok-index.field-0) c.new.ensures
    ∙ ap (with_cut c.fronts.inside.cuts (cut_in c)) (none c)

less : (c : goal.After-ok_or-2) → c.args.front < length (fronts_in c.fronts.inside.cuts)
less c = subst (λ (fronts : List (List ℕ)). c.args.front < length fronts) (sym c.fronts.view_is) c.requires.kept

tree : (c : goal.After-ok_or-2) → AreFrontCuts c.find_or_push.new.self
tree c = subst AreFrontCuts (sym (more c)) (front_cuts-new c.fronts.inside.cuts c.fronts.invariant (cut_in c) (is_new c) (less c) c.requires.block)

grown : (c : goal.After-ok_or-2) → fronts_in c.find_or_push.new.self ≡ fronts_in c.fronts.inside.cuts ++ path_of_cut (fronts_in c.fronts.inside.cuts) (cut_in c) ∷ []
grown c = ap fronts_in (more c) ∙ fronts-new c.fronts.inside.cuts (cut_in c)

pub invariant_of-fronts-2 : goal.invariant_of-fronts-2
invariant_of-fronts-2 c = tree c

pub returns-clause-ok : goal.returns-clause-ok
returns-clause-ok c =
    counted (IsFrontAt (fronts_in c.find_or_push.new.self) (cut_in c)) c.len-last.result c.number_at-2.result c.ok_or-2.result _ c.number_at-2.ensures c.ok_or-2.ensures.value
    (subst (λ (n : ℕ). IsFrontAt (fronts_in c.find_or_push.new.self) (cut_in c) (suc n)) (sym c.len-last.ensures)
    (subst (λ (fronts : List (List ℕ)). IsFrontAt fronts (cut_in c) (suc (length c.fronts.inside.cuts))) (sym (grown c))
    (front_is-new c.fronts.inside.cuts c.fronts.invariant (cut_in c) (is_new c) (less c) c.requires.block)))

pub returns-clause-fronts : goal.returns-clause-fronts
returns-clause-fronts c = are_fronts c.find_or_push.new.self (tree c)

pub returns-clause-grow : goal.returns-clause-grow
returns-clause-grow c = (
  path_of_cut (fronts_in c.fronts.inside.cuts) (cut_in c) ∷ [],
  grown c ∙ ap (λ (fronts : List (List ℕ)). fronts ++ path_of_cut (fronts_in c.fronts.inside.cuts) (cut_in c) ∷ []) c.fronts.view_is,
)
