use Rattle.std.proofs.Common.{◌≡◌, [], ◌∷◌, ◌++◌, ◌∙◌, sym, ap, length, true}
use Rattle.std.specs.Prelude.{slice_get, Some}
use Rattle.mtree_inv.specs.Places.{hash_of}
use Rattle.mtree_inv.proofs.FollowLemmas.{new_when_expected, have_more, apart_when_expected}
use Rattle.mtree_inv.proofs.cut_hashes.is_expected.Goals as goal

next : (c : goal.After-is_at) → c.is_at.result ≡ true → slice_get c.args.expected.now (length c.args.rows.now) ≡ Some (hash_of c.args.cut.now)
next c is = ap (slice_get c.args.expected.now) (sym c.len.ensures) ∙ (c.is_at.ensures is).0 ∙ ap Some c.hash.ensures

pub returns-clause-new : goal.returns-clause-new
returns-clause-new c = λ is have.
    new_when_expected c.args.rows.now c.args.expected.now c.args.cut.now (next c is) (c.is_at.ensures is).1 have

pub returns-clause-followed : goal.returns-clause-followed
returns-clause-followed c = λ is have.
    have_more c.args.rows.now c.args.expected.now c.args.cut.now (next c is) (c.is_at.ensures is).1 have

pub returns-clause-apart : goal.returns-clause-apart
returns-clause-apart c = λ is have others.
    apart_when_expected (c.args.rows.now ++ c.args.cut.now ∷ []) c.args.expected.now others (c.is_at.ensures is).1
    (have_more c.args.rows.now c.args.expected.now c.args.cut.now (next c is) (c.is_at.ensures is).1 have)
