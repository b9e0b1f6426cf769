use Rattle.std.proofs.Common.{sym, subst}
use Rattle.certcheck.specs.Certificate.{Side}
use Rattle.certcheck.specs.Made.{IsSideOf}
use Rattle.certcheck.specs.Views.{rows_of}
use Rattle.certcheck.proofs.MadeSide.{made_side}
use Rattle.certcheck.proofs.making.side_of.Goals as goal

pub new-requires : goal.new-requires
new-requires c = (made_side c.args.names.now c.args.mapping.now c.args.y.now c.args.z.now (rows_of c.in_ok-rows.rows.items) c.in_ok-z.z.items c.in_ok-rows.ensures.lawful c.requires c.in_ok-rows.ensures.rows c.in_ok-z.ensures.items).0

pub returns-clause-side : goal.returns-clause-side
returns-clause-side c =
    let P : Side → Type 0 = λ s. IsSideOf c.args.names.now c.args.mapping.now c.args.y.now c.args.z.now s in
    subst P (sym c.new.ensures) (made_side c.args.names.now c.args.mapping.now c.args.y.now c.args.z.now (rows_of c.in_ok-rows.rows.items) c.in_ok-z.z.items c.in_ok-rows.ensures.lawful c.requires c.in_ok-rows.ensures.rows c.in_ok-z.ensures.items).1
