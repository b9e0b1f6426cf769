use Rattle.std.proofs.Common.{sym, ap, ◌∙◌}
use Rattle.certcheck.specs.Reading.{is_end}
use Rattle.certcheck.proofs.LineLoop.{saturated, side_equal}
use Rattle.certcheck.proofs.WholeText.{cut_refused, ended_read, group_side_read, handed_on, side_read, unended_refused}
use Rattle.certcheck.proofs.lines.read_certificate.Goals as goal

pub returns-in_err-parts : goal.returns-in_err-parts
returns-in_err-parts c = handed_on c.args.text.now c.from_residual.result c.in_err-parts.field-0.0 c.from_residual.ensures.0 c.from_residual.ensures.1 c.in_err-parts.ensures.fault

pub returns-then-is_cut : goal.returns-then-is_cut
returns-then-is_cut c = cut_refused c.args.text.now _ c.in_ok-parts.ensures.fine (sym c.is_cut.ensures ∙ c.if-is_cut.true) c.in_ok-parts.ensures.parts.counted

pub returns-then-not-is_end : goal.returns-then-not-is_end
returns-then-not-is_end c = unended_refused c.args.text.now c.saturating_add.result c.in_ok-parts.ensures.fine (sym c.is_cut.ensures ∙ c.if-is_cut.false) (ap is_end (sym c.in_ok-parts.ensures.parts.last) ∙ sym c.is_end.ensures ∙ c.if-not-is_end.true) (saturated _ _ _ c.in_ok-parts.ensures.parts.counted c.saturating_add.ensures)

pub new-requires : goal.new-requires
new-requires c = side_read c.args.text.now _ c.in_ok-parts.ensures.fine (side_equal _ _ _ _ c.in_ok-parts.ensures.parts.users c.in_ok-parts.ensures.parts.users_z)

pub new-requires-2 : goal.new-requires-2
new-requires-2 c = group_side_read c.args.text.now _ c.in_ok-parts.ensures.fine (side_equal _ _ _ _ c.in_ok-parts.ensures.parts.groups c.in_ok-parts.ensures.parts.groups_z)

pub returns : goal.returns
returns c =
    ended_read c.args.text.now c.new.result c.new-2.result c.in_ok-parts.ensures.fine (sym c.is_cut.ensures ∙ c.if-is_cut.false) (ap is_end (sym c.in_ok-parts.ensures.parts.last) ∙ sym c.is_end.ensures ∙ c.if-not-is_end.false)
    (c.new.ensures ∙ side_equal _ _ _ _ c.in_ok-parts.ensures.parts.users c.in_ok-parts.ensures.parts.users_z)
    (c.new-2.ensures ∙ side_equal _ _ _ _ c.in_ok-parts.ensures.parts.groups c.in_ok-parts.ensures.parts.groups_z)
