use Rattle.std.proofs.Common.{sym, ap, ◌∙◌}
use Rattle.std.specs.List.{list_any}
use Rattle.idtext.proofs.EscapeLemmas.{characters-empty}
use Rattle.mtree_inv.specs.Open.{is_full}
use Rattle.mtree_inv.specs.Paths.{is_slash}
use Rattle.mtree_inv.proofs.UnescapedLemmas.{full-plain}
use Rattle.mtree_inv.proofs.place.has_slash.Goals as goal

pub returns : goal.returns
returns c = sym (ap is_full c.in_default.ensures.characters ∙ ap (list_any is_slash) characters-empty) ∙ c.loop-character.invariant

pub returns-then-not-with_backslash : goal.returns-then-not-with_backslash
returns-then-not-with_backslash c = c.contains.ensures.value ∙ sym (full-plain c.args.word.now (sym c.requires ∙ c.if-not-with_backslash.true))
