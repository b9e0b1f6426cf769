use Rattle.std.proofs.Common.{[], ◌∷◌, ◌++◌, refl, subst, sym, ◌∙◌, ap}
use Rattle.idtext.specs.Numbers as numbers
use Rattle.std.specs.List.{All}
use Rattle.mergedfiles.specs.Coming.{IsPlaced}
use Rattle.mergedfiles.specs.HostFiles.{renumbered_text, renumbered_user}
use Rattle.mergedfiles.proofs.ComingRows.{rows-placed}
use Rattle.mergedfiles.proofs.HostSteps.{text-last, text-more, written-more}
use Rattle.mergedfiles.proofs.host_files.host_passwd_text.Goals as goal

pub loop-line-preserved : goal.loop-line-preserved
loop-line-preserved c =
    let f = renumbered_user c.args.host.now c.args.site.now c.args.mappings.now in
    record {
      written = written-more _ c.loop-line.new.items c.push.new.self.items _ _ _
          (c.in_ok-push.ensures.items ∙ ap (λ t. t ++ 10 ∷ []) c.in_ok-push_user_line.ensures.text)
          (text-more f c.loop-line.rest.now c.in-Some.line.now c.in-Some.more.now c.in-Some.ensures.pieces) c.loop-line.invariant.written;
      coming = c.push_user_line.ensures.coming;
    }

pub returns : goal.returns
returns c =
    let f = renumbered_user c.args.host.now c.args.site.now c.args.mappings.now in
    c.in_ok-push_user_line-2.ensures.text ∙ ap (λ t. c.loop-line.new.items ++ t) (sym (text-last f c.loop-line.rest.now c.in_default.ensures.pieces)) ∙ c.loop-line.invariant.written

pub loop-line-init : goal.loop-line-init
unfolding numbers.numeral
loop-line-init c =
    let f = renumbered_user c.args.host.now c.args.site.now c.args.mappings.now in
    record {
      written = ap (λ t. t ++ renumbered_text f c.args.text.now) c.in_ok-new.ensures.items;
      coming = record { primary = refl; placed = subst (All (IsPlaced c.args.site.now.users c.args.index)) (sym c.rows.ensures.rows) (rows-placed c.args.site.now c.args.index c.args.host.now c.requires.known c.rows.ensures.table) };
    }
