use Rattle.std.proofs.Common.{◌≡◌, take, sym, ap, ◌∙◌, arith}
use Rattle.std.specs.Str.{bytes_eq}
use Rattle.std.proofs.lemmas.List.{length-take-le}
use Rattle.std.proofs.lemmas.List.Sums.{count_by-le-length}
use Rattle.kept_names.specs.Kept.{Found}
use Rattle.kept_names.specs.Tally.{one_more, tallied, tally_of}
use Rattle.kept_names.specs.Telling.{kind_word, number_of}
use Rattle.kept_names.proofs.Tallies.{lines-none, not-told, tallied-is, tally-more, told-more}
use Rattle.kept_names.proofs.reply.push_first.Goals as goal
use Rattle.kept_names.proofs.reply.push_first.Goals.{then-number-most+in_ok-push_finding, else-number-most}

pub loop-finding-init : goal.loop-finding-init
loop-finding-init c =
    (c.new-tally.ensures, lines-none c.args.renumbering.now c.args.most c.args.lines.now.items)

pub count-requires : goal.count-requires
count-requires c =
    let what = c.finding.inside.what in
    let seen = take c.loop-finding.finding-index c.args.found.now in
    let counted = ap (λ t. tallied t what) c.loop-finding.invariant.0 ∙ tallied-is seen what in
    let few = count_by-le-length (λ f. bytes_eq (kind_word f.what) (kind_word what)) seen in
    let first = length-take-le c.loop-finding.finding-index c.args.found.now (omega arith) in
    omega (arith, counted, few, first)

pub loop-finding-preserved : goal.loop-finding-preserved
loop-finding-preserved c =
    let i = c.loop-finding.finding-index in
    let found = c.args.found.now in
    let f = c.finding-item.result in
    let seen = take i found in
    let what-is : f.what ≡ c.finding.inside.what = sym (ap (λ (g : Found). g.what) c.finding.view_is) in
    let counted : c.number.result ≡ number_of (kind_word f.what) seen =
    c.number.ensures ∙ ap (λ t. tallied t c.finding.inside.what) c.loop-finding.invariant.0 ∙ ap (tallied (tally_of seen)) (sym what-is) ∙ tallied-is seen f.what in (
      c.count.ensures ∙ ap (λ t. one_more t c.finding.inside.what) c.loop-finding.invariant.0 ∙ ap (one_more (tally_of seen)) (sym what-is)
          ∙ sym (tally-more found i f c.loop-finding-test.true c.finding-item.is),
      elim c.if-number-most.branch [
        | then-number-most+in_ok-push_finding w ↦
            rw w.lines-is
            (told-more found i f c.loop-finding-test.true c.finding-item.is c.args.renumbering.now
            c.args.most c.args.lines.now.items c.loop-finding.lines.items
            c.loop-finding.invariant.1 _ (omega (arith, counted, w.if-number-most.true))
            w.in_ok-push_finding.ensures)
        | else-number-most w ↦
            rw w.lines-is
            (not-told found i f c.loop-finding-test.true c.finding-item.is c.args.renumbering.now
            c.args.most c.args.lines.now.items c.loop-finding.lines.items
            c.loop-finding.invariant.1 (omega (arith, counted, w.if-number-most.false)))
      ],
    )
