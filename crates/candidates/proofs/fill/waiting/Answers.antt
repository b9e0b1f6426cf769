use Rattle.std.proofs.Common.{◌≡◌, ◌+◌, ◌++◌, ◌∷◌, [], ℕ, List, take, get_or, sym, ◌∙◌, ap, arith, refl, subst}
use Rattle.std.specs.Option.{is_none}
use Rattle.std.proofs.lemmas.List.{take_all, take_more}
use Rattle.candidates.specs.Settled.{AreWaiting}
use Rattle.candidates.proofs.WaitingNames.{waiting_among, waits-more, waits-not, are-waiting}
use Rattle.candidates.proofs.fill.waiting.Goals as goal
use Rattle.candidates.proofs.fill.waiting.Goals.{in-Some, in-None+in_ok-push-in-None}

pub loop-index-init : goal.loop-index-init
loop-index-init c = rw c.new-waiting.ensures.items refl

pub loop-index-preserved : goal.loop-index-preserved
loop-index-preserved c =
    let a = c.args.names.now in
    let numbers = c.args.numbers.now in
    let order = c.in_byte_order-index-items.result.now in
    let k = c.loop-index.index-index in
    let item = get_or order k 0 in
    let more = take_more order k 0 (omega arith) in
    let step : waiting_among a numbers (take k order ++ item ∷ []) ≡ waiting_among a numbers (take (k + 1) order) =
    ap (waiting_among a numbers) (sym more) in
    elim c.match-numbers-index.branch [
      | in-Some w ↦ rw w.waiting-is (c.loop-index.invariant ∙ sym (waits-not a numbers (take k order) item (ap is_none w.in-Some.is)) ∙ step)
      | in-None+in_ok-push-in-None w ↦
          ap (λ v. v.items) w.waiting-is ∙ w.in_ok-push-in-None.ensures.items
          ∙ ap (λ (ws : List ℕ). ws ++ item ∷ []) c.loop-index.invariant
          ∙ sym (waits-more a numbers (take k order) item (ap is_none w.in-None.is)) ∙ step
    ]

pub returns : goal.returns
returns c =
    let order = c.in_byte_order-index-items.result.now in
    let all : take c.loop-index.index-index order ≡ order = take_all c.loop-index.index-index order (omega arith) in
    subst (AreWaiting c.args.names.now c.args.numbers.now) (sym (c.loop-index.invariant ∙ ap (waiting_among c.args.names.now c.args.numbers.now) all)) (are-waiting c.args.names.now c.args.numbers.now order c.in_byte_order-index-items.ensures.ordered)
