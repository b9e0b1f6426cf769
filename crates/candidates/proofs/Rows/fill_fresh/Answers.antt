use Rattle.std.proofs.Common.{◌≡◌, ℕ, ◌<◌, List, length, Option, ◌∙◌, ap}
use Rattle.candidates.specs.Fill.{gift, IsPartial}
use Rattle.candidates.specs.RowsInside.{choices_of}
use Rattle.candidates.specs.Settled.{IsDone}
use Rattle.candidates.proofs.Filled.{is-start, all-have, is-mapping, all-stay, is-admissible, is-filled}
use Rattle.candidates.proofs.Rows.fill_fresh.Goals as goal

pub fill-requires-clause-start : goal.fill-requires-clause-start
fill-requires-clause-start c =
    let part : IsPartial (choices_of c.self.inside) c.args.given.now = rw c.self.view_is c.requires in
    rw c.in_ok-filling.ensures (is-start (choices_of c.self.inside) c.args.given.now c.in_ok-settled.settled.items c.self.invariant part c.in_ok-settled.ensures.len c.in_ok-settled.ensures.numbers)

pub finish-requires : goal.finish-requires
finish-requires c =
    let ch = choices_of c.self.inside in
    let given = c.args.given.now in
    let start = c.in_ok-filling.filling in
    let part : IsPartial ch given = rw c.self.view_is c.requires in
    let long : length start ≡ length ch.accounts.names = ap length c.in_ok-filling.ensures ∙ c.in_ok-settled.ensures.len in
    let same = λ (i : ℕ) (h : i < length ch.accounts.names). ap (λ (xs : List (Option ℕ)). gift xs i) c.in_ok-filling.ensures ∙ c.in_ok-settled.ensures.numbers i h in
    let new = c.fill.new.filling in
    let done : IsDone ch.accounts start new = c.in_ok-fill.ensures in
    all-have ch given start c.self.invariant part long same new done

pub new-requires : goal.new-requires
new-requires c =
    let ch = choices_of c.self.inside in
    let given = c.args.given.now in
    let start = c.in_ok-filling.filling in
    let part : IsPartial ch given = rw c.self.view_is c.requires in
    let long : length start ≡ length ch.accounts.names = ap length c.in_ok-filling.ensures ∙ c.in_ok-settled.ensures.len in
    let same = λ (i : ℕ) (h : i < length ch.accounts.names). ap (λ (xs : List (Option ℕ)). gift xs i) c.in_ok-filling.ensures ∙ c.in_ok-settled.ensures.numbers i h in
    let new = c.fill.new.filling in
    let done : IsDone ch.accounts start new = c.in_ok-fill.ensures in
    (is-mapping ch given start c.self.invariant part long same new done c.in_ok-finish.field-0.items c.in_ok-finish.ensures.len c.in_ok-finish.ensures.numbers)

pub returns-clause-admissible : goal.returns-clause-admissible
returns-clause-admissible c =
    let ch = choices_of c.self.inside in
    let given = c.args.given.now in
    let start = c.in_ok-filling.filling in
    let part : IsPartial ch given = rw c.self.view_is c.requires in
    let long : length start ≡ length ch.accounts.names = ap length c.in_ok-filling.ensures ∙ c.in_ok-settled.ensures.len in
    let same = λ (i : ℕ) (h : i < length ch.accounts.names). ap (λ (xs : List (Option ℕ)). gift xs i) c.in_ok-filling.ensures ∙ c.in_ok-settled.ensures.numbers i h in
    let new = c.fill.new.filling in
    let done : IsDone ch.accounts start new = c.in_ok-fill.ensures in
    rw (← c.self.view_is, c.new.ensures) (is-admissible ch given start c.self.invariant part long same new done c.in_ok-finish.field-0.items c.in_ok-finish.ensures.len c.in_ok-finish.ensures.numbers)

pub returns-clause-given_stay : goal.returns-clause-given_stay
returns-clause-given_stay c =
    let ch = choices_of c.self.inside in
    let given = c.args.given.now in
    let start = c.in_ok-filling.filling in
    let part : IsPartial ch given = rw c.self.view_is c.requires in
    let long : length start ≡ length ch.accounts.names = ap length c.in_ok-filling.ensures ∙ c.in_ok-settled.ensures.len in
    let same = λ (i : ℕ) (h : i < length ch.accounts.names). ap (λ (xs : List (Option ℕ)). gift xs i) c.in_ok-filling.ensures ∙ c.in_ok-settled.ensures.numbers i h in
    let new = c.fill.new.filling in
    let done : IsDone ch.accounts start new = c.in_ok-fill.ensures in
    rw c.new.ensures (all-stay ch given start c.self.invariant part long same new done c.in_ok-finish.field-0.items c.in_ok-finish.ensures.len c.in_ok-finish.ensures.numbers)

pub returns-clause-filled : goal.returns-clause-filled
returns-clause-filled c =
    let ch = choices_of c.self.inside in
    let given = c.args.given.now in
    let start = c.in_ok-filling.filling in
    let part : IsPartial ch given = rw c.self.view_is c.requires in
    let long : length start ≡ length ch.accounts.names = ap length c.in_ok-filling.ensures ∙ c.in_ok-settled.ensures.len in
    let same = λ (i : ℕ) (h : i < length ch.accounts.names). ap (λ (xs : List (Option ℕ)). gift xs i) c.in_ok-filling.ensures ∙ c.in_ok-settled.ensures.numbers i h in
    let new = c.fill.new.filling in
    let done : IsDone ch.accounts start new = c.in_ok-fill.ensures in
    rw (← c.self.view_is, c.new.ensures) (is-filled ch given start c.self.invariant part long same new done c.in_ok-finish.field-0.items c.in_ok-finish.ensures.len c.in_ok-finish.ensures.numbers)
