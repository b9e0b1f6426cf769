use Rattle.std.proofs.Common.{◌≡◌, ◌∙◌, ◌∷◌, List, ℕ, Option, Some, Result, Ok, Err, IfOk, sym, ap}
use Rattle.std.specs.String.{string_bytes}
use Rattle.reown_files.specs.Actions.{Action, FileRead}
use Rattle.reown_files.specs.ActionsCode.{text_in}
use Rattle.reown_files.proofs.modes_file.ModesFile.read.Goals as goal

if_ok : {T E : Type 0} (P Q : T → Type 0) (r : Result T E) → ((t : T) → P t → Q t) → IfOk r P → IfOk r Q
if_ok P Q (Ok t) f p = f t p
if_ok P Q (Err e) f p = tt

-- one file was read after the other
then_read : (mark path modes : List ℕ) (beside was : Option (List ℕ)) (text : List ℕ) (old middle : List Action) → middle ≡ FileRead path was ∷ old → path ≡ modes → was ≡ Some text
    → FileRead mark beside ∷ middle ≡ FileRead mark beside ∷ FileRead modes (Some text) ∷ old
then_read mark path modes beside was text old middle e at is = ap (λ (done : List Action). FileRead mark beside ∷ done) e ∙ (λ i. FileRead mark beside ∷ FileRead (at i) (is i) ∷ old)

pub returns-in-Some-clause-read : goal.returns-in-Some-clause-read
returns-in-Some-clause-read c =
    let text : List ℕ = c.deref.result.now in
    let is : text_in c.in_ok-text.text ≡ Some text = ap text_in c.in-Some.is ∙ ap (λ (bytes : List ℕ). Some bytes) (sym c.deref.ensures.value) in
    if_ok _ _ c.read_beside.result
    (λ begun h. (
      Some text,
      h.0,
      h.1
          ∙ then_read (string_bytes c.args.mark.now.path) c.as_str.result.now (string_bytes c.args.self.now.path) h.0 (text_in c.in_ok-text.text) text c.args.log.now.actions c.read_whole.new.log.actions
          c.in_ok-text.ensures.read c.as_str.ensures.value is,
      h.2,
    ))
    c.read_beside.ensures.read
