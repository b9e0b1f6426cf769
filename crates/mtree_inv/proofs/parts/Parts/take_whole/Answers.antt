use Rattle.std.proofs.Common.{false, sym, ap, ◌∙◌, subst}
use Rattle.mtree_inv.specs.Logical.{next_number}
use Rattle.mtree_inv.specs.Machine.{step}
use Rattle.mtree_inv.specs.Reading.{Open, clip, clipped_kind, fresh, with_bytes}
use Rattle.mtree_inv.specs.Parts.{FailedTo, at_line, most_of}
use Rattle.mtree_inv.specs.Walked.{kept_of}
use Rattle.mtree_inv.specs.OpenLines.{open_line}
use Rattle.std.specs.Prelude.{◌≡◌, ℕ, Option, Result, Ok, Err, IfSome, option_map}
use Rattle.idtext.specs.Faults.{fault_told}
use Rattle.idtext.specs.declared.faults.ReadError.{ReadError}
use Rattle.idtext.specs.declared.faults.TextCode.{TextCode}
use Rattle.idtext.specs.declared.faults.TextFault.{TextFault}
use Rattle.mtree_inv.specs.declared.fault.LineFault.{LineFault}
use Rattle.mtree_inv.specs.declared.fault.LineFault.TheVariants.{Memory, Code}
use Rattle.mtree_inv.specs.Machine.{Kept}
use Rattle.mtree_inv.specs.Views.{code_told}
use Rattle.mtree_inv.proofs.ReadLemmas.{reading_at, line-result, step-grows}
use Rattle.mtree_inv.proofs.OpenLemmas.{whole-line}
use Rattle.mtree_inv.proofs.parts.Parts.take_whole.Goals as goal

-- a line's fault, told with the number of its line
told_at : (number : ℕ) (target : Result Kept TextCode) (fault : LineFault) (error : ReadError)
    → fault_told error ≡ option_map (λ (code : TextCode). (let at : TextFault = record { code = code; line = number } in at)) (code_told fault)
    → IfSome (code_told fault) (λ code. target ≡ Err code) → IfSome (fault_told error) (λ f. at_line number target ≡ Err f)
told_at number target Memory error e h = subst (λ (o : Option TextFault). IfSome o (λ f. at_line number target ≡ Err f)) (sym e) tt
told_at number target (Code code) error e h = subst (λ (o : Option TextFault). IfSome o (λ f. at_line number target ≡ Err f)) (sym e) (ap (at_line number) h)

pub returns-in-Ok-clause-taken : goal.returns-in-Ok-clause-taken
returns-in-Ok-clause-taken c =
    let most = most_of c.args.self.now in
    let kept = kept_of c.args.self.now.walk in
    let new = kept_of c.take_unless_long.new.walk in
    let line = open_line c.args.self.now.in_progress in
    let bytes = c.args.line.now in
    whole-line most kept line bytes c.requires.joins c.requires.none c.requires.plain
    ∙ line-result kept new (with_bytes line bytes) (fresh (next_number line.current)) line.first (step most kept (clipped_kind (clip bytes) false)) (step-grows most kept (clipped_kind (clip bytes) false)) (Ok tt) (ap (at_line line.first) c.in-Ok.ensures.exact) tt
    ∙ ap (λ (o : Open). reading_at new o) (sym c.restart.ensures)

pub returns-in-Err-clause-taken : goal.returns-in-Err-clause-taken
returns-in-Err-clause-taken c =
    let most = most_of c.args.self.now in
    let kept = kept_of c.args.self.now.walk in
    let new = kept_of c.take_unless_long.new.walk in
    let line = open_line c.args.self.now.in_progress in
    let bytes = c.args.line.now in
    subst (FailedTo (kept_of c.take_unless_long.new.walk).files c.fault_at.result)
    (sym (whole-line most kept line bytes c.requires.joins c.requires.none c.requires.plain))
    (line-result kept new (with_bytes line bytes) (fresh (next_number line.current)) line.first (step most kept (clipped_kind (clip bytes) false)) (step-grows most kept (clipped_kind (clip bytes) false)) (Err c.fault_at.result)
    (told_at line.first (step most kept (clipped_kind (clip bytes) false)) c.in-Err.fault c.fault_at.result c.fault_at.ensures c.in-Err.ensures.exact) c.in-Err.ensures.err)
