-- Each host's own passwd and group with their new numbers are written.
-- Source: this project's own rule.
use Rattle.std.specs.Prelude.{◌≡◌, ⊤, List}
use Rattle.unify_texts.specs.declared.fault.Fault.TheVariants.{Memory}
use Rattle.unify.specs.declared.site_files.NamedText.{NamedText}
use Rattle.unify_merge.specs.Ledger.{Ledger, after_files}
use Rattle.unify_merge.specs.declared.fault.MergeFault.{MergeFault}
use Rattle.unify_merge.specs.declared.fault.MergeFault.TheVariants.{Failed, TooLarge, Refused}

-- these files were written, one after the other, and nothing else was done
abbrev pub HasFiles : List NamedText → Ledger → Ledger → Type 0
HasFiles files old new = new ≡ record (after_files files old) { writing = new.writing }

-- why they were not: a call failed, or memory was wanting
abbrev pub StopsWriting : MergeFault → Type 0
StopsWriting (Failed e) = ⊤
StopsWriting TooLarge = ⊥
StopsWriting (Refused e) = e ≡ Memory
