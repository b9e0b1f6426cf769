-- Which fault contracts see where a text tells one.
-- Source: this project's own rule.
use Rattle.std.specs.Prelude.{◌≡◌, Option, Some, None}
use Rattle.keep_text.specs.KeepTexts.{keep_told}
use Rattle.keep_text.specs.declared.keep_text.KeepFault.TheVariants as keep

-- none where memory was wanted, and else the fault itself
-- memory: want of memory
pub record SeesAllBut {F : Type 0} (told : F → Option F) (memory : F) : Type 0 where
  pub wanted : told memory ≡ None
  pub others : (f : F) → (f ≡ memory → ⊥) → told f ≡ Some f

abbrev pub KeepTextsShowTheirFaults : Type 0
KeepTextsShowTheirFaults = SeesAllBut keep_told keep.Memory
