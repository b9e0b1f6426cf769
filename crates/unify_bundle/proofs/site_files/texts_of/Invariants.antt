use Rattle.std.proofs.Common.{◌≡◌, map}
use Rattle.unify.specs.declared.site_files.NamedText.{NamedText}
use Rattle.unify_bundle.proofs.site_files.texts_of.Given as goal

abbrev pub invariant-loop-file : goal.invariant-loop-file
invariant-loop-file l = l.texts ≡ map (λ (f : NamedText). f.text) l.yielded
