use Rattle.std.proofs.Common.{◌≡◌, ◌++◌, map, flat_map}
use Rattle.idtext.specs.Pieces.{lines}
use Rattle.unify_bundle.specs.Lines.{barred}
use Rattle.unify_bundle.proofs.merge_text.push_text.Given as goal

abbrev pub invariant-loop-line : goal.invariant-loop-line
invariant-loop-line l = record {
  pushed : l.out.items ≡ l.fn.out.items ++ flat_map barred (map (λ x. x.now) l.yielded);
  split : lines l.text ≡ map (λ x. x.now) l.yielded ++ l.line-iterator;
}
