use Rattle.std.proofs.Common.{refl}
use Rattle.hosts_join.specs.Count.{count_below}
use Rattle.ownership.specs.Sums.{sum_below}
use Rattle.unify_texts.specs.FiguresExample.{ExampleOfFigures}
use Rattle.unify_texts.proofs.FigureNames.{figures_count_their_names}
use Rattle.unify_texts.proofs.Totals.{figures_add_up}
use Rattle.unify_texts.proofs.laws.figures_add_up.Goals as goal

figures_by_example : ExampleOfFigures
unfolding count_below sum_below
figures_by_example = refl

pub returns : goal.returns
returns c = record { all = figures_add_up; names = figures_count_their_names; example = figures_by_example }
