use Rattle.reown_files.proofs.RootExample.{answers, met_roots, lost_roots, given_roots, changes, marks, paths}
use Rattle.reown_files.proofs.by_example.roots_by_example.Goals as goal

pub returns-clause-answers : goal.returns-clause-answers
returns-clause-answers c = answers

pub returns-clause-met : goal.returns-clause-met
returns-clause-met c = met_roots

pub returns-clause-lost : goal.returns-clause-lost
returns-clause-lost c = lost_roots

pub returns-clause-given : goal.returns-clause-given
returns-clause-given c = given_roots

pub returns-clause-changes : goal.returns-clause-changes
returns-clause-changes c = changes

pub returns-clause-marks : goal.returns-clause-marks
returns-clause-marks c = marks

pub returns-clause-paths : goal.returns-clause-paths
returns-clause-paths c = paths
