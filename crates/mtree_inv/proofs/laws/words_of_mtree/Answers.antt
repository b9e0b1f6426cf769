use Rattle.mtree_inv.proofs.WordLaws.{sets_words, unsets_words, dot_dot_up, last_counts, bare_counts, own_none, only_dir}
use Rattle.mtree_inv.proofs.laws.words_of_mtree.Goals as goal

pub returns : goal.returns
returns c = record { set = sets_words; unset = unsets_words; up = dot_dot_up; last = last_counts; bare = bare_counts; others = own_none; dir = only_dir }
