use Rattle.std.proofs.Common.{◌≡◌, ◌++◌, ℕ, List, [], None, length}
use Rattle.std.specs.Prelude.{All}
use Rattle.mtree_inv.specs.Standing as standing
use Rattle.mtree_inv.specs.declared.entry.Entry.{Entry}
use Rattle.reown_plan.specs.Spelling.{lines}
use Rattle.reown_plan.specs.Target.{plan_of}
use Rattle.site_tables.specs.Hosts.{owner_fault}
use Rattle.unify.specs.KnownOwners.{AreKnown}
use Rattle.unify.specs.RowFiles.{row_files}
use Rattle.unify.proofs.plan_turn.plan_waiting.Given as goal

-- done: the files that were counted and appended
abbrev pub invariant-loop-file : goal.invariant-loop-file
invariant-loop-file l = record {
  stays : l.turn ≡ record l.initial.turn { reader = record l.initial.turn.reader { waiting = l.turn.reader.waiting }; rows = l.turn.rows; known = l.turn.known };
  stands : (text : List ℕ) → standing.StandsFor l.initial.turn.reader text → standing.StandsFor l.turn.reader text;
  done : List Entry;
  so_far : l.initial.turn.reader.waiting ≡ done ++ l.turn.reader.waiting;
  owned : All (λ f. owner_fault l.whose.host.now [] f ≡ None) done;
  counted : (files : List Entry) → l.initial.turn.rows ≡ row_files l.whose.host.now files → l.turn.rows ≡ row_files l.whose.host.now (files ++ done);
  owners : AreKnown l.whose.host.now l.whose.site.now l.whose.merged.now l.whose.index l.turn.known.items;
  planned : l.plan.items ≡ l.initial.plan.items ++ lines (plan_of l.whose.site.now l.whose.merged.now.mappings l.whose.index done);
}

abbrev pub decreases-loop-file : goal.decreases-loop-file
decreases-loop-file l = length l.turn.reader.waiting
