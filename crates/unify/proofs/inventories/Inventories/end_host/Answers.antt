use Rattle.std.proofs.Common.{rules, ◌≡◌, List, [], ◌∷◌, ◌++◌, Some, Ok, Err, refl, sym, ap, subst, ◌∙◌, inl, arith}
use Rattle.std.specs.Prelude.{IfErr, IfSome}
use Rattle.std.proofs.lemmas.Result.{err_from_is_err_and}
use Rattle.unify_texts.specs.Told.{told}
use Rattle.unify_texts.specs.declared.fault.Fault.TheVariants.{Memory}
use Rattle.site_tables.specs.Hosts.{files_of}
use Rattle.unify.specs.Passes.{InventoriesValue, IsFaultOf, is_read}
use Rattle.unify.specs.RowFiles.{RowFiles}
use Rattle.unify.specs.Taken.{Taken}
use Rattle.unify.specs.Turns.{AreComing, met_by, met_in, pass_of, seen}
use Rattle.unify.proofs.Passing.{IsTurnOf, after_coming, after_seen, again_as, for_next, going, met_as, met_same, on_err, refused_coming, refused_seen, turned, turn_of, was_unmet}
use Rattle.unify.proofs.inventories.Inventories.end_host.Goals as goal
use Rattle.unify.proofs.inventories.Inventories.end_host.Goals.{After-index-host, In_err-next_host}

turn_is : (c : After-index-host) → IsTurnOf (pass_of c.self.inside) c.index-host.result.now
turn_is c = turn_of (pass_of c.self.inside) c.len-index.result c.index-host.result.now c.self.invariant (omega (arith, c.len-index.ensures, c.self.inside.passed.ok.0)) (rw (← c.self.view_is) at c.requires.left) c.index-host.ensures

pub end_turn-requires : goal.end_turn-requires
end_turn-requires c = going (turn_is (goal.at.end_turn-requires c).After-index-host)

pub invariant_of-self : goal.invariant_of-self
invariant_of-self c = let f = c.in_err-end_turn.ensures.failed in refused_coming (turn_is (goal.at.invariant_of-self c).After-index-host) c.end_turn.new.turn f.0 f.1

pub returns-in_err-end_turn : goal.returns-in_err-end_turn
returns-in_err-end_turn c =
    let p = pass_of c.self.inside in
    let is = turn_is (goal.at.returns-in_err-end_turn c).After-index-host in
    let turn = c.end_turn.new.turn in
    let r = c.from_residual.result in
    let q = err_from_is_err_and r c.from_residual.ensures.1 in
    let e = c.in_err-end_turn.field-0.0 in
    let f = c.in_err-end_turn.ensures.failed in
    record {
      told = rw (q.1, q.2, ← c.self.view_is) (for_next is (λ h. IfSome (told e) (λ f. is_read (files_of (record { host = h; mtree = p.taken.text })) ≡ Err f)) (λ turns. c.in_err-end_turn.ensures.told p.taken.text turns));
      ended = rw q.1 tt;
      read = rw q.1 tt;
      refused = rw (q.1, q.2, ← c.self.view_is) (f.0, refused_seen is turn f.0 f.1, f.2);
      met = rw (← c.self.view_is) (for_next is (λ h. IfErr r (λ e. IfSome (met_in (turned is turn)) (IsFaultOf h p.taken.text)))
          (λ turns. on_err _ r (met_as is (IsFaultOf c.index-host.result.now p.taken.text) turn (c.in_err-end_turn.ensures.met p.taken.text turns))));
      again = rw (q.1, q.2, ← c.self.view_is) (again_as is turn (Err e) c.in_err-end_turn.ensures.again);
    }

met_memory : (c : In_err-next_host) → met_by c.index-host.result.now c.next_host.new.turn ≡ Some Memory
met_memory c = let refused = c.in_err-next_host.ensures.refused in met_same c.index-host.result.now c.next_host.new.turn c.end_turn.new.turn (Some Memory) refused.1 refused.2 c.in_ok-end_turn.ensures.ended

pub invariant_of-self-in_err-next_host : goal.invariant_of-self-in_err-next_host
invariant_of-self-in_err-next_host c =
    let at = goal.at.invariant_of-self-in_err-next_host c in
    let is = turn_is at.After-index-host in
    let turn = c.next_host.new.turn in
    subst (λ (ps : List RowFiles). AreComing (record (turned is turn) { passed = ps })) (sym c.in_err-next_host.ensures.refused.0) (refused_coming is turn Memory (met_memory at.In_err-next_host))

pub returns-in_err-next_host : goal.returns-in_err-next_host
returns-in_err-next_host c =
    let at = goal.at.returns-in_err-next_host c in
    let p = pass_of c.self.inside in
    let is = turn_is at.After-index-host in
    let turn = c.next_host.new.turn in
    let memory : c.from_residual-in_err-next_host.result ≡ Err Memory = search rules in
    let now : seen (record (turned is turn) { passed = c.next_host.new.passed.items }) ≡ record (seen p) { met = Some Memory } =
    ap (λ (ps : List RowFiles). seen (record (turned is turn) { passed = ps })) c.in_err-next_host.ensures.refused.0 ∙ refused_seen is turn Memory (met_memory at.In_err-next_host) in
    record {
      told = rw memory (λ other next. tt);
      ended = rw memory tt;
      read = rw memory tt;
      refused = rw (memory, ← c.self.view_is) (Memory, now, inl refl);
      met = rw memory (λ other next. rw (ap (λ (v : InventoriesValue). v.met) now) (inl refl));
      again = rw (memory, ← c.self.view_is, was_unmet is c.end_turn.new.turn c.in_ok-end_turn.ensures.again) tt;
    }

pub invariant_of-self-2 : goal.invariant_of-self-2
invariant_of-self-2 c =
    let p = pass_of c.self.inside in
    let is = turn_is (goal.at.invariant_of-self-2 c).After-index-host in
    let turn = c.end_turn.new.turn in
    let next = c.next_host.new.turn in
    subst (λ (ps : List RowFiles). AreComing (record { hosts = p.hosts; passed = ps; turn = next; taken = c.note.new.self.taken })) (sym c.in_ok-next_host.ensures.passed)
    (subst (λ (t : Taken). AreComing (record { hosts = p.hosts; passed = p.passed ++ turn.rows ∷ []; turn = next; taken = t })) (sym c.note.ensures)
    (after_coming is turn next c.in_ok-end_turn.ensures.again c.in_ok-end_turn.ensures.accepted (rw (c.deref.ensures.value) at c.in_ok-next_host.ensures.next)))

pub returns : goal.returns
returns c =
    let p = pass_of c.self.inside in
    let is = turn_is (goal.at.returns c).After-index-host in
    let turn = c.end_turn.new.turn in
    let next = c.next_host.new.turn in
    let again = c.in_ok-end_turn.ensures.again in
    let accepts = c.in_ok-end_turn.ensures.accepted in
    let new = rw (c.deref.ensures.value) at c.in_ok-next_host.ensures.next in
    let over = after_coming is turn next again accepts new in
    record {
      told = rw (← c.self.view_is) (for_next is (λ h. is_read (files_of (record { host = h; mtree = p.taken.text })) ≡ Ok (tt {0})) (λ turns. c.in_ok-end_turn.ensures.told p.taken.text turns));
      ended = rw (← c.self.view_is)
          (ap (λ (ps : List RowFiles). seen (record { hosts = p.hosts; passed = ps; turn = next; taken = c.note.new.self.taken })) c.in_ok-next_host.ensures.passed
          ∙ ap (λ (t : Taken). seen (record { hosts = p.hosts; passed = p.passed ++ turn.rows ∷ []; turn = next; taken = t })) c.note.ensures ∙ after_seen is turn next again accepts new);
      read = (over.counting.read, rw c.note.ensures over.counting.accepted);
      refused = tt;
      met = λ other unmet. tt;
      again = rw (← c.self.view_is, was_unmet is turn again) tt;
    }
