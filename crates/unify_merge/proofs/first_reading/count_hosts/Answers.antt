use Rattle.std.proofs.Common.{◌≡◌, ◌<◌, ◌++◌, ◌∷◌, [], List, Ok, length, Some, refl, sym, ap, subst, ◌∙◌, arith, append-nil, length-append}
use Rattle.std.specs.List.{slice_get}
use Rattle.std.proofs.lemmas.List.Elements.{All-nil, All-push}
use Rattle.std.proofs.lemmas.Result.{err_from_is_err_and}
use Rattle.hosts_join.specs.declared.host.Host.{Host}
use Rattle.unify.specs.Passes.{InventoriesValue, behind, ended_in, read_in}
use Rattle.unify.proofs.Passing.{none_read}
use Rattle.unify_laws.proofs.Agreeing.{item_at}
use Rattle.unify_merge.specs.FirstReading.{IsWithinLimit}
use Rattle.unify_merge.proofs.Readings.{counting_stopped, first_same, read_more, reads_on}
use Rattle.unify_merge.proofs.first_reading.count_hosts.Goals as goal

pub loop-index-init : goal.loop-index-init
loop-index-init g c = record {
  texts = [];
  come = c.requires.start;
  so_far = refl;
  within = All-nil IsWithinLimit;
  files = [];
  accepted = ap read_in c.requires.start ∙ none_read c.args.inventories.now.hosts;
  read = sym (append-nil (g.F.ReadFiles.ledger c.args.files.now).read);
  only = refl;
  calls = refl;
}

pub count_host-requires-clause-next : goal.count_host-requires-clause-next
count_host-requires-clause-next g c =
    let inv = c.loop-index.invariant in
    sym (ap ended_in inv.come ∙ inv.so_far)

pub count_host-requires-clause-fresh : goal.count_host-requires-clause-fresh
count_host-requires-clause-fresh g c =
    let inv = c.loop-index.invariant in
    inv.come ∙ ap (λ (v : InventoriesValue). behind v.hosts v.ended) (sym inv.come)

pub returns-in_err-count_host-clause-stopped : goal.returns-in_err-count_host-clause-stopped
returns-in_err-count_host-clause-stopped g c =
    let inv = c.loop-index.invariant in
    let p = err_from_is_err_and c.from_residual.result c.from_residual.ensures.1 in
    let hosts = c.args.inventories.now.hosts in
    let index = c.loop-index.index in
    let so_far : index ≡ length inv.texts = sym inv.so_far in
    let left : index < length hosts = omega (arith, c.loop-index-test.true, c.hosts_left-index-end.ensures.left) in
    let at = item_at hosts index left in
    let here = subst (λ k. slice_get hosts k ≡ Some at.0) so_far at.1 in
    let there = subst (λ (hs : List Host). slice_get hs index ≡ Some at.0) (sym (ap (λ (v : InventoriesValue). v.hosts) inv.come)) at.1 in
    let accepted = subst (λ (v : InventoriesValue). read_in v ≡ Ok inv.files) inv.come inv.accepted in
    let old = g.F.ReadFiles.ledger c.args.files.now in
    let mid = g.F.ReadFiles.ledger c.loop-index.files in
    let new = g.F.ReadFiles.ledger c.count_host.new.files in
    let fault = c.in_err-count_host.field-0.0 in
    rw (p.1, p.2)
    (counting_stopped hosts inv.texts inv.files at.0 old mid new fault accepted here inv.read (first_same at.0 _ _ mid.read _ new fault so_far refl (c.in_err-count_host.ensures.stopped at.0 there)))

pub loop-index-preserved : goal.loop-index-preserved
loop-index-preserved g c =
    let inv = c.loop-index.invariant in
    let it = c.in_ok-count_host.ensures.counted in
    let accepted = c.in_ok-count_host.ensures.accepted in
    record {
      texts = inv.texts ++ it.0 ∷ [];
      come = it.1 ∙ ap (λ (v : InventoriesValue). behind v.hosts (v.ended ++ it.0 ∷ [])) inv.come;
      so_far = omega (arith, inv.so_far, length-append inv.texts (it.0 ∷ []));
      within = All-push IsWithinLimit inv.texts it.0 inv.within it.3;
      files = accepted.0;
      accepted = accepted.1;
      read = read_more _ _ (g.F.ReadFiles.ledger c.count_host.new.files).read c.loop-index.index inv.texts it.0 (sym inv.so_far) inv.read it.2;
      only = reads_on (g.F.ReadFiles.ledger c.args.files.now) (g.F.ReadFiles.ledger c.loop-index.files) (g.F.ReadFiles.ledger c.count_host.new.files) inv.only c.in_ok-count_host.ensures.reads;
      calls = c.in_ok-count_host.ensures.calls ∙ inv.calls;
    }
