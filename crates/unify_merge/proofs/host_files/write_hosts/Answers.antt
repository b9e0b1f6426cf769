use Rattle.std.proofs.Common.{◌≡◌, ◌+◌, ◌++◌, ◌∷◌, [], suc, take, drop, Some, refl, sym, ap, subst, ◌∙◌, arith}
use Rattle.std.specs.List.{slice_get}
use Rattle.std.proofs.lemmas.List.{take_all}
use Rattle.std.proofs.lemmas.Result.{err_from_is_err_and}
use Rattle.std.proofs.lemmas.Option.{slice_get-get_or}
use Rattle.hosts_join.specs.declared.texts.HostText.{HostText}
use Rattle.unify_laws.specs.HostTexts.{group_file, host_files, passwd_file}
use Rattle.unify_laws.proofs.Agreeing.{item_at}
use Rattle.unify_merge.specs.Ledger.{Ledger}
use Rattle.unify_merge.specs.HostFiles.{HasFiles}
use Rattle.unify_merge.proofs.OwnFiles.{host_files_more, no_hosts}
use Rattle.unify_merge.proofs.BreakingOff.{broken_as, broken_behind, broken_front}
use Rattle.unify_merge.proofs.HostFiles.{host_files_from, more_written, none_written}
use Rattle.unify_merge.proofs.host_files.write_hosts.Goals as goal

pub loop-index-init : goal.loop-index-init
loop-index-init g c =
    let old = g.F.ReadFiles.ledger c.args.files.now in
    let v = c.args.solved.now in
    record {
      clear = c.requires.clear;
      written = subst (λ fs. HasFiles fs old old) (sym (no_hosts v.joined v.merged.mappings v.hosts c.args.hosts.now)) (none_written old);
      calls = refl;
    }

pub loop-index-preserved : goal.loop-index-preserved
loop-index-preserved g c =
    let inv = c.loop-index.invariant in
    let index = c.loop-index.index in
    let v = c.args.solved.now in
    let m = v.merged.mappings in
    let texts = c.args.hosts.now in
    let text = c.index-hosts-index.result in
    let old = g.F.ReadFiles.ledger c.args.files.now in
    let mid = g.F.ReadFiles.ledger c.loop-index.files in
    let new = g.F.ReadFiles.ledger c.write_host.new.files in
    let at : slice_get texts index ≡ Some text = slice_get-get_or texts index _ c.loop-index-test.true ∙ ap (λ (t : HostText). Some t) (sym c.index-hosts-index.is) in
    let here = item_at v.hosts index (omega (arith, c.loop-index-test.true, c.requires.each)) in
    let both = passwd_file here.0 v.joined m text ∷ group_file v.joined m text ∷ [] in
    let written = c.in_ok-write_host.ensures.written here.0 here.1 in
    let next : suc index ≡ index + 1 = omega arith in
    let files = sym (host_files_more v.joined m texts v.hosts index text here.0 at here.1) ∙ ap (λ i. host_files v.joined m (take i texts) v.hosts) next in
    record {
      clear = ap (λ (l : Ledger). l.is_clear) written ∙ inv.clear;
      written = subst (λ fs. HasFiles fs old new) files (more_written (host_files v.joined m (take index texts) v.hosts) both old mid new inv.written written);
      calls = c.in_ok-write_host.ensures.calls ∙ inv.calls;
    }

pub returns-clause-written : goal.returns-clause-written
returns-clause-written g c =
    let inv = c.loop-index.invariant in
    let v = c.args.solved.now in
    let texts = c.args.hosts.now in
    subst (λ ts. HasFiles (host_files v.joined v.merged.mappings ts v.hosts) (g.F.ReadFiles.ledger c.args.files.now) (g.F.ReadFiles.ledger c.loop-index.files)) (take_all c.loop-index.index texts (omega (arith, c.loop-index-test.false))) inv.written

pub returns-in_err-write_host-clause-left : goal.returns-in_err-write_host-clause-left
returns-in_err-write_host-clause-left g c =
    let inv = c.loop-index.invariant in
    let index = c.loop-index.index in
    let v = c.args.solved.now in
    let m = v.merged.mappings in
    let texts = c.args.hosts.now in
    let text = c.index-hosts-index.result in
    let p = err_from_is_err_and c.from_residual.result c.from_residual.ensures.1 in
    let old = g.F.ReadFiles.ledger c.args.files.now in
    let mid = g.F.ReadFiles.ledger c.loop-index.files in
    let new = g.F.ReadFiles.ledger c.write_host.new.files in
    let at : slice_get texts index ≡ Some text = slice_get-get_or texts index _ c.loop-index-test.true ∙ ap (λ (t : HostText). Some t) (sym c.index-hosts-index.is) in
    let here = item_at v.hosts index (omega (arith, c.loop-index-test.true, c.requires.each)) in
    let before = host_files v.joined m (take index texts) v.hosts in
    let both = passwd_file here.0 v.joined m text ∷ group_file v.joined m text ∷ [] in
    let rest = host_files v.joined m (drop (suc index) texts) (drop (suc index) v.hosts) in
    let left = broken_behind before (both ++ rest) old mid new inv.written (broken_front both rest mid new (c.in_err-write_host.ensures.left here.0 here.1)) in
    rw p.1 (broken_as (before ++ (both ++ rest)) (host_files v.joined m texts v.hosts) old old new (sym (host_files_from v.joined m texts v.hosts index text here.0 at here.1)) refl left)
