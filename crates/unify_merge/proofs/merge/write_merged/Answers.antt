use Rattle.std.proofs.Common.{◌≡◌, ◌++◌, ◌∷◌, [], length, refl, sym, ap, subst, ◌∙◌, inl, inr}
use Rattle.std.specs.Prelude.{codes}
use Rattle.std.proofs.lemmas.Result.{err_from_is_err_and}
use Rattle.unify.specs.SecondPass.{SolvedValue}
use Rattle.unify_laws.specs.HostTexts.{host_files}
use Rattle.unify_merge.specs.Ledger.{BrokeOff, Ledger, after_files, cleared, with_sealed}
use Rattle.unify_merge.specs.HostFiles.{HasFiles}
use Rattle.unify_merge.specs.Merge.{first_files, report_file}
use Rattle.unify_merge.specs.FirstReading.{readings_from}
use Rattle.unify_merge.proofs.BreakingOff.{broken_all, broken_front, broken_none, wrote}
use Rattle.unify_merge.proofs.HostFiles.{files_behind}
use Rattle.unify_merge.proofs.Leaving.{first_left, last_left, plan_left}
use Rattle.unify_merge.proofs.WholeMerge.{merged_all, planning_same, writing_stopped}
use Rattle.unify_merge.proofs.merge.write_merged.Goals as goal

pub write_hosts-requires-clause-each : goal.write_hosts-requires-clause-each
write_hosts-requires-clause-each g c = c.requires.each ∙ ap (λ (v : SolvedValue). length v.hosts) (sym c.in_ok-plan_hosts.ensures.site)

pub returns-in_err-plan_hosts-clause-stopped : goal.returns-in_err-plan_hosts-clause-stopped
returns-in_err-plan_hosts-clause-stopped g c =
    let p = err_from_is_err_and c.from_residual-in_err-plan_hosts.result c.from_residual-in_err-plan_hosts.ensures.1 in
    let now = c.plan_hosts.new.files in
    let before = ap (λ (l : Ledger). l.read) c.in_ok-write_first.ensures.written ∙ ap (λ (l : Ledger). l.read) c.in_ok-clear.ensures.clear in
    rw (p.1, p.2) (λ read was.
    planning_same read (g.F.ReadFiles.ledger c.args.files.now) (g.F.ReadFiles.ledger c.write_first.new.files) (g.F.ReadFiles.ledger now) c.in_err-plan_hosts.field-0.0 before (c.in_err-plan_hosts.ensures.stopped read was))

pub returns-in_err-write_hosts-clause-stopped : goal.returns-in_err-write_hosts-clause-stopped
returns-in_err-write_hosts-clause-stopped g c =
    let p = err_from_is_err_and c.from_residual-in_err-write_hosts.result c.from_residual-in_err-write_hosts.ensures.1 in
    let now = c.write_hosts.new.files in
    rw (p.1, p.2) (λ read was. writing_stopped read (g.F.ReadFiles.ledger c.args.files.now) (g.F.ReadFiles.ledger now) c.in_err-write_hosts.field-0.0 c.in_err-write_hosts.ensures.stopped)

pub returns-clause-written : goal.returns-clause-written
returns-clause-written g c = λ read was.
    let p = c.in_ok-plan_hosts.ensures.planned read was in
    let v = c.args.solved.now in
    let texts = c.args.hosts.now in
    let old = g.F.ReadFiles.ledger c.args.files.now in
    let first = g.F.ReadFiles.ledger c.write_first.new.files in
    let mid = g.F.ReadFiles.ledger c.plan_hosts.new.files in
    let own = g.F.ReadFiles.ledger c.write_hosts.new.files in
    let new = g.F.ReadFiles.ledger c.seal.new.self in
    let outcome = v.merged.outcome in
    let same_first = c.outcome.ensures in
    let site = c.in_ok-plan_hosts.ensures.site in
    let solved : c.plan_hosts.new.solved.merged ≡ v.merged = ap (λ (x : SolvedValue). x.merged) site in
    let begun : first ≡ after_files (first_files outcome) (cleared old) = c.in_ok-write_first.ensures.written ∙ (λ j. after_files (first_files (same_first j)) (c.in_ok-clear.ensures.clear j)) in
    let report : c.bytes.result.now ≡ outcome.report = c.bytes.ensures ∙ ap (λ o. o.report) (c.outcome-2.ensures ∙ ap (λ m. m.outcome) solved) in
    let sealed = c.in_ok-seal.ensures.sealed ∙ (λ j. with_sealed (record { name = (report_file outcome).name; text = report j }) own) in
    let written : HasFiles (host_files v.joined v.merged.mappings texts v.hosts) mid own = subst (λ (x : SolvedValue). HasFiles (host_files x.joined x.merged.mappings texts x.hosts) mid own) site c.in_ok-write_hosts.ensures.written in
    record {
      site = p.site;
      readings = ap (λ (l : Ledger). l.read) sealed ∙ ap (λ (l : Ledger). l.read) written ∙ p.readings ∙ (λ j. (begun j).read ++ readings_from 0 p.site.texts);
      files = merged_all texts (record { hosts = v.hosts; joined = v.joined }) v.merged.mappings outcome p.site.plans old first mid own new begun p.files written sealed;
      cost_is = ap (λ o. o.cost) (c.outcome-3.ensures ∙ ap (λ m. m.outcome) solved);
    }

pub returns-clause-merged : goal.returns-clause-merged
returns-clause-merged g c = ap (λ (x : SolvedValue). x.merged) c.in_ok-plan_hosts.ensures.site

pub returns-in_err-clear-clause-left : goal.returns-in_err-clear-clause-left
returns-in_err-clear-clause-left g c =
    let p = err_from_is_err_and c.from_residual.result c.from_residual.ensures.1 in
    let old = g.F.ReadFiles.ledger c.args.files.now in
    let new = g.F.ReadFiles.ledger c.clear.new.self in
    let v = c.args.solved.now in
    let done = first_files v.merged.outcome in
    rw p.1 (λ read was. elim c.in_err-clear.ensures.failing [
      | inl same ↦ inl (λ j. record (same j) { read = new.read; reading = new.reading })
      | inr cleared_all ↦ inr (first_left c.args.hosts.now v read v.merged.outcome old new refl cleared_all new (broken_none done new new refl))
    ])

pub returns-in_err-write_first-clause-left : goal.returns-in_err-write_first-clause-left
returns-in_err-write_first-clause-left g c =
    let p = err_from_is_err_and c.from_residual-in_err-write_first.result c.from_residual-in_err-write_first.ensures.1 in
    let old = g.F.ReadFiles.ledger c.args.files.now in
    let clear = g.F.ReadFiles.ledger c.clear.new.self in
    let new = g.F.ReadFiles.ledger c.write_first.new.files in
    rw p.1 (λ read was. inr (first_left c.args.hosts.now c.args.solved.now read c.outcome.result.now old clear c.outcome.ensures c.in_ok-clear.ensures.clear new c.in_err-write_first.ensures.left))

pub returns-in_err-plan_hosts-clause-left : goal.returns-in_err-plan_hosts-clause-left
returns-in_err-plan_hosts-clause-left g c =
    let p = err_from_is_err_and c.from_residual-in_err-plan_hosts.result c.from_residual-in_err-plan_hosts.ensures.1 in
    let old = g.F.ReadFiles.ledger c.args.files.now in
    let clear = g.F.ReadFiles.ledger c.clear.new.self in
    let first = g.F.ReadFiles.ledger c.write_first.new.files in
    let new = g.F.ReadFiles.ledger c.plan_hosts.new.files in
    rw p.1 (λ read was. inr
    (plan_left c.args.hosts.now c.args.solved.now read c.outcome.result.now old clear c.outcome.ensures c.in_ok-clear.ensures.clear first c.in_ok-write_first.ensures.written was c.requires.each new (c.in_err-plan_hosts.ensures.left read was)))

pub returns-in_err-write_hosts-clause-left : goal.returns-in_err-write_hosts-clause-left
returns-in_err-write_hosts-clause-left g c =
    let p = err_from_is_err_and c.from_residual-in_err-write_hosts.result c.from_residual-in_err-write_hosts.ensures.1 in
    let texts = c.args.hosts.now in
    let old = g.F.ReadFiles.ledger c.args.files.now in
    let clear = g.F.ReadFiles.ledger c.clear.new.self in
    let first = g.F.ReadFiles.ledger c.write_first.new.files in
    let mid = g.F.ReadFiles.ledger c.plan_hosts.new.files in
    let new = g.F.ReadFiles.ledger c.write_hosts.new.files in
    let v = c.args.solved.now in
    let own = host_files v.joined v.merged.mappings texts v.hosts in
    let left = broken_front own (report_file v.merged.outcome ∷ []) mid new (subst (λ (x : SolvedValue). BrokeOff (host_files x.joined x.merged.mappings texts x.hosts) mid new) c.in_ok-plan_hosts.ensures.site c.in_err-write_hosts.ensures.left) in
    rw p.1 (λ read was. inr
    (last_left texts v read c.outcome.result.now old clear c.outcome.ensures c.in_ok-clear.ensures.clear first c.in_ok-write_first.ensures.written was c.requires.each mid new (c.in_ok-plan_hosts.ensures.planned read was) left))

pub returns-in_err-seal-clause-left : goal.returns-in_err-seal-clause-left
returns-in_err-seal-clause-left g c =
    let p = err_from_is_err_and c.from_residual-in_err-seal.result c.from_residual-in_err-seal.ensures.1 in
    let v = c.args.solved.now in
    let texts = c.args.hosts.now in
    let old = g.F.ReadFiles.ledger c.args.files.now in
    let clear = g.F.ReadFiles.ledger c.clear.new.self in
    let first = g.F.ReadFiles.ledger c.write_first.new.files in
    let mid = g.F.ReadFiles.ledger c.plan_hosts.new.files in
    let new = g.F.ReadFiles.ledger c.seal.new.self in
    let own = host_files v.joined v.merged.mappings texts v.hosts in
    let last = report_file v.merged.outcome ∷ [] in
    let before = g.F.ReadFiles.ledger c.write_hosts.new.files in
    let solved : c.plan_hosts.new.solved.merged ≡ v.merged = ap (λ (x : SolvedValue). x.merged) c.in_ok-plan_hosts.ensures.site in
    let report : c.bytes.result.now ≡ v.merged.outcome.report = c.bytes.ensures ∙ ap (λ o. o.report) (c.outcome-2.ensures ∙ ap (λ m. m.outcome) solved) in
    let written = subst (λ (x : SolvedValue). HasFiles (host_files x.joined x.merged.mappings texts x.hosts) mid before) c.in_ok-plan_hosts.ensures.site c.in_ok-write_hosts.ensures.written in
    let left : BrokeOff (own ++ last) mid new = elim c.in_err-seal.ensures.failing [
      | inl same ↦ broken_front own last mid new (broken_all own mid new (subst (λ (l : Ledger). HasFiles own mid l) (sym same) written))
      | inr there ↦ broken_all (own ++ last) mid new (wrote (own ++ last) mid new (there ∙ (λ j. after_files (record { name = codes "report"; text = report j } ∷ []) before) ∙ ap (after_files last) written ∙ files_behind own last mid))
    ] in
    rw p.1 (λ read was. inr
    (last_left texts v read c.outcome.result.now old clear c.outcome.ensures c.in_ok-clear.ensures.clear first c.in_ok-write_first.ensures.written was c.requires.each mid new (c.in_ok-plan_hosts.ensures.planned read was) left))
