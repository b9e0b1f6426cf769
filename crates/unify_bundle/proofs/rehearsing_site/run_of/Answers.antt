use Rattle.std.proofs.Common.{◌<◌, length, map, subst, sym, ap, ◌∙◌}
use Rattle.std.specs.List.{All}
use Rattle.std.proofs.lemmas.List.{length-map}
use Rattle.hosts_join.specs.declared.texts.HostText.{HostText}
use Rattle.reown_runner.specs.Campaign.{host_of}
use Rattle.unify_bundle.proofs.RunSites.{plans_in, spelled_for, texts_run}
use Rattle.unify_bundle.proofs.rehearsing_site.run_of.Goals as goal

pub carry_out_texts-requires : goal.carry_out_texts-requires
carry_out_texts-requires c =
    let held = c.requires.merged in
    let texts = c.args.texts.now in
    record {
      plans = (map (λ h. h.1) held.0.hosts, plans_in held.0 held.3.mappings, spelled_for held.0 held.1 texts held.2 c.args.outcome held.3 c.deref.result.now (c.deref.ensures.value ∙ c.in_ok-mtrees.ensures) c.args.keep);
      hosts = subst (λ n. All (λ event. host_of event < n) c.args.events.now) (sym (ap length (c.deref.ensures.value ∙ c.in_ok-mtrees.ensures) ∙ length-map texts (λ (t : HostText). t.mtree))) c.requires.hosts;
    }

pub returns : goal.returns
returns c = λ site whole there merged.
    texts_run c.args.keep c.args.events.now site whole c.args.texts.now there (record { outcome = c.args.outcome; done = c.in_ok-carried.carried.done; trees = c.in_ok-carried.carried.trees }) merged c.deref.result.now (c.deref.ensures.value ∙ c.in_ok-mtrees.ensures) c.in_ok-carried.ensures
