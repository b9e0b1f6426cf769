use Rattle.std.proofs.Common.{◌≡◌, refl, ap, ◌∙◌}
use Rattle.hosts_join.specs.Site.{Joined}
use Rattle.ownership.specs.Counts.{StandsFor}
use Rattle.ownership.specs.Costs.{cost_of}
use Rattle.ownership.specs.declared.mapping.Mappings.{Mappings}
use Rattle.mergedfiles.specs.Texts.{merged_users, merged_groups}
use Rattle.unify_texts.specs.Report.{report_of}
use Rattle.unify_texts.specs.ReservedLines.{keeps_a_name}
use Rattle.unify_texts.specs.WrittenMap.{map_text}
use Rattle.unify.specs.declared.counting.Cost.{Cost}
use Rattle.unify.specs.declared.outcome.Outcome.{Outcome}
use Rattle.unify.specs.Outcomes.{hosts_in, user_files, group_files}
use Rattle.unify.specs.Reading.{files_of_site}
use Rattle.unify.proofs.merging.texts_of.Goals as goal

pub returns : goal.returns
returns c = λ whole holds.
    let m : Mappings = c.args.certified.now.mappings in
    let hosts : c.args.hosts.now ≡ hosts_in whole = holds.hosts_are in
    let joined : c.args.site.now ≡ whole.joined = holds.joined_is in
    let stands : StandsFor c.args.site.now c.args.counts.now (files_of_site whole) = rw joined holds.counted_are in
    let accounts = c.in_ok-write_accounts.ensures in
    let numbers = c.in_ok-write_numbers.ensures in
    let changes = c.in_ok-write_changes.ensures (files_of_site whole) stands in
    let by : Joined → Cost = λ s. record { users = cost_of s.users (user_files whole) m.users; groups = cost_of s.groups (group_files whole) m.groups } in
    record {
      no_plans = ap (λ (o : Outcome). o.plans) changes ∙ ap (λ (o : Outcome). o.plans) numbers ∙ ap (λ (o : Outcome). o.plans) accounts ∙ c.nothing_written-outcome.ensures;
      printed = record {
        passwd =
            ap (λ (o : Outcome). o.passwd) changes ∙ ap (λ (o : Outcome). o.passwd) numbers ∙ ap (λ (o : Outcome). o.passwd) accounts
            ∙ ap (λ hs. merged_users hs c.args.site.now m) hosts ∙ ap (λ s. merged_users (hosts_in whole) s m) joined;
        group =
            ap (λ (o : Outcome). o.group) changes ∙ ap (λ (o : Outcome). o.group) numbers ∙ ap (λ (o : Outcome). o.group) accounts
            ∙ ap (λ hs. merged_groups hs c.args.site.now m.groups) hosts ∙ ap (λ s. merged_groups (hosts_in whole) s m.groups) joined;
        keeps =
            ap (λ (o : Outcome). o.keeps_names) changes ∙ ap (λ (o : Outcome). o.keeps_names) numbers ∙ ap (λ (o : Outcome). o.keeps_names) accounts
            ∙ ap keeps_a_name joined;
        map_is = ap (λ (o : Outcome). o.map) changes ∙ ap (λ (o : Outcome). o.map) numbers ∙ ap (λ s. map_text s m) joined;
        certificate = ap (λ (o : Outcome). o.certificate) changes ∙ ap (λ (o : Outcome). o.certificate) numbers;
        report =
            ap (λ (o : Outcome). o.report) changes
            ∙ ap (λ hs. report_of hs c.args.site.now (files_of_site whole) m) hosts ∙ ap (λ s. report_of (hosts_in whole) s (files_of_site whole) m) joined;
        plans = refl;
        cost = ap (λ (o : Outcome). o.cost) changes ∙ ap by joined;
      };
    }
