use Rattle.std.proofs.Common.{sym, ◌∙◌}
use Rattle.mergedfiles.specs.HostFiles.{number_field, renumbered_user}
use Rattle.mergedfiles.specs.Texts.{field}
use Rattle.mergedfiles.proofs.HostSteps.{ended, ended-user, line-skipped, user-line, user-stays}
use Rattle.mergedfiles.proofs.host_files.push_user_line.Goals as goal

pub returns-then-is_skipped-clause-text : goal.returns-then-is_skipped-clause-text
returns-then-is_skipped-clause-text c =
    ended c.extend_from_slice.result c.extend_from_slice.new.self.items c.args.text.now.items c.args.line.now _ c.extend_from_slice.ensures.items
    (line-skipped (renumbered_user c.args.host.now c.args.site.now c.args.mappings.now) c.args.line.now (sym c.is_skipped.ensures ∙ c.if-is_skipped.true))

pub returns-in_default-clause-text : goal.returns-in_default-clause-text
returns-in_default-clause-text c =
    ended c.extend_from_slice-in_default.result c.extend_from_slice-in_default.new.self.items c.args.text.now.items c.args.line.now _ c.extend_from_slice-in_default.ensures.items
    (user-stays c.args.host.now c.args.site.now c.args.mappings.now c.args.line.now (sym c.is_skipped.ensures ∙ c.if-is_skipped.false) c.in_default.ensures)

pub returns-clause-text : goal.returns-clause-text
returns-clause-text c =
    let f = c.in-Some.fields in
    let user = c.next_numbers-new.result.uid in
    let group = c.next_numbers-new.result.gid in
    ended-user c.extend_from_slice-2.result c.extend_from_slice-2.new.self.items c.args.text.now.items c.push_field.new.text.items c.push_field-2.new.text.items c.push_new_field.new.text.items c.push_new_field-2.new.text.items
    (field f.name.now) (field f.password.now) (field (number_field user f.uid.now)) (field (number_field group f.gid.now)) f.rest.now _
    c.extend_from_slice-2.ensures.items c.in_ok-push_field.ensures c.in_ok-push_field-2.ensures c.in_ok-push_new_field.ensures c.in_ok-push_new_field-2.ensures
    (user-line c.args.host.now c.args.site.now c.args.mappings.now c.args.line.now f.name.now f.password.now f.uid.now f.gid.now f.rest.now user group
    (sym c.is_skipped.ensures ∙ c.if-is_skipped.false) c.in-Some.ensures
    c.next_numbers-new.ensures.uid
    c.next_numbers-new.ensures.gid)
