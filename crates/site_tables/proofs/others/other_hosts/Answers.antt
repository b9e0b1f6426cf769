use Rattle.std.proofs.Common.{◌==◌, ℕ, List, length, Ok, sym, ap, ◌∙◌}
use Rattle.std.proofs.lemmas.Bool.{eqb-true}
use Rattle.std.proofs.lemmas.List.{nil_from_length}
use Rattle.site_tables.specs.Others.{Others, others_read}
use Rattle.site_tables.proofs.LeftHosts.{all-left}
use Rattle.site_tables.proofs.others.other_hosts.Goals as goal

pub returns-then-is_empty : goal.returns-then-is_empty
returns-then-is_empty c =
    let rules = c.args.rules.now in
    let text = nil_from_length rules.text (eqb-true (length rules.text) 0 (ap (λ (bytes : List ℕ). length bytes == 0) (sym c.bytes.ensures) ∙ sym c.is_empty.ensures ∙ c.if-is_empty.true)) in
    (λ j. others_read (record rules { text = text j }) c.args.hosts.items) ∙ all-left c.args.hosts.items rules.unowned c.requires ∙ ap (λ (o : Others). Ok o) (sym c.all_hosts.ensures)
