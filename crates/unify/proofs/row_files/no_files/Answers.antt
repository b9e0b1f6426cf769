use Rattle.std.proofs.Common.{◌≡◌, ◌∙◌, length, sym, ap, Some, None, replicate}
use Rattle.std.specs.List.{slice_get}
use Rattle.std.proofs.lemmas.Bool.{ltb-false}
use Rattle.std.proofs.lemmas.Option.{same_Some, slice_get-get_or, slice_get_past}
use Rattle.hosts_join.specs.declared.host.Host.{Host}
use Rattle.mtree_inv.specs.declared.entry.Entry.{Entry}
use Rattle.unify.proofs.FileCounts.{none_yet}
use Rattle.unify.proofs.row_files.no_files.Goals as goal

pub returns-in_ok-from_elem-in-Some-2 : goal.returns-in_ok-from_elem-in-Some-2
returns-in_ok-from_elem-in-Some-2 c = λ host here.
    let found = c.in-Some.host.now in
    let lookup = c.in-Some.ensures.lookup in
    let same : found ≡ host = same_Some found host (ap (λ (h : Host). Some h) lookup.1 ∙ sym (slice_get-get_or c.args.hosts.now c.args.index found lookup.3.0) ∙ here) in
    let users = c.in_ok-from_elem-in-Some.ensures.items_if_clones_equal (λ y same. same) in
    let groups = c.in_ok-from_elem-in-Some-2.ensures.items_if_clones_equal (λ y same. same) in
    let no_users = users ∙ ap (λ rows. replicate (length rows) 0) (c.rows.ensures.rows ∙ ap (λ (h : Host). h.users) same) ∙ sym (none_yet (λ r. r.uid) (λ (e : Entry). e.uid) host.users) in
    let no_groups = groups ∙ ap (λ rows. replicate (length rows) 0) (c.rows-in-Some.ensures.rows ∙ ap (λ (h : Host). h.groups) same) ∙ sym (none_yet (λ r. r.gid) (λ (e : Entry). e.gid) host.groups) in
    λ i. record { users = no_users i; groups = no_groups i }

pub returns-in-None : goal.returns-in-None
returns-in-None c = λ host here.
    let none : slice_get c.args.hosts.now c.args.index ≡ None = slice_get_past c.args.hosts.now c.args.index (ltb-false _ _ (sym c.in-None.ensures.lookup.0)) in
    absurd (cc)
