use Rattle.std.proofs.Common.{ap, subst, sym, ◌∙◌}
use Rattle.std.proofs.lemmas.Result.{err_from_is_err_and}
use Rattle.idtext.specs.First.{Gives, each}
use Rattle.unify_texts.specs.Told.{told}
use Rattle.site_tables.specs.Hosts.{host_of}
use Rattle.site_tables.specs.Others.{others_loaded, others_read}
use Rattle.site_tables.specs.OthersHeld.{others_in}
use Rattle.unify_texts.proofs.Faults.{passed_on}
use Rattle.site_tables.proofs.OthersHeld.{as_many_left, left_are_lawful, loaded_behind, loaded_refused}
use Rattle.site_tables.proofs.LoadedHosts.{loaded-unsparing}
use Rattle.site_tables.proofs.site.load_others.Goals as goal

pub other_hosts-requires : goal.other_hosts-requires
other_hosts-requires c = let read = c.in_ok-hosts.ensures.read in rw read.2 (loaded-unsparing c.args.texts.now read.0 read.1)

pub returns-in_err-hosts-clause-read : goal.returns-in_err-hosts-clause-read
returns-in_err-hosts-clause-read c =
    let p = err_from_is_err_and c.from_residual.result c.from_residual.ensures.1 in
    let texts = c.args.texts.now in
    let keep = c.args.keep.now in
    rw (p.1, p.2) (passed_on (told c.in_err-hosts.field-0.0) (each host_of texts) (others_loaded texts keep) (loaded_refused texts keep) c.in_err-hosts.ensures.read)

pub returns-clause-read : goal.returns-clause-read
returns-clause-read c =
    let texts = c.args.texts.now in
    let keep = c.args.keep.now in
    let read = c.in_ok-hosts.ensures.read in
    subst (Gives others_in told c.other_hosts.result) (ap (others_read keep) read.2 ∙ sym (loaded_behind texts keep read.0 read.1)) c.other_hosts.ensures

pub returns-clause-len : goal.returns-clause-len
returns-clause-len c = rw (← c.in_ok-hosts.ensures.len) (as_many_left c.args.keep.now c.in_ok-hosts.hosts.items c.other_hosts.result c.other_hosts.ensures)

pub returns-clause-lawful : goal.returns-clause-lawful
returns-clause-lawful c = left_are_lawful c.args.keep.now c.in_ok-hosts.hosts.items c.in_ok-hosts.ensures.lawful c.other_hosts.result c.other_hosts.ensures
