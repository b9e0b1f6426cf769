use Rattle.std.proofs.Common.{◌≡◌, sym, ap, ◌∙◌}
use Rattle.idtext.specs.First.{◌>>=◌}
use Rattle.hosts_join.specs.PinPairs.{PinPairs}
use Rattle.hosts_join.specs.Site.{joined_site}
use Rattle.site_tables.specs.Others.{Others, pinned_site, reserving}
use Rattle.site_tables.specs.OthersHeld.{others_held}
use Rattle.site_tables.specs.Told.{in_site}
use Rattle.site_tables.proofs.site.join_pinned.Goals as goal

pub returns : goal.returns
returns c =
    let hosts = c.args.hosts.now in
    let others : Others = others_held hosts c.args.reserved in
    let read : pinned_site others c.args.pins.now ≡ in_site (joined_site hosts c.reserve_for-pins.result) =
    ap (λ r. r >>= λ (pins : PinPairs). in_site (joined_site hosts (reserving others pins))) c.in_ok-load_pins.ensures ∙ ap (λ (pins : PinPairs). in_site (joined_site hosts pins)) (sym (c.reserve_for-pins.ensures hosts)) in
    rw read c.join_hosts.ensures
