-- Hosts with the files of their inventories.
use Rattle.std.proofs.Common.{◌≡◌, ℕ, List, [], ◌∷◌, length, map, Ok, refl, sym, ap, subst, ◌∙◌}
use Rattle.idtext.specs.First.{◌>>=◌, each}
use Rattle.idtext.proofs.OkLemmas.{bind_ok, ok_same}
use Rattle.mtree_inv.specs.declared.entry.Entry.{Entry}
use Rattle.mtree_inv.specs.Inventory.{inventory}
use Rattle.hosts_join.specs.declared.host.Host.{Host}
use Rattle.site_tables.specs.declared.host.Loaded.{Loaded}
use Rattle.unify.specs.Count.{site_of}
use Rattle.site_tables.specs.Hosts.{files_of}
use Rattle.site_tables.specs.Loading.{loaded_from}
use Rattle.site_tables.proofs.LoadedFrom.{loaded_hosts, loaded_mtrees}
use Rattle.site_tables.proofs.Owners.{files_read}

-- hosts with their files are the hosts that were loaded, with what the inventories say
abbrev pub AreRead : List Loaded → List (Host × List Entry) → Type 0
AreRead loaded hosts = (map (λ h. h.0) hosts ≡ map (λ l. l.host) loaded) × (each (inventory 16777216) (map (λ l. l.mtree) loaded) ≡ Ok (map (λ h. h.1) hosts))

pub hosts-read : (loaded : List Loaded) (hosts : List (Host × List Entry)) → each site_of loaded ≡ Ok hosts → AreRead loaded hosts
unfolding each
hosts-read [] hosts h = subst (AreRead []) (ok_same [] hosts h) (refl, refl)
hosts-read (l ∷ loaded) hosts h =
    let first = bind_ok (site_of l) (λ y. each site_of loaded >>= λ ys. Ok (y ∷ ys)) hosts h in
    let rest = bind_ok (each site_of loaded) (λ ys. Ok (first.0 ∷ ys)) hosts first.2 in
    let files = bind_ok (files_of l) (λ fs. Ok (l.host, fs)) first.0 first.1 in
    let more = hosts-read loaded rest.0 rest.1 in
    subst (AreRead (l ∷ loaded)) (ok_same (first.0 ∷ rest.0) hosts rest.2)
    (subst (λ y. AreRead (l ∷ loaded) (y ∷ rest.0)) (ok_same (l.host, files.0) first.0 files.2)
    (ap (λ hs. l.host ∷ hs) more.0, rw ((files_read l files.0 files.1).0, more.1) refl))

-- hosts and the texts of their inventories, which read as the files
pub hosts_held : (hosts : List Host) (mtrees : List (List ℕ)) (read : List (Host × List Entry)) → length mtrees ≡ length hosts → each site_of (loaded_from hosts mtrees) ≡ Ok read
    → (hosts ≡ map (λ h. h.0) read) × (each (inventory 16777216) mtrees ≡ Ok (map (λ h. h.1) read))
hosts_held hosts mtrees read same are =
    let both = hosts-read (loaded_from hosts mtrees) read are in
    (sym (both.0 ∙ loaded_hosts hosts mtrees same), ap (each (inventory 16777216)) (sym (loaded_mtrees hosts mtrees same)) ∙ both.1)
