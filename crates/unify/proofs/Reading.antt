-- What was read is whole.
use Rattle.std.proofs.Common.{◌≡◌, ℕ, zero, suc, ◌+◌, true, List, [], ◌∷◌, length, map, get_or, Some, Ok, refl, ap, subst, arith}
use Rattle.std.specs.List.{All, slice_get}
use Rattle.std.specs.Option.{option_map}
use Rattle.std.proofs.lemmas.List.Elements.{All-nil, All-append, All-map}
use Rattle.idtext.specs.First.{each}
use Rattle.idtext.proofs.OkLemmas.{bind_ok, ok_same, length-each, each-ok}
use Rattle.mtree_inv.specs.declared.entry.Entry.{Entry}
use Rattle.mtree_inv.proofs.LawfulLemmas.{inventory-files}
use Rattle.hosts_join.specs.Checks.{is_host_name}
use Rattle.hosts_join.specs.Hosts.{IsLawfulHost, SparesReserved}
use Rattle.hosts_join.specs.Laws.{KnowsHost}
use Rattle.hosts_join.specs.Site.{Joined}
use Rattle.hosts_join.specs.declared.host.Host.{Host}
use Rattle.mergedfiles.specs.InPart.{WasReadInPart}
use Rattle.mergedfiles.specs.Together.{AreJoined}
use Rattle.ownership.specs.Files.{Added}
use Rattle.site_tables.specs.declared.host.Loaded.{Loaded}
use Rattle.unify.specs.Count.{site_of}
use Rattle.site_tables.specs.Hosts.{files_of}
use Rattle.unify.specs.Whole.{IsReadHost, IsWhole}
use Rattle.site_tables.specs.Loading.{loaded_from}
use Rattle.site_tables.specs.Begun.{AreTogether}
use Rattle.unify.specs.Reading.{added_on, added_from}
use Rattle.site_tables.specs.Sparing.{AreOwnedOrReserved}
use Rattle.site_tables.proofs.LoadedFrom.{length-loaded_from}
use Rattle.site_tables.proofs.Owners.{allowed, files_read, owned-or-reserved}
use Rattle.unify.proofs.Whole.{hosts_held}
use Rattle.site_tables.proofs.LoadedHosts.{all-at}

-- what is known of a host before its inventory is read
abbrev pub IsKnownHost : Joined → ℕ → Host → Type 0
IsKnownHost joined h host = (is_host_name host.name ≡ true) × WasReadInPart host × IsLawfulHost host × SparesReserved joined host × KnowsHost joined h host

-- a host of whom that is known, with the files of its inventory
pub read-host : (joined : Joined) (h : ℕ) (l : Loaded) (files : List Entry) → files_of l ≡ Ok files → IsKnownHost joined h l.host → IsReadHost joined h l.host files
read-host joined h l files are knows =
    let text = files_read l files are in
    let found = inventory-files 16777216 l.mtree files text.0 in
    record {
      named = knows.0;
      read = knows.1;
      lawful = knows.2;
      files_are = found.0;
      few = found.1;
      allowed = λ k d m. allowed l.host (get_or files k d) (text.1 k d m);
      spares = knows.3;
      known = knows.4;
    }

-- hosts of whom that is known, with the files of their inventories
read-host-of : (joined : Joined) (loaded : List Loaded) (read : List (Host × List Entry)) → each site_of loaded ≡ Ok read → ((h : ℕ) (l : Loaded) → slice_get loaded h ≡ Some l → IsKnownHost joined h l.host)
    → (h : ℕ) (host : Host) (files : List Entry) → slice_get read h ≡ Some (host, files) → IsReadHost joined h host files
read-host-of joined loaded read are known h host files here =
    let from = each-ok site_of loaded read are h (host, files) here in
    let l = from.0 in
    let filed = bind_ok (files_of l) (λ fs. Ok (l.host, fs)) (host, files) from.2 in
    let pair : (l.host, filed.0) ≡ (host, files) = ok_same (l.host, filed.0) (host, files) filed.2 in
    subst (λ (p : Host × List Entry). IsReadHost joined h p.0 p.1) pair (read-host joined h l filed.0 filed.1 (known h l from.1))

all-from : (joined : Joined) (start : ℕ) (hosts : List (Host × List Entry)) → ((h : ℕ) (host : Host) (files : List Entry) → slice_get hosts h ≡ Some (host, files) → IsReadHost joined (start + h) host files) → All (λ f. AreOwnedOrReserved joined f.host f.uid f.gid) (added_from start hosts)
all-from joined start [] each_host = All-nil (λ (f : Added). AreOwnedOrReserved joined f.host f.uid f.gid)
all-from joined start (here ∷ more) each_host =
    let first : IsReadHost joined start here.0 here.1 = subst (λ n. IsReadHost joined n here.0 here.1) (omega arith) (each_host 0 here.0 here.1 refl) in
    All-append (λ (f : Added). AreOwnedOrReserved joined f.host f.uid f.gid) (map (added_on start) here.1) (added_from (start + 1) more)
    (All-map (λ (f : Added). AreOwnedOrReserved joined f.host f.uid f.gid) (added_on start) here.1
    (λ k d l. let f = get_or here.1 k d in owned-or-reserved joined start here.0 f.uid f.gid first.known first.spares (first.allowed k d l)))
    (all-from joined (start + 1) more (λ h host files at. subst (λ n. IsReadHost joined n host files) (omega arith) (each_host (suc h) host files at)))

-- the files of hosts that were read have their owners, or reserved numbers
pub all-owned : (joined : Joined) (read : List (Host × List Entry)) → ((h : ℕ) (host : Host) (files : List Entry) → slice_get read h ≡ Some (host, files) → IsReadHost joined h host files) → All (λ f. AreOwnedOrReserved joined f.host f.uid f.gid) (added_from 0 read)
all-owned joined read each_host = all-from joined 0 read (λ h host files here. subst (λ n. IsReadHost joined n host files) (omega arith) (each_host h host files here))

-- a host that stands with a text stands among the hosts
loaded_host : (hosts : List Host) (mtrees : List (List ℕ)) (k : ℕ) (l : Loaded) → slice_get (loaded_from hosts mtrees) k ≡ Some l → slice_get hosts k ≡ Some l.host
loaded_host [] mtrees k l at = absurd (cc)
loaded_host (host ∷ hosts) [] k l at = absurd (cc)
loaded_host (host ∷ hosts) (mtree ∷ mtrees) zero l at = ap (option_map (λ (x : Loaded). x.host)) at
loaded_host (host ∷ hosts) (mtree ∷ mtrees) (suc k) l at = loaded_host hosts mtrees k l at

-- what was joined of hosts is whole, with the files of their inventories
pub whole-read : (hosts : List Host) (joined : Joined) (mtrees : List (List ℕ)) (read : List (Host × List Entry)) → AreTogether hosts joined → length mtrees ≡ length hosts → each site_of (loaded_from hosts mtrees) ≡ Ok read → IsWhole (record { hosts = read; joined = joined })
whole-read hosts joined mtrees read whole paired accepted =
    let loaded = loaded_from hosts mtrees in
    let each_host = read-host-of joined loaded read accepted
    (λ k l at.
    let here = loaded_host hosts mtrees k l at in (
      all-at (λ (h : Host). is_host_name h.name ≡ true) hosts k l.host whole.named here,
      all-at WasReadInPart hosts k l.host whole.read here,
      all-at IsLawfulHost hosts k l.host whole.lawful here,
      all-at (SparesReserved joined) hosts k l.host whole.spares here,
      whole.known k l.host here,
    )) in
    record {
      few_hosts = omega (arith, whole.few, length-loaded_from hosts mtrees paired, length-each site_of loaded read accepted);
      together = subst (λ hs. AreJoined hs joined) (hosts_held hosts mtrees read paired accepted).0 whole.together;
      lawful = whole.accounts;
      leaves = whole.leaves;
      each_host = each_host;
      owned = all-owned joined read each_host;
    }
