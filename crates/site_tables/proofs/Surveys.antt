-- The numbers that the files of hosts have without an account.
use Rattle.std.proofs.Common.{◌≡◌, ℕ, zero, suc, List, [], ◌∷◌, length, map, take, true, Some, Result, Ok, Err, refl, sym, ap, ◌∙◌}
use Rattle.std.specs.List.{slice_get}
use Rattle.std.proofs.lemmas.Option.{same_Some}
use Rattle.idtext.specs.First.{◌>>=◌, each}
use Rattle.idtext.proofs.OkLemmas.{bind_ok}
use Rattle.mtree_inv.specs.declared.entry.Entry.{Entry}
use Rattle.hosts_join.specs.declared.host.Host.{Host}
use Rattle.hosts_join.specs.Checks.{hosts_checked}
use Rattle.hosts_join.specs.declared.texts.HostText.{HostText}
use Rattle.keep_text.specs.declared.keep_text.KeepText.{KeepText}
use Rattle.unify_texts.specs.declared.fault.Fault.{Fault}
use Rattle.site_tables.specs.declared.host.Loaded.{Loaded}
use Rattle.site_tables.specs.Loading.{loaded_from}
use Rattle.site_tables.specs.Hosts.{host_of}
use Rattle.site_tables.specs.Others.{keep_read}
use Rattle.site_tables.specs.Survey.{found_on, inventory_of, keeps_unowned, listed_of, sparing_hosts, sparing_ranges, surveyed, surveyed_hosts}
use Rattle.site_tables.specs.Told.{in_site}

-- ---- host after host

-- the one at an index is refused, after others that were accepted
pub list_refused_at : (hosts : List Host) (texts : List (List ℕ)) (listed : List (Host × List Entry)) (k : ℕ) (host : Host) (text : List ℕ) (f : Fault) → each listed_of (loaded_from hosts (take k texts)) ≡ Ok listed
    → slice_get hosts k ≡ Some host → slice_get texts k ≡ Some text → inventory_of host text ≡ Err f → each listed_of (loaded_from hosts texts) ≡ Err f
unfolding each
list_refused_at [] texts listed k host text f are here there bad = absurd (cc)
list_refused_at (h ∷ hosts) [] listed k host text f are here there bad = absurd (cc)
list_refused_at (h ∷ hosts) (t ∷ texts) listed zero host text f are here there bad =
    let same_host : h ≡ host = same_Some h host here in
    let same_text : t ≡ text = same_Some t text there in
    let mine : inventory_of h t ≡ Err f = (λ j. inventory_of (same_host j) (same_text j)) ∙ bad in
    ap (λ (r : Result (List Entry) Fault). (r >>= λ fs. Ok (h, fs)) >>= λ y. each listed_of (loaded_from hosts texts) >>= λ ys. Ok (y ∷ ys)) mine
list_refused_at (h ∷ hosts) (t ∷ texts) listed (suc k) host text f are here there bad =
    let front = loaded_from hosts (take k texts) in
    let first = bind_ok (listed_of (record { host = h; mtree = t })) (λ y. each listed_of front >>= λ ys. Ok (y ∷ ys)) listed are in
    let rest = bind_ok (each listed_of front) (λ ys. Ok (first.0 ∷ ys)) listed first.2 in
    let more = list_refused_at hosts texts rest.0 k host text f rest.1 here there bad in
    ap (λ (r : Result (Host × List Entry) Fault). r >>= λ y. each listed_of (loaded_from hosts texts) >>= λ ys. Ok (y ∷ ys)) first.1
    ∙ ap (λ (r : Result (List (Host × List Entry)) Fault). r >>= λ ys. Ok (first.0 ∷ ys)) more

-- texts past the last host count for nothing
pub as_many_texts : (hosts : List Host) (texts : List (List ℕ)) → loaded_from hosts (take (length hosts) texts) ≡ loaded_from hosts texts
as_many_texts [] texts = refl
as_many_texts (h ∷ hosts) [] = refl
as_many_texts (h ∷ hosts) (t ∷ texts) = ap (λ ls. record { host = h; mtree = t } ∷ ls) (as_many_texts hosts texts)

-- ---- whose files are looked through

each_spares : (keep : KeepText) (loaded : List Loaded) → map (sparing_ranges keep) (map (λ l. l.host) loaded) ≡ map (λ l. sparing_ranges keep l.host) loaded
each_spares keep [] = refl
each_spares keep (l ∷ loaded) = ap (λ hs. sparing_ranges keep l.host ∷ hs) (each_spares keep loaded)

pub sparing_are : (texts : List HostText) (keep : KeepText) (u : Unit {0}) (loaded : List Loaded) (hosts sparing : List Host) → keeps_unowned keep ≡ true → in_site (hosts_checked texts) ≡ Ok u → each host_of texts ≡ Ok loaded → hosts ≡ map (λ l. l.host) loaded
    → sparing ≡ map (sparing_ranges keep) hosts → sparing_hosts texts keep ≡ Ok sparing
sparing_are texts keep u loaded hosts sparing keeps listed are is spares =
    rw (keeps, listed, are) (ap (λ hs. Ok hs) (sym (spares ∙ ap (map (sparing_ranges keep)) is ∙ each_spares keep loaded)))

-- a survey that is refused, or of which no inventory is
pub survey_refused : (texts : List HostText) (keep_text : List ℕ) (f : Fault) → surveyed_hosts texts (keep_read keep_text) ≡ Err f → surveyed texts keep_text ≡ Err f
unfolding surveyed
survey_refused texts keep_text f h = rw h refl

pub survey_behind : (texts : List HostText) (keep_text : List ℕ) (hosts : List Host) → surveyed_hosts texts (keep_read keep_text) ≡ Ok hosts → surveyed texts keep_text ≡ found_on hosts (map (λ t. t.mtree) texts)
unfolding surveyed
survey_behind texts keep_text hosts h = rw h refl

pub found_refused : (hosts : List Host) (mtrees : List (List ℕ)) (f : Fault) → each listed_of (loaded_from hosts mtrees) ≡ Err f → found_on hosts mtrees ≡ Err f
found_refused hosts mtrees f h = rw h refl
