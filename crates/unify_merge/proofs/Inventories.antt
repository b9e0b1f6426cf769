-- The texts of hosts with other inventories.
use Rattle.std.proofs.Common.{◌≡◌, ◌++◌, ◌∷◌, [], ℕ, suc, List, length, map, Result, Ok, Err, refl, sym, ap, ◌∙◌, arith}
use Rattle.std.specs.Prelude.{◌||◌}
use Rattle.std.proofs.lemmas.List.{length-map}
use Rattle.std.proofs.lemmas.List.Folds.{list_any-append}
use Rattle.idtext.specs.First.{◌>>=◌, each, first_fault, or_else}
use Rattle.idtext.proofs.OkLemmas.{length-each}
use Rattle.accounts.specs.Tables.{passwd_table, group_table}
use Rattle.logindefs.specs.Ranges.{ranges_of}
use Rattle.mtree_inv.specs.declared.entry.Entry.{Entry}
use Rattle.hosts_join.specs.Checks.{has_host, hosts_checked, name_fault, primary_checked}
use Rattle.hosts_join.specs.declared.host.Host.{Host}
use Rattle.hosts_join.specs.declared.texts.HostText.{HostText}
use Rattle.unify_texts.specs.declared.bundle_line.FileName.TheVariants as file
use Rattle.unify_texts.specs.declared.fault.Fault.{Fault}
use Rattle.site_tables.specs.declared.rules.KeepRules.{KeepRules}
use Rattle.site_tables.specs.declared.host.Loaded.{Loaded}
use Rattle.site_tables.specs.declared.rules.SiteRules.{SiteRules}
use Rattle.site_tables.specs.Mapped.{cost_begun, mapped_names}
use Rattle.unify.specs.Count.{site_of}
use Rattle.site_tables.specs.Hosts.{host_of, sparing_none}
use Rattle.site_tables.specs.Loading.{loaded_from}
use Rattle.site_tables.specs.Others.{Others, others_loaded, others_read, pinned_site}
use Rattle.site_tables.specs.Begun.{BegunSite, site_begun}
use Rattle.unify.specs.Reading.{site_read}
use Rattle.unify_texts.specs.Told.{in_file}
use Rattle.site_tables.specs.Told.{in_site}
use Rattle.site_tables.proofs.LoadedFrom.{loaded_hosts}
use Rattle.unify_laws.proofs.TwoPasses.{first-step, site_is}
use Rattle.unify_merge.specs.FirstReading.{with_inventories}

-- ---- the list of hosts

pub length-with : (hosts : List HostText) (texts : List (List ℕ)) → length texts ≡ length hosts → length (with_inventories hosts texts) ≡ length hosts
length-with [] texts same = refl
length-with (h ∷ hosts) [] same = absurd (omega (arith, same))
length-with (h ∷ hosts) (t ∷ texts) same = ap suc (length-with hosts texts (omega (arith, same)))

pub mtrees-with : (hosts : List HostText) (texts : List (List ℕ)) → length texts ≡ length hosts → map (λ t. t.mtree) (with_inventories hosts texts) ≡ texts
mtrees-with [] [] same = refl
mtrees-with [] (t ∷ texts) same = absurd (omega (arith, same))
mtrees-with (h ∷ hosts) [] same = absurd (omega (arith, same))
mtrees-with (h ∷ hosts) (t ∷ texts) same = ap (λ ts. t ∷ ts) (mtrees-with hosts texts (omega (arith, same)))

-- hosts of the same names
abbrev AreNamedAlike : List HostText → List HostText → Type 0
AreNamedAlike before others = (name : List ℕ) → has_host others name ≡ has_host before name

alike_more : (before others : List HostText) (h : HostText) (text : List ℕ) → AreNamedAlike before others → AreNamedAlike (before ++ h ∷ []) (others ++ record h { mtree = text } ∷ [])
alike_more before others h text alike name =
    list_any-append _ others (record h { mtree = text } ∷ []) ∙ ap (λ b. b || has_host (h ∷ []) name) (alike name) ∙ sym (list_any-append _ before (h ∷ []))

same_name : (before others : List HostText) (h : HostText) (text : List ℕ) → AreNamedAlike before others → name_fault others (record h { mtree = text }) ≡ name_fault before h
same_name before others h text alike = rw (alike h.name) refl

names_judged : (before others hosts : List HostText) (texts : List (List ℕ)) → length texts ≡ length hosts → AreNamedAlike before others → first_fault name_fault others (with_inventories hosts texts) ≡ first_fault name_fault before hosts
unfolding first_fault
names_judged before others [] texts same alike = refl
names_judged before others (h ∷ hosts) [] same alike = absurd (omega (arith, same))
names_judged before others (h ∷ hosts) (t ∷ texts) same alike = λ j. or_else (same_name before others h t alike j) (names_judged (before ++ h ∷ []) (others ++ record h { mtree = t } ∷ []) hosts texts (omega (arith, same)) (alike_more before others h t alike) j)

pub list-with : (hosts : List HostText) (texts : List (List ℕ)) → length texts ≡ length hosts → hosts_checked (with_inventories hosts texts) ≡ hosts_checked hosts
unfolding hosts_checked
list-with hosts texts same = rw (length-with hosts texts same, names_judged [] [] hosts texts same (λ name. refl)) refl

-- ---- the tables of hosts

abbrev with_text : List ℕ → Loaded → Result Loaded Fault
with_text text loaded = Ok (record loaded { mtree = text })

host-with : (h : HostText) (text : List ℕ) → host_of (record h { mtree = text }) ≡ (host_of h >>= with_text text)
unfolding host_of
host-with h text =
    first-step (in_file h.name file.LoginDefs (ranges_of h.logindefs)) _ _ (with_text text)
    (λ ranges r. first-step (in_file h.name file.Passwd (passwd_table h.passwd)) _ _ (with_text text)
    (λ users u. first-step (in_file h.name file.Group (group_table h.group)) _ _ (with_text text)
    (λ groups g. first-step (in_site (primary_checked (sparing_none h.name ranges users groups))) _ _ (with_text text)
    (λ primary p. refl))))

-- the hosts that were loaded, with these inventories
abbrev pub reloaded : List (List ℕ) → List Loaded → Result (List Loaded) Fault
reloaded texts loaded = Ok (loaded_from (map (λ l. l.host) loaded) texts)

one-with : (text : List ℕ) (texts : List (List ℕ)) (o : Result Loaded Fault) (rest : Result (List Loaded) Fault)
    → ((o >>= with_text text) >>= λ y. (rest >>= reloaded texts) >>= λ ys. Ok (y ∷ ys)) ≡ ((o >>= λ y. rest >>= λ ys. Ok (y ∷ ys)) >>= reloaded (text ∷ texts))
one-with text texts (Ok l) (Ok ls) = refl
one-with text texts (Ok l) (Err e) = refl
one-with text texts (Err e) rest = refl

pub hosts-with : (hosts : List HostText) (texts : List (List ℕ)) → length texts ≡ length hosts → each host_of (with_inventories hosts texts) ≡ (each host_of hosts >>= reloaded texts)
unfolding each
hosts-with [] texts same = refl
hosts-with (h ∷ hosts) [] same = absurd (omega (arith, same))
hosts-with (h ∷ hosts) (t ∷ texts) same =
    (λ j. host-with h t j >>= λ y. hosts-with hosts texts (omega (arith, same)) j >>= λ ys. Ok (y ∷ ys)) ∙ one-with t texts (host_of h) (each host_of hosts)

-- what comes of the tables alone does not look at the inventories
pub tables-with : {B : Type 0} (hosts : List HostText) (texts : List (List ℕ)) (rest : List Host → Result B Fault) → length texts ≡ length hosts
    → (each host_of (with_inventories hosts texts) >>= λ loaded. rest (map (λ l. l.host) loaded)) ≡ (each host_of hosts >>= λ loaded. rest (map (λ l. l.host) loaded))
tables-with {B} hosts texts rest same = ap (λ r. r >>= λ loaded. rest (map (λ (l : Loaded). l.host) loaded)) (hosts-with hosts texts same) ∙ by (each host_of hosts) (λ ls are. length-each host_of hosts ls are)
  where
    by : (r : Result (List Loaded) Fault) → ((ls : List Loaded) → r ≡ Ok ls → length ls ≡ length hosts)
        → ((r >>= reloaded texts) >>= λ loaded. rest (map (λ (l : Loaded). l.host) loaded)) ≡ (r >>= λ loaded. rest (map (λ (l : Loaded). l.host) loaded))
    by (Ok ls) each_one = ap rest (loaded_hosts (map (λ (l : Loaded). l.host) ls) texts (omega (arith, same, each_one ls refl, length-map ls (λ (l : Loaded). l.host))))
    by (Err e) each_one = refl

others-with : (hosts : List HostText) (texts : List (List ℕ)) (keep : KeepRules) → length texts ≡ length hosts → others_loaded (with_inventories hosts texts) keep ≡ others_loaded hosts keep
unfolding others_loaded
others-with hosts texts keep same = tables-with hosts texts (others_read keep) same

-- what comes of the list of hosts and their tables does not either
lists-with : {B : Type 0} (hosts : List HostText) (texts : List (List ℕ)) (keep : KeepRules) (rest : Others → Result B Fault) → length texts ≡ length hosts
    → (in_site (hosts_checked (with_inventories hosts texts)) >>= λ listed. others_loaded (with_inventories hosts texts) keep >>= rest) ≡ (in_site (hosts_checked hosts) >>= λ listed. others_loaded hosts keep >>= rest)
lists-with hosts texts keep rest same = λ j. in_site (list-with hosts texts same j) >>= λ listed. others-with hosts texts keep same j >>= rest

pub begun-with : (hosts : List HostText) (texts : List (List ℕ)) (rules : SiteRules) → length texts ≡ length hosts → site_begun (with_inventories hosts texts) rules ≡ site_begun hosts rules
unfolding site_begun
begun-with hosts texts rules same = lists-with hosts texts rules.keep (λ others. pinned_site others rules.pins >>= λ all. Ok (record { hosts = others.hosts; joined = all })) same

pub cost_begun-with : (hosts : List HostText) (texts : List (List ℕ)) (keep : KeepRules) (map_text : List ℕ) → length texts ≡ length hosts → cost_begun (with_inventories hosts texts) keep map_text ≡ cost_begun hosts keep map_text
unfolding cost_begun
cost_begun-with hosts texts keep map_text same = lists-with hosts texts keep (λ others. mapped_names map_text others.hosts >>= λ pairs. Ok (record { hosts = others.hosts; names = pairs })) same

-- ---- a site whose inventories were read

pub read-with : (hosts : List HostText) (texts : List (List ℕ)) (rules : SiteRules) (begun : BegunSite) (read : List (Host × List Entry)) → length texts ≡ length hosts → site_begun hosts rules ≡ Ok begun
    → each site_of (loaded_from begun.hosts texts) ≡ Ok read → site_read (with_inventories hosts texts) rules ≡ Ok (record { hosts = read; joined = begun.joined })
read-with hosts texts rules begun read same is accepted =
    site_is (with_inventories hosts texts) rules begun read (begun-with hosts texts rules same ∙ is)
    (ap (λ ts. each site_of (loaded_from begun.hosts ts)) (mtrees-with hosts texts same) ∙ accepted)
