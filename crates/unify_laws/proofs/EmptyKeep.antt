-- An empty keep text is as none.
use Rattle.std.proofs.Common.{◌≡◌, ℕ, List, [], ◌∷◌, map, Result, Ok, Err, refl, sym, ap, ◌∙◌}
use Rattle.idtext.specs.First.{◌>>=◌, each}
use Rattle.idtext.proofs.OkLemmas.{bind_ok, ok_same}
use Rattle.hosts_join.specs.Checks.{hosts_checked}
use Rattle.hosts_join.specs.PinPairs.{PinPairs}
use Rattle.hosts_join.specs.PinsText.{pins_of}
use Rattle.hosts_join.specs.Site.{Joined, joined_site}
use Rattle.hosts_join.specs.declared.texts.HostText.{HostText}
use Rattle.kept_accounts.specs.Reserving.{UnownedNumbers}
use Rattle.hosts_join.proofs.ReservedLaws.{pins_reserve_nothing}
use Rattle.unify_texts.specs.Maps.{map_of}
use Rattle.unify_texts.specs.declared.fault.Fault.{Fault}
use Rattle.site_tables.specs.declared.host.Loaded.{Loaded}
use Rattle.site_tables.specs.Mapped.{mapped_names, names_checked}
use Rattle.unify.specs.Count.{count_of, site_of, total_of}
use Rattle.site_tables.specs.Hosts.{host_of}
use Rattle.site_tables.specs.Loading.{loaded_from}
use Rattle.site_tables.specs.Others.{Others, keeping_nothing, others_loaded, others_read, pinned_site, reserving}
use Rattle.unify.specs.Reading.{WholeSite, site_read}
use Rattle.site_tables.specs.Told.{in_pins, in_site}
use Rattle.site_tables.proofs.LoadedFrom.{loaded_from-parts}
use Rattle.site_tables.proofs.LeftHosts.{all-left}
use Rattle.site_tables.proofs.LoadedHosts.{as_loaded, loaded-unsparing}
use Rattle.site_tables.proofs.ReadSites.{pins-ok}
use Rattle.unify_laws.specs.Laws.{EmptyKeepCountsAll, EmptyKeepIsNone}

mtrees-kept : (texts : List HostText) (loaded : List Loaded) → each host_of texts ≡ Ok loaded → map (λ t. t.mtree) texts ≡ map (λ l. l.mtree) loaded
unfolding each
mtrees-kept [] loaded h = ap (λ ls. map (λ (l : Loaded). l.mtree) ls) (ok_same [] loaded h)
mtrees-kept (t ∷ texts) loaded h =
    let first = bind_ok (host_of t) (λ l. each host_of texts >>= λ ls. Ok (l ∷ ls)) loaded h in
    let rest = bind_ok (each host_of texts) (λ ls. Ok (first.0 ∷ ls)) loaded first.2 in
    ap (λ m. m ∷ map (λ (x : HostText). x.mtree) texts) (as_loaded t first.0 first.1).1
    ∙ ap (λ ms. first.0.mtree ∷ ms) (mtrees-kept texts rest.0 rest.1)
    ∙ ap (λ ls. map (λ (l : Loaded). l.mtree) ls) (ok_same (first.0 ∷ rest.0) loaded rest.2)

-- the hosts that were loaded, with the texts of the inventories, are what was loaded
loaded-again : (texts : List HostText) (loaded : List Loaded) → each host_of texts ≡ Ok loaded → loaded_from (map (λ l. l.host) loaded) (map (λ t. t.mtree) texts) ≡ loaded
loaded-again texts loaded h = ap (λ ms. loaded_from (map (λ (l : Loaded). l.host) loaded) ms) (mtrees-kept texts loaded h) ∙ loaded_from-parts loaded

-- a step whose rest is told in two ways
same-rest : {A B F : Type 0} (r : Result A F) (one other : A → Result B F) → ((x : A) → r ≡ Ok x → one x ≡ other x) → (r >>= one) ≡ (r >>= other)
same-rest (Ok x) one other h = h x refl
same-rest (Err e) one other h = refl

-- a step whose first part is told in two ways
joined-steps : {A B C F : Type 0} (r : Result A F) (next : A → Result B F) (rest : B → Result C F) → ((r >>= next) >>= rest) ≡ (r >>= λ x. next x >>= rest)
joined-steps (Ok x) next rest = refl
joined-steps (Err e) next rest = refl

-- all rows of the hosts
abbrev all_of : List Loaded → Others
all_of loaded = record { hosts = map (λ l. l.host) loaded; reserved_users = []; reserved_groups = [] }

-- what follows where nothing is kept
others-all : {C : Type 0} (texts : List HostText) (unowned : UnownedNumbers) (rest : Others → Result C Fault) → (others_loaded texts (keeping_nothing unowned) >>= rest) ≡ (each host_of texts >>= λ loaded. rest (all_of loaded))
unfolding others_loaded
others-all texts unowned rest =
    joined-steps (each host_of texts) (λ loaded. others_read (keeping_nothing unowned) (map (λ (l : Loaded). l.host) loaded)) rest
    ∙ same-rest (each host_of texts) _ _ (λ loaded h. ap (λ r. r >>= rest) (all-left (map (λ (l : Loaded). l.host) loaded) unowned (loaded-unsparing texts loaded h)))

-- a pins text reserves nothing
pinned-all : (loaded : List Loaded) (pins_text : List ℕ) → pinned_site (all_of loaded) pins_text ≡ (in_pins (pins_of pins_text) >>= λ pins. in_site (joined_site (map (λ l. l.host) loaded) pins))
pinned-all loaded pins_text = same-rest (in_pins (pins_of pins_text)) _ _
    (λ pins h.
    let none = pins_reserve_nothing pins_text pins (pins-ok (pins_of pins_text) pins h) in
    let same : reserving (all_of loaded) pins ≡ pins = λ i. record pins { reserved_users = sym none.0 i; reserved_groups = sym none.1 i } in
    ap (λ (p : PinPairs). in_site (joined_site (map (λ (l : Loaded). l.host) loaded) p)) same)

abbrev site_with : List Loaded → Joined → Result WholeSite Fault
site_with loaded joined = each site_of loaded >>= λ hosts. Ok (record { hosts = hosts; joined = joined })

pub empty_keep_is_none : EmptyKeepIsNone
unfolding site_read
empty_keep_is_none texts pins_text unowned =
    same-rest (in_site (hosts_checked texts)) _ _
    (λ listed l. others-all texts unowned _
    ∙ same-rest (each host_of texts) _ _
    (λ loaded h. (λ j. pinned-all loaded pins_text j >>= site_with (loaded-again texts loaded h j))
    ∙ joined-steps (in_pins (pins_of pins_text)) (λ (pins : PinPairs). in_site (joined_site (map (λ (l : Loaded). l.host) loaded) pins)) (site_with loaded)))

pub empty_keep_counts_all : EmptyKeepCountsAll
unfolding count_of
empty_keep_counts_all texts unowned map_text =
    same-rest (in_site (hosts_checked texts)) _ _
    (λ listed l. others-all texts unowned _
    ∙ same-rest (each host_of texts) _ _
    (λ loaded h. ap (λ ls. mapped_names map_text (map (λ (l : Loaded). l.host) loaded) >>= λ pairs. total_of pairs (each site_of ls)) (loaded-again texts loaded h)
    ∙ joined-steps (map_of map_text) _ _ ∙ same-rest (map_of map_text) _ _ (λ pairs m. joined-steps (names_checked pairs (map (λ (l : Loaded). l.host) loaded)) _ _)))
