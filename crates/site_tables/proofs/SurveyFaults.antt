-- Which fault a survey tells: the first.
use Rattle.std.proofs.Common.{◌≡◌, ◌⊎◌, ℕ, true, List, [], ◌∷◌, map, Result, Ok, Err, inl, inr, refl, sym, ap, ◌∙◌}
use Rattle.std.proofs.lemmas.Bool.{cases_Bool, or_cases, or_left, or_right}
use Rattle.idtext.specs.First.{◌>>=◌, each}
use Rattle.idtext.proofs.OkLemmas.{bind_ok, ok_same}
use Rattle.mtree_inv.specs.declared.entry.Entry.{Entry}
use Rattle.hosts_join.specs.Checks.{hosts_checked}
use Rattle.hosts_join.specs.declared.host.Host.{Host}
use Rattle.hosts_join.specs.declared.texts.HostText.{HostText}
use Rattle.keep_text.specs.KeepTexts.{keep_of}
use Rattle.keep_text.specs.declared.keep_text.KeepFault.{KeepFault}
use Rattle.keep_text.specs.declared.keep_text.KeepText.{KeepText}
use Rattle.kept_accounts.specs.Reserving.{UnownedNumbers, no_numbers}
use Rattle.unify_texts.specs.declared.fault.Fault.{Fault}
use Rattle.site_tables.specs.Hosts.{host_of}
use Rattle.site_tables.specs.Loading.{loaded_from}
use Rattle.site_tables.specs.SiteLaws.{IsRefusedOr}
use Rattle.site_tables.specs.Survey.{found_on, inventory_of, keeps_unowned, listed_of, sparing_hosts, sparing_ranges, surveyed, surveyed_hosts, unowned_over}
use Rattle.site_tables.specs.SurveyLaws.{FirstFaultsOfSurveys, IsFirstOfSurvey}
use Rattle.site_tables.specs.Told.{in_keep, in_site}
use Rattle.site_tables.specs.declared.host.Loaded.{Loaded}
use Rattle.site_tables.proofs.FaultLaws.{assoc, bind_err, never_err}
use Rattle.site_tables.proofs.LoadedHosts.{of-texts}

-- ---- one item after the other

-- where the same items are refused with a fault, and the same are taken, the fault is the first of
-- both
module _ {A B C F : Type 0} (one : A → Result B F) (other : A → Result C F) (f : F) (fails : (x : A) → one x ≡ Err f → other x ≡ Err f) (passes : (x : A) (y : B) → one x ≡ Ok y → (z : C) × (other x ≡ Ok z)) where
  module _ (x : A) (xs : List A) (rest : each one xs ≡ Err f → each other xs ≡ Err f) where
    abbrev others : C → Result (List C) F
    others z = each other xs >>= λ zs. Ok (z ∷ zs)

    later : (y : B) (z : C) → (each one xs ≡ Err f) ⊎ ((ys : List B) × (each one xs ≡ Ok ys) × (◌≡◌ {A = Result (List B) F} (Ok (y ∷ ys)) (Err f))) → others z ≡ Err f
    later y z (inl told) = ap (λ r. r >>= λ zs. Ok (z ∷ zs)) (rest told)
    later y z (inr passed) = never_err (y ∷ passed.0) f passed.2

    first : (one x ≡ Err f) ⊎ ((y : B) × (one x ≡ Ok y) × ((each one xs >>= λ ys. Ok (y ∷ ys)) ≡ Err f)) → (other x >>= others) ≡ Err f
    first (inl told) = ap (λ r. r >>= others) (fails x told)
    first (inr passed) =
        let given = passes x passed.0 passed.1 in
        ap (λ r. r >>= others) given.1 ∙ later passed.0 given.0 (bind_err (each one xs) (λ ys. Ok (passed.0 ∷ ys)) f passed.2)

  each-fails : (xs : List A) → each one xs ≡ Err f → each other xs ≡ Err f
  unfolding each
  each-fails [] h = never_err [] f h
  each-fails (x ∷ xs) h = first x xs (each-fails xs) (bind_err (one x) (λ y. each one xs >>= λ ys. Ok (y ∷ ys)) f h)

each-of-map : {A B X F : Type 0} (g : A → Result B F) (h : X → A) (xs : List X) → each g (map h xs) ≡ each (λ x. g (h x)) xs
unfolding each
each-of-map g h [] = refl
each-of-map g h (x ∷ xs) = ap (λ r. g (h x) >>= λ y. r >>= λ ys. Ok (y ∷ ys)) (each-of-map g h xs)

-- ---- inventories

abbrev inventory_read : Loaded → Result (List Entry) Fault
inventory_read l = inventory_of l.host l.mtree

abbrev spared : KeepText → Loaded → Loaded
spared keep l = record { host = sparing_ranges keep l.host; mtree = l.mtree }

abbrev all_sparing : KeepText → List Loaded → List Host
all_sparing keep loaded = map (λ l. sparing_ranges keep l.host) loaded

loaded-spared : (keep : KeepText) (loaded : List Loaded) → loaded_from (all_sparing keep loaded) (map (λ l. l.mtree) loaded) ≡ map (spared keep) loaded
loaded-spared keep [] = refl
loaded-spared keep (l ∷ loaded) = ap (λ ls. spared keep l ∷ ls) (loaded-spared keep loaded)

mtrees-are : (texts : List HostText) (loaded : List Loaded) → each host_of texts ≡ Ok loaded → map (λ t. t.mtree) texts ≡ map (λ l. l.mtree) loaded
unfolding each
mtrees-are [] loaded h = ap (map (λ (l : Loaded). l.mtree)) (ok_same [] loaded h)
mtrees-are (t ∷ texts) loaded h =
    let first = bind_ok (host_of t) (λ l. each host_of texts >>= λ ls. Ok (l ∷ ls)) loaded h in
    let rest = bind_ok (each host_of texts) (λ ls. Ok (first.0 ∷ ls)) loaded first.2 in
    ap (λ m. m ∷ map (λ (t : HostText). t.mtree) texts) (of-texts t first.0 first.1).inventory
    ∙ ap (λ ms. first.0.mtree ∷ ms) (mtrees-are texts rest.0 rest.1)
    ∙ ap (map (λ (l : Loaded). l.mtree)) (ok_same (first.0 ∷ rest.0) loaded rest.2)

module _ (keep : KeepText) (f : Fault) where
  lists-fail : (l : Loaded) → inventory_read l ≡ Err f → listed_of (spared keep l) ≡ Err f
  lists-fail l h = ap (λ r. r >>= λ files. Ok (sparing_ranges keep l.host, files)) h

  lists-pass : (l : Loaded) (files : List Entry) → inventory_read l ≡ Ok files → (z : Host × List Entry) × (listed_of (spared keep l) ≡ Ok z)
  lists-pass l files h = ((sparing_ranges keep l.host, files), ap (λ r. r >>= λ files. Ok (sparing_ranges keep l.host, files)) h)

  reads-fail : (l : Loaded) → listed_of (spared keep l) ≡ Err f → inventory_read l ≡ Err f
  reads-fail l h = by (bind_err (inventory_read l) (λ files. Ok (sparing_ranges keep l.host, files)) f h)
    where
      by : (inventory_read l ≡ Err f) ⊎ ((files : List Entry) × (inventory_read l ≡ Ok files) × (◌≡◌ {A = Result (Host × List Entry) Fault} (Ok (sparing_ranges keep l.host, files)) (Err f))) → inventory_read l ≡ Err f
      by (inl told) = told
      by (inr passed) = never_err (sparing_ranges keep l.host, passed.0) f passed.2

  reads-pass : (l : Loaded) (here : Host × List Entry) → listed_of (spared keep l) ≡ Ok here → (files : List Entry) × (inventory_read l ≡ Ok files)
  reads-pass l here h = let reading = bind_ok (inventory_read l) (λ files. Ok (sparing_ranges keep l.host, files)) here h in (reading.0, reading.1)

-- ---- a survey

module _ (texts : List HostText) (f : Fault) where
  abbrev look : List Host → Result UnownedNumbers Fault
  look hosts = found_on hosts (map (λ t. t.mtree) texts)

  abbrev looked : KeepText → List Loaded → Result UnownedNumbers Fault
  looked keep loaded = look (all_sparing keep loaded)

  listed-are : (keep : KeepText) (loaded : List Loaded) → each host_of texts ≡ Ok loaded → each listed_of (loaded_from (all_sparing keep loaded) (map (λ t. t.mtree) texts)) ≡ each (λ l. listed_of (spared keep l)) loaded
  listed-are keep loaded are =
      ap (λ ms. each listed_of (loaded_from (all_sparing keep loaded) ms)) (mtrees-are texts loaded are)
      ∙ ap (each listed_of) (loaded-spared keep loaded)
      ∙ each-of-map listed_of (spared keep) loaded

  inventories-there : (keep : KeepText) (loaded : List Loaded) → each host_of texts ≡ Ok loaded → looked keep loaded ≡ Err f → each (λ l. inventory_of l.host l.mtree) loaded ≡ Err f
  inventories-there keep loaded are h = by (bind_err (each listed_of (loaded_from (all_sparing keep loaded) (map (λ t. t.mtree) texts))) (λ listed. Ok (unowned_over no_numbers listed)) f h)
    where
      by : (each listed_of (loaded_from (all_sparing keep loaded) (map (λ t. t.mtree) texts)) ≡ Err f)
          ⊎ ((listed : List (Host × List Entry)) × (each listed_of (loaded_from (all_sparing keep loaded) (map (λ t. t.mtree) texts)) ≡ Ok listed) × (◌≡◌ {A = Result UnownedNumbers Fault} (Ok (unowned_over no_numbers listed)) (Err f))) → each (λ l. inventory_of l.host l.mtree) loaded ≡ Err f
      by (inl told) = each-fails (λ l. listed_of (spared keep l)) inventory_read f (reads-fail keep f) (reads-pass keep f) loaded (sym (listed-are keep loaded are) ∙ told)
      by (inr passed) = never_err (unowned_over no_numbers passed.0) f passed.2

  inventories-back : (keep : KeepText) (loaded : List Loaded) → each host_of texts ≡ Ok loaded → each (λ l. inventory_of l.host l.mtree) loaded ≡ Err f → looked keep loaded ≡ Err f
  inventories-back keep loaded are h =
      ap (λ r. r >>= λ listed. Ok (unowned_over no_numbers listed))
      (listed-are keep loaded are ∙ each-fails inventory_read (λ l. listed_of (spared keep l)) f (lists-fail keep f) (lists-pass keep f) loaded h)

  -- the steps of a survey that is made
  steps : (keep : KeepText) → keeps_unowned keep ≡ true → (sparing_hosts texts keep >>= look) ≡ (in_site (hosts_checked texts) >>= λ listed. each host_of texts >>= looked keep)
  steps keep keeps =
      rw keeps
      (assoc (in_site (hosts_checked texts)) (λ listed. each host_of texts >>= λ loaded. Ok (all_sparing keep loaded)) look
      ∙ ap (λ r. in_site (hosts_checked texts) >>= λ (listed : Unit {0}). r) (assoc (each host_of texts) (λ loaded. Ok (all_sparing keep loaded)) look))

  abbrev OfHosts : Type 0
  OfHosts = IsRefusedOr (each host_of texts) f (λ loaded. each (λ (l : Loaded). inventory_of l.host l.mtree) loaded ≡ Err f)

  abbrev OfList : Type 0
  OfList = IsRefusedOr (in_site (hosts_checked texts)) f (λ listed. OfHosts)

  module _ (keep : KeepText) where
    hosts-there : (each host_of texts ≡ Err f) ⊎ ((loaded : List Loaded) × (each host_of texts ≡ Ok loaded) × (looked keep loaded ≡ Err f)) → OfHosts
    hosts-there (inl told) = inl told
    hosts-there (inr (loaded, are, h)) = inr (loaded, are, inventories-there keep loaded are h)

    hosts-back : OfHosts → (each host_of texts >>= looked keep) ≡ Err f
    hosts-back (inl told) = ap (λ r. r >>= looked keep) told
    hosts-back (inr (loaded, are, h)) = ap (λ r. r >>= looked keep) are ∙ inventories-back keep loaded are h

    list-there : (in_site (hosts_checked texts) ≡ Err f) ⊎ ((listed : Unit {0}) × (in_site (hosts_checked texts) ≡ Ok listed) × ((each host_of texts >>= looked keep) ≡ Err f)) → OfList
    list-there (inl told) = inl told
    list-there (inr (listed, l, h)) = inr (listed, l, hosts-there (bind_err (each host_of texts) (looked keep) f h))

    list-back : OfList → (in_site (hosts_checked texts) >>= λ listed. each host_of texts >>= looked keep) ≡ Err f
    list-back (inl told) = ap (λ r. r >>= λ (listed : Unit {0}). each host_of texts >>= looked keep) told
    list-back (inr (listed, l, h)) = ap (λ r. r >>= λ (listed : Unit {0}). each host_of texts >>= looked keep) l ∙ hosts-back h

  -- a survey that is not made is not refused
  none-refused : {Q : Type 0} → look [] ≡ Err f → Q
  unfolding each
  none-refused h = never_err no_numbers f h

  keep-there : (keep_text : List ℕ) (r : Result KeepText KeepFault) → keep_of keep_text ≡ r → (surveyed_hosts texts (in_keep r) >>= look) ≡ Err f → IsFirstOfSurvey texts keep_text f
  keep-there keep_text (Err e) is h = none-refused h
  keep-there keep_text (Ok keep) is h = elim (cases_Bool (keeps_unowned keep)) [
    | inl keeps ↦ (
      keep,
      is,
      or_cases keep.users.unowned keep.groups.unowned keeps,
      list-there keep (bind_err (in_site (hosts_checked texts)) (λ listed. each host_of texts >>= looked keep) f (sym (steps keep keeps) ∙ h)),
    )
    | inr not ↦ let none = rw not at h in none-refused none
  ]

  keeps-either : (keep : KeepText) → (keep.users.unowned ≡ true) ⊎ (keep.groups.unowned ≡ true) → keeps_unowned keep ≡ true
  keeps-either keep (inl is) = or_left keep.users.unowned keep.groups.unowned is
  keeps-either keep (inr is) = or_right keep.users.unowned keep.groups.unowned is

  first-there : (keep_text : List ℕ) → surveyed texts keep_text ≡ Err f → IsFirstOfSurvey texts keep_text f
  unfolding surveyed
  first-there keep_text h = keep-there keep_text (keep_of keep_text) refl h

  first-back : (keep_text : List ℕ) → IsFirstOfSurvey texts keep_text f → surveyed texts keep_text ≡ Err f
  unfolding surveyed
  first-back keep_text (keep, is, says, refused) =
      ap (λ r. surveyed_hosts texts (in_keep r) >>= look) is
      ∙ steps keep (keeps-either keep says)
      ∙ list-back keep refused

pub first_faults_of_surveys : FirstFaultsOfSurveys
first_faults_of_surveys texts keep_text f = (first-there texts f keep_text, first-back texts f keep_text)
