-- Inventories that are read whole.
use Rattle.std.proofs.Common.{◌≡◌, ℕ, zero, suc, ◌++◌, List, [], ◌∷◌, length, get_or, take, Some, Result, Ok, Err, refl, sym, ap, ◌∙◌, arith}
use Rattle.std.specs.List.{slice_get}
use Rattle.std.proofs.lemmas.Option.{same_Some, slice_get-get_or, slice_get_within}
use Rattle.idtext.specs.First.{◌>>=◌, each}
use Rattle.idtext.specs.declared.faults.TextFault.{TextFault}
use Rattle.idtext.proofs.OkLemmas.{bind_ok, each-ok, length-each, ok_same}
use Rattle.mtree_inv.specs.Inventory.{inventory_of_lines}
use Rattle.mtree_inv.specs.Logical.{whole_lines}
use Rattle.mtree_inv.specs.declared.entry.Entry.{Entry}
use Rattle.mtree_inv.proofs.StandLemmas.{whole_lines_refused}
use Rattle.hosts_join.specs.declared.host.Host.{Host}
use Rattle.unify_texts.specs.declared.bundle_line.FileName.TheVariants as file
use Rattle.unify_texts.specs.declared.fault.Fault.{Fault}
use Rattle.site_tables.specs.declared.host.Loaded.{Loaded}
use Rattle.unify.specs.Count.{site_of}
use Rattle.site_tables.specs.Hosts.{files_of, lines_of}
use Rattle.site_tables.specs.Loading.{loaded_from}
use Rattle.unify.specs.Passes.{is_read}
use Rattle.unify_texts.specs.Told.{in_file}

-- ---- one inventory

-- a fault of its whole lines is its own
pub lines_refused : (host : Host) (text : List ℕ) (f : Fault) → is_read (lines_of host text) ≡ Err f → is_read (files_of (record { host = host; mtree = text })) ≡ Err f
unfolding files_of
lines_refused host text f h = by (inventory_of_lines 16777216 (whole_lines text)) refl h
  where
    by : (r : Result (List Entry) TextFault) → inventory_of_lines 16777216 (whole_lines text) ≡ r → is_read (in_file host.name file.Mtree r) ≡ Err f → is_read (files_of (record { host = host; mtree = text })) ≡ Err f
    by (Ok files) e none = absurd (cc)
    by (Err t) e bad = rw (whole_lines_refused 16777216 text t e) bad

-- ---- inventory by inventory

pub read_refused : {A : Type 0} (r : Result A Fault) (f : Fault) → is_read r ≡ Err f → r ≡ Err f
read_refused (Ok x) f h = absurd (cc)
read_refused (Err e) f h = let same : e ≡ f = cc in ap (λ x. Err x) same

-- the one at an index is refused, after others that were accepted
pub refused_at : (hosts : List Host) (texts : List (List ℕ)) (read : List (Host × List Entry)) (k : ℕ) (host : Host) (text : List ℕ) (f : Fault) → each site_of (loaded_from hosts (take k texts)) ≡ Ok read
    → slice_get hosts k ≡ Some host → slice_get texts k ≡ Some text → is_read (files_of (record { host = host; mtree = text })) ≡ Err f → each site_of (loaded_from hosts texts) ≡ Err f
unfolding each
refused_at [] texts read k host text f are here there bad = absurd (cc)
refused_at (h ∷ hosts) [] read k host text f are here there bad = absurd (cc)
refused_at (h ∷ hosts) (t ∷ texts) read zero host text f are here there bad =
    let same_host : h ≡ host = same_Some h host here in
    let same_text : t ≡ text = same_Some t text there in
    let mine : files_of (record { host = h; mtree = t }) ≡ Err f = (λ j. files_of (record { host = same_host j; mtree = same_text j })) ∙ read_refused _ f bad in
    ap (λ (r : Result (List Entry) Fault). (r >>= λ fs. Ok (h, fs)) >>= λ y. each site_of (loaded_from hosts texts) >>= λ ys. Ok (y ∷ ys)) mine
refused_at (h ∷ hosts) (t ∷ texts) read (suc k) host text f are here there bad =
    let front = loaded_from hosts (take k texts) in
    let first = bind_ok (site_of (record { host = h; mtree = t })) (λ y. each site_of front >>= λ ys. Ok (y ∷ ys)) read are in
    let rest = bind_ok (each site_of front) (λ ys. Ok (first.0 ∷ ys)) read first.2 in
    let more = refused_at hosts texts rest.0 k host text f rest.1 here there bad in
    ap (λ (r : Result (Host × List Entry) Fault). r >>= λ y. each site_of (loaded_from hosts texts) >>= λ ys. Ok (y ∷ ys)) first.1
    ∙ ap (λ (r : Result (List (Host × List Entry)) Fault). r >>= λ ys. Ok (first.0 ∷ ys)) more

-- the host at an index stands with the text at it
pub loaded_at : (hosts : List Host) (texts : List (List ℕ)) (k : ℕ) (host : Host) (text : List ℕ) → slice_get hosts k ≡ Some host → slice_get texts k ≡ Some text → slice_get (loaded_from hosts texts) k ≡ Some (record { host = host; mtree = text })
loaded_at [] texts k host text here there = absurd (cc)
loaded_at (h ∷ hosts) [] k host text here there = absurd (cc)
loaded_at (h ∷ hosts) (t ∷ texts) zero host text here there = λ j. Some (record { host = same_Some h host here j; mtree = same_Some t text there j })
loaded_at (h ∷ hosts) (t ∷ texts) (suc k) host text here there = loaded_at hosts texts k host text here there

-- what each host is paired with, index by index
pub pairs_at : (of : Loaded → Result (List Entry) Fault) (hosts : List Host) (texts : List (List ℕ)) (read : List (Host × List Entry)) (k : ℕ) (host : Host) (text : List ℕ) → each (λ l. of l >>= λ files. Ok (l.host, files)) (loaded_from hosts texts) ≡ Ok read
    → slice_get hosts k ≡ Some host → slice_get texts k ≡ Some text → (files : List Entry) × (of (record { host = host; mtree = text }) ≡ Ok files) × (slice_get read k ≡ Some (host, files))
pairs_at of hosts texts read k host text are here there =
    let l : Loaded = record { host = host; mtree = text } in
    let pair : Loaded → Result (Host × List Entry) Fault = λ x. of x >>= λ files. Ok (x.host, files) in
    let at = loaded_at hosts texts k host text here there in
    let item = slice_get-get_or read k (host, []) (omega (arith, slice_get_within (loaded_from hosts texts) k l at, length-each pair (loaded_from hosts texts) read are)) in
    let back = each-ok pair (loaded_from hosts texts) read are k (get_or read k (host, [])) item in
    let files = bind_ok (of l) (λ fs. Ok (host, fs)) (get_or read k (host, [])) (ap pair (same_Some l back.0 (sym at ∙ back.1)) ∙ back.2) in
    (files.0, files.1, item ∙ ap (λ (x : Host × List Entry). Some x) (sym (ok_same (host, files.0) (get_or read k (host, [])) files.2)))

-- the one at an index was accepted with all others
pub accepted_at : (hosts : List Host) (texts : List (List ℕ)) (read : List (Host × List Entry)) (k : ℕ) (host : Host) (text : List ℕ) → each site_of (loaded_from hosts texts) ≡ Ok read → slice_get hosts k ≡ Some host → slice_get texts k ≡ Some text
    → (files : List Entry) × (files_of (record { host = host; mtree = text }) ≡ Ok files) × (slice_get read k ≡ Some (host, files))
accepted_at = pairs_at files_of

-- ---- lists that grow

-- the item after a list, and those in it
pub at_end : {A : Type 0} (xs : List A) (x : A) (k : ℕ) → k ≡ length xs → slice_get (xs ++ x ∷ []) k ≡ Some x
at_end [] x zero is = refl
at_end [] x (suc k) is = absurd (omega (arith, is))
at_end (y ∷ xs) x zero is = absurd (omega (arith, is))
at_end (y ∷ xs) x (suc k) is = at_end xs x k (omega (arith, is))

pub at_front : {A : Type 0} (xs : List A) (x y : A) (k : ℕ) → slice_get xs k ≡ Some y → slice_get (xs ++ x ∷ []) k ≡ Some y
at_front [] x y k here = absurd (cc)
at_front (z ∷ xs) x y zero here = here
at_front (z ∷ xs) x y (suc k) here = at_front xs x y k here
