-- The turn of a host whose files are counted.
use Rattle.std.proofs.Common.{◌≡◌, ℕ, ◌+◌, ◌≤◌, Bool, true, false, List, [], ◌∷◌, ◌++◌, length, Option, Some, None, Result, Ok, Err, refl, sym, ap, subst, ◌∙◌, arith, append_assoc, append-nil, inl, inr, length-append}
use Rattle.std.specs.Prelude.{IfSome, IfNone, is_none}
use Rattle.idtext.specs.First.{◌>>=◌, first_fault, or_else, unless}
use Rattle.idtext.specs.Faults.{fault_told}
use Rattle.idtext.specs.declared.faults.ReadError.{ReadError}
use Rattle.idtext.specs.declared.faults.ReadError.TheVariants as read
use Rattle.idtext.proofs.FirstLemmas.{none_of_both}
use Rattle.mtree_inv.specs.declared.entry.Entry.{Entry}
use Rattle.mtree_inv.specs.Inventory.{inventory}
use Rattle.mtree_inv.specs.Standing as standing
use Rattle.mtree_inv.specs.Standing.{ReaderValue}
use Rattle.mtree_inv.proofs.FewLemmas.{inventory-few}
use Rattle.mtree_inv.proofs.LawfulLemmas.{reader-files}
use Rattle.hosts_join.specs.declared.host.Host.{Host}
use Rattle.unify_texts.specs.Told.{told}
use Rattle.unify_texts.specs.declared.fault.Fault.{Fault}
use Rattle.unify.specs.declared.turn.Turn.{Turn}
use Rattle.site_tables.specs.Hosts.{files_of, owner_fault, read_told}
use Rattle.unify.specs.Passes.{IsFaultOf, IsToldAs, is_read}
use Rattle.unify.specs.Turns.{AreCounted, IsAccepted, TurnsFor, met_at, or_memory, owner_told}
use Rattle.unify.specs.RowFiles.{RowFiles, row_files}
use Rattle.unify_texts.proofs.Faults.{memory_or, told_is}

-- ---- files after files

module _ {A F : Type 0} (judge : List A → A → Option F) where
  -- after items without a fault
  pub none_then : (seen xs ys : List A) → first_fault judge seen xs ≡ None → first_fault judge seen (xs ++ ys) ≡ first_fault judge (seen ++ xs) ys
  unfolding first_fault
  none_then seen [] ys h = ap (λ b. first_fault judge b ys) (sym (append-nil seen))
  none_then seen (x ∷ xs) ys h =
      let both = none_of_both (judge seen x) (first_fault judge (seen ++ x ∷ []) xs) h in
      ap (λ o. or_else o (first_fault judge (seen ++ x ∷ []) (xs ++ ys))) both.0 ∙ none_then (seen ++ x ∷ []) xs ys both.1 ∙ ap (λ b. first_fault judge b ys) (append_assoc seen (x ∷ []) xs)

  -- after the first fault
  some_then : (seen xs ys : List A) (f : F) → first_fault judge seen xs ≡ Some f → first_fault judge seen (xs ++ ys) ≡ Some f
  unfolding first_fault
  some_then seen [] ys f h = absurd (cc)
  some_then seen (x ∷ xs) ys f h = by (judge seen x) (λ k. some_then (seen ++ x ∷ []) xs ys f k) h
    where
      by : (o : Option F) → (first_fault judge (seen ++ x ∷ []) xs ≡ Some f → first_fault judge (seen ++ x ∷ []) (xs ++ ys) ≡ Some f) → or_else o (first_fault judge (seen ++ x ∷ []) xs) ≡ Some f → or_else o (first_fault judge (seen ++ x ∷ []) (xs ++ ys)) ≡ Some f
      by None more h = more h
      by (Some g) more h = h

pub is_owned_none : {X : Type 0} (o : Option X) (b : Bool) → b ≡ is_none o → b ≡ true → o ≡ None
is_owned_none None b is h = refl
is_owned_none (Some x) b is h = absurd (cc)

pub unowned_some : {X : Type 0} (o : Option X) (b : Bool) → b ≡ is_none o → b ≡ false → (x : X) × (o ≡ Some x)
unowned_some None b is h = absurd (cc)
unowned_some (Some x) b is h = (x, refl)

module _ (host : Host) where
  -- one file more
  pub counted_one : (rows new : RowFiles) (files : List Entry) (file : Entry) → AreCounted host rows None files → owner_fault host [] file ≡ None → (rows ≡ row_files host files → new ≡ row_files host (files ++ file ∷ []))
      → AreCounted host new None (files ++ file ∷ [])
  unfolding first_fault
  counted_one rows new files file counted owned more = (none_then (owner_fault host) [] files (file ∷ []) counted.0 ∙ ap (λ (o : Option Fault). or_else o None) owned, more counted.1)

  -- the first without an account
  pub counted_first : (rows new : RowFiles) (files done left whole : List Entry) (e : Entry) (b : Bool) → whole ≡ done ++ e ∷ left → AreCounted host rows None (files ++ done) → b ≡ is_none (owner_fault host [] e) → b ≡ false
      → AreCounted host new (Some e) (files ++ whole)
  unfolding first_fault
  counted_first rows new files done left whole e b are counted is unowned =
      let found = unowned_some (owner_fault host [] e) b is unowned in
      let behind : files ++ whole ≡ (files ++ done) ++ (e ∷ left) = ap (λ ws. files ++ ws) are ∙ sym (append_assoc files done (e ∷ left)) in
      let rest = first_fault (owner_fault host) (files ++ done ++ e ∷ []) left in
      (found.0, found.1, ap (first_fault (owner_fault host) []) behind ∙ none_then (owner_fault host) [] (files ++ done) (e ∷ left) counted.0 ∙ ap (λ (o : Option Fault). or_else o rest) found.1)

  -- files after the first without an account
  pub still_counted : (rows : RowFiles) (found : Option Entry) (e : Entry) (files more : List Entry) → found ≡ Some e → AreCounted host rows found files → AreCounted host rows found (files ++ more)
  still_counted rows None e files more is counted = absurd (cc)
  still_counted rows (Some x) e files more is counted = (counted.0, counted.1, some_then (owner_fault host) [] files more counted.0 counted.2)

  -- until then each has one
  pub counted_next : (old new : RowFiles) (was found : Option Entry) (files more : List Entry) → was ≡ None → AreCounted host old was files → ((fs : List Entry) → AreCounted host old None fs → AreCounted host new found (fs ++ more))
      → AreCounted host new found (files ++ more)
  counted_next old new (Some x) found files more is counted goes = absurd (cc)
  counted_next old new None found files more is counted goes = goes files counted

pub files_with : (host : Host) (text : List ℕ) (files : List Entry) (o : Option Fault) → inventory 16777216 text ≡ Ok files → first_fault (owner_fault host) [] files ≡ o → files_of (record { host = host; mtree = text }) ≡ (unless o (tt {0}) >>= λ u. Ok files)
unfolding files_of
files_with host text files o h is = rw (h, is) refl

pub files_fail : (host : Host) (most : ℕ) (text : List ℕ) (e : ReadError) → most ≡ 16777216 → IfSome (fault_told e) (λ f. inventory most text ≡ Err f) → IfSome (told (read_told host e)) (λ f. is_read (files_of (record { host = host; mtree = text })) ≡ Err f)
unfolding files_of
files_fail host most text read.Memory is h = tt
files_fail host most text (read.Fault f) is h =
    let g = rw is at h in
    rw g refl

-- ---- the fault that was met

pub met_finished : (host : Host) (fin : Bool) (o : Option ReadError) (u : Option Entry) → fin ≡ true → met_at host fin o u ≡ Some (owner_told host u)
met_finished host true o u h = refl
met_finished host false o u h = absurd (cc)

pub met_read : (host : Host) (fin : Bool) (o : Option ReadError) (u : Option Entry) (e : ReadError) → fin ≡ false → o ≡ Some e → met_at host fin o u ≡ Some (read_told host e)
met_read host fin o u e h k = rw (h, k) refl

pub met_none : (host : Host) (fin : Bool) (o : Option ReadError) (u : Option Entry) → fin ≡ false → o ≡ None → met_at host fin o u ≡ None
met_none host fin o u h k = rw (h, k) refl

-- a call that was answered with Ok met no fault before
pub sound_before : (o : Option ReadError) (P : ReadError → Type 0) (u : Unit {0}) → IfSome o (λ f. (◌≡◌ {A = Result (Unit {0}) ReadError} (Ok u) (Err f)) × P f) → o ≡ None
sound_before None P u h = refl
sound_before (Some f) P u h = let bad = h.0 in absurd (cc)

pub again_if : (P : Fault → Type 0) (o : Option Fault) (f : Fault) → o ≡ Some f → P f → IfSome o P
again_if P (Some g) f h p =
    let same : f ≡ g = (cc) in
    subst P same p
again_if P None f h p = absurd (cc)

-- ---- a piece, or the end

-- there is room for the files that came
pub room_after : (host : Host) (turn : Turn) (after : ReaderValue) (text fed : List ℕ) → TurnsFor host turn text
    → standing.StandsFor after fed → after.most ≡ turn.reader.most → standing.GrowAlike turn.reader.files after.files turn.reader.waiting after.waiting
    → IfNone turn.unowned ((files : List Entry) × (turn.rows ≡ row_files host files) × (length files + length after.waiting ≤ 2147483648))
room_after host turn after text fed turns stands same grow = by turn.unowned turns.counted
  where
    most : length after.files ≤ 16777216
    most = subst (λ n. length after.files ≤ n) (same ∙ turns.most) (reader-files after fed stands).1

    come : length turn.reader.files + length after.waiting ≤ 16777216
    come = omega (arith, most, ap length grow.1, length-append turn.reader.files grow.0, ap length grow.2, length-append turn.reader.waiting grow.0, ap length turns.waiting)

    by : (o : Option Entry) → AreCounted host turn.rows o turn.reader.files → IfNone o ((files : List Entry) × (turn.rows ≡ row_files host files) × (length files + length after.waiting ≤ 2147483648))
    by (Some e) counted = tt
    by None counted = (turn.reader.files, counted.1, omega (arith, come))

-- the files of a reader whose files that wait are all new
pub grown_files : (files new_files waiting new_waiting : List Entry) → standing.GrowAlike files new_files waiting new_waiting → waiting ≡ [] → new_files ≡ files ++ new_waiting
grown_files files new_files waiting new_waiting grow none = grow.1 ∙ ap (λ ws. files ++ ws) (sym (grow.2 ∙ ap (λ ws. ws ++ grow.0) none))

pub inventory_is : (text : List ℕ) (most : ℕ) (files : List Entry) → most ≡ 16777216 → inventory most text ≡ Ok files → inventory 16777216 text ≡ Ok files
inventory_is text most files is h = ap (λ n. inventory n text) (sym is) ∙ h

pub refused_at_end : (host : Host) (rows : RowFiles) (found : Option Entry) (e : Entry) (text : List ℕ) (files : List Entry) (said : Fault) → found ≡ Some e → AreCounted host rows found files
    → inventory 16777216 text ≡ Ok files → IsToldAs (owner_told host found) said → IfSome (told said) (λ f. is_read (files_of (record { host = host; mtree = text })) ≡ Err f)
refused_at_end host rows None e text files said is counted h as_told = absurd (cc)
refused_at_end host rows (Some x) e text files said is counted h (inr memory) = rw memory tt
refused_at_end host rows (Some x) e text files said is counted h (inl same) =
    let same_fault : said ≡ counted.0 = same ∙ ap or_memory counted.1 in
    told_is said (is_read (files_of (record { host = host; mtree = text }))) (ap is_read (files_with host text files (Some counted.0) h counted.2) ∙ ap (λ f. Err f) (sym same_fault))

pub accepted_at_end : (host : Host) (turn : Turn) (text : List ℕ) (files : List Entry) → turn.unowned ≡ None → AreCounted host turn.rows turn.unowned files → inventory 16777216 text ≡ Ok files → IsAccepted host turn text
accepted_at_end host turn text files none counted h =
    let fine : AreCounted host turn.rows None files = subst (λ o. AreCounted host turn.rows o files) none counted in
    record { files = files; are = files_with host text files None h fine.0; few = inventory-few 16777216 text files h; rows = fine.1 }

-- ---- the fault that is met at the end

-- that of the reader
pub met_by_reader : (host : Host) (text : List ℕ) (after : ReaderValue) (found : Option Entry) (e : ReadError) → after.is_finished ≡ false → after.fault ≡ Some e
    → IfSome (told (read_told host e)) (λ f. is_read (files_of (record { host = host; mtree = text })) ≡ Err f) → IfSome (met_at host after.is_finished after.fault found) (IsFaultOf host text)
met_by_reader host text after found e going is h = again_if (IsFaultOf host text) (met_at host after.is_finished after.fault found) (read_told host e) (met_read host after.is_finished after.fault found e going is)
    (memory_or (read_told host e) (is_read (files_of (record { host = host; mtree = text }))) h)

-- that of the first file that is not owned
pub met_by_owner : (host : Host) (text : List ℕ) (fin : Bool) (o : Option ReadError) (found : Option Entry) → fin ≡ true
    → IfSome (told (owner_told host found)) (λ f. is_read (files_of (record { host = host; mtree = text })) ≡ Err f) → IfSome (met_at host fin o found) (IsFaultOf host text)
met_by_owner host text fin o found finished h = again_if (IsFaultOf host text) (met_at host fin o found) (owner_told host found) (met_finished host fin o found finished)
    (memory_or (owner_told host found) (is_read (files_of (record { host = host; mtree = text }))) h)
