-- What is told of an inventory that has changed between its readings, and that it has.
use Rattle.std.proofs.Common.{◌≡◌, ◌<◌, ◌++◌, ◌∷◌, [], ℕ, List, length, map, codes, Some, Result, Ok, Err, refl, sym, ap, ◌∙◌, inl, inr, zero-add}
use Rattle.std.specs.Fmt.{digits}
use Rattle.std.specs.List.{slice_get}
use Rattle.std.specs.Option.{option_map}
use Rattle.std.proofs.lemmas.Option.{slice_get-map}
use Rattle.mtree_inv.specs.declared.entry.Entry.{Entry}
use Rattle.hosts_join.specs.declared.host.Host.{Host}
use Rattle.hosts_join.specs.declared.texts.HostText.{HostText}
use Rattle.unify_texts.specs.Faults.{words_of}
use Rattle.unify_texts.specs.Words.{shown}
use Rattle.unify_texts.specs.declared.fault.Fault.{Fault}
use Rattle.unify_texts.specs.declared.fault.Fault.TheVariants.{InventoryChanged}
use Rattle.unify.specs.Passes.{is_read}
use Rattle.unify.specs.SecondPass.{HaveSameCounts, or_changed, second_files, second_lines}
use Rattle.site_tables.specs.declared.rules.SiteRules.{SiteRules}
use Rattle.site_tables.proofs.FileLaws.{files_are_of_inventories}
use Rattle.unify.proofs.SameCountLaws.{same_counts_are_by_account}
use Rattle.unify_laws.proofs.Agreeing.{item_at}
use Rattle.unify_laws.proofs.OnePiece.{accepted_at}
use Rattle.unify_merge.specs.ChangesTold.{ChangesAreTold, HasChanged, IsAsBefore, WasAsBefore}
use Rattle.unify_merge.specs.FirstReading.{readings_from}
use Rattle.unify_merge.specs.Ledger.{Ledger, Reading}
use Rattle.unify_merge.specs.Merge.{IsSecondFault}
use Rattle.unify_merge.specs.SecondReading.{IsChange}
use Rattle.unify_merge.proofs.Fronts.{lines_owned}
use Rattle.unify_merge.proofs.ReadTexts.{as-many-begun, have_read, length-readings_from, reading_at}

-- ---- the inventory that has changed

-- a fault of what has come of it is one whatever comes after that
not_so_far : (host : Host) (were : List Entry) (text : List ℕ) (g : Fault) → is_read (second_lines host text) ≡ Err g → (more : List ℕ) → IsAsBefore host were (text ++ more) → ⊥
not_so_far host were text g bad more (files, its, many) =
    let fine = lines_owned host text more files ((files_are_of_inventories (record { host = host; mtree = text ++ more }) files).1 its) in
    let no : ◌≡◌ {A = Result (Unit {0}) Fault} (Ok tt) (Err g) = sym fine ∙ bad in
    absurd (cc)

not_whole : (host : Host) (were : List Entry) (text : List ℕ) → ((files : List Entry) → second_files host text ≡ Ok files → HaveSameCounts host were files → ⊥) → IsAsBefore host were text → ⊥
not_whole host were text changed (files, its, many) =
    changed files (ap (or_changed host) ((files_are_of_inventories (record { host = host; mtree = text }) files).1 its)) ((same_counts_are_by_account host were files).1 many)

has_changed : (host : Host) (were : List Entry) (h : ℕ) (before : List Reading) (l : Ledger) → IsChange host were h before l → HasChanged h host were before l
has_changed host were h before l (text, inl (reading, g, bad)) = (text, inl (reading.0, reading.1, not_so_far host were text g bad))
has_changed host were h before l (text, inr (read, changed)) = (text, inr (read, not_whole host were text changed))

-- ---- what is told

told_as : (host : List ℕ) → words_of (InventoryChanged host) ≡ codes "41" ∷ codes "InventoryChanged" ∷ codes "host" ∷ shown host ∷ []
unfolding digits
told_as host = refl

module _ (texts : List HostText) (rules : SiteRules) (old new : Ledger) (f : Fault) (is : IsSecondFault texts rules old new f) where
  -- the inventories of the hosts before it are as they were
  others : (k : ℕ) (host : Host) (were : List Entry) → slice_get is.were k ≡ Some (host, were) → k < length is.change.texts → WasAsBefore (readings_from 0 is.change.texts) k host were
  others k host were here less =
      let first : Host × List Entry → Host = λ h. h.0 in
      let text = item_at is.change.texts k less in
      let at : slice_get (map first is.were) k ≡ Some host = slice_get-map first is.were k ∙ ap (option_map first) here in
      let it = accepted_at (map first is.were) is.change.texts is.change.again k host text.0 is.change.accepted at text.1 in (
        text.0,
        reading_at 0 k k is.change.texts text.0 (sym (zero-add k)) text.1,
        (it.0, (files_are_of_inventories (record { host = host; mtree = text.0 }) it.0).0 it.1, (same_counts_are_by_account host were it.0).0 (is.change.same k host were it.0 here it.2)),
      )

pub changes_are_told : ChangesAreTold
changes_are_told texts rules old new f is =
    let each_host = as-many-begun texts rules is.begun is.begun_is in
    let once = old.read ++ readings_from 0 is.first in
    record {
      middle = once;
      once = have_read is.begun.hosts is.first is.were is.first_read.accepted texts old.read once is.first_read.one_each each_host refl;
      again = readings_from 0 is.change.texts;
      h = length is.change.texts;
      as_many = length-readings_from 0 is.change.texts;
      before = others texts rules old new f is;
      host = is.change.host;
      were = is.change.were;
      here = is.change.here;
      has_changed = has_changed is.change.host is.change.were (length is.change.texts) (once ++ readings_from 0 is.change.texts) new is.change.change.1;
      told = ap words_of is.change.change.0 ∙ told_as is.change.host.name;
    }
