-- What is told of an inventory that has changed between its readings, and that it has.
-- Source: this project's own rule.
use Rattle.std.specs.Prelude.{◌≡◌, ◌<◌, ◌⊎◌, ◌∷◌, ◌++◌, ℕ, List, [], Some, codes, length}
use Rattle.std.specs.Prelude.{slice_get}
use Rattle.mtree_inv.specs.declared.entry.Entry.{Entry}
use Rattle.hosts_join.specs.declared.host.Host.{Host}
use Rattle.hosts_join.specs.declared.texts.HostText.{HostText}
use Rattle.unify_texts.specs.Faults.{words_of}
use Rattle.unify_texts.specs.Words.{shown}
use Rattle.unify_texts.specs.declared.fault.Fault.{Fault}
use Rattle.site_tables.specs.FileLaws.{AreItsFiles}
use Rattle.unify.specs.SameCountLaws.{OwnAsMany}
use Rattle.site_tables.specs.declared.rules.SiteRules.{SiteRules}
use Rattle.unify_merge.specs.Ledger.{Ledger, Reading}
use Rattle.unify_merge.specs.Merge.{IsSecondFault}
use Rattle.unify_merge.specs.ReadTexts.{HaveReadFiles}

-- the text is an inventory of the host, and each account of the host owns as many of its files as
-- of those that were read before
abbrev pub IsAsBefore : Host → List Entry → List ℕ → Type 0
IsAsBefore host were text = (files : List Entry)
    × AreItsFiles (record { host = host; mtree = text }) files × OwnAsMany host were files

-- so it is of what was read as the inventory of the host with the index
abbrev pub WasAsBefore : List Reading → ℕ → Host → List Entry → Type 0
WasAsBefore readings h host were = (text : List ℕ)
    × (slice_get readings h ≡ Some (record { host = h; text = text })) × IsAsBefore host were text

-- It is not so of what was read last, after some readings, as the inventory of the host with the
-- index: of what has come of it, whatever may come after that; or of all of it.
abbrev pub HasChanged : ℕ → Host → List Entry → List Reading → Ledger → Type 0
HasChanged h host were before l = (text : List ℕ)
    × (((l.read ≡ before) × (l.reading ≡ Some (record { host = h; text = text }))
    × ((more : List ℕ) → IsAsBefore host were (text ++ more) → ⊥))
    ⊎ ((l.read ≡ before ++ record { host = h; text = text } ∷ [])
    × (IsAsBefore host were text → ⊥)))

-- 41 is told, with the host whose turn it was to be read again. The inventory of each host had been
-- read once. Those of the hosts before it are as they were when they are read again, and that of
-- this one has changed.
-- h: the index of the host; were: its files when they were read once
pub record TellsChange (texts : List HostText) (rules : SiteRules) (old new : Ledger) (f : Fault)
    (is : IsSecondFault texts rules old new f) : Type 0 where
  pub middle : List Reading
  pub once : HaveReadFiles texts is.were old.read middle
  pub again : List Reading
  pub h : ℕ
  pub as_many : length again ≡ h
  pub before : (k : ℕ) (host : Host) (were : List Entry) → slice_get is.were k ≡ Some (host, were)
      → k < h → WasAsBefore again k host were
  pub host : Host
  pub were : List Entry
  pub here : slice_get is.were h ≡ Some (host, were)
  pub has_changed : HasChanged h host were (middle ++ again) new
  pub told : words_of f
      ≡ codes "41" ∷ codes "InventoryChanged" ∷ codes "host" ∷ shown host.name ∷ []

-- so it is wherever a merge ends early since an inventory has changed
abbrev pub ChangesAreTold : Type 0
ChangesAreTold = (texts : List HostText) (rules : SiteRules) (old new : Ledger) (f : Fault)
    (is : IsSecondFault texts rules old new f) → TellsChange texts rules old new f is
