-- What a mapping of one kind keeps and changes, as the report tells it.
-- Source: this project's own formats.
use Rattle.std.specs.Prelude.{◌≡◌, ◌≢◌, ◌↔◌, ℕ, ◌+◌, ◌<◌, Bool, true, not, ◌&&◌, nat_lt, nat_eq}
use Rattle.std.specs.Prelude.{List, length, Any}
use Rattle.hosts_join.specs.Accounts.{Accounts, all_lines, lines}
use Rattle.hosts_join.specs.Count.{count_below}
use Rattle.hosts_join.specs.Rules.{account, class_at, is_free_class}
use Rattle.hosts_join.specs.declared.Class.TheVariants.{Pinned}
use Rattle.ownership.specs.Costs.{cost_of, changed_rows}
use Rattle.ownership.specs.Files.{File, owned_files}
use Rattle.ownership.specs.Fresh.{HasNewNumber}
use Rattle.ownership.specs.Mappings.{number_at}
use Rattle.unify_texts.specs.declared.figures.Figures.{Figures}

-- how many names are pinned
abbrev pub pinned_names : Accounts → ℕ
pinned_names a = count_below (λ i. not (is_free_class (class_at a i))) (length a.names)

-- how many free names have a number that they have on some host already
abbrev pub kept_names : Accounts → List ℕ → ℕ
kept_names a m =
    count_below (λ i. is_free_class (class_at a i)
    && nat_lt 0 (lines (account a i) (number_at m i))) (length a.names)

-- how many free names have another number
abbrev pub fresh_names : Accounts → List ℕ → ℕ
fresh_names a m =
    count_below (λ i. is_free_class (class_at a i)
    && nat_eq (lines (account a i) (number_at m i)) 0) (length a.names)

abbrev pub figures_of : Accounts → List File → List ℕ → Figures
figures_of a files m = record {
  names = length a.names;
  pinned = pinned_names a;
  kept = kept_names a m;
  fresh = fresh_names a m;
  files = owned_files a.names files;
  changed_files = cost_of a files m;
  rows = all_lines a.names;
  changed_rows = changed_rows a m;
}

-- each name is pinned, or keeps a number, or has a fresh one
abbrev pub FiguresAddUp : Type 0
FiguresAddUp =
    (a : Accounts) (m : List ℕ)
    → pinned_names a + kept_names a m + fresh_names a m ≡ length a.names

-- ---- which names a figure counts

abbrev pub IsPinned : Accounts → ℕ → Type 0
IsPinned a i = (v : ℕ) × (class_at a i ≡ Pinned v)

-- the name is not pinned, and has its number of the mapping on some host already
pub record KeepsNumber (a : Accounts) (m : List ℕ) (i : ℕ) : Type 0 where
  pub not_pinned : (v : ℕ) → class_at a i ≢ Pinned v
  pub on_some_host : Any (λ s. s.number ≡ number_at m i) (account a i).spots

-- so many names are such, by whatever tells which are
abbrev pub AreSoMany : Accounts → (ℕ → Type 0) → ℕ → Type 0
AreSoMany a IsSuch count = (tells : ℕ → Bool)
    → ((i : ℕ) → i < length a.names → (tells i ≡ true) ↔ IsSuch i)
    → count ≡ count_below tells (length a.names)

pub record CountTheirNames (a : Accounts) (m : List ℕ) (told : Figures) : Type 0 where
  pub pinned : AreSoMany a (IsPinned a) told.pinned
  pub kept : AreSoMany a (KeepsNumber a m) told.kept
  pub fresh : AreSoMany a (HasNewNumber a m) told.fresh

-- so many names are pinned, keep a number and have a new one as the figures tell
abbrev pub FiguresCountTheirNames : Type 0
FiguresCountTheirNames =
    (a : Accounts) (files : List File) (m : List ℕ) → CountTheirNames a m (figures_of a files m)
