-- What a merge leaves that ended early, and when an inventory is told to be too large.
use Rattle.std.proofs.Common.{◌≡◌, ◌+◌, ◌++◌, ℕ, List, length, map, arith, sym, ap, subst, ◌∙◌, inl, inr, append_assoc, length-append}
use Rattle.std.proofs.lemmas.List.{length-map}
use Rattle.std.proofs.lemmas.List.Elements.{Contains-append_left}
use Rattle.hosts_join.specs.declared.texts.HostText.{HostText}
use Rattle.site_tables.specs.declared.rules.SiteRules.{SiteRules}
use Rattle.unify.specs.declared.site_files.NamedText.{NamedText}
use Rattle.site_tables.specs.Rules.{rules_by}
use Rattle.unify_merge.specs.EarlyEnds.{AreAsBefore, EarlyEndsLeaveAll, EarlyEndsLeaveFiles, TooLargeIsTooLarge, WereAccepted, WholeFilesAreMerged}
use Rattle.unify_merge.specs.FirstReading.{ReadsOnly, readings_from}
use Rattle.unify_merge.specs.Ledger.{Ledger, Reading}
use Rattle.unify_merge.specs.Merge.{MergeBrokeOff}
use Rattle.unify_merge.specs.NamedFiles.{Have}
use Rattle.unify_merge.specs.SecondReading.{HasReadOneAtMost}

pub as_before : (old new : Ledger) → ReadsOnly old new → AreAsBefore old new
as_before old new same = record {
  clear = ap (λ (l : Ledger). l.is_clear) same;
  begun = ap (λ (l : Ledger). l.begun) same;
  finished = ap (λ (l : Ledger). l.finished) same;
  settled = ap (λ (l : Ledger). l.settled) same;
  writing = ap (λ (l : Ledger). l.writing) same;
}

read_since : (before : List Reading) (again : List (List ℕ)) (l : Ledger) → HasReadOneAtMost (before ++ readings_from 0 again) l → (more : List Reading) × (l.read ≡ before ++ more)
read_since before again l read = (readings_from 0 again ++ read.more, read.readings ∙ append_assoc before (readings_from 0 again) read.more)

were_accepted : (texts : List HostText) (rules : SiteRules) (old new : Ledger) → MergeBrokeOff texts rules old new → WereAccepted texts rules old.read new
were_accepted texts rules old new b =
    let since = read_since (old.read ++ readings_from 0 b.first) b.again new b.reads in
    (b.begun, b.begun_is, b.first, b.were, b.first_read, since.0, since.1)

pub early_ends_leave_all : EarlyEndsLeaveAll
early_ends_leave_all texts rules old new (inl same) = inl (as_before old new same)
early_ends_leave_all texts rules old new (inr b) = inr (were_accepted texts rules old new b)

pub early_ends_leave_files : EarlyEndsLeaveFiles
early_ends_leave_files texts pins keep old new (inl same) = inl (as_before old new same)
early_ends_leave_files texts pins keep old new (inr b) = inr (b.unowned, b.middle, b.surveyed, were_accepted texts (rules_by pins keep b.unowned) b.middle new b.holds)

pub whole_files_are_merged : WholeFilesAreMerged
whole_files_are_merged texts rules old new b =
    let f = b.files in
    let name_of : NamedText → List ℕ = λ file. file.name in
    let finished : new.finished ≡ f.whole = ap (λ (l : Ledger). l.finished) f.stands in
    let begun : new.begun ≡ map name_of (f.whole ++ f.next) = ap (λ (l : Ledger). l.begun) f.stands in
    let long : length new.begun ≡ length f.whole + length f.next = ap length begun ∙ length-map (f.whole ++ f.next) name_of ∙ length-append f.whole f.next in
    let short : length new.finished ≡ length f.whole = ap length finished in
    record {
      whole = λ name text has.
          (subst (λ (files : List NamedText). Have files name text) (sym f.are)
          (Contains-append_left f.whole (f.next ++ f.left) (record { name = name; text = text }) (subst (λ (files : List NamedText). Have files name text) finished has)));
      begun = omega (arith, f.one_at_most, long, short);
      settled = ap (λ (l : Ledger). l.settled) f.stands;
    }

pub too_large_is_too_large : TooLargeIsTooLarge
too_large_is_too_large l (host, text, is, more) = (record { host = host; text = text }, is, more)
