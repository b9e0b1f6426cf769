-- Each host's own files, one host after the other.
use Rattle.std.proofs.Common.{◌≡◌, ◌++◌, ◌∷◌, [], ℕ, zero, suc, List, map, take, drop, None, Some, Result, Ok, Err, sym, ap, ◌∙◌, append_assoc, append-nil}
use Rattle.std.specs.Prelude.{OnOk}
use Rattle.std.specs.List.{slice_get}
use Rattle.std.proofs.lemmas.List.{map-append}
use Rattle.std.proofs.lemmas.Option.{same_Some}
use Rattle.hosts_join.specs.Site.{Joined}
use Rattle.hosts_join.specs.declared.host.Host.{Host}
use Rattle.hosts_join.specs.declared.texts.HostText.{HostText}
use Rattle.ownership.specs.declared.mapping.Mappings.{Mappings}
use Rattle.unify.specs.declared.site_files.NamedText.{NamedText}
use Rattle.unify_laws.specs.HostTexts.{group_file, host_files, passwd_file}
use Rattle.unify_merge.specs.Ledger.{Ledger, after_files}
use Rattle.unify_merge.specs.HostFiles.{HasFiles}

-- what follows from a success
pub on_ok_goes : {T E : Type 0} (r : Result T E) (P Q : Type 0) → (P → Q) → OnOk r P → OnOk r Q
on_ok_goes (Ok x) P Q goes p = goes p
on_ok_goes (Err e) P Q goes p = tt

-- files after files
pub files_behind : (one two : List NamedText) (l : Ledger) → after_files two (after_files one l) ≡ after_files (one ++ two) l
files_behind one two l =
    let name_of : NamedText → List ℕ = λ file. file.name in
    let begun = append_assoc l.begun (map name_of one) (map name_of two) ∙ ap (λ ns. l.begun ++ ns) (sym (map-append name_of one two)) in
    let finished = append_assoc l.finished one two in
    λ j. record { read = l.read; reading = l.reading; is_clear = l.is_clear; begun = begun j; finished = finished j; settled = l.settled; writing = None }

-- no file as yet
pub none_written : (l : Ledger) → HasFiles [] l l
none_written l =
    let begun = sym (append-nil l.begun) in
    let finished = sym (append-nil l.finished) in
    λ j. record { read = l.read; reading = l.reading; is_clear = l.is_clear; begun = begun j; finished = finished j; settled = l.settled; writing = l.writing }

-- more files after those that were written
pub more_written : (one two : List NamedText) (old mid new : Ledger) → HasFiles one old mid → new ≡ after_files two mid → HasFiles (one ++ two) old new
more_written one two old mid new first then =
    let name_of : NamedText → List ℕ = λ file. file.name in
    let read = ap (λ (l : Ledger). l.read) then ∙ ap (λ (l : Ledger). l.read) first in
    let reading = ap (λ (l : Ledger). l.reading) then ∙ ap (λ (l : Ledger). l.reading) first in
    let clear = ap (λ (l : Ledger). l.is_clear) then ∙ ap (λ (l : Ledger). l.is_clear) first in
    let begun = ap (λ (l : Ledger). l.begun) then ∙ ap (λ (l : Ledger). l.begun ++ map name_of two) first ∙ append_assoc old.begun (map name_of one) (map name_of two) ∙ ap (λ ns. old.begun ++ ns) (sym (map-append name_of one two)) in
    let finished = ap (λ (l : Ledger). l.finished) then ∙ ap (λ (l : Ledger). l.finished ++ two) first ∙ append_assoc old.finished one two in
    let settled = ap (λ (l : Ledger). l.settled) then ∙ ap (λ (l : Ledger). l.settled) first in
    λ j. record { read = read j; reading = reading j; is_clear = clear j; begun = begun j; finished = finished j; settled = settled j; writing = new.writing }

-- ---- one host

-- the files of the hosts before it, its own, and those after it
pub host_files_from : (site : Joined) (m : Mappings) (texts : List HostText) (hosts : List Host) (k : ℕ) (text : HostText) (host : Host) → slice_get texts k ≡ Some text → slice_get hosts k ≡ Some host
    → host_files site m texts hosts ≡ host_files site m (take k texts) hosts ++ (passwd_file host site m text ∷ group_file site m text ∷ host_files site m (drop (suc k) texts) (drop (suc k) hosts))
host_files_from site m [] hosts k text host at there = absurd (cc)
host_files_from site m (t ∷ texts) [] k text host at there = absurd (cc)
host_files_from site m (t ∷ texts) (h ∷ hosts) zero text host at there =
    let same_text : t ≡ text = same_Some t text at in
    let same_host : h ≡ host = same_Some h host there in
    λ j. passwd_file (same_host j) site m (same_text j) ∷ group_file site m (same_text j) ∷ host_files site m texts hosts
host_files_from site m (t ∷ texts) (h ∷ hosts) (suc k) text host at there =
    let both : List NamedText → List NamedText = λ fs. passwd_file h site m t ∷ group_file site m t ∷ fs in
    ap both (host_files_from site m texts hosts k text host at there)
