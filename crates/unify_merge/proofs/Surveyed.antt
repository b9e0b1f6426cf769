-- Why a survey of inventories ended early, and one host more.
use Rattle.std.proofs.Common.{◌≡◌, ◌<◌, ◌++◌, ◌∷◌, [], ℕ, List, length, get_or, Ok, Err, Some, sym, ap, subst, ◌∙◌, inl, inr}
use Rattle.std.specs.Prelude.{IfSome}
use Rattle.std.specs.List.{slice_get}
use Rattle.std.proofs.lemmas.List.Sums.{fold-append}
use Rattle.std.proofs.lemmas.Option.{slice_get-get_or}
use Rattle.idtext.specs.First.{◌>>=◌, each}
use Rattle.mtree_inv.specs.declared.entry.Entry.{Entry}
use Rattle.hosts_join.specs.declared.host.Host.{Host}
use Rattle.kept_accounts.specs.Reserving.{UnownedNumbers}
use Rattle.survey.specs.Unowned.{unowned_with}
use Rattle.unify_texts.specs.Told.{told}
use Rattle.unify_texts.specs.declared.fault.Fault.{Fault}
use Rattle.site_tables.specs.Loading.{loaded_from}
use Rattle.site_tables.specs.Hosts.{lines_of}
use Rattle.unify.specs.Passes.{is_read}
use Rattle.unify.proofs.Passing.{each_push, loaded_push}
use Rattle.unify_merge.specs.FirstReading.{HasRead, IsReading}
use Rattle.unify_merge.specs.Ledger.{Ledger, Reading}
use Rattle.unify_merge.specs.FirstReading.{readings_from}
use Rattle.unify_merge.specs.Survey.{IsReadFault, StopsReading, StopsSurvey}
use Rattle.site_tables.specs.Survey.{inventory_of, listed_of, unowned_over}
use Rattle.unify_merge.specs.declared.fault.MergeFault.{MergeFault}
use Rattle.unify_merge.specs.declared.fault.MergeFault.TheVariants.{Refused}
use Rattle.unify_merge.proofs.Stops.{if_told, stops_map}

-- ---- one inventory

-- its lines have a fault
pub lines_refused : (host : Host) (index : ℕ) (text : List ℕ) (before : List Reading) (l : Ledger) (e : Fault) → IsReading before index text l → IfSome (told e) (λ f. is_read (lines_of host text) ≡ Err f) → StopsReading host index before l (Refused e)
lines_refused host index text before l e reading fault = if_told (told e) _ _ (λ f is. (text, inl (reading, is))) fault

-- the whole of it has
pub whole_refused : (host : Host) (index : ℕ) (text : List ℕ) (before : List Reading) (l : Ledger) (e : Fault) → HasRead before index text l → IfSome (told e) (λ f. is_read (inventory_of host text) ≡ Err f) → StopsReading host index before l (Refused e)
whole_refused host index text before l e read fault = if_told (told e) _ _ (λ f is. (text, inr (read, is))) fault

-- ---- those of all hosts

-- the reading of one ended early, and so did the survey
pub survey_stopped : (hosts : List Host) (texts : List (List ℕ)) (listed : List (Host × List Entry)) (host : Host) (index : ℕ) (old mid new : Ledger) (fault : MergeFault) → each listed_of (loaded_from hosts texts) ≡ Ok listed
    → length texts ≡ index → index < length hosts → host ≡ get_or hosts index host → mid.read ≡ old.read ++ readings_from 0 texts → StopsReading host index mid.read new fault → StopsSurvey hosts old new fault
survey_stopped hosts texts listed host index old mid new fault are at within is readings stops =
    let here : slice_get hosts index ≡ Some host = slice_get-get_or hosts index host within ∙ ap (λ (h : Host). Some h) (sym is) in
    stops_map _ _ new fault (λ f refused. record {
      texts = texts;
      listed = listed;
      are_listed = are;
      host = host;
      here = subst (λ k. slice_get hosts k ≡ Some host) (sym at) here;
      fault = subst (λ k. IsReadFault host k (old.read ++ readings_from 0 texts) new f) (sym at) (subst (λ b. IsReadFault host index b new f) readings refused);
    }) stops

-- the files of one inventory more
pub listed_more : (hosts : List Host) (texts : List (List ℕ)) (listed : List (Host × List Entry)) (host : Host) (index : ℕ) (text : List ℕ) (files : List Entry) → each listed_of (loaded_from hosts texts) ≡ Ok listed
    → length texts ≡ index → index < length hosts → host ≡ get_or hosts index host → inventory_of host text ≡ Ok files → each listed_of (loaded_from hosts (texts ++ text ∷ [])) ≡ Ok (listed ++ (host, files) ∷ [])
listed_more hosts texts listed host index text files are at within is read =
    let here : slice_get hosts index ≡ Some host = slice_get-get_or hosts index host within ∙ ap (λ (h : Host). Some h) (sym is) in
    let whole = loaded_push hosts texts host text (subst (λ k. slice_get hosts k ≡ Some host) (sym at) here) in
    ap (each listed_of) whole ∙ each_push listed_of (loaded_from hosts texts) (record { host = host; mtree = text }) listed (host, files) are (ap (λ r. r >>= λ fs. Ok (host, fs)) read)

-- and its numbers
pub numbers_more : (before mid after : UnownedNumbers) (listed : List (Host × List Entry)) (host : Host) (files : List Entry) → mid ≡ unowned_over before listed → after ≡ unowned_with mid host files → after ≡ unowned_over before (listed ++ (host, files) ∷ [])
numbers_more before mid after listed host files so_far is =
    is ∙ ap (λ found. unowned_with found host files) so_far ∙ sym (fold-append (λ found (here : Host × List Entry). unowned_with found here.0 here.1) before listed ((host, files) ∷ []))
