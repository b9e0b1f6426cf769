-- In which order the numbers stand that a survey finds.
use Rattle.std.proofs.Common.{◌≡◌, ℕ, List, [], ◌∷◌, ◌++◌, Some, Ok, sym, ap, ◌∙◌, append-nil, append_assoc}
use Rattle.std.specs.Prelude.{flat_map}
use Rattle.std.specs.List.{slice_get}
use Rattle.idtext.specs.First.{◌>>=◌, each}
use Rattle.idtext.proofs.OkLemmas.{bind_ok, each-ok, ok_same}
use Rattle.mtree_inv.specs.declared.entry.Entry.{Entry}
use Rattle.hosts_join.specs.declared.host.Host.{Host}
use Rattle.kept_accounts.specs.Reserving.{UnownedNumbers, no_numbers}
use Rattle.kept_accounts.specs.declared.reserving.UnownedNumber.{UnownedNumber}
use Rattle.survey.specs.Unowned.{on_host, unowned_gids, unowned_uids, unowned_with}
use Rattle.unify_texts.specs.declared.bundle_line.FileName.TheVariants as file
use Rattle.unify_texts.specs.Told.{in_file}
use Rattle.site_tables.specs.Loading.{loaded_from}
use Rattle.site_tables.specs.Survey.{listed_of, unowned_over}
use Rattle.site_tables.specs.SurveyLaws.{FoundNumbersStandInOrder, IsListedAt}
use Rattle.site_tables.specs.declared.host.Loaded.{Loaded}
use Rattle.site_tables.proofs.SurveyLaws.{apart, each-gives, listed-read, paired}

abbrev users_of : Host × List Entry → List UnownedNumber
users_of here = on_host here.0 (unowned_uids here.0 here.1)

abbrev groups_of : Host × List Entry → List UnownedNumber
groups_of here = on_host here.0 (unowned_gids here.0 here.1)

users_after : (before : UnownedNumbers) (listed : List (Host × List Entry)) → (unowned_over before listed).users ≡ before.users ++ flat_map users_of listed
users_after before [] = sym (append-nil before.users)
users_after before (here ∷ listed) = users_after (unowned_with before here.0 here.1) listed ∙ append_assoc before.users (users_of here) (flat_map users_of listed)

groups_after : (before : UnownedNumbers) (listed : List (Host × List Entry)) → (unowned_over before listed).groups ≡ before.groups ++ flat_map groups_of listed
groups_after before [] = sym (append-nil before.groups)
groups_after before (here ∷ listed) = groups_after (unowned_with before here.0 here.1) listed ∙ append_assoc before.groups (groups_of here) (flat_map groups_of listed)

module _ (hosts : List Host) (mtrees : List (List ℕ)) (listed : List (Host × List Entry)) (are : each listed_of (loaded_from hosts mtrees) ≡ Ok listed) (h : ℕ) (here : Host × List Entry) where
  listed_there : slice_get listed h ≡ Some here → IsListedAt hosts mtrees h here
  listed_there at =
      let from = each-ok listed_of (loaded_from hosts mtrees) listed are h here at in
      let both = apart hosts mtrees h from.0 from.1 in
      let read = listed-read from.0 here.0 here.1 from.2 in
      record { host_is = both.0 ∙ ap (λ x. Some x) read.0; mtree = from.0.mtree; mtree_is = both.1; read = read.1 }

  listed_back : IsListedAt hosts mtrees h here → slice_get listed h ≡ Some here
  listed_back is =
      let l : Loaded = record { host = here.0; mtree = is.mtree } in
      let it = each-gives listed_of (loaded_from hosts mtrees) listed are h l (paired hosts mtrees h here.0 is.mtree is.host_is is.mtree_is) in
      let gives : listed_of l ≡ Ok here = ap (λ r. in_file here.0.name file.Mtree r >>= λ files. Ok (here.0, files)) is.read in
      it.there ∙ ap (λ x. Some x) (ok_same it.given here (sym it.gives ∙ gives))

pub found_numbers_stand_in_order : FoundNumbersStandInOrder
found_numbers_stand_in_order hosts mtrees found finding =
    let listing = bind_ok (each listed_of (loaded_from hosts mtrees)) (λ listed. Ok (unowned_over no_numbers listed)) found finding in
    let same : unowned_over no_numbers listing.0 ≡ found = ok_same (unowned_over no_numbers listing.0) found listing.2 in
    record {
      listed = listing.0;
      listed_are = λ h here. (listed_there hosts mtrees listing.0 listing.1 h here, listed_back hosts mtrees listing.0 listing.1 h here);
      users = ap (λ (n : UnownedNumbers). n.users) (sym same) ∙ users_after no_numbers listing.0;
      groups = ap (λ (n : UnownedNumbers). n.groups) (sym same) ∙ groups_after no_numbers listing.0;
    }
