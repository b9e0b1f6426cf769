-- A host's passwd with its new numbers is read as its rows renumbered.
use Rattle.std.proofs.Common.{◌≡◌, ℕ, List, [], ◌∷◌, refl, sym, ap, ◌∙◌, subst, Option, Some, None, Ok, is_ok, true}
use Rattle.std.specs.Prelude.{MatchOption}
use Rattle.std.specs.List.{AllByRecursion, filter, join_with_byte}
use Rattle.std.specs.Option.{option_and_then}
use Rattle.idtext.specs.Names.{is_lawful_name}
use Rattle.idtext.specs.Numbers.{id_of}
use Rattle.idtext.specs.Pieces.{fields_of}
use Rattle.accounts.specs.Rows.{Passwd, Group, passwd_from, passwd_line}
use Rattle.accounts.specs.Tables.{passwd_table}
use Rattle.accounts.proofs.AcceptedLemmas.{passwd_accepted}
use Rattle.hosts_join.specs.declared.host.Host.{Host}
use Rattle.hosts_join.specs.Accounts.{place_of}
use Rattle.hosts_join.specs.Kinds.{user_at, group_at}
use Rattle.hosts_join.specs.Rules.{is_name}
use Rattle.hosts_join.specs.Site.{Joined}
use Rattle.ownership.specs.Mappings.{number_under}
use Rattle.ownership.specs.declared.mapping.Mappings.{Mappings}
use Rattle.mergedfiles.specs.FullTables.{FullPasswdReadsBack, IsFullFile, IsFullUser, IsRenumbered, IsNumberedHost}
use Rattle.mergedfiles.specs.HostFiles.{host_users, new_number, new_primary, number_field, renumbered_line, renumbered_user}
use Rattle.mergedfiles.specs.HostReadBack.{HostPasswdReadsBack, IsRenumberedUser}
use Rattle.mergedfiles.specs.ReadBack.{HasNumber, IsRowLine}
use Rattle.mergedfiles.proofs.HostKnown.{all-users, group_name, group_number, in-full, new_user, user_name, user_number}
use Rattle.mergedfiles.proofs.HostLines.{joined-line}
use Rattle.mergedfiles.proofs.HostNames.{IsNumberedRow, joined-named, named-or-kept, numbered-rows}
use Rattle.mergedfiles.proofs.HostRows.{IsTold, full-file, told-of}
use Rattle.mergedfiles.proofs.HostSteps.{line-kept}
use Rattle.mergedfiles.proofs.NewFields.{name-field, primary-field}
use Rattle.mergedfiles.proofs.Places.{name-place}
use Rattle.mergedfiles.proofs.ReadLines.{IsPlain, Lacks, fields-plain}
use Rattle.mergedfiles.proofs.ReadText.{all-says}
use Rattle.mergedfiles.proofs.ReadUsers.{passes}
use Rattle.accounts.proofs.RowLemmas.{is-user}

pub told : (n : ℕ) (line : List ℕ) → is_ok (passwd_line n line) ≡ true → IsTold passwd_from n line (passwd_line n line)
unfolding passwd_line
told n line ok = told-of passwd_from n line ok

-- the fields of a row with this uid and this gid
abbrev bare : Passwd → List ℕ → List ℕ → List (List ℕ)
bare row uid gid = row.name ∷ row.password ∷ uid ∷ gid ∷ row.comment ∷ row.home ∷ row.shell ∷ []

bare-read : (row : Passwd) (uid gid : List ℕ) → is_lawful_name row.name ≡ true → id_of uid ≡ Some row.uid → id_of gid ≡ Some row.gid → passwd_from row.line (bare row uid gid) ≡ Ok row
bare-read row uid gid lawful user group = rw (lawful, user, group) refl

module _ (site : Joined) (m : Mappings) (full host : Host) (is : IsNumberedHost site m full host) where
  abbrev new : Passwd → Passwd
  new = new_user site m host

  abbrev renumbered : List (List ℕ) → List (List ℕ)
  renumbered = renumbered_user host site m

  made : (n : ℕ) (line : List ℕ) (row : Passwd) → Lacks 10 line → IsRowLine passwd_from n line row → IsRowLine passwd_from n (renumbered_line renumbered line) (new row) × Lacks 10 (renumbered_line renumbered line)
  made n line row lacks was =
      let fields = is-user n (fields_of line) row was.read in
      let plain = subst (λ (fs : List (List ℕ)). AllByRecursion IsPlain fs) fields.are (fields-plain line lacks) in
      let uid = number_field (new_number site.users m.users row.name) fields.uid in
      let gid = number_field (new_primary host site.groups m.groups fields.gid) fields.gid in
      let user = name-field site.users m.users is.users.numbers is.users.len row.name fields.uid row.uid (fields.user, plain.1.1.0) in
      let group = primary-field site.groups m.groups is.groups.numbers is.groups.len host fields.gid row.gid (fields.group, plain.1.1.1.0) in
      let all : AllByRecursion IsPlain (row.password ∷ uid ∷ gid ∷ row.comment ∷ row.home ∷ row.shell ∷ []) = (plain.1.0, (user.1, (group.1, plain.1.1.1.1))) in
      let is-line : renumbered_line renumbered line ≡ join_with_byte 58 (bare row uid gid) = line-kept renumbered line was.kept ∙ ap (λ fs. join_with_byte 58 (renumbered fs)) fields.are in
      let says : passwd_from n (bare row uid gid) ≡ Ok (new row) = ap (λ k. passwd_from k (bare row uid gid)) (sym fields.line) ∙ bare-read (new row) uid gid fields.lawful user.0 group.0 in
      let read = joined-line passwd_from n row.name row.password (uid ∷ gid ∷ row.comment ∷ row.home ∷ row.shell ∷ []) (new row) fields.lawful all says in
      subst (λ (t : List ℕ). IsRowLine passwd_from n t (new row) × Lacks 10 t) (sym is-line) read

  -- what is told of the text, where this is told of each row
  pub users-back : (Becomes : Passwd → Passwd → Type 0) → AllByRecursion (λ row. Becomes row (new row)) full.users → (text : List ℕ) → passwd_table text ≡ Ok full.users
      → IsFullFile passwd_from passwd_table user_at Becomes site.users m.users full.users host.users text (host_users host site m text)
  users-back Becomes becomes text read =
      full-file passwd_from passwd_line user_name user_number renumbered new told made passes Becomes passwd_table passwd_accepted site.users m.users (λ row. refl) (λ row. refl) full.users host.users text is.users becomes read

  -- ---- a row

  primary : (gid : ℕ) (o : Option (List ℕ)) → group_at host.groups gid ≡ o → MatchOption o (number_under m.groups (option_and_then (place_of site.groups.names) o) gid ≡ gid) (λ group. HasNumber site.groups m.groups group (number_under m.groups (option_and_then (place_of site.groups.names) o) gid))
  primary gid None e = refl
  primary gid (Some group) e =
      let named : group_at (filter (λ (row : Group). is_name site.groups.names row.name) full.groups) gid ≡ Some group = ap (λ rows. group_at rows gid) (sym is.groups.joined_are) ∙ e in
      let place = name-place site.groups.names group (joined-named group_name group_number site.groups gid group full.groups named) in
      (place.0, place.1, sym (ap (λ p. number_under m.groups p gid) place.1))

  becomes : (row : Passwd) → IsNumberedRow site.users m.users is.users.len is.users.numbers.distinct user_name user_number new (λ row. refl) row → IsFullUser host site m row (new row)
  becomes row numbered = record {
    line = refl;
    name = refl;
    password = refl;
    uid = named-or-kept site.users m.users is.users.len is.users.numbers.distinct user_name user_number new (λ row. refl) row numbered;
    gid = primary row.gid (group_at host.groups row.gid) refl;
    comment = refl;
    home = refl;
    shell = refl;
  }

  each-becomes : AllByRecursion (λ row. IsFullUser host site m row (new row)) full.users
  each-becomes =
      all-says (IsNumberedRow site.users m.users is.users.len is.users.numbers.distinct user_name user_number new (λ row. refl)) (λ row. IsFullUser host site m row (new row)) becomes full.users
      (numbered-rows site.users m.users is.users.len is.users.numbers.distinct user_name user_number new (λ row. refl) (λ row. refl) full.users is.users.kept)

-- ---- the whole text

pub full_passwd_back : FullPasswdReadsBack
full_passwd_back site m full host text is read = users-back site m full host is (IsFullUser host site m) (each-becomes site m full host is) text read

pub host_passwd_back : HostPasswdReadsBack
host_passwd_back hosts site m h host text is here read =
    let file = users-back site m host host (in-full hosts site m h host is here) (IsRenumberedUser host site m) (all-users hosts site m h host is here) text read in
    record {
      by_line = file.by_line;
      rows = file.rows;
      by_row = file.by_row;
      only = file.only;
      whole = file.whole;
      names_are_kept = λ uid number name had has. file.names_are_kept uid number (subst (λ (o : Option (List ℕ)). IsRenumbered site.users m.users o uid number) (sym had) has) ∙ had;
    }
