-- The merged passwd is read as the rows of its users.
use Rattle.std.proofs.Common.{◌≡◌, ℕ, ◌<◌, ◌≤◌, ◌==◌, true, false, List, [], ◌∷◌, ◌++◌, length, decimal, refl, sym, ap, ◌∙◌, subst, append_assoc, arith, Option, Some, Ok}
use Rattle.std.specs.Prelude.{MatchOption, is_some, nat_lt, slice_get}
use Rattle.std.specs.List.{find}
use Rattle.std.specs.Option.{option_map}
use Rattle.std.specs.Str.{bytes_eq}
use Rattle.std.proofs.lemmas.Bool.{le-ltb}
use Rattle.std.proofs.lemmas.List.Elements.{All-weaker}
use Rattle.idtext.specs.Names.{is_lawful_name}
use Rattle.idtext.specs.Pieces.{fields_of}
use Rattle.idtext.proofs.NumberLemmas.{decimal-back}
use Rattle.accounts.specs.Rows.{Passwd, Group, passwd_from, passwd_line}
use Rattle.accounts.specs.Tables.{passwd_table}
use Rattle.accounts.proofs.AcceptedLemmas.{passwd_accepted}
use Rattle.hosts_join.specs.declared.host.Host.{Host}
use Rattle.hosts_join.specs.Accounts.{no_account}
use Rattle.hosts_join.specs.Kinds.{group_at}
use Rattle.hosts_join.specs.Rules.{account}
use Rattle.hosts_join.specs.Site.{Joined}
use Rattle.ownership.specs.declared.mapping.Mappings.{Mappings}
use Rattle.mergedfiles.specs.InPart.{IsMergedUserInPart, IsNumberedInPart, PasswdInPartReadsBack, WasReadInPart}
use Rattle.mergedfiles.specs.Order.{by_number}
use Rattle.mergedfiles.specs.ReadBack.{HasNumber, IsRowLine, IsNumbered, IsMergedUser, MergedPasswdReadsBack, WasRead}
use Rattle.mergedfiles.specs.Rows.{UserRow, users_named, first_of}
use Rattle.mergedfiles.specs.Texts.{field, user_line, merged_user, new_gid}
use Rattle.mergedfiles.proofs.Having.{users-had}
use Rattle.mergedfiles.proofs.HostKnown.{all_is_in_part}
use Rattle.mergedfiles.proofs.Places.{is-there}
use Rattle.mergedfiles.proofs.ReadHosts.{all-primary, first-on, found-holds, some-first, host-holds, user-plain, primary-of}
use Rattle.mergedfiles.proofs.ReadLines.{Lacks, name-plain, decimal-plain, field-first, field-last, field-lacks, name-kept, name-not_compat}
use Rattle.mergedfiles.proofs.ReadOrder.{IsAt, IsOf, all-at, all-rows, ascends, ascending, names-apart, numbers-apart, looked-up, place-named}
use Rattle.mergedfiles.proofs.ReadRows.{HasPlainFields}
use Rattle.mergedfiles.proofs.ReadText.{SaysRow, rows_by, zipped, reads-as, all-says}

-- ---- a line

-- a line without its newline
abbrev bare : List ℕ → ℕ → ℕ → Passwd → List ℕ
bare name uid gid row = field name ++ (field row.password ++ (field (decimal uid) ++ (field (decimal gid) ++ (field row.comment ++ (field row.home ++ row.shell)))))

behind : (a b c d e f g z : List ℕ) → a ++ b ++ c ++ d ++ e ++ f ++ g ++ z ≡ (a ++ (b ++ (c ++ (d ++ (e ++ (f ++ g)))))) ++ z
behind a b c d e f g z = simp append_assoc

module _ (name : List ℕ) (uid gid : ℕ) (row : Passwd) (lawful : is_lawful_name name ≡ true) (user : uid ≤ 4294967294) (group : gid ≤ 4294967294) (plain : HasPlainFields row) where
  bare-fields : fields_of (bare name uid gid row) ≡ name ∷ row.password ∷ decimal uid ∷ decimal gid ∷ row.comment ∷ row.home ∷ row.shell ∷ []
  bare-fields =
      field-first name _ (name-plain name lawful)
      ∙ ap (λ fs. name ∷ fs) (field-first row.password _ plain.password
      ∙ ap (λ fs. row.password ∷ fs) (field-first (decimal uid) _ (decimal-plain uid user)
      ∙ ap (λ fs. decimal uid ∷ fs) (field-first (decimal gid) _ (decimal-plain gid group)
      ∙ ap (λ fs. decimal gid ∷ fs) (field-first row.comment _ plain.comment
      ∙ ap (λ fs. row.comment ∷ fs) (field-first row.home row.shell plain.home
      ∙ ap (λ fs. row.home ∷ fs) (field-last row.shell plain.shell))))))

  bare-lacks : Lacks 10 (bare name uid gid row)
  bare-lacks =
      field-lacks name _ (name-plain name lawful) (field-lacks row.password _ plain.password (field-lacks (decimal uid) _ (decimal-plain uid user)
      (field-lacks (decimal gid) _ (decimal-plain gid group) (field-lacks row.comment _ plain.comment (field-lacks row.home row.shell plain.home plain.shell.1)))))

  abbrev read_row : ℕ → Passwd
  read_row n = record { line = n; name = name; password = row.password; uid = uid; gid = gid; comment = row.comment; home = row.home; shell = row.shell }

  bare-row : (n : ℕ) → passwd_from n (fields_of (bare name uid gid row)) ≡ Ok (read_row n)
  bare-row n = ap (passwd_from n) bare-fields ∙ (rw (lawful, decimal-back uid user, decimal-back gid group) refl)

-- ---- a user of a site

module _ (hosts : List Host) (site : Joined) (m : Mappings) (is : IsNumberedInPart hosts site m) where
  abbrev text_of : ℕ × ℕ → List ℕ
  text_of p = merged_user site.groups m.groups hosts (account site.users p.0).name p.1

  abbrev IsUser : Passwd → Type 0
  IsUser = IsMergedUserInPart hosts site m

  abbrev Is : ℕ × ℕ → Passwd → Type 0
  Is = IsOf (λ (row : Passwd). row.name) (λ (row : Passwd). row.uid) IsUser site.users m.users

  abbrev user_row : Host → Passwd → UserRow
  user_row host row = record { host = host; row = row }

  -- the line of a name whose first row, on a host that was read, is this
  line-of : (p : ℕ × ℕ) → IsAt m.users p → (h : ℕ) (host : Host) (row : Passwd) → slice_get hosts h ≡ Some host → find (λ row. bytes_eq (account site.users p.0).name row.name) host.users ≡ Some row
      → first_of (users_named (account site.users p.0).name hosts) ≡ Some (user_row host row) → SaysRow passwd_from text_of Is p
  line-of p at h host row here found first =
      let name = (account site.users p.0).name in
      let within : p.0 < length site.users.names = omega (arith, at.0, is.for_users) in
      let plain = user-plain host name row (host-holds WasReadInPart hosts h host is.read here) found in
      let primary = primary-of site m.groups is.groups is.for_groups h host (is.knows h host here) row plain.gid in
      let gid = new_gid site.groups m.groups host row.gid in
      let lawful : is_lawful_name name ≡ true = is.lawful.users.lawful p.0 no_account within in
      let user : p.1 ≤ 4294967294 = omega (arith, at.1, is.users.ids p.0 0 at.0) in
      let group : gid ≤ 4294967294 = primary.small in
      record {
        line = bare name p.1 gid row;
        ends = ap (user_line site.groups m.groups name p.1) first ∙ behind (field name) (field row.password) (field (decimal p.1)) (field (decimal gid)) (field row.comment) (field row.home) row.shell (10 ∷ []);
        one = bare-lacks name p.1 gid row lawful user group plain;
        kept = name-kept name _ lawful;
        not_compat = name-not_compat name _ lawful;
        row = read_row name p.1 gid row lawful user group plain;
        read = bare-row name p.1 gid row lawful user group plain;
        is = λ n. (
          refl,
          refl,
          record {
            uid = (p.0, place-named site.users p.0 is.lawful.users within, sym at.1);
            first = user_row host row;
            first_is = first;
            gid = primary.is;
            password = refl;
            comment = refl;
            home = refl;
            shell = refl;
          },
        );
      }

  says : (p : ℕ × ℕ) → IsAt m.users p → SaysRow passwd_from text_of Is p
  says p at =
      let name = (account site.users p.0).name in
      let within : p.0 < length site.users.names = omega (arith, at.0, is.for_users) in
      let first = some-first (users_named name hosts) (λ none. users-had hosts site p.0 is.joined within none) in
      let on = first-on (λ (host : Host). host.users) (λ (row : Passwd). bytes_eq name row.name) user_row hosts first.0 first.1 in
      line-of p at on.h on.host on.row on.here on.found (first.1 ∙ ap (λ f. Some f) (sym on.made))

-- ---- the whole text

pub passes : (n : ℕ) (line : List ℕ) (row : Passwd) → n ≤ 65536 → length line ≤ 65535 → IsRowLine passwd_from n line row → passwd_line n line ≡ Ok (Some row)
unfolding passwd_line
passes n line row few short is =
    let number : nat_lt 65536 n ≡ false = le-ltb 65536 n few in
    let long : nat_lt 65535 (length line) ≡ false = le-ltb 65535 (length line) short in
    rw (number, long, is.kept, is.not_compat, is.read) refl

pub passwd_in_part_back : PasswdInPartReadsBack
passwd_in_part_back hosts site m is =
    let text = text_of hosts site m is in
    let Of = Is hosts site m is in
    let all = all-says (IsAt m.users) (SaysRow passwd_from text Of) (says hosts site m is) (by_number m.users) (all-at m.users) in
    let rows = rows_by passwd_from text Of 1 (by_number m.users) all in
    let z = zipped passwd_from text Of 1 (by_number m.users) all in
    let asc = ascends m.users is.users.distinct in
    let name = λ (row : Passwd). row.name in
    let number = λ (row : Passwd). row.uid in
    let names = names-apart name number (IsMergedUserInPart hosts site m) site.users m.users (λ row user. user.uid) (by_number m.users) rows asc z in
    record {
      rows = rows;
      reads = reads-as passwd_from text Of passwd_line name number passes passwd_table (by_number m.users) all (passwd_accepted _ rows).1 names (numbers-apart name number (IsMergedUserInPart hosts site m) site.users m.users (by_number m.users) rows asc z);
      say = record {
        each_row = all-rows name number (IsMergedUserInPart hosts site m) site.users m.users (by_number m.users) rows z;
        once = names;
        ascending = ascending name number (IsMergedUserInPart hosts site m) site.users m.users (by_number m.users) rows asc z;
        each_name = looked-up name number (IsMergedUserInPart hosts site m) site.users m.users rows is.for_users is.users.distinct z;
      };
    }

-- ---- where all was joined

module _ (hosts : List Host) (site : Joined) (m : Mappings) (is : IsNumbered hosts site m) where
  -- the group of a user on the first host is there
  abbrev HasGroup : UserRow → Type 0
  HasGroup user = (group : List ℕ) × (group_at user.host.groups user.row.gid ≡ Some group)

  has-group : (name : List ℕ) (first : UserRow) → first_of (users_named name hosts) ≡ Some first → HasGroup first
  has-group name first first_is =
      let on = first-on (λ (host : Host). host.users) (λ (row : Passwd). bytes_eq name row.name) (λ host row. record { host = host; row = row }) hosts first first_is in
      let read = host-holds WasRead hosts on.h on.host is.read on.here in
      let there = found-holds (λ (r : Passwd). is_some (find (λ (group : Group). r.gid == group.gid) on.host.groups) ≡ true) (λ (r : Passwd). bytes_eq name r.name) on.host.users on.row (all-primary on.host read.primary) on.found in
      let group = is-there (find (λ (group : Group). on.row.gid == group.gid) on.host.groups) there in
      subst HasGroup on.made (group.0.name, ap (option_map (λ (g : Group). g.name)) group.1)

  in-full : (row : Passwd) → IsMergedUserInPart hosts site m row → IsMergedUser hosts site m row
  in-full row user =
      let group = has-group row.name user.first user.first_is in
      record {
        uid = user.uid;
        first = user.first;
        first_is = user.first_is;
        group = group.0;
        primary = group.1;
        gid = subst (λ (o : Option (List ℕ)). MatchOption o (row.gid ≡ user.first.row.gid) (λ g. HasNumber site.groups m.groups g row.gid)) group.1 user.gid;
        password = user.password;
        comment = user.comment;
        home = user.home;
        shell = user.shell;
      }

pub passwd_reads_back : MergedPasswdReadsBack
passwd_reads_back hosts site m is =
    let part = passwd_in_part_back hosts site m (all_is_in_part hosts site m is) in
    record {
      rows = part.rows;
      reads = part.reads;
      say = record {
        each_row = All-weaker (IsMergedUserInPart hosts site m) (IsMergedUser hosts site m) (in-full hosts site m is) part.rows part.say.each_row;
        once = part.say.once;
        ascending = part.say.ascending;
        each_name = part.say.each_name;
      };
    }
