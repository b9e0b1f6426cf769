-- The merged group is read as the rows of its groups.
use Rattle.std.proofs.Common.{◌≡◌, ℕ, ◌<◌, ◌≤◌, true, false, List, [], ◌∷◌, ◌++◌, length, decimal, refl, sym, ap, ◌∙◌, append_assoc, arith, Some, Ok}
use Rattle.std.specs.Prelude.{nat_lt, slice_get}
use Rattle.std.specs.List.{find, join_with_byte}
use Rattle.std.specs.Str.{bytes_eq}
use Rattle.std.proofs.lemmas.Bool.{le-ltb}
use Rattle.std.proofs.lemmas.List.Elements.{recursion_from_All}
use Rattle.idtext.specs.Names.{is_lawful_name}
use Rattle.idtext.specs.Pieces.{fields_of}
use Rattle.idtext.proofs.NumberLemmas.{decimal-back}
use Rattle.accounts.specs.Rows.{Group, group_from}
use Rattle.accounts.specs.Rows as row
use Rattle.accounts.specs.Tables.{group_table}
use Rattle.accounts.proofs.AcceptedLemmas.{group_accepted}
use Rattle.hosts_join.specs.declared.host.Host.{Host}
use Rattle.hosts_join.specs.Accounts.{no_account}
use Rattle.hosts_join.specs.Rules.{account}
use Rattle.hosts_join.specs.Site.{Joined}
use Rattle.ownership.specs.declared.mapping.Mappings.{Mappings}
use Rattle.mergedfiles.specs.InPart.{GroupInPartReadsBack, IsNumberedInPart, WasReadInPart}
use Rattle.mergedfiles.specs.Order.{by_number}
use Rattle.mergedfiles.specs.ReadBack.{IsRowLine, IsMergedGroup, MergedGroupReadsBack}
use Rattle.mergedfiles.specs.Rows.{GroupRow, groups_named, first_of, joined_users}
use Rattle.mergedfiles.specs.Texts.{field, group_line, merged_group}
use Rattle.mergedfiles.proofs.Having.{groups-had}
use Rattle.mergedfiles.proofs.HostKnown.{all_is_in_part}
use Rattle.mergedfiles.proofs.ReadHosts.{first-on, some-first, host-holds, group-plain, all-members-plain}
use Rattle.mergedfiles.proofs.ReadLines.{IsPlain, Lacks, name-plain, decimal-plain, field-first, field-last, field-lacks, name-kept, name-not_compat}
use Rattle.mergedfiles.proofs.ReadMembers.{joined-are, members-plain, members-back}
use Rattle.mergedfiles.proofs.ReadOrder.{IsAt, IsOf, all-at, all-rows, ascends, ascending, names-apart, numbers-apart, looked-up, place-named}
use Rattle.mergedfiles.proofs.ReadText.{SaysRow, rows_by, zipped, reads-as, all-says}

-- ---- a line

-- a line without its newline
abbrev bare : List ℕ → List ℕ → ℕ → List ℕ → List ℕ
bare name password gid users = field name ++ (field password ++ (field (decimal gid) ++ users))

behind : (a b c d z : List ℕ) → a ++ b ++ c ++ d ++ z ≡ (a ++ (b ++ (c ++ d))) ++ z
behind a b c d z = simp append_assoc

module _ (name password : List ℕ) (gid : ℕ) (users : List ℕ) (lawful : is_lawful_name name ≡ true) (secret : IsPlain password) (group : gid ≤ 4294967294) (plain : IsPlain users) where
  bare-fields : fields_of (bare name password gid users) ≡ name ∷ password ∷ decimal gid ∷ users ∷ []
  bare-fields =
      field-first name _ (name-plain name lawful)
      ∙ ap (λ fs. name ∷ fs) (field-first password _ secret
      ∙ ap (λ fs. password ∷ fs) (field-first (decimal gid) users (decimal-plain gid group)
      ∙ ap (λ fs. decimal gid ∷ fs) (field-last users plain)))

  bare-lacks : Lacks 10 (bare name password gid users)
  bare-lacks = field-lacks name _ (name-plain name lawful) (field-lacks password _ secret (field-lacks (decimal gid) users (decimal-plain gid group) plain.1))

  abbrev read_row : ℕ → Group
  read_row n = record { line = n; name = name; password = password; gid = gid; members = users }

  bare-row : (n : ℕ) → group_from n (fields_of (bare name password gid users)) ≡ Ok (read_row n)
  bare-row n = ap (group_from n) bare-fields ∙ (rw (lawful, decimal-back gid group) refl)

-- ---- a group of a site

module _ (hosts : List Host) (site : Joined) (m : Mappings) (is : IsNumberedInPart hosts site m) where
  abbrev text_of : ℕ × ℕ → List ℕ
  text_of p = merged_group hosts (account site.groups p.0).name p.1

  abbrev IsGroup : Group → Type 0
  IsGroup = IsMergedGroup hosts site m

  abbrev Is : ℕ × ℕ → Group → Type 0
  Is = IsOf (λ (group : Group). group.name) (λ (group : Group). group.gid) IsGroup site.groups m.groups

  abbrev group_row : Host → Group → GroupRow
  group_row host group = record { host = host; row = group }

  -- the line of a name whose first row, on a host that was read, is this
  line-of : (p : ℕ × ℕ) → IsAt m.groups p → (h : ℕ) (host : Host) (group : Group) → slice_get hosts h ≡ Some host → find (λ group. bytes_eq (account site.groups p.0).name group.name) host.groups ≡ Some group
      → first_of (groups_named (account site.groups p.0).name hosts) ≡ Some (group_row host group) → SaysRow group_from text_of Is p
  line-of p at h host group here found first =
      let name = (account site.groups p.0).name in
      let within : p.0 < length site.groups.names = omega (arith, at.0, is.for_groups) in
      let plain = group-plain host name group (host-holds WasReadInPart hosts h host is.read here) found in
      let members = joined-are (groups_named name hosts) (all-members-plain name hosts (recursion_from_All WasReadInPart hosts is.read)) in
      let users = join_with_byte 44 (joined_users (groups_named name hosts)) in
      let between : IsPlain users = members-plain (joined_users (groups_named name hosts)) members in
      let lawful : is_lawful_name name ≡ true = is.lawful.groups.lawful p.0 no_account within in
      let number : p.1 ≤ 4294967294 = omega (arith, at.1, is.groups.ids p.0 0 at.0) in
      record {
        line = bare name group.password p.1 users;
        ends = ap (group_line name p.1 (joined_users (groups_named name hosts))) first ∙ behind (field name) (field group.password) (field (decimal p.1)) users (10 ∷ []);
        one = bare-lacks name group.password p.1 users lawful plain.password number between;
        kept = name-kept name _ lawful;
        not_compat = name-not_compat name _ lawful;
        row = read_row name group.password p.1 users lawful plain.password number between;
        read = bare-row name group.password p.1 users lawful plain.password number between;
        is = λ n. (
          refl,
          refl,
          record {
            gid = (p.0, place-named site.groups p.0 is.lawful.groups within, sym at.1);
            first = group_row host group;
            first_is = first;
            password = refl;
            list = refl;
            members = members-back (joined_users (groups_named name hosts)) members;
          },
        );
      }

  says : (p : ℕ × ℕ) → IsAt m.groups p → SaysRow group_from text_of Is p
  says p at =
      let name = (account site.groups p.0).name in
      let within : p.0 < length site.groups.names = omega (arith, at.0, is.for_groups) in
      let first = some-first (groups_named name hosts) (λ none. groups-had hosts site p.0 is.joined within none) in
      let on = first-on (λ (host : Host). host.groups) (λ (group : Group). bytes_eq name group.name) group_row hosts first.0 first.1 in
      line-of p at on.h on.host on.row on.here on.found (first.1 ∙ ap (λ f. Some f) (sym on.made))

-- ---- the whole text

pub passes : (n : ℕ) (line : List ℕ) (group : Group) → n ≤ 65536 → length line ≤ 65535 → IsRowLine group_from n line group → row.group_line n line ≡ Ok (Some group)
unfolding row.group_line
passes n line group few short is =
    let number : nat_lt 65536 n ≡ false = le-ltb 65536 n few in
    let long : nat_lt 65535 (length line) ≡ false = le-ltb 65535 (length line) short in
    rw (number, long, is.kept, is.not_compat, is.read) refl

pub group_in_part_back : GroupInPartReadsBack
group_in_part_back hosts site m is =
    let text = text_of hosts site m is in
    let Of = Is hosts site m is in
    let all = all-says (IsAt m.groups) (SaysRow group_from text Of) (says hosts site m is) (by_number m.groups) (all-at m.groups) in
    let rows = rows_by group_from text Of 1 (by_number m.groups) all in
    let z = zipped group_from text Of 1 (by_number m.groups) all in
    let asc = ascends m.groups is.groups.distinct in
    let name = λ (group : Group). group.name in
    let number = λ (group : Group). group.gid in
    let names = names-apart name number (IsMergedGroup hosts site m) site.groups m.groups (λ group of. of.gid) (by_number m.groups) rows asc z in
    record {
      rows = rows;
      reads = reads-as group_from text Of row.group_line name number passes group_table (by_number m.groups) all (group_accepted _ rows).1 names (numbers-apart name number (IsMergedGroup hosts site m) site.groups m.groups (by_number m.groups) rows asc z);
      say = record {
        each_row = all-rows name number (IsMergedGroup hosts site m) site.groups m.groups (by_number m.groups) rows z;
        once = names;
        ascending = ascending name number (IsMergedGroup hosts site m) site.groups m.groups (by_number m.groups) rows asc z;
        each_name = looked-up name number (IsMergedGroup hosts site m) site.groups m.groups rows is.for_groups is.groups.distinct z;
      };
    }

pub group_reads_back : MergedGroupReadsBack
group_reads_back hosts site m is = group_in_part_back hosts site m (all_is_in_part hosts site m is)
