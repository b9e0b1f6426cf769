-- A host's group with its new numbers is read as its rows renumbered.
use Rattle.std.proofs.Common.{◌≡◌, ℕ, List, [], ◌∷◌, refl, sym, ap, ◌∙◌, subst, Option, Some, Ok, is_ok, true}
use Rattle.std.specs.List.{AllByRecursion, join_with_byte}
use Rattle.idtext.specs.Names.{is_lawful_name}
use Rattle.idtext.specs.Numbers.{id_of}
use Rattle.idtext.specs.Pieces.{fields_of}
use Rattle.accounts.specs.Rows.{Group, group_from}
use Rattle.accounts.specs.Rows as row
use Rattle.accounts.specs.Tables.{group_table}
use Rattle.accounts.proofs.AcceptedLemmas.{group_accepted}
use Rattle.hosts_join.specs.declared.host.Host.{Host}
use Rattle.hosts_join.specs.Kinds.{group_at}
use Rattle.hosts_join.specs.Site.{Joined}
use Rattle.ownership.specs.declared.mapping.Mappings.{Mappings}
use Rattle.mergedfiles.specs.FullTables.{FullGroupReadsBack, IsFullFile, IsFullGroup, IsRenumbered, IsNumberedHost}
use Rattle.mergedfiles.specs.HostFiles.{host_groups, new_number, number_field, renumbered_line, renumbered_group}
use Rattle.mergedfiles.specs.HostReadBack.{HostGroupReadsBack, IsRenumberedGroup}
use Rattle.mergedfiles.specs.ReadBack.{IsRowLine}
use Rattle.mergedfiles.proofs.HostKnown.{all-groups, group_name, group_number, in-full, new_group}
use Rattle.mergedfiles.proofs.HostLines.{joined-line}
use Rattle.mergedfiles.proofs.HostNames.{IsNumberedRow, named-or-kept, numbered-rows}
use Rattle.mergedfiles.proofs.HostRows.{IsTold, full-file, told-of}
use Rattle.mergedfiles.proofs.HostSteps.{line-kept}
use Rattle.mergedfiles.proofs.NewFields.{name-field}
use Rattle.mergedfiles.proofs.ReadLines.{IsPlain, Lacks, fields-plain}
use Rattle.mergedfiles.proofs.ReadText.{all-says}
use Rattle.mergedfiles.proofs.ReadGroups.{passes}
use Rattle.accounts.proofs.RowLemmas.{is-group}

pub told : (n : ℕ) (line : List ℕ) → is_ok (row.group_line n line) ≡ true → IsTold group_from n line (row.group_line n line)
unfolding row.group_line
told n line ok = told-of group_from n line ok

-- the fields of a row with this gid
abbrev bare : Group → List ℕ → List (List ℕ)
bare group gid = group.name ∷ group.password ∷ gid ∷ group.members ∷ []

bare-read : (group : Group) (gid : List ℕ) → is_lawful_name group.name ≡ true → id_of gid ≡ Some group.gid → group_from group.line (bare group gid) ≡ Ok group
bare-read group gid lawful number = rw (lawful, number) refl

module _ (site : Joined) (m : Mappings) (full host : Host) (is : IsNumberedHost site m full host) where
  abbrev new : Group → Group
  new = new_group site m

  abbrev renumbered : List (List ℕ) → List (List ℕ)
  renumbered = renumbered_group site m.groups

  made : (n : ℕ) (line : List ℕ) (group : Group) → Lacks 10 line → IsRowLine group_from n line group → IsRowLine group_from n (renumbered_line renumbered line) (new group) × Lacks 10 (renumbered_line renumbered line)
  made n line group lacks was =
      let fields = is-group n (fields_of line) group was.read in
      let plain = subst (λ (fs : List (List ℕ)). AllByRecursion IsPlain fs) fields.are (fields-plain line lacks) in
      let gid = number_field (new_number site.groups m.groups group.name) fields.gid in
      let number = name-field site.groups m.groups is.groups.numbers is.groups.len group.name fields.gid group.gid (fields.group, plain.1.1.0) in
      let all : AllByRecursion IsPlain (group.password ∷ gid ∷ group.members ∷ []) = (plain.1.0, (number.1, plain.1.1.1)) in
      let is-line : renumbered_line renumbered line ≡ join_with_byte 58 (bare group gid) = line-kept renumbered line was.kept ∙ ap (λ fs. join_with_byte 58 (renumbered fs)) fields.are in
      let says : group_from n (bare group gid) ≡ Ok (new group) = ap (λ k. group_from k (bare group gid)) (sym fields.line) ∙ bare-read (new group) gid fields.lawful number.0 in
      let read = joined-line group_from n group.name group.password (gid ∷ group.members ∷ []) (new group) fields.lawful all says in
      subst (λ (t : List ℕ). IsRowLine group_from n t (new group) × Lacks 10 t) (sym is-line) read

  -- what is told of the text, where this is told of each row
  pub groups-back : (Becomes : Group → Group → Type 0) → AllByRecursion (λ group. Becomes group (new group)) full.groups → (text : List ℕ) → group_table text ≡ Ok full.groups
      → IsFullFile group_from group_table group_at Becomes site.groups m.groups full.groups host.groups text (host_groups site m.groups text)
  groups-back Becomes becomes text read =
      full-file group_from row.group_line group_name group_number renumbered new told made passes Becomes group_table group_accepted site.groups m.groups (λ group. refl) (λ group. refl) full.groups host.groups text is.groups becomes read

  -- ---- a row

  becomes : (group : Group) → IsNumberedRow site.groups m.groups is.groups.len is.groups.numbers.distinct group_name group_number new (λ group. refl) group → IsFullGroup site m group (new group)
  becomes group numbered = record {
    line = refl;
    name = refl;
    password = refl;
    gid = named-or-kept site.groups m.groups is.groups.len is.groups.numbers.distinct group_name group_number new (λ group. refl) group numbered;
    members = refl;
  }

  each-becomes : AllByRecursion (λ group. IsFullGroup site m group (new group)) full.groups
  each-becomes =
      all-says (IsNumberedRow site.groups m.groups is.groups.len is.groups.numbers.distinct group_name group_number new (λ group. refl)) (λ group. IsFullGroup site m group (new group)) becomes full.groups
      (numbered-rows site.groups m.groups is.groups.len is.groups.numbers.distinct group_name group_number new (λ group. refl) (λ group. refl) full.groups is.groups.kept)

-- ---- the whole text

pub full_group_back : FullGroupReadsBack
full_group_back site m full host text is read = groups-back site m full host is (IsFullGroup site m) (each-becomes site m full host is) text read

pub host_group_back : HostGroupReadsBack
host_group_back hosts site m h host text is here read =
    let file = groups-back site m host host (in-full hosts site m h host is here) (IsRenumberedGroup site m) (all-groups hosts site m h host is here) text read in
    record {
      by_line = file.by_line;
      rows = file.rows;
      by_row = file.by_row;
      only = file.only;
      whole = file.whole;
      names_are_kept = λ gid number name had has. file.names_are_kept gid number (subst (λ (o : Option (List ℕ)). IsRenumbered site.groups m.groups o gid number) (sym had) has) ∙ had;
    }
