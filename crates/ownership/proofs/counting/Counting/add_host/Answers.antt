use Rattle.std.proofs.Common.{◌≤◌, ◌+◌, length, sym, ap, subst, arith}
use Rattle.hosts_join.specs.Accounts.{Accounts}
use Rattle.hosts_join.specs.Kinds.{user_rows, group_rows}
use Rattle.ownership.specs.Counts.{CountFiles, Counted}
use Rattle.ownership.specs.Files.{by_user, by_group}
use Rattle.ownership.specs.CountedInside.{counted_so_far}
use Rattle.ownership.specs.HostFiles.{CountsFirstRows, CountsRows}
use Rattle.ownership.proofs.HostFiles.{users-all, users-by_rows, users-few, groups-all, groups-by_rows, groups-few, is_within, owned_both, counts_here}
use Rattle.ownership.proofs.NoteLemmas.{on_err}
use Rattle.ownership.proofs.RowSums.{rows-none}
use Rattle.ownership.proofs.counting.Counting.add_host.Goals as goal

pub all_files-requires : goal.all_files-requires
all_files-requires c =
    let here = c.requires.counted in
    let all = users-few c.args.site.now c.args.index c.args.host.now here.0 c.args.users.now c.args.groups.now c.requires.lawful_host c.requires.known here.2 here.1 in
    omega (arith, all, here.3)

pub overflow_add-self : goal.overflow_add-self
overflow_add-self c =
    let here = c.requires.counted in
    let all = users-few c.args.site.now c.args.index c.args.host.now here.0 c.args.users.now c.args.groups.now c.requires.lawful_host c.requires.known here.2 here.1 in
    let before : c.self.inside.user_files ≤ 1073741824 = omega (arith, ap (λ (k : Counted). k.user_files) c.self.view_is, c.requires.room.0) in
    omega (arith, all, here.3, c.all_files.ensures, before)

pub all_files-requires-2 : goal.all_files-requires-2
all_files-requires-2 c =
    let here = c.requires.counted in
    let all = groups-few c.args.site.now c.args.index c.args.host.now here.0 c.args.users.now c.args.groups.now c.requires.lawful_host c.requires.known here.2 here.1 in
    omega (arith, all, here.3)

pub overflow_add-self-2 : goal.overflow_add-self-2
overflow_add-self-2 c =
    let here = c.requires.counted in
    let all = groups-few c.args.site.now c.args.index c.args.host.now here.0 c.args.users.now c.args.groups.now c.requires.lawful_host c.requires.known here.2 here.1 in
    let before : c.self.inside.group_files ≤ 1073741824 = omega (arith, ap (λ (k : Counted). k.group_files) c.self.view_is, c.requires.room.1) in
    omega (arith, all, here.3, c.all_files-2.ensures, before)

pub add_rows-requires-clause-few : goal.add_rows-requires-clause-few
add_rows-requires-clause-few c =
    let here = c.requires.counted in
    let all = users-few c.args.site.now c.args.index c.args.host.now here.0 c.args.users.now c.args.groups.now c.requires.lawful_host c.requires.known here.2 here.1 in
    omega (arith, all, here.3)

pub invariant_of-self : goal.invariant_of-self
invariant_of-self c =
    let here = c.requires.counted in
    let site = c.args.site.now in
    let host = c.args.host.now in
    let users = c.args.users.now in
    let groups = c.args.groups.now in
    let by_users = users-few site c.args.index host here.0 users groups c.requires.lawful_host c.requires.known here.2 here.1 in
    let by_groups = groups-few site c.args.index host here.0 users groups c.requires.lawful_host c.requires.known here.2 here.1 in
    let users_before : c.self.inside.user_files ≤ 1073741824 = omega (arith, ap (λ (k : Counted). k.user_files) c.self.view_is, c.requires.room.0) in
    let groups_before : c.self.inside.group_files ≤ 1073741824 = omega (arith, ap (λ (k : Counted). k.group_files) c.self.view_is, c.requires.room.1) in
    let old : Counted = record { users = c.self.inside.users; groups = c.self.inside.groups; user_files = c.self.inside.user_files; group_files = c.self.inside.group_files } in
    is_within c.users.result.now.names c.args.site.now.groups.names c.args.index (user_rows host.users) (group_rows host.groups) users groups old c.add_rows.new.self c.self.inside.groups (c.self.inside.user_files + c.all_files.result) (c.self.inside.group_files + c.all_files-2.result)
    (omega (arith, c.all_files.ensures)) (omega (arith, c.all_files-2.ensures)) (omega (arith, users_before, c.all_files.ensures, by_users, here.3)) (omega (arith, groups_before, c.all_files-2.ensures, by_groups, here.3))
    c.add_rows.ensures.first.0 0 c.add_rows.ensures.first.1 (omega arith) c.add_rows.ensures.first.2 (rows-none c.args.site.now.groups.names c.args.index (group_rows host.groups) groups c.self.inside.groups) c.self.invariant

pub returns-in_err-add_rows-clause-first : goal.returns-in_err-add_rows-clause-first
returns-in_err-add_rows-clause-first c =
    let site = c.args.site.now in
    let index = c.args.index in
    let host = c.args.host.now in
    let users = c.args.users.now in
    let groups = c.args.groups.now in
    let new : Counted = record { users = c.add_rows.new.self; groups = c.self.inside.groups; user_files = c.self.inside.user_files + c.all_files.result; group_files = c.self.inside.group_files + c.all_files-2.result } in
    let first : CountsFirstRows site index host users groups (counted_so_far c.self.inside) new = record {
      of_passwd = c.add_rows.ensures.first.0;
      of_group = 0;
      users = subst (λ (a : Accounts). CountsRows a.names index (user_rows host.users) users c.add_rows.ensures.first.0 c.self.inside.users c.add_rows.new.self) c.users.ensures c.add_rows.ensures.first.2;
      groups = rows-none site.groups.names index (group_rows host.groups) groups c.self.inside.groups;
      user_files = ap (λ n. c.self.inside.user_files + n) c.all_files.ensures;
      group_files = ap (λ n. c.self.inside.group_files + n) c.all_files-2.ensures;
    } in
    rw (← c.self.view_is) (on_err c.from_residual.result first)

pub add_rows-requires-2-clause-few : goal.add_rows-requires-2-clause-few
add_rows-requires-2-clause-few c =
    let here = c.requires.counted in
    let all = groups-few c.args.site.now c.args.index c.args.host.now here.0 c.args.users.now c.args.groups.now c.requires.lawful_host c.requires.known here.2 here.1 in
    omega (arith, all, here.3)

pub invariant_of-self-in_err-add_rows-2 : goal.invariant_of-self-in_err-add_rows-2
invariant_of-self-in_err-add_rows-2 c =
    let here = c.requires.counted in
    let site = c.args.site.now in
    let host = c.args.host.now in
    let users = c.args.users.now in
    let groups = c.args.groups.now in
    let by_users = users-few site c.args.index host here.0 users groups c.requires.lawful_host c.requires.known here.2 here.1 in
    let by_groups = groups-few site c.args.index host here.0 users groups c.requires.lawful_host c.requires.known here.2 here.1 in
    let users_before : c.self.inside.user_files ≤ 1073741824 = omega (arith, ap (λ (k : Counted). k.user_files) c.self.view_is, c.requires.room.0) in
    let groups_before : c.self.inside.group_files ≤ 1073741824 = omega (arith, ap (λ (k : Counted). k.group_files) c.self.view_is, c.requires.room.1) in
    let old : Counted = record { users = c.self.inside.users; groups = c.self.inside.groups; user_files = c.self.inside.user_files; group_files = c.self.inside.group_files } in
    is_within c.users.result.now.names c.groups.result.now.names c.args.index (user_rows host.users) (group_rows host.groups) users groups old c.add_rows.new.self c.add_rows-2.new.self (c.self.inside.user_files + c.all_files.result) (c.self.inside.group_files + c.all_files-2.result)
    (omega (arith, c.all_files.ensures)) (omega (arith, c.all_files-2.ensures)) (omega (arith, users_before, c.all_files.ensures, by_users, here.3)) (omega (arith, groups_before, c.all_files-2.ensures, by_groups, here.3))
    c.add_rows.ensures.first.0 c.add_rows-2.ensures.first.0 c.add_rows.ensures.first.1 c.add_rows-2.ensures.first.1 c.add_rows.ensures.first.2 c.add_rows-2.ensures.first.2 c.self.invariant

pub returns-in_err-add_rows-2-clause-first : goal.returns-in_err-add_rows-2-clause-first
returns-in_err-add_rows-2-clause-first c =
    let site = c.args.site.now in
    let index = c.args.index in
    let host = c.args.host.now in
    let users = c.args.users.now in
    let groups = c.args.groups.now in
    let new : Counted = record { users = c.add_rows.new.self; groups = c.add_rows-2.new.self; user_files = c.self.inside.user_files + c.all_files.result; group_files = c.self.inside.group_files + c.all_files-2.result } in
    let first : CountsFirstRows site index host users groups (counted_so_far c.self.inside) new = record {
      of_passwd = c.add_rows.ensures.first.0;
      of_group = c.add_rows-2.ensures.first.0;
      users = subst (λ (a : Accounts). CountsRows a.names index (user_rows host.users) users c.add_rows.ensures.first.0 c.self.inside.users c.add_rows.new.self) c.users.ensures c.add_rows.ensures.first.2;
      groups = subst (λ (a : Accounts). CountsRows a.names index (group_rows host.groups) groups c.add_rows-2.ensures.first.0 c.self.inside.groups c.add_rows-2.new.self) c.groups.ensures c.add_rows-2.ensures.first.2;
      user_files = ap (λ n. c.self.inside.user_files + n) c.all_files.ensures;
      group_files = ap (λ n. c.self.inside.group_files + n) c.all_files-2.ensures;
    } in
    rw (← c.self.view_is) (on_err c.from_residual-in_err-add_rows-2.result first)

pub invariant_of-self-2 : goal.invariant_of-self-2
invariant_of-self-2 c =
    let here = c.requires.counted in
    let site = c.args.site.now in
    let host = c.args.host.now in
    let users = c.args.users.now in
    let groups = c.args.groups.now in
    let by_users = users-few site c.args.index host here.0 users groups c.requires.lawful_host c.requires.known here.2 here.1 in
    let by_groups = groups-few site c.args.index host here.0 users groups c.requires.lawful_host c.requires.known here.2 here.1 in
    let users_before : c.self.inside.user_files ≤ 1073741824 = omega (arith, ap (λ (k : Counted). k.user_files) c.self.view_is, c.requires.room.0) in
    let groups_before : c.self.inside.group_files ≤ 1073741824 = omega (arith, ap (λ (k : Counted). k.group_files) c.self.view_is, c.requires.room.1) in
    let old : Counted = record { users = c.self.inside.users; groups = c.self.inside.groups; user_files = c.self.inside.user_files; group_files = c.self.inside.group_files } in
    is_within c.users.result.now.names c.groups.result.now.names c.args.index (user_rows host.users) (group_rows host.groups) users groups old c.add_rows.new.self c.add_rows-2.new.self (c.self.inside.user_files + c.all_files.result) (c.self.inside.group_files + c.all_files-2.result)
    (omega (arith, c.all_files.ensures)) (omega (arith, c.all_files-2.ensures)) (omega (arith, users_before, c.all_files.ensures, by_users, here.3)) (omega (arith, groups_before, c.all_files-2.ensures, by_groups, here.3))
    c.add_rows.ensures.first.0 c.add_rows-2.ensures.first.0 c.add_rows.ensures.first.1 c.add_rows-2.ensures.first.1 c.add_rows.ensures.first.2 c.add_rows-2.ensures.first.2 c.self.invariant

pub returns-clause-added : goal.returns-clause-added
returns-clause-added c = λ files here stands there counted.
    let site = c.args.site.now in
    let index = c.args.index in
    let host = c.args.host.now in
    let users = c.args.users.now in
    let groups = c.args.groups.now in
    let user_files = users-all site index host here users groups c.requires.lawful_host c.requires.known counted there in
    let group_files = groups-all site index host here users groups c.requires.lawful_host c.requires.known counted there in
    let users_before = ap (λ (k : Counted). k.user_files) c.self.view_is in
    let groups_before = ap (λ (k : Counted). k.group_files) c.self.view_is in
    let user_rows_are = subst (λ (a : Accounts). CountsRows a.names index (user_rows host.users) users (length users) c.self.inside.users c.add_rows.new.self) c.users.ensures c.in_ok-add_rows.ensures.all in
    let group_rows_are = subst (λ (a : Accounts). CountsRows a.names index (group_rows host.groups) groups (length groups) c.self.inside.groups c.add_rows-2.new.self) c.groups.ensures c.in_ok-add_rows-2.ensures.all in
    let user_counts = subst (λ (k : Counted). CountFiles site.users.names k.users (by_user files)) (sym c.self.view_is) stands.users in
    let group_counts = subst (λ (k : Counted). CountFiles site.groups.names k.groups (by_group files)) (sym c.self.view_is) stands.groups in
    record {
      users = counts_here site.users c.requires.lawful.users (λ f. f.uid) index here there (user_rows host.users) users c.self.inside.users c.add_rows.new.self files
          (users-by_rows site index host here users groups c.requires.lawful_host c.requires.known counted) user_rows_are user_counts;
      groups = counts_here site.groups c.requires.lawful.groups (λ f. f.gid) index here there (group_rows host.groups) groups c.self.inside.groups c.add_rows-2.new.self files
          (groups-by_rows site index host here users groups c.requires.lawful_host c.requires.known counted) group_rows_are group_counts;
      user_files = omega (arith, owned_both site.users.names (λ f. f.uid) files here, stands.user_files, users_before, c.all_files.ensures, user_files);
      group_files = omega (arith, owned_both site.groups.names (λ f. f.gid) files here, stands.group_files, groups_before, c.all_files-2.ensures, group_files);
    }
