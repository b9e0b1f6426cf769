use Rattle.std.proofs.Common.{◌≡◌, [], ◌++◌, Some, None, refl, sym, ap, subst, ◌∙◌, append-nil}
use Rattle.std.specs.Result.{OnOk}
use Rattle.hosts_join.specs.Accounts.{Accounts}
use Rattle.hosts_join.specs.Rules.{account}
use Rattle.mergedfiles.specs.Rows.{first_of}
use Rattle.mergedfiles.specs.Seen.{user_seen, user_told}
use Rattle.mergedfiles.specs.Spots.{users_at}
use Rattle.mergedfiles.specs.Texts.{merged_user, user_line}
use Rattle.mergedfiles.proofs.Joining.{user-line-is}
use Rattle.mergedfiles.proofs.passwd.push_user.Goals as goal

pub returns-in-Some : goal.returns-in-Some
returns-in-Some c =
    let i = c.args.index in
    let named = c.name-name.ensures ∙ ap (λ (a : Accounts). (account a i).name) c.users-names.ensures in
    let placed = c.spots.ensures ∙ ap (λ (a : Accounts). (account a i).spots) c.users-names.ensures in
    let is = user-line-is c.args.hosts.now c.args.site.now c.args.gids.now c.requires.joined c.requires.lawful i c.args.number c.requires.within c.groups.result.now c.groups.ensures c.name-name.result.now c.spots.result.now named placed in
    let told : Some (user_seen c.in-Some.first) ≡ first_of (users_at c.args.hosts.now c.name-name.result.now c.spots.result.now) = sym (ap user_told c.in-Some.is) ∙ c.first_user.ensures in
    subst (λ t. OnOk c.push_line.result (c.push_line.new.text.items ≡ c.args.text.now.items ++ t)) (ap (user_line c.groups.result.now c.args.gids.now c.name-name.result.now c.args.number) told ∙ is) c.push_line.ensures

pub returns-in-None : goal.returns-in-None
returns-in-None c =
    let i = c.args.index in
    let site = c.args.site.now in
    let named = c.name-name.ensures ∙ ap (λ (a : Accounts). (account a i).name) c.users-names.ensures in
    let placed = c.spots.ensures ∙ ap (λ (a : Accounts). (account a i).spots) c.users-names.ensures in
    let is = user-line-is c.args.hosts.now site c.args.gids.now c.requires.joined c.requires.lawful i c.args.number c.requires.within site.groups refl c.name-name.result.now c.spots.result.now named placed in
    let told : None ≡ first_of (users_at c.args.hosts.now c.name-name.result.now c.spots.result.now) = sym (ap user_told c.in-None.is) ∙ c.first_user.ensures in
    sym (append-nil c.args.text.now.items) ∙ ap (λ t. c.args.text.now.items ++ t) (ap (user_line site.groups c.args.gids.now c.name-name.result.now c.args.number) told ∙ is)
