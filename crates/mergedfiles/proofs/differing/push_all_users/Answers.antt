use Rattle.std.proofs.Common.{◌≡◌, ◌<◌, ◌++◌, ℕ, false, List, [], length, map, get_or, sym, ◌∙◌, ap, arith}
use Rattle.std.proofs.lemmas.List.{append-nil, get_or_default, take_all}
use Rattle.std.specs.List.{flat_map}
use Rattle.hosts_join.specs.Accounts.{Accounts}
use Rattle.hosts_join.specs.Lawful.{AreLawfulAccounts}
use Rattle.hosts_join.specs.Order.{name_at}
use Rattle.hosts_join.specs.Rules.{account}
use Rattle.mergedfiles.specs.Alike.{is_differing, seen_at}
use Rattle.mergedfiles.specs.declared.alike.Sameness.TheVariants.{Differing}
use Rattle.mergedfiles.specs.Rows.{users_named}
use Rattle.mergedfiles.specs.Differences.{user_differences}
use Rattle.mergedfiles.proofs.Joining.{user-differences-are}
use Rattle.mergedfiles.proofs.Orders.{in-byte-order}
use Rattle.mergedfiles.proofs.SameUsers.{alike-told}
use Rattle.mergedfiles.proofs.Steps.{told_more}
use Rattle.mergedfiles.proofs.differing.push_all_users.Goals as goal
use Rattle.mergedfiles.proofs.differing.push_all_users.Goals.{then-is_differing+in_ok-push_user_differences, else-is_differing}

pub loop-index-preserved : goal.loop-index-preserved
loop-index-preserved c =
    let hosts = c.args.hosts.now in
    let site = c.args.site.now in
    let a = site.users in
    let items = c.in_byte_order-index-items.result.now in
    let k = c.loop-index.index-index in
    let i : ℕ = get_or items k 0 in
    let within : i < length a.names = rw c.users-users.ensures at c.in_byte_order-index-items.ensures.within k 0 c.loop-index-test.true in
    let f = λ (name : List ℕ). user_differences name (users_named name hosts) in
    elim c.if-is_differing.branch [
      | then-is_differing+in_ok-push_user_differences w ↦
          let named : w.name.result.now ≡ (account a i).name = w.name.ensures ∙ ap (λ (b : Accounts). (account b i).name) c.users-users.ensures in
          let spots = w.spots.ensures ∙ ap (λ (b : Accounts). (account b i).spots) c.users-users.ensures in
          rw w.told-is (told_more f (name_at a.names) c.args.told.now.items items k 0 c.loop-index.told.items _ _ c.loop-index-test.true c.loop-index.invariant w.in_ok-push_user_differences.ensures
          (user-differences-are hosts site c.requires.joined c.requires.lawful i within w.name.result.now w.spots.result.now named spots ∙ ap f named))
      | else-is_differing w ↦
          let seen = c.in_ok-seen.seen.items in
          let there : i < length seen = omega (arith, within, c.in_ok-seen.ensures.len) in
          let here : seen_at seen i ≡ c.index.result.now = get_or_default seen i Differing c.index.result.now there ∙ sym c.index.ensures in
          let alike : is_differing (seen_at seen i) ≡ false = ap is_differing here ∙ sym c.is_differing.ensures ∙ w.if-is_differing.false in
          let accounts : AreLawfulAccounts a = rw c.users-users.ensures at c.in_byte_order-index-items.ensures.lawful in
          let none : f (name_at a.names i) ≡ [] = alike-told hosts site c.requires.joined c.requires.lawful accounts seen c.in_ok-seen.ensures.covered i within alike in
          rw w.told-is (told_more f (name_at a.names) c.args.told.now.items items k 0 c.loop-index.told.items c.loop-index.told.items [] c.loop-index-test.true c.loop-index.invariant (sym (append-nil c.loop-index.told.items)) (sym none))
    ]

pub returns : goal.returns
returns c =
    let a = c.args.site.now.users in
    let items = c.in_byte_order-index-items.result.now in
    let all = take_all c.loop-index.index-index items (omega arith) in
    let order : map (name_at a.names) items ≡ _ = in-byte-order a items (rw c.users-users.ensures at c.in_byte_order-index-items.ensures.lawful) (rw c.users-users.ensures at c.in_byte_order-index-items.ensures.ordered) in
    c.loop-index.invariant ∙ ap (λ ns. c.args.told.now.items ++ flat_map (λ name. user_differences name (users_named name c.args.hosts.now)) ns) (ap (map (name_at a.names)) all ∙ order)
