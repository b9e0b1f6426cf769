use Rattle.std.proofs.Common.{◌≡◌, take, ℕ}
use Rattle.std.specs.List.{flat_map}
use Rattle.hosts_join.specs.Rules.{account}
use Rattle.mergedfiles.specs.Texts.{merged_user}
use Rattle.mergedfiles.proofs.passwd.passwd_text.Given as goal

abbrev pub invariant-loop-account : goal.invariant-loop-account
invariant-loop-account l = l.text.items ≡ flat_map (λ (p : ℕ × ℕ). merged_user l.site.groups l.mappings.groups l.hosts (account l.site.users p.0).name p.1) (take l.account-index l.account-items)
