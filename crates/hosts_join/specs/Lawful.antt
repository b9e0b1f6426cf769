-- What holds of accounts that were joined.
-- Source: this project's own rule.
use Rattle.std.specs.Prelude.{◌≡◌, ℕ, ◌<◌, ◌≤◌, true, length}
use Rattle.std.specs.List.{All}
use Rattle.idtext.specs.Numbers.{greatest_id}
use Rattle.idtext.specs.Names.{is_lawful_name}
use Rattle.hosts_join.specs.Accounts.{Accounts, IsOnceEach, IsSpotAmong, all_lines}
use Rattle.hosts_join.specs.Rules.{account, class_of, in_pool}
use Rattle.hosts_join.specs.declared.Class.TheVariants.{Pinned, Regular, System}

pub record AreLawfulAccounts (a : Accounts) : Type 0 where
  -- each is a lawful name, and stands once
  pub lawful : All (λ x. is_lawful_name x.name ≡ true) a.names
  pub names_differ : (i j : ℕ) → i < length a.names → j < length a.names
      → (account a i).name ≡ (account a j).name → i ≡ j
  -- 64 files of 65,536 rows give no more rows, and so no more names
  pub few_names : length a.names ≤ 4194304
  pub few_rows : all_lines a.names ≤ 4194304
  -- its spots are on hosts of the site, on each at most once
  pub spots_among : (i : ℕ) → All (IsSpotAmong (length a.hosts)) (account a i).spots
  pub once : (i : ℕ) → IsOnceEach (account a i).spots
  pub few_spots : (i : ℕ) → length (account a i).spots ≤ 64
  -- a pin is a number that an account may have, and no two names have one pin
  pub pin_ids : (i v : ℕ) → class_of a.pins (account a i) ≡ Pinned v → v ≤ greatest_id
  pub pins_differ : (i j v : ℕ) → i < length a.names → j < length a.names
      → class_of a.pins (account a i) ≡ Pinned v → class_of a.pins (account a j) ≡ Pinned v → i ≡ j
  -- no number is in both pools (where there is no name there may be no host)
  pub pools_apart : (v : ℕ) → in_pool a Regular v ≡ true → in_pool a System v ≡ true
      → length a.names ≡ 0
