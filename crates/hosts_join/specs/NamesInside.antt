-- What the tables of names stand for.
-- Words of the code and not of the subject: only private contracts, views and invariants cite them.
use Rattle.std.specs.Prelude.{◌≡◌, ℕ, ◌<◌, ◌≤◌, ◌^◌, false, map, length, slice_index_or}
use Rattle.hosts_join.specs.Accounts.{Accounts, all_lines, IsOnceEach, no_account}
use Rattle.hosts_join.specs.Index.{accounts_in, IsIndex}
use Rattle.hosts_join.specs.Lawful.{AreLawfulAccounts}
use Rattle.hosts_join.specs.Order.{AreInByteOrder}
use Rattle.hosts_join.specs.RangeLists.{lies_in_some}
use Rattle.hosts_join.specs.Rules.{class_of, in_pool, names_in, pool_size}
use Rattle.hosts_join.specs.Views.{entry_of, pairs_of}
use Rattle.hosts_join.specs.declared.Class.TheVariants.{Regular, System}
use Rattle.hosts_join.specs.declared.names.Names.TheInside.{Inside}

abbrev pub accounts_of : Inside → Accounts
accounts_of n = record {
  hosts = map entry_of n.hosts.items;
  names = accounts_in n.index;
  pins = pairs_of n.given.pins.items;
  reserved = n.given.reserved.items;
}

pub record IsNames (n : Inside) : Type 0 where
  pub index : IsIndex n.index
  pub few : length (accounts_in n.index) < 2 ^ 32
  pub once : (i : ℕ) → IsOnceEach (slice_index_or (accounts_in n.index) i no_account).spots
  pub lines : n.all_lines ≡ all_lines (accounts_in n.index)
  pub few_lines : n.all_lines ≤ 4194304
  pub classes : n.classes.items ≡ map (class_of (pairs_of n.given.pins.items)) (accounts_in n.index)
  pub order : AreInByteOrder (accounts_in n.index) n.order.items
  pub regular : (v : ℕ) → lies_in_some n.regular v ≡ in_pool (accounts_of n) Regular v
  pub system : (v : ℕ) → lies_in_some n.system v ≡ in_pool (accounts_of n) System v
  pub none : (v : ℕ) → lies_in_some n.none v ≡ false
  pub enough_regular : names_in (accounts_of n) Regular ≤ pool_size (accounts_of n) Regular
  pub enough_system : names_in (accounts_of n) System ≤ pool_size (accounts_of n) System
  pub lawful : AreLawfulAccounts (accounts_of n)
