-- Which names are fresh: those that get the smallest numbers that are left.
-- Source: this project's own rule.
use Rattle.std.specs.Prelude.{◌≢◌, ◌↔◌, ℕ, List}
use Rattle.std.specs.List.{All}
use Rattle.hosts_join.specs.Accounts.{Accounts}
use Rattle.hosts_join.specs.Rules.{account, class_at}
use Rattle.hosts_join.specs.declared.Class.TheVariants.{Pinned}
use Rattle.ownership.specs.Files.{File}
use Rattle.ownership.specs.Mappings.{number_at}
use Rattle.ownership.specs.Weights.{IsFresh}

-- the name is not pinned, and has its number of the mapping on no host
pub record HasNewNumber (a : Accounts) (m : List ℕ) (i : ℕ) : Type 0 where
  pub not_pinned : (v : ℕ) → class_at a i ≢ Pinned v
  pub on_no_host : All (λ s. s.number ≢ number_at m i) (account a i).spots

-- A name is fresh exactly where its number is new to it, whichever files there are.
abbrev pub FreshNumbersAreNew : Type 0
FreshNumbersAreNew =
    (a : Accounts) (files : List File) (m : List ℕ) (i : ℕ)
    → IsFresh a files m i ↔ HasNewNumber a m i
