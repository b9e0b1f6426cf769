-- What a site goes by besides the files of its hosts.
-- Source: this project's own rule.
use Rattle.std.specs.Prelude.{ℕ, List}
use Rattle.kept_accounts.specs.Reserving.{UnownedNumbers}
use Rattle.site_tables.specs.declared.rules.SiteRules.{SiteRules}

-- rules by these texts, where files have these numbers without an account
abbrev pub rules_by : List ℕ → List ℕ → UnownedNumbers → SiteRules
rules_by pins keep unowned =
    record { pins = pins; keep = record { text = keep; unowned = unowned } }
