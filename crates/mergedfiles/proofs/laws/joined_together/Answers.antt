use Rattle.std.proofs.Common.{◌≡◌, ℕ, length, Option, Some, None, Result, Ok, sym, ap}
use Rattle.idtext.specs.First.{◌>>=◌, unless}
use Rattle.hosts_join.specs.Accounts.{Accounts}
use Rattle.hosts_join.specs.Rules.{refusal}
use Rattle.hosts_join.specs.Site.{Joined, users_of, groups_of}
use Rattle.hosts_join.specs.declared.fault.SiteFault.{SiteFault}
use Rattle.hosts_join.specs.declared.Which.TheVariants.{User, Group}
use Rattle.mergedfiles.proofs.laws.joined_together.Goals as goal

abbrev site-of : ℕ → Accounts → Accounts → Joined
site-of n users groups = record { users = users; groups = groups; hosts = n }

abbrev join-of : Option SiteFault → Option SiteFault → ℕ → Accounts → Accounts → Result Joined SiteFault
join-of fu fg n u g = unless fu u >>= λ users. unless fg g >>= λ groups. Ok (site-of n users groups)

split : (fu fg : Option SiteFault) (n : ℕ) (u g : Accounts) (site : Joined) → join-of fu fg n u g ≡ Ok site → site-of n u g ≡ site
split None None n u g site e = (cc)
split None (Some f) n u g site e = absurd (cc)
split (Some f) None n u g site e = absurd (cc)
split (Some f) (Some h) n u g site e = absurd (cc)

pub returns : goal.returns
returns c = λ hosts pins site e.
    let s = split (refusal User (users_of hosts pins)) (refusal Group (groups_of hosts pins)) (length hosts) (users_of hosts pins) (groups_of hosts pins) site e in
    record { pins = pins; users = sym (ap (λ (j : Joined). j.users) s); groups = sym (ap (λ (j : Joined). j.groups) s) }
