-- What host names are, by their bytes: each is one word, and one part of a path.
-- Source: this project's own rule.
use Rattle.std.specs.Prelude.{◌≡◌, ◌≢◌, ◌↔◌, ◌⊎◌, ℕ, ◌≤◌, true, List, length, All}
use Rattle.std.specs.Prelude.{slice_index}
use Rattle.hosts_join.specs.Checks.{is_host_name}

-- an ASCII letter or digit, a full stop, a hyphen or an underscore
abbrev pub IsHostByte : ℕ → Type 0
IsHostByte b =
    (97 ≤ b) × (b ≤ 122) ⊎ (65 ≤ b) × (b ≤ 90) ⊎ (48 ≤ b) × (b ≤ 57) ⊎ (b ≡ 46) ⊎ (b ≡ 45)
    ⊎ (b ≡ 95)

-- 1 to 64 of these, the first of them neither a full stop nor a hyphen
pub record IsOfHostBytes (name : List ℕ) : Type 0 where
  pub some : 1 ≤ length name
  pub few : length name ≤ 64
  pub bytes : All IsHostByte name
  pub no_stop_in_front : slice_index name 0 ≢ 46
  pub no_hyphen_in_front : slice_index name 0 ≢ 45

-- exactly these are names of hosts
abbrev pub HostNamesAreTheseBytes : Type 0
HostNamesAreTheseBytes = (name : List ℕ) → (is_host_name name ≡ true) ↔ IsOfHostBytes name

-- a byte that ends neither a part of a path, nor a line, nor a word, nor a text of C
pub record EndsNothing (b : ℕ) : Type 0 where
  pub no_slash : b ≢ 47
  pub no_newline : b ≢ 10
  pub no_space : b ≢ 32
  pub no_tab : b ≢ 9
  pub no_nul : b ≢ 0

-- A name of a host is one word, and one part of a path. So a text that is named after a host, as
-- passwd.NAME, stands in the directory itself.
abbrev pub HostNamesAreOneWord : Type 0
HostNamesAreOneWord = (name : List ℕ) → is_host_name name ≡ true → All EndsNothing name
