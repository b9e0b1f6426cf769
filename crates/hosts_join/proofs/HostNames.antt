-- Names of hosts, by their bytes.
use Rattle.std.proofs.Common.{◌≡◌, ℕ, ◌≤◌, Bool, true, not, ◌&&◌, ◌||◌, ◌==◌, nat_lt, slice_index, All, List, [], ◌∷◌, length, refl, arith}
use Rattle.std.specs.List.{list_all}
use Rattle.std.proofs.lemmas.Bool.{and_parts, and_from, ne_eqb}
use Rattle.std.proofs.lemmas.Bool.Decides.{nat_tests}
use Rattle.std.proofs.lemmas.List.Elements.{All-from_recursion, All-cons, All-head, All-tail}
use Rattle.hosts_join.specs.Checks.{is_host_byte, is_host_name}
use Rattle.hosts_join.specs.HostNames.{IsHostByte, IsOfHostBytes, HostNamesAreTheseBytes, EndsNothing, HostNamesAreOneWord}

byte-is : (b : ℕ) → is_host_byte b ≡ true → IsHostByte b
byte-is b is = grind (arith, nat_tests)

is-byte : (b : ℕ) → IsHostByte b → is_host_byte b ≡ true
is-byte b is = grind (arith, nat_tests)

ends-nothing : (b : ℕ) → IsHostByte b → EndsNothing b
ends-nothing b is = record {
  no_slash = λ e. grind arith;
  no_newline = λ e. grind arith;
  no_space = λ e. grind arith;
  no_tab = λ e. grind arith;
  no_nul = λ e. grind arith;
}

-- ---- all bytes of a name

all-are : (name : List ℕ) → list_all is_host_byte name ≡ true → All IsHostByte name
all-are [] is = All-from_recursion IsHostByte [] tt
all-are (b ∷ name) is =
    let both = and_parts (is_host_byte b) (list_all is_host_byte name) is in
    All-cons IsHostByte b name (byte-is b both.0) (all-are name both.1)

are-all : (name : List ℕ) → All IsHostByte name → list_all is_host_byte name ≡ true
are-all [] all = refl
are-all (b ∷ name) all =
    and_from (is_host_byte b) (list_all is_host_byte name) (is-byte b (All-head IsHostByte b name all)) (are-all name (All-tail IsHostByte b name all))

all-end-nothing : (name : List ℕ) → All IsHostByte name → All EndsNothing name
all-end-nothing [] all = All-from_recursion EndsNothing [] tt
all-end-nothing (b ∷ name) all =
    All-cons EndsNothing b name (ends-nothing b (All-head IsHostByte b name all)) (all-end-nothing name (All-tail IsHostByte b name all))

-- ---- names

abbrev fits : List ℕ → Bool
fits name = not ((length name == 0) || nat_lt 64 (length name))

abbrev begun : List ℕ → Bool
begun name = not ((slice_index name 0 == 46) || (slice_index name 0 == 45))

names-are : (name : List ℕ) → is_host_name name ≡ true → IsOfHostBytes name
names-are name h =
    let parts = and_parts (fits name) (begun name && list_all is_host_byte name) h in
    let more = and_parts (begun name) (list_all is_host_byte name) parts.1 in
    let fit : fits name ≡ true = parts.0 in
    let front : begun name ≡ true = more.0 in
    record {
      some = grind (arith, nat_tests, fit);
      few = grind (arith, nat_tests, fit);
      bytes = all-are name more.1;
      no_stop_in_front = λ e. grind (arith, nat_tests, front);
      no_hyphen_in_front = λ e. grind (arith, nat_tests, front);
    }

are-names : (name : List ℕ) → IsOfHostBytes name → is_host_name name ≡ true
are-names name is =
    let some : 1 ≤ length name = is.some in
    let few : length name ≤ 64 = is.few in
    and_from (fits name) (begun name && list_all is_host_byte name)
    (grind (arith, nat_tests, some, few))
    (and_from (begun name) (list_all is_host_byte name)
    (rw (ne_eqb (slice_index name 0) 46 is.no_stop_in_front, ne_eqb (slice_index name 0) 45 is.no_hyphen_in_front) refl)
    (are-all name is.bytes))

pub names-exactly : HostNamesAreTheseBytes
names-exactly name = (names-are name, are-names name)

pub names-word : HostNamesAreOneWord
names-word name h = all-end-nothing name (names-are name h).bytes
