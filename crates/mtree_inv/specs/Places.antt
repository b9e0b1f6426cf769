-- Words of private contracts: where a cut of a list is looked for, so that its number is found.
use Rattle.std.specs.Prelude.{◌≡◌, ◌≢◌, ◌<◌, ◌⊎◌, ℕ, suc, ◌+◌, ◌-◌, ◌/◌, ◌*◌}
use Rattle.std.specs.Prelude.{List, length, Option, Some, slice_get, slice_index_or, Vec}
use Rattle.std.specs.List.{fold}
use Rattle.std.specs.Map.{lookup}
use Rattle.std.specs.Ordering.{nat_cmp, is_eq, ordering_then}
use Rattle.std.specs.Cmp.Lexicographic.{slice_cmp}
use Rattle.std.specs.Hash as fed
use Rattle.std.specs.Hash.FoldHasher.{initial, write, finish}
use Rattle.std.specs.Hash.DefaultHasher as sip
use Rattle.std.specs.declared.alloc.Global.{Global}
use Rattle.std.specs.declared.cmp.Ordering.{Ordering}
use Rattle.mtree_inv.specs.declared.places.Place.{Place}
use Rattle.mtree_inv.specs.Cuts.{Cut}

-- how many places are looked at for a cut
abbrev pub most_probes : ℕ
most_probes = 16

-- the hash of a cut
unfoldable pub hash_of : Cut → ℕ
hash_of cut = finish (write (fold write initial (fed.u32 cut.0)) cut.1)

-- what a place keeps of it
abbrev pub half : ℕ → ℕ
half hash = hash / 4294967296

abbrev pub place_at : List Place → ℕ → Place
place_at places at = slice_index_or places at (record { hash = 0; number = 0 })

-- how many hashes there are
abbrev pub all_hashes : ℕ
all_hashes = 18446744073709551616

-- the first place where a cut is looked for, of so many: as far among them as its hash among all
abbrev pub start_of : ℕ → Cut → ℕ
start_of len cut = hash_of cut * (len - most_probes) / all_hashes

-- the first places from a start on, so many, are not free
abbrev pub AreTaken : List Place → ℕ → ℕ → Type 0
AreTaken places start count = (k : ℕ) → k < count → (place_at places (start + k)).number ≢ 0

-- a place tells that the cut is the one at this index of the list
abbrev pub TellsOf : Place → Cut → ℕ → Type 0
TellsOf place cut i = place ≡ record { hash = half (hash_of cut); number = suc i }

-- ---- a search tree, for the cuts that found no place free

-- another hash, which is hardly ever the same for two, whoever names the files
unfoldable pub digest_of : Cut → ℕ
digest_of cut = sip.finish (sip.write (fold sip.write sip.initial (fed.u32 cut.0)) cut.1)

-- a digest, and a cut
abbrev pub Key : Type 0
Key = ℕ × ℕ × Vec ℕ Global

pub record IsKeyOf (key : Key) (cut : Cut) : Type 0 where
  pub digest : key.0 ≡ digest_of cut
  pub front : key.1 ≡ cut.0
  pub tail : key.2.items ≡ cut.1

-- keys in the order of the tree
abbrev pub key_cmp : ℕ × ℕ × List ℕ → ℕ × ℕ × List ℕ → Ordering
key_cmp a b =
    ordering_then (ordering_then (nat_cmp a.0 b.0) (nat_cmp a.1 b.1)) (slice_cmp nat_cmp a.2 b.2)

abbrev pub Others : Type 0
Others = List (Key × ℕ)

-- what it says of a cut
abbrev pub other_at : Others → Cut → Option ℕ
other_at others cut =
    lookup (λ key. is_eq (key_cmp (digest_of cut, cut.0, cut.1) (key.0, key.1, key.2.items))) others

-- ---- both

-- the cut at this index is found after so many places that are taken: at the next, or in the tree
pub record IsFoundAt (places : List Place) (others : Others) (cut : Cut) (i : ℕ) : Type 0 where
  pub roomy : most_probes < length places
  pub probes : ℕ
  pub taken : AreTaken places (start_of (length places) cut) probes
  pub there : ((probes < most_probes)
      × TellsOf (place_at places (start_of (length places) cut + probes)) cut i)
      ⊎ ((probes ≡ most_probes) × (other_at others cut ≡ Some i))

-- each cut of the list is found
abbrev pub AreFound : List Cut → List Place → Others → Type 0
AreFound cuts places others =
    (i : ℕ) (cut : Cut) → slice_get cuts i ≡ Some cut → IsFoundAt places others cut i

-- no place among so many tells of the cut
abbrev pub IsToldNowhere : List Cut → List Place → Cut → ℕ → Type 0
IsToldNowhere cuts places cut count =
    (k : ℕ) → k < count → (i : ℕ) → slice_get cuts i ≡ Some cut
    → TellsOf (place_at places (start_of (length places) cut + k)) cut i → ⊥

-- no place among so many tells of a cut with its hash
abbrev pub IsAlone : List Cut → List Place → Cut → ℕ → Type 0
IsAlone cuts places cut count =
    (k : ℕ) → k < count → (i : ℕ) (other : Cut) → slice_get cuts i ≡ Some other
    → hash_of other ≡ hash_of cut
    → TellsOf (place_at places (start_of (length places) cut + k)) other i → ⊥

-- what the tree says of cuts of the list is what it said
abbrev pub KeepOthers : List Cut → Others → Others → Type 0
KeepOthers cuts others new_others =
    (i : ℕ) (cut : Cut) → slice_get cuts i ≡ Some cut → other_at others cut ≡ Some i
    → other_at new_others cut ≡ Some i

-- cuts of the list that were found still are
abbrev pub KeepFound : List Cut → List Place → Others → List Place → Others → Type 0
KeepFound cuts places others new_places new_others =
    (i : ℕ) (cut : Cut) → slice_get cuts i ≡ Some cut → IsFoundAt places others cut i
    → IsFoundAt new_places new_others cut i
