-- What is written is read back.
-- Source: this project's own rule, by the definitions of mtree_inv.
use Rattle.std.specs.Prelude.{◌≡◌, ℕ, ◌+◌, ◌<◌, ◌≤◌, List, length, false, All, Ok, Err, Some}
use Rattle.std.specs.Prelude.{codes, take}
use Rattle.idtext.specs.Faults.{line_number}
use Rattle.idtext.specs.Numbers.{greatest_id}
use Rattle.idtext.specs.Words.{most_line_bytes}
use Rattle.idtext.specs.declared.faults.TextCode.TheVariants.{CutInventory}
use Rattle.idtext.specs.declared.faults.TextFault.{TextFault}
use Rattle.mtree_inv.specs.Kinds.{Kind, kind_of}
use Rattle.mtree_inv.specs.Inventory.{inventory, said_alone}
use Rattle.inventory_text.specs.Writing.{Head, head_line}
use Rattle.inventory_text.specs.Heads.{head_of}
use Rattle.inventory_text.specs.Listed.{Listed, IsListed, AreListed, files_of, inventory_text}
use Rattle.inventory_text.specs.Listed.{cut_text, line_of}

-- words of bytes
abbrev pub IsBytes : List ℕ → Type 0
IsBytes word = All (λ b. b < 256) word

pub record IsOfBytes (head : Head) : Type 0 where
  pub host : IsBytes head.host
  pub time : IsBytes head.time
  pub roots : All IsBytes head.roots

-- what the first line tells is read from it, also where a word of it is empty
abbrev pub HeadsReadBack : Type 0
HeadsReadBack = (head : Head) → IsOfBytes head → head_of (head_line head) ≡ Some head

-- a logical line of these bytes, after any lines, says this file and no fault
abbrev pub EntriesReadBack : Type 0
EntriesReadBack = (before : List Kind) (number : ℕ) (listed : Listed) → IsListed listed
    → said_alone before
    (kind_of (record { number = number; text = line_of listed; is_cut = false }))
    ≡ Ok (Some listed.file)

-- the inventory of a host's files is exactly these, in their order; `most` is how many files the
-- reader takes, and their number, which the last line tells, is read as ids are
abbrev pub InventoriesReadBack : Type 0
InventoriesReadBack = (most : ℕ) (head : Head) (listed : List Listed)
    → AreListed listed → length listed ≤ most → length listed ≤ greatest_id
    → length (head_line head) ≤ most_line_bytes
    → inventory most (inventory_text head listed) ≡ Ok (files_of listed)

-- one that is cut after its first line or after a file is refused, at the line that is missing
abbrev pub CutInventoriesAreRefused : Type 0
CutInventoriesAreRefused = (most : ℕ) (head : Head) (listed : List Listed)
    → AreListed listed → length listed ≤ most → length (head_line head) ≤ most_line_bytes
    → inventory most (cut_text head listed)
    ≡ Err (record { code = CutInventory; line = line_number (length listed + 1) })

-- and it is refused wherever it is cut after the words that every first line begins with, unless
-- nothing but its last newline is missing
abbrev pub CutAnywhereIsRefused : Type 0
CutAnywhereIsRefused = (most : ℕ) (head : Head) (listed : List Listed) (n : ℕ)
    → All IsListed listed → length listed ≤ greatest_id
    → length (codes "# unify inventory ") ≤ n → n + 1 < length (inventory_text head listed)
    → (fault : TextFault) × (inventory most (take n (inventory_text head listed)) ≡ Err fault)
