-- One line more leaves no more files than there may be; and what it means that no fault was told.
use Rattle.std.proofs.Common.{◌≡◌, ℕ, ◌≤◌, Bool, true, false, cond, List, [], ◌∷◌, ◌++◌, length, refl, sym, ap, ◌∙◌, arith, subst, length-append}
use Rattle.std.specs.Prelude.{Option, Some, None, Result, Ok, Err, is_none, option_map, nat_lt}
use Rattle.std.proofs.lemmas.Bool.{ltb-true}
use Rattle.idtext.specs.First.{unless}
use Rattle.idtext.specs.declared.faults.TextCode.{TextCode}
use Rattle.idtext.specs.declared.faults.TextFault.{TextFault}
use Rattle.mtree_inv.specs.declared.entry.Entry.{Entry}
use Rattle.mtree_inv.specs.Logical.{LogicalLine}
use Rattle.mtree_inv.specs.Kinds.{kind_of}
use Rattle.mtree_inv.specs.Inventory.{kinds, files_of, fault_of, fault_said, file_said, file_at, said_alone, clash_with}
use Rattle.mtree_inv.proofs.FileLemmas.{after_said, files_of-snoc}
use Rattle.mtree_inv.proofs.RunLemmas.{kinds-snoc}

added : (most : ℕ) (files : List Entry) (file : Entry) (known : Option Entry) (room : Bool) → nat_lt (length files) most ≡ room → clash_with known room file ≡ None → length files ≤ most → length (cond (is_none known) (files ++ file ∷ []) files) ≤ most
added most files file (Some other) room is e few = few
added most files file None true is e few = omega (arith, length-append files (file ∷ []), ltb-true (length files) most is)
added most files file None false is e few = absurd (cc)

one_line : (most : ℕ) (files : List Entry) (said : Result (Option Entry) TextCode) → fault_said most files said ≡ None → length files ≤ most → length (after_said files (file_said said)) ≤ most
one_line most files (Err code) e few = absurd (cc)
one_line most files (Ok None) e few = few
one_line most files (Ok (Some file)) e few = added most files file (file_at files file.path) (nat_lt (length files) most) refl e few

pub no_fault : (n : ℕ) (code : Option TextCode) → option_map (λ c. (let f : TextFault = record { code = c; line = n } in f)) code ≡ None → code ≡ None
no_fault n None e = refl
no_fault n (Some c) e = absurd (cc)

pub one_more : (most : ℕ) (before : List LogicalLine) (line : LogicalLine) → length (files_of (kinds before)) ≤ most → fault_of most (kinds before) (kind_of line) ≡ None → length (files_of (kinds (before ++ line ∷ []))) ≤ most
unfolding fault_of
one_more most before line few fine =
    let here = one_line most (files_of (kinds before)) (said_alone (kinds before) (kind_of line)) fine few in
    let same = ap files_of (kinds-snoc before line) ∙ files_of-snoc (kinds before) (kind_of line) in
    subst (λ (fs : List Entry). length fs ≤ most) (sym same) here

pub told_ok : (fault : Option TextFault) (made files : List Entry) → unless fault made ≡ Ok files → (fault ≡ None) × (made ≡ files)
told_ok None made files e = (refl, cc)
told_ok (Some fault) made files e = absurd (cc)
