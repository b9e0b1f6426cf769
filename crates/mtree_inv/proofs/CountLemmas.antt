-- An inventory that tells its end tells the number of its entries.
use Rattle.std.proofs.Common.{◌≡◌, ℕ, Bool, true, false, cond, not, ◌==◌, List, [], ◌∷◌, ◌++◌, length, refl, sym, ap, ◌∙◌, append-nil}
use Rattle.std.specs.Prelude.{Option, Some, None, Ok, Err, filter}
use Rattle.std.specs.Option.{option_or, option_flatten}
use Rattle.std.proofs.lemmas.Bool.{eqb-true}
use Rattle.std.proofs.lemmas.List.Elements.{filter-append}
use Rattle.idtext.specs.First.{unless}
use Rattle.idtext.specs.Numbers.{id_of}
use Rattle.idtext.specs.declared.faults.TextCode.TheVariants.{CutInventory}
use Rattle.idtext.specs.declared.faults.TextFault.{TextFault}
use Rattle.idtext.specs.Faults.{line_number}
use Rattle.idtext.proofs.OkLemmas.{bind_ok, unless_ok}
use Rattle.mtree_inv.specs.Logical.{logical_lines, ended_lines}
use Rattle.mtree_inv.specs.Looking.{last_said}
use Rattle.mtree_inv.specs.Kinds.{Kind, TooLong, Cut, Ignored, Begins, Counts, Sets, Unsets, Unknown, Up, Names}
use Rattle.mtree_inv.specs.Whole.{is_beginning, gives_file, files_given, told_by, is_number, is_ended, lines_since, lacks_end, is_cut}
use Rattle.mtree_inv.specs.Inventory.{kinds, files_of, fault_of, fault_said, inventory_of_lines, inventory, end_fault}
use Rattle.mtree_inv.specs.Listed.{BeginsNone, CountsNone, HasCount, NextFollowsCount, TextEndsWithCount}

-- the lines since the last that begins an inventory
since-none : (lines : List Kind) → BeginsNone lines → lines_since lines ≡ None
since-none [] h = refl
since-none (x ∷ xs) h = ap (λ (o : Option (List Kind)). option_or o (cond (is_beginning x) (Some xs) None)) (since-none xs h.1) ∙ ap (λ (b : Bool). cond b (Some xs) None) h.0

since-last : (before lines : List Kind) → BeginsNone lines → lines_since (before ++ Begins ∷ lines) ≡ Some lines
since-last [] lines h = ap (λ (o : Option (List Kind)). option_or o (Some lines)) (since-none lines h)
since-last (x ∷ xs) lines h = ap (λ (o : Option (List Kind)). option_or o (cond (is_beginning x) (Some (xs ++ Begins ∷ lines)) None)) (since-last xs lines h)

-- the last that tells a number is a count
record LastTells (lines : List Kind) (n : ℕ) : Type 0 where
  inside : List Kind
  count : List ℕ
  after : List Kind
  stands : lines ≡ inside ++ Counts count ∷ after
  tells : id_of count ≡ Some n
  last : CountsNone after

counted : (line : Kind) (n : ℕ) → told_by line ≡ Some (Some n) → (count : List ℕ) × (line ≡ Counts count) × (id_of count ≡ Some n)
counted TooLong n e = absurd (cc)
counted Cut n e = absurd (cc)
counted Ignored n e = absurd (cc)
counted Begins n e = absurd (cc)
counted (Counts count) n e = (count, refl, cc)
counted (Sets keywords) n e = absurd (cc)
counted (Unsets keywords) n e = absurd (cc)
counted Unknown n e = absurd (cc)
counted Up n e = absurd (cc)
counted (Names word keywords) n e = absurd (cc)

counts-none : (lines : List Kind) → last_said told_by lines ≡ None → CountsNone lines
counts-none [] e = tt
counts-none (x ∷ xs) e = by (last_said told_by xs) refl e (counts-none xs)
  where
    by : (o : Option (Option ℕ)) → last_said told_by xs ≡ o → option_or o (told_by x) ≡ None → (last_said told_by xs ≡ None → CountsNone xs) → CountsNone (x ∷ xs)
    by (Some said) is e rest = absurd (cc)
    by None is e rest = (e, rest is)

last-tells : (lines : List Kind) (n : ℕ) → last_said told_by lines ≡ Some (Some n) → LastTells lines n
last-tells [] n e = absurd (cc)
last-tells (x ∷ xs) n e = by (last_said told_by xs) refl e (last-tells xs n)
  where
    by : (o : Option (Option ℕ)) → last_said told_by xs ≡ o → option_or o (told_by x) ≡ Some (Some n) → (last_said told_by xs ≡ Some (Some n) → LastTells xs n) → LastTells (x ∷ xs) n
    by (Some said) is e rest =
        let it = rest (is ∙ e) in
        record { inside = x ∷ it.inside; count = it.count; after = it.after; stands = ap (λ (lines : List Kind). x ∷ lines) it.stands; tells = it.tells; last = it.last }
    by None is e rest =
        let it = counted x n e in
        record { inside = []; count = it.0; after = xs; stands = ap (λ (line : Kind). line ∷ xs) it.1; tells = it.2; last = counts-none xs is }

-- how many entries they have
gives-none : (line : Kind) → told_by line ≡ None → gives_file line ≡ false
gives-none TooLong e = refl
gives-none Cut e = refl
gives-none Ignored e = refl
gives-none Begins e = refl
gives-none (Counts count) e = refl
gives-none (Sets keywords) e = refl
gives-none (Unsets keywords) e = refl
gives-none Unknown e = refl
gives-none Up e = refl
gives-none (Names word keywords) e = absurd (cc)

entries-none : (lines : List Kind) → CountsNone lines → filter gives_file lines ≡ []
entries-none [] h = refl
entries-none (x ∷ xs) h = ap (λ (b : Bool). cond b (x ∷ filter gives_file xs) (filter gives_file xs)) (gives-none x h.0) ∙ entries-none xs h.1

entries-before : (since after : List Kind) (count : List ℕ) → CountsNone after → files_given (since ++ Counts count ∷ after) ≡ files_given since
entries-before since after count h =
    ap length (filter-append gives_file since (Counts count ∷ after)
    ∙ ap (λ (lines : List Kind). filter gives_file since ++ lines) (entries-none after h)
    ∙ append-nil (filter gives_file since))

-- lines that lack no end
number-told : (o : Option (Option ℕ)) (n : ℕ) → not (is_number (option_flatten o) n) ≡ false → o ≡ Some (Some n)
number-told None n e = absurd (cc)
number-told (Some None) n e = absurd (cc)
number-told (Some (Some m)) n e = by (m == n) refl e
  where
    by : (b : Bool) → (m == n) ≡ b → not b ≡ false → Some (Some m) ≡ Some (Some n)
    by true is e = ap (λ (k : ℕ). Some (Some k)) (eqb-true m n is)
    by false is e = absurd (cc)

has-count : (before since : List Kind) → BeginsNone since → is_cut (before ++ Begins ∷ since) ≡ false → HasCount since
has-count before since none e =
    let ended : not (is_ended since) ≡ false = sym (ap lacks_end (since-last before since none)) ∙ e in
    let it = last-tells since (files_given since) (number-told (last_said told_by since) (files_given since) ended) in
    record {
      inside = it.inside;
      count = it.count;
      after = it.after;
      stands = it.stands;
      exact = it.tells ∙ ap (λ (n : ℕ). Some n) (ap files_given it.stands ∙ entries-before it.inside it.after it.count it.last);
      last = it.last;
    }

pub next_follows : NextFollowsCount
unfolding fault_of
next_follows most before since none e = has-count before since none (by (is_cut lines) refl e)
  where
    lines : List Kind
    lines = before ++ Begins ∷ since

    by : (b : Bool) → is_cut lines ≡ b → fault_said most (files_of lines) (cond b (Err CutInventory) (Ok None)) ≡ None → is_cut lines ≡ false
    by true is e = absurd (cc)
    by false is e = is

pub text_ends : TextEndsWithCount
unfolding inventory
text_ends most text files before since e stands none =
    let read = bind_ok (inventory_of_lines most (logical_lines text)) (λ fs. unless (end_fault text) fs) files e in
    has-count before since none (ap is_cut (sym stands) ∙ by (is_cut (kinds (logical_lines text))) refl (unless_ok (end_fault text) read.0 files read.2).0)
  where
    by : (b : Bool) → is_cut (kinds (logical_lines text)) ≡ b → cond b (Some (let f : TextFault = record { code = CutInventory; line = line_number (length (ended_lines text)) } in f)) None ≡ None → is_cut (kinds (logical_lines text)) ≡ false
    by true is e = absurd (cc)
    by false is e = is
