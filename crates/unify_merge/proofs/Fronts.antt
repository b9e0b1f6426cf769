-- The front of an inventory, beside all of it.
use Rattle.std.proofs.Common.{◌≡◌, ℕ, List, [], ◌∷◌, ◌++◌, Option, Some, None, Result, Ok, Err, refl, sym, ap, subst, ◌∙◌}
use Rattle.std.specs.List.{All}
use Rattle.std.proofs.lemmas.List.Elements.{All-cons, All-head, All-nil, All-tail}
use Rattle.idtext.specs.First.{unless}
use Rattle.idtext.specs.declared.faults.TextFault.{TextFault}
use Rattle.idtext.specs.declared.faults.ReadError.TheVariants as error
use Rattle.idtext.proofs.OkLemmas.{unless_ok}
use Rattle.mtree_inv.specs.Inventory.{inventory, inventory_of_lines}
use Rattle.mtree_inv.specs.Logical.{whole_lines}
use Rattle.mtree_inv.specs.Reading.{Reading, read_bytes, start}
use Rattle.mtree_inv.specs.declared.entry.Entry.{Entry}
use Rattle.mtree_inv.proofs.ReadLemmas.{Grows, failed-more, grows-twice, read-grows}
use Rattle.mtree_inv.proofs.StandLemmas.{read-append, whole_inventory, whole_lines_accepted, whole_lines_refused}
use Rattle.hosts_join.specs.declared.host.Host.{Host}
use Rattle.unify_texts.specs.Told.{in_file}
use Rattle.unify_texts.specs.declared.bundle_line.FileName.TheVariants as file
use Rattle.unify_texts.specs.declared.fault.Fault.{Fault}
use Rattle.site_tables.specs.Hosts.{files_of, owner_fault, lines_of}
use Rattle.unify.specs.Passes.{is_read}
use Rattle.unify.specs.SecondPass.{owned_lines, second_lines}
use Rattle.site_tables.proofs.Owners.{files_read}
use Rattle.unify.proofs.PlanTurns.{first_none, lines_with}
use Rattle.unify.proofs.SecondPasses.{lines_known}

module _ (most : ℕ) (text more : List ℕ) where
  abbrev front : Reading
  front = read_bytes most start text

  abbrev all : Reading
  all = read_bytes most start (text ++ more)

  -- a fault of its whole lines is one of all of them
  pub lines_refused_on : (f : TextFault) → inventory_of_lines most (whole_lines text) ≡ Err f → inventory_of_lines most (whole_lines (text ++ more)) ≡ Err f
  lines_refused_on f h = by front.fault refl
    where
      by : (o : Option TextFault) → front.fault ≡ o → inventory_of_lines most (whole_lines (text ++ more)) ≡ Err f
      by None e = absurd (let no : ◌≡◌ {A = Result (List Entry) TextFault} (Ok front.kept.files) (Err f) = ap (λ (o : Option TextFault). unless o front.kept.files) (sym e) ∙ sym (whole_inventory most text) ∙ h in cc)
      by (Some g) e =
          let on = failed-more most front.kept.files (error.Fault g) front more (e, refl) in
          let there : all.fault ≡ Some g = ap (λ (r : Reading). r.fault) (sym (read-append most start text more)) ∙ on.0 in
          let same : ◌≡◌ {A = Result (List Entry) TextFault} (Err g) (Err f) = ap (λ (o : Option TextFault). unless o front.kept.files) (sym e) ∙ sym (whole_inventory most text) ∙ h in
          whole_inventory most (text ++ more) ∙ ap (λ (o : Option TextFault). unless o all.kept.files) there ∙ same

  -- where all of it is accepted, its whole lines have the first of the files
  pub front_accepted : (files : List Entry) → inventory most (text ++ more) ≡ Ok files → (first : List Entry) × (inventory_of_lines most (whole_lines text) ≡ Ok first) × Grows first files
  front_accepted files h = by front.fault refl
    where
      by : (o : Option TextFault) → front.fault ≡ o → (first : List Entry) × (inventory_of_lines most (whole_lines text) ≡ Ok first) × Grows first files
      by None e =
          let whole = whole_lines_accepted most (text ++ more) files h in
          let lines = unless_ok all.fault all.kept.files whole.0 (sym (whole_inventory most (text ++ more)) ∙ whole.1) in
          let grown : Grows front.kept.files whole.0 = subst (Grows front.kept.files) (ap (λ (r : Reading). r.kept.files) (read-append most start text more) ∙ lines.1) (read-grows most more front) in
          (front.kept.files, whole_inventory most text ∙ ap (λ (o : Option TextFault). unless o front.kept.files) e, grows-twice front.kept.files whole.0 files grown whole.2)
      by (Some g) e =
          let lines = whole_inventory most text ∙ ap (λ (o : Option TextFault). unless o front.kept.files) e in
          absurd (let no : ◌≡◌ {A = Result (List Entry) TextFault} (Ok files) (Err g) = sym h ∙ whole_lines_refused most (text ++ more) g (lines_refused_on g lines) in cc)

pub front_all : {A : Type 0} (P : A → Type 0) (xs ys : List A) → All P (xs ++ ys) → All P xs
front_all P [] ys each_one = All-nil P
front_all P (x ∷ xs) ys each_one = All-cons P x xs (All-head P x (xs ++ ys) each_one) (front_all P xs ys (All-tail P x (xs ++ ys) each_one))

-- ---- that of a host

module _ (host : Host) (text rest : List ℕ) where
  -- a fault of its lines is one of all of them
  pub lines_on : (f : Fault) → is_read (lines_of host text) ≡ Err f → is_read (lines_of host (text ++ rest)) ≡ Err f
  lines_on f h = by (inventory_of_lines 16777216 (whole_lines text)) refl h
    where
      by : (r : Result (List Entry) TextFault) → inventory_of_lines 16777216 (whole_lines text) ≡ r → is_read (in_file host.name file.Mtree r) ≡ Err f → is_read (lines_of host (text ++ rest)) ≡ Err f
      by (Ok files) e none = absurd (cc)
      by (Err t) e bad = rw (lines_refused_on 16777216 text rest t e) bad

  -- where all of it is accepted, each of its lines is
  pub lines_owned : (files : List Entry) → files_of (record { host = host; mtree = text ++ rest }) ≡ Ok files → is_read (second_lines host text) ≡ Ok tt
  lines_owned files h =
      let read = files_read (record { host = host; mtree = text ++ rest }) files h in
      let front = front_accepted 16777216 text rest files read.0 in
      let owned = front_all (λ f. owner_fault host [] f ≡ None) front.0 front.2.0 (subst (λ fs. All (λ f. owner_fault host [] f ≡ None) fs) front.2.1 read.1) in
      lines_known host (owned_lines host text) front.0 (lines_with host text front.0 None front.1 (first_none (owner_fault host []) [] front.0 owned))
