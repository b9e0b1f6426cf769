-- The text of a plan, entry by entry.
use Rattle.std.proofs.Common.{◌≡◌, ℕ, ◌+◌, ◌<◌, Bool, true, false, not, List, [], ◌∷◌, ◌++◌, map, length, take, get_or, refl, sym, ◌∙◌, ap, append_assoc}
use Rattle.std.specs.List.{filter}
use Rattle.std.proofs.lemmas.List.{take_more, map-append, append-nil}
use Rattle.std.proofs.lemmas.List.Elements.{filter-append}
use Rattle.std.proofs.lemmas.List.Concat.{flat_map-append}
use Rattle.mtree_inv.specs.declared.entry.Entry.{Entry}
use Rattle.reown_plan.specs.declared.plan.Owner.{Owner}
use Rattle.reown_plan.specs.Spelling.{line, lines}
use Rattle.reown_plan.specs.OwnerChange.{line_of, printed}
use Rattle.reown_plan.specs.Owners.{owner_of, owner_eq}
use Rattle.reown_plan.specs.Target.{record_to, records_to}

records-push : (to : Entry → Owner) (files : List Entry) (x : Entry) → records_to to (files ++ x ∷ []) ≡ records_to to files ++ records_to to (x ∷ [])
records-push to files x =
    ap (map (record_to to)) (filter-append (λ (f : Entry). not (owner_eq (owner_of f) (to f))) files (x ∷ []))
    ∙ map-append (record_to to) (filter (λ (f : Entry). not (owner_eq (owner_of f) (to f))) files) (filter (λ (f : Entry). not (owner_eq (owner_of f) (to f))) (x ∷ []))

line_if : (to : Entry → Owner) (x : Entry) (b : Bool) → owner_eq (owner_of x) (to x) ≡ b → line_of (printed (owner_of x) (to x)) x.path ≡ lines (records_to to (x ∷ []))
line_if to x true e = rw e refl
line_if to x false e = rw e (simp (append_assoc, append-nil))

-- what the change of a file's owner appends is its record, if it gets another owner
pub one_line : (to : Entry → Owner) (x : Entry) → line_of (printed (owner_of x) (to x)) x.path ≡ lines (records_to to (x ∷ []))
one_line to x = line_if to x (owner_eq (owner_of x) (to x)) refl

pub text_more : (to : Entry → Owner) (start old new : List ℕ) (files : List Entry) (i : ℕ) (x : Entry) → i < length files → x ≡ get_or files i x → old ≡ start ++ lines (records_to to (take i files)) → new ≡ old ++ lines (records_to to (x ∷ [])) → new ≡ start ++ lines (records_to to (take (i + 1) files))
text_more to start old new files i x within is before after =
    let split : take (i + 1) files ≡ take i files ++ x ∷ [] = take_more files i x within ∙ ap (λ y. take i files ++ y ∷ []) (sym is) in
    after ∙ ap (λ t. t ++ lines (records_to to (x ∷ []))) before ∙ append_assoc start (lines (records_to to (take i files))) (lines (records_to to (x ∷ [])))
    ∙ ap (λ t. start ++ t) (sym (flat_map-append line (records_to to (take i files)) (records_to to (x ∷ []))) ∙ ap lines (sym (records-push to (take i files) x) ∙ ap (records_to to) (sym split)))
