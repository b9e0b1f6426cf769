-- What a text is read as, after its lines.
use Rattle.std.proofs.Common.{◌≡◌, ℕ, min, true, false, cond, List, [], length, Option, Some, None, Result, Ok, Err, sym, ap, ◌∙◌, subst}
use Rattle.std.specs.Prelude.{IfSome}
use Rattle.std.specs.Result.{IsErr, IsErrAnd}
use Rattle.std.proofs.lemmas.Bool.{cond-true, cond-false, false≢true}
use Rattle.idtext.specs.Faults.{line_number}
use Rattle.idtext.specs.First.{Gives, first_fault, or_else, unless}
use Rattle.idtext.specs.Pieces.{lines}
use Rattle.hosts_join.specs.declared.Which.TheVariants.{User, Group}
use Rattle.certcheck.specs.Certificate.{Side, IsSide}
use Rattle.certcheck.specs.declared.certificate.Certificate.{Certificate}
use Rattle.certcheck.specs.declared.reading.CertificateFault.{CertificateFault}
use Rattle.certcheck.specs.Told.{line_told}
use Rattle.certcheck.specs.Reading.{certificate_in, end_fault, is_cut, is_end, item_before, line_fault, side_in}
use Rattle.certcheck.proofs.Growing.{lines_give_side}

abbrev read_sides : List ℕ → Certificate
read_sides text = record { users = side_in User (lines text); groups = side_in Group (lines text) }

-- a fault of a line
pub line_refused : (text : List ℕ) (n : ℕ) → first_fault line_fault [] (lines text) ≡ Some n → certificate_in text ≡ Err n
unfolding certificate_in
line_refused text n e = ap (λ o. unless (or_else o (end_fault text (lines text))) (read_sides text)) e

-- after lawful lines it is the end that decides
end_decides : (text : List ℕ) (o : Option ℕ) → first_fault line_fault [] (lines text) ≡ None → end_fault text (lines text) ≡ o → certificate_in text ≡ unless o (read_sides text)
unfolding certificate_in
end_decides text o fine e = ap (λ x. unless (or_else x (end_fault text (lines text))) (read_sides text)) fine ∙ ap (λ x. unless x (read_sides text)) e

abbrev unended : List ℕ → Option ℕ
unended text = cond (is_end (item_before (lines text))) None (Some (line_number (length (lines text))))

pub cut_refused : (text : List ℕ) (n : ℕ) → first_fault line_fault [] (lines text) ≡ None → is_cut text ≡ true → n ≡ min (length (lines text)) 18446744073709551615 → certificate_in text ≡ Err n
cut_refused text n fine cut same = end_decides text (Some n) fine (cond-true _ (Some (min (length (lines text)) 18446744073709551615)) (unended text) cut ∙ ap (λ (k : ℕ). Some k) (sym same))

pub unended_refused : (text : List ℕ) (n : ℕ) → first_fault line_fault [] (lines text) ≡ None → is_cut text ≡ false → is_end (item_before (lines text)) ≡ false → n ≡ line_number (length (lines text)) → certificate_in text ≡ Err n
unended_refused text n fine whole more same = end_decides text (Some n) fine (cond-false _ (Some (min (length (lines text)) 18446744073709551615)) (unended text) whole ∙ cond-false _ None (Some (line_number (length (lines text)))) more ∙ ap (λ (k : ℕ). Some k) (sym same))

pub ended_read : (text : List ℕ) (users groups : Side) → first_fault line_fault [] (lines text) ≡ None → is_cut text ≡ false → is_end (item_before (lines text)) ≡ true → users ≡ side_in User (lines text) → groups ≡ side_in Group (lines text) → certificate_in text ≡ Ok (record { users = users; groups = groups })
ended_read text users groups fine whole ended one two =
    end_decides text None fine (cond-false _ _ (unended text) whole ∙ cond-true _ None (Some (line_number (length (lines text)))) ended)
    ∙ ap (λ (s : Side). Ok (record { users = s; groups = side_in Group (lines text) })) (sym one)
    ∙ ap (λ (s : Side). Ok (record { users = users; groups = s })) (sym two)

-- a refusal that is handed on
pub handed_on : (text : List ℕ) (r : Result Certificate CertificateFault) (f : CertificateFault) → IsErr r → IsErrAnd r (λ e. e ≡ f) → IfSome (line_told f) (λ n. first_fault line_fault [] (lines text) ≡ Some n) → Gives (λ (c : Certificate). c) line_told r (certificate_in text)
handed_on text (Ok c) f err is h = absurd (false≢true err)
handed_on text (Err e) f err is h =
    let P : CertificateFault → Type 0 = λ x. IfSome (line_told x) (λ n. certificate_in text ≡ Err n) in
    subst P (sym is) (told_line (line_told f) h)
  where
    told_line : (o : Option ℕ) → IfSome o (λ n. first_fault line_fault [] (lines text) ≡ Some n) → IfSome o (λ n. certificate_in text ≡ Err n)
    told_line None h = tt
    told_line (Some n) h = line_refused text n h

-- the lines of a kind are a side
pub side_read : (text : List ℕ) (s : Side) → first_fault line_fault [] (lines text) ≡ None → s ≡ side_in User (lines text) → IsSide s
side_read text s fine same = let P : Side → Type 0 = λ x. IsSide x in subst P (sym same) (lines_give_side User (lines text) fine)

pub group_side_read : (text : List ℕ) (s : Side) → first_fault line_fault [] (lines text) ≡ None → s ≡ side_in Group (lines text) → IsSide s
group_side_read text s fine same = let P : Side → Type 0 = λ x. IsSide x in subst P (sym same) (lines_give_side Group (lines text) fine)
