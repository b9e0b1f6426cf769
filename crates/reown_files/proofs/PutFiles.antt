-- What is put into the files of the mark and of the modes is what is read there.
use Rattle.std.proofs.Common.{◌≡◌, ◌∙◌, ◌∷◌, ◌++◌, ◌&&◌, [], ℕ, Bool, true, false, cond, not, List, Option, None, Some, Result, Ok, refl, sym, ap, subst, arith, length, append-nil}
use Rattle.std.specs.Prelude.{is_some}
use Rattle.std.proofs.lemmas.Grind.{flat_map-append}
use Rattle.reown_plan.specs.Mark.{mark_of, mark_eq}
use Rattle.reown_plan.specs.Owners.{owner_eq}
use Rattle.reown_files.specs.Actions.{Action, FileRead, modes_read}
use Rattle.reown_files.specs.Asked.{line_of}
use Rattle.reown_files.specs.Laws.{MarksPutAreSeen, MarksAreMetAsSeen, ModesPutAreRead, LinesAreOfMetFiles, entries_met}
use Rattle.reown_files.specs.Looks.{has_set_id}
use Rattle.reown_files.specs.MarkText.{Entry, entry, line_text, lines_text, lines_told, mark_text, mark_told, modes_text, mode_in, text_or_empty}
use Rattle.reown_files.specs.Trees.{HasRead, HasModesOf, IsTold}
use Rattle.reown_files.specs.declared.answers.Trouble.{Trouble}
use Rattle.reown_files.proofs.MarksText.{marks_back}
use Rattle.reown_files.proofs.ModesText.{lines_back}
use Rattle.reown_files.proofs.WholeModes.{judged}

-- ---- the mark

same_text : (mark : List ℕ) (a b : Option (List ℕ)) (old : List Action) → FileRead mark a ∷ old ≡ FileRead mark b ∷ old → a ≡ b
same_text mark a b old e = cc

same_answer : (a b : Bool) → Some a ≡ Some b → a ≡ b
same_answer a b e = cc

pub marks_seen : MarksPutAreSeen
marks_seen =
    record {
      put = λ plan other mark set old is is' h.
          let text = same_text mark (Some (mark_text (mark_of plan))) h.0 old h.2 in
          same_answer set (mark_eq (mark_of plan) (mark_of other)) (sym h.1 ∙ ap (mark_told (mark_of other)) (sym text) ∙ marks_back plan other is is');
      none = λ plan mark set old h.
          let text = same_text mark None h.0 old h.2 in
          same_answer set false (sym h.1 ∙ ap (mark_told plan) (sym text));
    }

pub marks_met : MarksAreMetAsSeen
marks_met mark plan set old new h = (FileRead mark h.0 ∷ old, (h.0, h.1, refl), h.2)

-- ---- the modes

module _ (mark modes : List ℕ) (beside : Option (List ℕ)) (text : List ℕ) (actions : List Action) where
  -- two files were read, and not one
  never_one : ¬ (FileRead mark beside ∷ FileRead modes (Some text) ∷ actions ≡ FileRead modes None ∷ actions)
  never_one e = absurd (omega (arith, ap length e))

  -- and so it is told which texts were read
  texts_are : (other there : Option (List ℕ)) → FileRead mark beside ∷ FileRead modes (Some text) ∷ actions ≡ modes_read mark modes other there actions → there ≡ Some text
  texts_are other None e = absurd (never_one e)
  texts_are other (Some there) e =
      let e' : FileRead mark beside ∷ FileRead modes (Some text) ∷ actions ≡ FileRead mark other ∷ FileRead modes (Some there) ∷ actions = e in
      let same : there ≡ text = cc in ap Some same

pub same_lines : (a b : Option (List ℕ)) (told : Result (Option (List ℕ)) Trouble) → told ≡ Ok a → told ≡ Ok b → a ≡ b
same_lines a b told one other = cc

same_entries : (a b : List Entry) → Some a ≡ Some b → a ≡ b
same_entries a b e = cc

pub modes_read_back : ModesPutAreRead
modes_read_back plan entries mark modes beside begun actions read now tree noted is small h =
    let m = mark_of plan in
    let text = modes_text m (lines_text entries) in
    let there = texts_are mark modes beside text actions h.1 h.0 h.2 in
    let told : IsTold m (lines_told m h.1 (Some text)) false begun read tree now noted = subst (λ (t : Option (List ℕ)). IsTold m (lines_told m h.1 t) false begun read tree now noted) there h.3 in
    let is_lines : told.0 ≡ Some (lines_text entries) = same_lines told.0 (Some (lines_text entries)) (lines_told m h.1 (Some text)) told.1 (judged.own plan entries (text_or_empty h.1) is) in
    let has : HasRead m (Some (lines_text entries)) read tree now noted = subst (λ (o : Option (List ℕ)). HasRead m o read tree now noted) is_lines told.3 in
    let of_lines : HasModesOf (lines_text entries) noted = has.1 in
    let same = same_entries of_lines.0 entries (sym of_lines.1 ∙ lines_back entries small) in (
      told.2 ∙ ap (λ (o : Option (List ℕ)). is_some o) is_lines,
      has.0,
      λ path. of_lines.2 path ∙ ap (λ (es : List Entry). mode_in es path) same,
    )

-- ---- the lines

one_line : (noted : Bool) (path : List ℕ) (mode : ℕ) → lines_text (cond noted (entry path mode ∷ []) []) ≡ cond noted (line_text path mode) []
one_line true path mode = append-nil (line_text path mode)
one_line false path mode = refl

pub lines_of_met : LinesAreOfMetFiles
lines_of_met path after owner old new entries was h =
    let found = h.0 in
    let noted = not (owner_eq found.owner after) && has_set_id found in (
      found,
      sym h.1,
      h.4 ∙ ap (λ (ls : List ℕ). ls ++ line_of path after found) was
          ∙ ap (λ (ls : List ℕ). lines_text entries ++ ls) (sym (one_line noted path found.mode))
          ∙ sym (flat_map-append (λ (e : Entry). line_text e.0 e.1) entries (entries_met path after found)),
    )
