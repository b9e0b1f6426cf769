use Rattle.std.proofs.Common.{◌≡◌, ◌∙◌, ◌&&◌, [], ◌∷◌, ℕ, Bool, List, sym, ap, drop, take, length}
use Rattle.std.specs.Prelude.{nat_eq}
use Rattle.std.specs.List.{starts_with, ends_with}
use Rattle.std.specs.Str.{bytes_eq}
use Rattle.std.specs.Cmp.Lexicographic.{bytes_decides}
use Rattle.reown_files.specs.MarkText.{mark_head, modes_head}
use Rattle.reown_files.proofs.MarksText.{same_test}
use Rattle.reown_files.proofs.modes_file.has_ended.Goals as goal

turned : (a b : List ℕ) → bytes_eq a b ≡ bytes_eq b a
turned a b =
    same_test (bytes_eq a b) (bytes_eq b a) (λ e. (bytes_decides b a).1 (sym ((bytes_decides a b).0 e))) (λ e. (bytes_decides a b).1 (sym ((bytes_decides b a).0 e)))

-- what is asked after the first words of the text
abbrev behind_text : List ℕ → List ℕ → Bool
behind_text mark text =
    ends_with nat_eq (drop (length mark_head) mark) (10 ∷ []) && starts_with nat_eq (drop (length modes_head) text) (drop (length mark_head) mark)

pub returns-in_default : goal.returns-in_default
returns-in_default c =
    let mark = c.args.mark.now in
    let text = c.args.text.now in
    sym (ap (λ (t : Bool). t && (starts_with nat_eq text modes_head && behind_text mark text)) (turned mark_head (take (length mark_head) mark) ∙ c.in_default.ensures.cases))

pub returns-in_default-strip_prefix : goal.returns-in_default-strip_prefix
returns-in_default-strip_prefix c =
    let mark = c.args.mark.now in
    let text = c.args.text.now in
    sym (ap (λ (t : Bool). t && (starts_with nat_eq text modes_head && behind_text mark text)) (turned mark_head (take (length mark_head) mark) ∙ c.in-Some.ensures.cases.0)
    ∙ ap (λ (t : Bool). t && behind_text mark text) (turned modes_head (take (length modes_head) text) ∙ c.in_default-strip_prefix.ensures.cases))
