use Rattle.std.proofs.Common.{◌≡◌, ℕ, List, [], ◌∷◌, ◌++◌, decimal, append_assoc, ap, ◌∙◌}
use Rattle.std.specs.Prelude.{codes}
use Rattle.kept_names.proofs.reply.push_more_line.Goals as goal

-- a text to which five others were appended, one after the other
appended : (front a b c d e one two three four five : List ℕ) → one ≡ front ++ a → two ≡ one ++ b → three ≡ two ++ c → four ≡ three ++ d → five ≡ four ++ e → five ≡ front ++ (a ++ b ++ c ++ d ++ e)
appended front a b c d e one two three four five p q r s t =
    t ∙ ap (λ x. x ++ e) (s ∙ ap (λ x. x ++ d) (r ∙ ap (λ x. x ++ c) (q ∙ ap (λ x. x ++ b) p))) ∙ simp append_assoc

pub returns : goal.returns
returns c =
    appended c.args.lines.now.items (codes "unify: more ") c.args.word.now (codes ": ") (decimal c.args.number) (10 ∷ []) _ _ _ _ _
    c.in_ok-extend_from_slice.ensures.items
    (c.in_ok-extend_from_slice-2.ensures.items ∙ ap (λ b. c.extend_from_slice.new.self.items ++ b) c.as_bytes.ensures.value)
    c.in_ok-extend_from_slice-3.ensures.items
    c.in_ok-push_number.ensures
    c.in_ok-push.ensures.items
