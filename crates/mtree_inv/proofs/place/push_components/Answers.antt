use Rattle.std.proofs.Common.{◌≡◌, ℕ, List, ◌∷◌, true, not, refl, sym, ◌∙◌, ap, subst}
use Rattle.std.specs.Prelude.{IfOk}
use Rattle.std.proofs.lemmas.Bool.{ne_eqb}
use Rattle.idtext.specs.Escapes.{characters}
use Rattle.idtext.specs.declared.escapes.Character.{Character}
use Rattle.idtext.specs.declared.escapes.Character.TheVariants.{Plain, Escape}
use Rattle.mtree_inv.specs.Machine.{joined_onto}
use Rattle.mtree_inv.specs.Paths.{components, has_bad_component, is_bad_component}
use Rattle.mtree_inv.proofs.PartLemmas.{ReadTo, read-byte, last-bad, last-path, with_part}
use Rattle.mtree_inv.proofs.place.push_components.Goals as goal

pub returns-clause-bad : goal.returns-clause-bad
returns-clause-bad c =
    subst (λ bad. IfOk c.push_part-2.result (λ lawful. lawful ≡ not bad))
    (ap is_bad_component c.deref-2.ensures.value ∙ last-bad _ _ c.loop-character.rest.now _ _ c.in_default.ensures.characters c.loop-character.invariant)
    c.push_part-2.ensures.bad

pub returns-clause-path : goal.returns-clause-path
returns-clause-path c =
    subst (λ path. IfOk c.push_part-2.result (λ lawful. lawful ≡ true → c.push_part-2.new.path.items ≡ path))
    (ap (with_part c.loop-character.path.items) c.deref-2.ensures.value ∙ last-path _ _ c.loop-character.rest.now _ _ c.in_default.ensures.characters c.loop-character.invariant)
    c.push_part-2.ensures.path

pub loop-character-preserved-in_ok-push-in-Escape : goal.loop-character-preserved-in_ok-push-in-Escape
loop-character-preserved-in_ok-push-in-Escape c =
    subst (λ (part : List ℕ). ReadTo c.loop-character.path.items part c.in-Some.after.now (has_bad_component c.args.word.now) (joined_onto c.args.path.now.items (components c.args.word.now)))
    (sym c.in_ok-push-in-Escape.ensures.items)
    (read-byte _ _ c.loop-character.rest.now _ _ _ (Escape c.in-Escape.byte) c.in-Escape.byte refl refl (λ cs. refl)
    (c.in-Some.ensures.characters ∙ ap (λ (found : Character). found ∷ characters c.in-Some.after.now) c.in-Escape.is) c.loop-character.invariant)

pub loop-character-preserved-in_ok-push-in-Plain : goal.loop-character-preserved-in_ok-push-in-Plain
loop-character-preserved-in_ok-push-in-Plain c =
    subst (λ (part : List ℕ). ReadTo c.loop-character.path.items part c.in-Some.after.now (has_bad_component c.args.word.now) (joined_onto c.args.path.now.items (components c.args.word.now)))
    (sym c.in_ok-push-in-Plain.ensures.items)
    (read-byte _ _ c.loop-character.rest.now _ _ _ (Plain c.in-Plain.byte) c.in-Plain.byte refl (ne_eqb c.in-Plain.byte 47 c.if-byte-ne47.true) (λ cs. refl)
    (c.in-Some.ensures.characters ∙ ap (λ (found : Character). found ∷ characters c.in-Some.after.now) c.in-Plain.is) c.loop-character.invariant)
