use Rattle.std.proofs.Common.{◌≡◌, ◌⊎◌, inl, inr, ◌∙◌, ◌∷◌, ◌++◌, [], List, ℕ, sym, ap}
use Rattle.std.proofs.lemmas.List.{append-nil, append_assoc}
use Rattle.idtext.specs.Escapes.{characters, unescaped, has_bad_escape, bytes_of, is_bad}
use Rattle.idtext.specs.declared.escapes.Character.{Character}
use Rattle.idtext.specs.declared.escapes.Character.TheVariants.{Plain, Escape}
use Rattle.std.specs.List.{list_any}
use Rattle.idtext.proofs.EscapeLemmas.{characters-empty}
use Rattle.reown_files.proofs.modes_file.path_of.Goals as goal

pub returns : goal.returns
returns c =
    let path = c.loop-found.path.items in
    let none : unescaped c.loop-found.rest.now ≡ [] = ap unescaped c.in_default.ensures.characters ∙ ap bytes_of characters-empty in
    let good = ap has_bad_escape c.in_default.ensures.characters ∙ ap (list_any is_bad) characters-empty in
    (sym (append-nil path) ∙ sym (ap (λ r. path ++ r) none) ∙ c.loop-found.invariant.0, sym c.loop-found.invariant.1 ∙ good)

-- a character that stands for a byte, in front of others
one_byte : (c : Character) (byte : ℕ) (cs : List Character) → (c ≡ Plain byte) ⊎ (c ≡ Escape byte) → (bytes_of (c ∷ cs) ≡ byte ∷ bytes_of cs) × (list_any is_bad (c ∷ cs) ≡ list_any is_bad cs)
one_byte c byte cs (inl is) = (ap (λ (x : Character). bytes_of (x ∷ cs)) is, ap (λ (x : Character). list_any is_bad (x ∷ cs)) is)
one_byte c byte cs (inr is) = (ap (λ (x : Character). bytes_of (x ∷ cs)) is, ap (λ (x : Character). list_any is_bad (x ∷ cs)) is)

pub loop-found-preserved : goal.loop-found-preserved
loop-found-preserved c =
    let path = c.loop-found.path.items in
    let byte = c.in-Plain.byte in
    let next = c.in-Some.next.now in
    let is = c.in-Some.ensures.characters in
    let one = one_byte c.in-Some.found byte (characters next) c.in-Plain.is in (
      ap (λ (bytes : List ℕ). bytes ++ unescaped next) c.in_ok-extend_from_slice-in-Plain.ensures.items ∙ append_assoc path (byte ∷ []) (unescaped next)
          ∙ ap (λ (bytes : List ℕ). path ++ bytes) (sym (ap bytes_of is ∙ one.0)) ∙ c.loop-found.invariant.0,
      sym (ap (list_any is_bad) is ∙ one.1) ∙ c.loop-found.invariant.1,
    )
