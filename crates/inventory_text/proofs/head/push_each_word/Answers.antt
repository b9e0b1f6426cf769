use Rattle.std.proofs.Common.{◌≡◌, ℕ, List, [], ◌∷◌, ◌++◌, map, sym, ap, ◌∙◌, append_assoc}
use Rattle.std.specs.Prelude.{Result, Ok, Err, OnOk, codes, is_ok, if◌then◌else◌}
use Rattle.std.specs.Borrow.{Bor}
use Rattle.std.proofs.lemmas.List.Concat.{flat_map-append}
use Rattle.idtext.specs.Escapes.{escaped}
use Rattle.inventory_text.specs.Writing.{ended, words_text}
use Rattle.inventory_text.proofs.head.push_each_word.Goals as goal

-- the front, two words and all others are a line
line-made : (old front host time : List ℕ) (roots : List (List ℕ)) → ((old ++ front) ++ words_text (host ∷ time ∷ [])) ++ words_text roots ≡ old ++ (front ++ words_text (host ∷ time ∷ roots))
line-made old front host time roots =
    append_assoc (old ++ front) (words_text (host ∷ time ∷ [])) (words_text roots)
    ∙ append_assoc old front (words_text (host ∷ time ∷ []) ++ words_text roots)
    ∙ ap (λ (t : List ℕ). old ++ (front ++ t)) (sym (flat_map-append (λ (word : List ℕ). 32 ∷ escaped word) (host ∷ time ∷ []) roots))

line-ended : {E : Type 0} (result : Result (Unit {0}) E) (new old made line : List ℕ) → new ≡ (if is_ok result then made ++ 10 ∷ [] else made) → made ≡ old ++ line → OnOk result (new ≡ old ++ ended line)
line-ended (Ok done) new old made line is made-is = is ∙ ap (λ (t : List ℕ). t ++ 10 ∷ []) made-is ∙ append_assoc old line (10 ∷ [])
line-ended (Err e) new old made line is made-is = tt

pub returns-clause-pushed : goal.returns-clause-pushed
returns-clause-pushed c =
    let old : List ℕ = c.args.text.now.items in
    let front : List ℕ = codes "# unify inventory 1" in
    let words : List (List ℕ) = c.args.host.now ∷ c.args.time.now ∷ [] in
    let roots : List (List ℕ) = map (λ (root : Bor (List ℕ)). root.now) c.args.roots.now in
    line-ended c.extend_from_slice-2.result c.extend_from_slice-2.new.self.items old c.push_words-2.new.text.items (front ++ words_text (c.args.host.now ∷ c.args.time.now ∷ roots)) c.extend_from_slice-2.ensures.items
    (c.in_ok-push_words-2.ensures.pushed
    ∙ ap (λ (t : List ℕ). t ++ words_text roots) (c.in_ok-push_words.ensures.pushed ∙ ap (λ (t : List ℕ). t ++ words_text words) c.in_ok-extend_from_slice.ensures.items)
    ∙ line-made old front c.args.host.now c.args.time.now roots)
