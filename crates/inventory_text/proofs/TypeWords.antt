-- That the line of a file tells its kind.
use Rattle.std.proofs.Common.{◌≡◌, ℕ, true, ◌==◌, List, ◌∷◌, refl, ap, ◌∙◌}
use Rattle.std.specs.Prelude.{drop, Some}
use Rattle.std.proofs.lemmas.List.Splits.{slice_split_at}
use Rattle.idtext.specs.Pieces.{pieces}
use Rattle.inventory_text.specs.Writing.{gid_word, name_word, spaced, type_word, uid_word}
use Rattle.inventory_text.specs.KindsBack.{KindsReadBack, kind_of_keywords}
use Rattle.inventory_text.specs.declared.kind.FileKind.{FileKind}
use Rattle.inventory_text.specs.declared.kind.FileKind.TheVariants.{Block, Character, Directory, Fifo, Regular, Link, Socket}
use Rattle.inventory_text.proofs.Heads.{no_space}
use Rattle.inventory_text.proofs.Visible.{escaped-visible, is_visible}

type-visible : (kind : FileKind) → is_visible (type_word kind) ≡ true
type-visible Block = refl
type-visible Character = refl
type-visible Directory = refl
type-visible Fifo = refl
type-visible Regular = refl
type-visible Link = refl
type-visible Socket = refl

said : (kind : FileKind) (words : List (List ℕ)) → kind_of_keywords (type_word kind ∷ words) ≡ Some kind
said Block words = refl
said Character words = refl
said Directory words = refl
said Fifo words = refl
said Regular words = refl
said Link words = refl
said Socket words = refl

word-split : (word rest : List ℕ) → is_visible word ≡ true → pieces 32 (spaced word rest) ≡ word ∷ pieces 32 rest
unfolding pieces
word-split word rest h = slice_split_at (λ b. b == 32) word 32 rest (no_space word h) refl

pub kind-back : KindsReadBack
kind-back listed =
    let file = listed.file in
    let owner = spaced (uid_word file.uid) (gid_word file.gid) in
    ap (λ (ps : List (List ℕ)). kind_of_keywords (drop 1 ps)) (word-split (name_word file.path) (spaced (type_word listed.kind) owner) (escaped-visible file.path))
    ∙ ap kind_of_keywords (word-split (type_word listed.kind) owner (type-visible listed.kind))
    ∙ said listed.kind (pieces 32 owner)
