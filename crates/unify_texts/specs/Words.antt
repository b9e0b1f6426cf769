-- Words of a line, with one space between.
-- Source: this project's own formats.
use Rattle.std.specs.Prelude.{ℕ, List, [], ◌∷◌, ◌++◌, flat_map, codes, decimal}
use Rattle.idtext.specs.Escapes.{escaped}
use Rattle.hosts_join.specs.declared.Which.{Which}
use Rattle.hosts_join.specs.declared.Which.TheVariants as which
use Rattle.unify_texts.specs.declared.words.Word.{Word}
use Rattle.unify_texts.specs.declared.words.Word.TheVariants as word

abbrev pub which_word : Which → List ℕ
which_word which.User = codes "user"
which_word which.Group = codes "group"

-- a name or a path: a hyphen where it is empty
abbrev pub shown : List ℕ → List ℕ
shown [] = codes "-"
shown (b ∷ name) = escaped (b ∷ name)

-- words, each after a space
abbrev pub spaced : List (List ℕ) → List ℕ
spaced words = flat_map (λ word. 32 ∷ word) words

-- a line: its first word, the others, and the newline
abbrev pub line : List ℕ → List (List ℕ) → List ℕ
line first words = first ++ (spaced words ++ 10 ∷ [])

-- what one word of the code stands for
abbrev pub word_text : Word → List ℕ
word_text (word.Text text) = text.now
word_text (word.Raw name) = name.now
word_text (word.Shown name) = shown name.now
word_text (word.Number n) = decimal n
