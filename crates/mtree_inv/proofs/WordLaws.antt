-- The laws of the words of a line.
use Rattle.std.proofs.Common.{◌≡◌, ◌≢◌, ◌↔◌, ℕ, Bool, true, false, cond, ◌&&◌, ◌||◌, List, [], ◌∷◌, ◌++◌, length, take, drop, All, refl, ap, ◌∙◌, codes}
use Rattle.std.specs.Prelude.{Option, Some, None, ◌==◌}
use Rattle.std.specs.Cmp.Lexicographic.{bytes_decides}
use Rattle.std.specs.List.{list_any}
use Rattle.std.specs.Option.{option_or}
use Rattle.std.specs.Str.{bytes_eq}
use Rattle.std.proofs.lemmas.Bool.{eq-eqb, eqb-true}
use Rattle.std.proofs.lemmas.List.Elements.{All-head, All-tail}
use Rattle.idtext.specs.Words.{words}
use Rattle.mtree_inv.specs.Keywords.{is_equals_sign, key_of, value_of, given_by, own, says_dir, in_force}
use Rattle.mtree_inv.specs.Kinds.{Sets, Unsets, Up, kind_of_words}
use Rattle.mtree_inv.specs.Laws.{SetsItsWords, UnsetsItsWords, DotDotIsUp, LastWordCounts, BareWordsCount, OthersSayNothing, OnlyDirIsADirectory}
use Rattle.mtree_inv.proofs.CommentLemmas.{kind-by-words}
use Rattle.mtree_inv.proofs.KeywordLemmas.{given-begun}

-- ---- what a line is

pub sets_words : SetsItsWords
sets_words text keywords e = kind-by-words text (Sets keywords) (ap kind_of_words e) (λ same. cc)

pub unsets_words : UnsetsItsWords
unsets_words text keywords e = kind-by-words text (Unsets keywords) (ap kind_of_words e) (λ same. cc)

pub dot_dot_up : DotDotIsUp
dot_dot_up text keywords e = kind-by-words text Up (ap kind_of_words e) (λ same. cc)

-- ---- the value of a key

no_sign : (key : List ℕ) → All (λ b. b ≢ 61) key → list_any is_equals_sign key ≡ false
no_sign [] all = refl
no_sign (b ∷ key) all =
    let here : b ≢ 61 = All-head (λ c. c ≢ 61) b key all in
    let rest = no_sign key (All-tail (λ c. c ≢ 61) b key all) in
    (λ i. by here (b == 61) refl i || rest i)
  where
    by : b ≢ 61 → (t : Bool) → (b == 61) ≡ t → t ≡ false
    by other true e = absurd (other (eqb-true b 61 e))
    by other false e = refl

begins : (key more : List ℕ) → bytes_eq (take (length key) (key ++ more)) key ≡ true
begins [] more = refl
begins (k ∷ key) more = (λ i. eq-eqb k k refl i && begins key more i)

behind : (key more : List ℕ) → more ≡ drop (length key) (key ++ more)
behind [] more = refl
behind (k ∷ key) more = behind key more

gives : (key value : List ℕ) → All (λ b. b ≢ 61) key → given_by key (key ++ 61 ∷ value) ≡ Some value
gives key value all = given-begun key (key ++ 61 ∷ value) (no_sign key all) (61 ∷ value) true (begins key (61 ∷ value)) (behind key (61 ∷ value)) refl

gives_none : (key word : List ℕ) → key_of word ≢ key → given_by key word ≡ None
gives_none key word other = by (bytes_eq (key_of word) key) refl
  where
    by : (b : Bool) → bytes_eq (key_of word) key ≡ b → cond b (Some (value_of word)) None ≡ None
    by true e = absurd (other ((bytes_decides (key_of word) key).0 e))
    by false e = refl

pub own_none : OthersSayNothing
own_none key [] all = refl
own_none key (word ∷ words) all =
    ap (λ (o : Option (List ℕ)). option_or o (given_by key word)) (own_none key words (All-tail (λ w. key_of w ≢ key) word words all))
    ∙ gives_none key word (All-head (λ w. key_of w ≢ key) word words all)

own_last : (key word value : List ℕ) (before after : List (List ℕ)) → given_by key word ≡ Some value → own key after ≡ None → own key (before ++ word ∷ after) ≡ Some value
own_last key word value [] after is none = ap (λ (o : Option (List ℕ)). option_or o (given_by key word)) none ∙ is
own_last key word value (w ∷ before) after is none = ap (λ (o : Option (List ℕ)). option_or o (given_by key w)) (own_last key word value before after is none)

pub last_counts : LastWordCounts
last_counts key value before after plain others = own_last key (key ++ 61 ∷ value) value before after (gives key value plain) (own_none key after others)

-- ---- a keyword without a sign

whole : (key : List ℕ) → bytes_eq (take (length key) key) key ≡ true
whole [] = refl
whole (k ∷ key) = (λ i. eq-eqb k k refl i && whole key i)

none_behind : (key : List ℕ) → [] ≡ drop (length key) key
none_behind [] = refl
none_behind (k ∷ key) = none_behind key

pub bare_counts : BareWordsCount
bare_counts key before after plain others =
    own_last key key [] before after (given-begun key key (no_sign key plain) [] true (whole key) (none_behind key) refl) (own_none key after others)

-- ---- directories

says_dir-only : (kind : Option (List ℕ)) → (says_dir kind ≡ true) ↔ (kind ≡ Some (codes "dir"))
says_dir-only None = (λ is. absurd (cc), λ is. absurd (cc))
says_dir-only (Some value) = (λ is. ap Some ((bytes_decides value (codes "dir")).0 is), λ is. (bytes_decides value (codes "dir")).1 (cc))

pub only_dir : OnlyDirIsADirectory
only_dir before keywords = says_dir-only (in_force (codes "type") before keywords)
