-- What is asked of files, and a count of them.
use Rattle.std.proofs.Common.{◌≡◌, ◌+◌, ◌&&◌, ◌||◌, inl, inr, ℕ, Bool, true, false, cond, List, [], ◌∷◌, ◌++◌, Option, None, Some, refl, sym, ◌∙◌, ap, subst, length, arith}
use Rattle.std.specs.List.{count_by}
use Rattle.std.specs.Option.{option_map}
use Rattle.std.proofs.lemmas.Bool.{true≢false}
use Rattle.std.proofs.lemmas.List.Elements.{Contains-append_cases, Contains-push_cases}
use Rattle.std.proofs.lemmas.List.Recursion.{is_count_by}
use Rattle.std.specs.Cmp.Lexicographic.{bytes_decides}
use Rattle.std.specs.List.{Contains}
use Rattle.std.specs.Str.{bytes_eq}
use Rattle.reown_plan.specs.declared.plan.Owner.{Owner}
use Rattle.reown_files.specs.Asked.{Asked, Told, Counted, Awaited, Given, ModeGiven, Synced, names_of, with_name, one_less, met_of, is_named, waits, is_counted, HasAllNames, HasNamesMet, LacksNames, IsGiven, IsGivenAtMost, IsKept}
use Rattle.reown_files.specs.FileLaws.{BeginsWithLook, OwnersAreLookedAt, IsGivenBetween, IsAwaited, FilesAreGivenBetweenLooks, is_name_of, NamesAreAllCounted, NamesAreChecked}
use Rattle.reown_files.specs.Looks.{id_of, is_other, has_several_names}
use Rattle.reown_files.specs.OneFile.{AreOneFile}
use Rattle.reown_files.specs.declared.answers.Modes.{Modes}
use Rattle.reown_files.specs.declared.answers.Trouble.{Trouble}
use Rattle.reown_files.specs.declared.answers.Trouble.TheVariants.{LinkedElsewhere}
use Rattle.reown_files.specs.declared.names.Names.{Names}
use Rattle.reown_files.specs.declared.walk.Found.{Found}
use Rattle.reown_files.proofs.Laws.{or_true, or_first, and_true}

-- ---- owners that are looked at

given_looked : (path : List ℕ) (before after : Owner) (modes : Modes) (old new : List Asked) → IsGiven path before after modes old new → BeginsWithLook path before old new
given_looked path before after modes old new (found, owner, mode, way) = elim way [
  | inl h ↦ (found, owner, Awaited found ∷ [], h.2)
  | inr h ↦ (found, owner, Told path h.1.0 ∷ Given path after ∷ Awaited found ∷ [], h.1.4)
]

synced : (path : List ℕ) (whole : Bool) (asked : List Asked) → (more : List Asked) × (cond whole asked (Synced path ∷ asked) ≡ more ++ asked)
synced path true asked = ([], refl)
synced path false asked = (Synced path ∷ [], refl)

kept_looked : (one_journal : Bool) (path : List ℕ) (owner : Owner) (old new : List Asked) → IsKept one_journal path owner old new → BeginsWithLook path owner old new
kept_looked one_journal path owner old new (found, is, e) =
    let more = synced path (one_journal || is_other found.kind) (Told path found ∷ old) in (found, is, more.0, e ∙ more.1)

pub owners_looked_at : OwnersAreLookedAt
owners_looked_at =
    record {
      given = given_looked;
      mode_set = λ path owner mode old new h. (h.0, h.1, ModeGiven path mode ∷ [], h.3);
      kept = kept_looked;
      lost = λ path owner mode old new h. (h.0, h.1, [], h.3);
    }

module _ (path : List ℕ) (before after : Owner) (modes : Modes) where
  given_between : (found now : Found) (old : List Asked) → IsGiven path before after modes old (Told path now ∷ Given path after ∷ Awaited found ∷ Told path found ∷ old) → IsGivenBetween before after modes found now old
  given_between found now old (f, owner, mode, way) = elim way [
    | inl h ↦ absurd (let e : Told path now ∷ Given path after ∷ Awaited found ∷ Told path found ∷ old ≡ Awaited f ∷ Told path f ∷ old = h.2 in cc)
    | inr h ↦ (
        let n = h.1.0 in
        let e : Told path now ∷ Given path after ∷ Awaited found ∷ Told path found ∷ old ≡ Told path n ∷ Given path after ∷ Awaited f ∷ Told path f ∷ old = h.1.4 in
        let is : found ≡ f = cc in
        let then : now ≡ n = cc in
        record {
          from = ap (λ (x : Found). x.owner) is ∙ owner;
          to = ap (λ (x : Found). x.owner) then ∙ h.1.1;
          one = subst (λ (x : Found). AreOneFile x found) (sym then) (subst (λ (x : Found). AreOneFile n x) (sym is) h.1.2);
          mode_before = mode ∙ ap (λ (x : Found). x.mode) (sym is);
          mode_after = h.1.3 ∙ ap (λ (x : Found). x.mode) (sym then);
          last = ap (λ (x : Found). waits x old) is ∙ h.0;
        })
  ]

  still_awaited : (found : Found) (old : List Asked) → IsGiven path before after modes old (Awaited found ∷ Told path found ∷ old) → IsAwaited before modes found old
  still_awaited found old (f, owner, mode, way) = elim way [
    | inl h ↦ (
        let e : Awaited found ∷ Told path found ∷ old ≡ Awaited f ∷ Told path f ∷ old = h.2 in
        let is : found ≡ f = cc in
        let same = ap (λ (x : Found). x.mode) (sym is) in
        record { from = ap (λ (x : Found). x.owner) is ∙ owner; mode_before = mode ∙ same; mode_after = h.1 ∙ same; more = ap (λ (x : Found). waits x old) is ∙ h.0 })
    | inr h ↦ absurd (let e : Awaited found ∷ Told path found ∷ old ≡ Told path h.1.0 ∷ Given path after ∷ Awaited f ∷ Told path f ∷ old = h.1.4 in cc)
  ]

  then_seen : (old asked : List Asked) → ¬ IsGiven path before after modes old (Given path after ∷ asked)
  then_seen old asked (f, owner, mode, way) = elim way [
    | inl h ↦ (let e : Given path after ∷ asked ≡ Awaited f ∷ Told path f ∷ old = h.2 in absurd cc)
    | inr h ↦ (let e : Given path after ∷ asked ≡ Told path h.1.0 ∷ Given path after ∷ Awaited f ∷ Told path f ∷ old = h.1.4 in absurd cc)
  ]

-- what was given though the call failed
given_if_at_all : (path : List ℕ) (before after : Owner) (found : Found) (old : List Asked) → IsGivenAtMost path before after old (Given path after ∷ Awaited found ∷ Told path found ∷ old) → (found.owner ≡ before) × (waits found old ≡ false)
given_if_at_all path before after found old h = elim h [
  | inl (inl e) ↦ absurd (omega (arith, ap length e))
  | inl (inr h) ↦ absurd (let e : Given path after ∷ Awaited found ∷ Told path found ∷ old ≡ Told path h.0 ∷ old = h.1 in cc)
  | inr (f, owner, last, way) ↦ elim way [
    | inl e ↦ absurd (let e' : Given path after ∷ Awaited found ∷ Told path found ∷ old ≡ Awaited f ∷ Told path f ∷ old = e in cc)
    | inr (inl e) ↦ (
        let e' : Given path after ∷ Awaited found ∷ Told path found ∷ old ≡ Given path after ∷ Awaited f ∷ Told path f ∷ old = e in
        let is : found ≡ f = cc in
        (ap (λ (x : Found). x.owner) is ∙ owner, ap (λ (x : Found). waits x old) is ∙ last))
    | inr (inr h) ↦ absurd (let e' : Given path after ∷ Awaited found ∷ Told path found ∷ old ≡ Told path h.0 ∷ Given path after ∷ Awaited f ∷ Told path f ∷ old = h.1 in cc)
  ]
]

pub given_between_looks : FilesAreGivenBetweenLooks
given_between_looks = record { given = given_between; awaited = still_awaited; seen_again = then_seen; failed = given_if_at_all }

-- ---- names

name_more : (is : Bool) (after : Owner) (names : Option Names) → met_of (cond is (Some (with_name after names)) names) ≡ cond is (1 + met_of names) (met_of names)
name_more true after None = refl
name_more true after (Some names) = omega arith
name_more false after names = refl

name_less : (is : Bool) (names : Option Names) → met_of (cond is (option_map one_less names) names) ≡ met_of names
name_less true None = refl
name_less true (Some names) = refl
name_less false names = refl

module _ (found : Found) where
  abbrev met_in : List Asked → ℕ
  met_in asked = met_of (names_of (id_of found) asked)

  one_asked : (ask : Asked) (asked : List Asked) → met_in (ask ∷ asked) ≡ cond (is_name_of found ask) (1 + met_in asked) (met_in asked)
  one_asked (Counted path seen after) asked = name_more (is_named (id_of found) seen) after (names_of (id_of found) asked)
  one_asked (Awaited seen) asked = name_less (is_named (id_of found) seen) (names_of (id_of found) asked)
  one_asked (Told path seen) asked = refl
  one_asked (Given path after) asked = refl
  one_asked (ModeGiven path mode) asked = refl
  one_asked (Synced path) asked = refl

  met_counted : (asked : List Asked) → met_in asked ≡ count_by (is_name_of found) asked
  met_counted = is_count_by met_in (is_name_of found) refl one_asked

pub names_all_counted : NamesAreAllCounted
names_all_counted found asked = (λ h several. sym (met_counted found asked) ∙ h several, λ h several. met_counted found asked ∙ h several)

-- ---- paths by which names were counted

only_one : (a b : Asked) → Contains (a ∷ []) b → a ≡ b
only_one a b h = elim (Contains-push_cases [] a b h) [ inl none ↦ absurd (omega (arith, none.1)) | inr is ↦ is ]

counted_before : (path : List ℕ) (ask : Asked) (asked : List Asked) → is_counted path asked ≡ true → is_counted path (ask ∷ asked) ≡ true
counted_before path (Counted q seen after) asked h = or_true (has_several_names seen && bytes_eq path q) (is_counted path asked) h
counted_before path (Awaited seen) asked h = h
counted_before path (Told q seen) asked h = h
counted_before path (Given q after) asked h = h
counted_before path (ModeGiven q mode) asked h = h
counted_before path (Synced q) asked h = h

module _ (path : List ℕ) (met : Found) (after : Owner) (several : has_several_names met ≡ true) where
  counted_first : (asked : List Asked) → is_counted path (Counted path met after ∷ asked) ≡ true
  counted_first asked =
      or_first (has_several_names met && bytes_eq path path) (is_counted path asked) (and_true (has_several_names met) (bytes_eq path path) several ((bytes_decides path path).1 refl))

  was_counted : (asked : List Asked) → Contains asked (Counted path met after) → is_counted path asked ≡ true
  was_counted [] h = absurd (omega (arith, h.1))
  was_counted (ask ∷ asked) h = elim (Contains-append_cases (ask ∷ []) asked (Counted path met after) h) [
    | inl one ↦ subst (λ (a : Asked). is_counted path (a ∷ asked) ≡ true) (sym (only_one ask (Counted path met after) one)) (counted_first asked)
    | inr more ↦ counted_before path ask asked (was_counted asked more)
  ]

names_looked_at : (path : List ℕ) (met : Found) (after : Owner) (old new : List Asked) → Contains old (Counted path met after) → has_several_names met ≡ true → HasNamesMet path old new → (found : Found) × (new ≡ Told path found ∷ old) × (has_several_names found ≡ true → count_by (is_name_of found) old ≡ found.links)
names_looked_at path met after old new has several h = elim h [
  | inl none ↦ absurd (true≢false (sym (was_counted path met after several old has) ∙ none.0))
  | inr look ↦ (look.0, look.1, (names_all_counted look.0 old).0 look.2)
]

names_refused : (path : List ℕ) (trouble : Trouble) (found : Found) (old : List Asked) → LacksNames path trouble old (Told path found ∷ old) → (trouble ≡ LinkedElsewhere) × (¬ HasAllNames found old)
names_refused path trouble found old h = elim h [
  | inl e ↦ absurd (omega (arith, ap length e))
  | inr look ↦ (
      let e : Told path found ∷ old ≡ Told path look.0 ∷ old = look.1 in
      let is : found ≡ look.0 = cc in
      (look.2, λ all. look.3 (subst (λ (f : Found). HasAllNames f old) is all)))
]

pub names_checked : NamesAreChecked
names_checked = record { looked = names_looked_at; refused = names_refused }
