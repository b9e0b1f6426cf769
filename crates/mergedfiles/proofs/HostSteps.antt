-- Steps of the calls that renumber a host's own files.
use Rattle.std.proofs.Common.{◌≡◌, ℕ, ◌<◌, ◌≤◌, true, false, cond, List, [], ◌∷◌, ◌++◌, map, length, refl, sym, ap, ◌∙◌, append_assoc, arith, Option, Result, Ok, Err, is_ok}
use Rattle.std.specs.Result.{OnOk}
use Rattle.std.specs.List.{join_with_byte}
use Rattle.std.proofs.lemmas.List.Splits.{join_with_byte-slice_split}
use Rattle.idtext.specs.Names.{is_skipped}
use Rattle.idtext.specs.Pieces.{fields_of, pieces}
use Rattle.idtext.proofs.PieceLemmas.{pieces-length}
use Rattle.hosts_join.specs.Site.{Joined}
use Rattle.hosts_join.specs.declared.host.Host.{Host}
use Rattle.ownership.specs.declared.mapping.Mappings.{Mappings}
use Rattle.mergedfiles.specs.HostFiles.{new_number, new_primary, number_field, renumbered_user, renumbered_group, renumbered_line, renumbered_text}
use Rattle.mergedfiles.specs.Texts.{field}

-- ---- texts that are joined

join-first : (c : ℕ) (x : List ℕ) (xs : List (List ℕ)) → 1 ≤ length xs → join_with_byte c (x ∷ xs) ≡ x ++ c ∷ join_with_byte c xs
join-first c x [] h = absurd (omega (arith, h))
join-first c x (y ∷ ys) h = refl

join-back : (c : ℕ) (text : List ℕ) → join_with_byte c (pieces c text) ≡ text
unfolding pieces
join-back c text = join_with_byte-slice_split c text

join-fields : (x rest : List ℕ) → join_with_byte 58 (x ∷ fields_of rest) ≡ field x ++ rest
join-fields x rest =
    join-first 58 x (fields_of rest) (pieces-length 58 rest) ∙ ap (λ t. x ++ 58 ∷ t) (join-back 58 rest) ∙ sym (append_assoc x (58 ∷ []) rest)

-- a field in front of others
join-field : (x y : List ℕ) (ys : List (List ℕ)) → join_with_byte 58 (x ∷ y ∷ ys) ≡ field x ++ join_with_byte 58 (y ∷ ys)
join-field x y ys = sym (append_assoc x (58 ∷ []) (join_with_byte 58 (y ∷ ys)))

-- ---- a line

module _ (renumbered : List (List ℕ) → List (List ℕ)) where
  pub line-skipped : (line : List ℕ) → is_skipped line ≡ true → renumbered_line renumbered line ≡ line
  unfolding renumbered_line
  line-skipped line skipped = ap (λ b. cond b line (join_with_byte 58 (renumbered (fields_of line)))) skipped

  pub line-kept : (line : List ℕ) → is_skipped line ≡ false → renumbered_line renumbered line ≡ join_with_byte 58 (renumbered (fields_of line))
  unfolding renumbered_line
  line-kept line kept = ap (λ b. cond b line (join_with_byte 58 (renumbered (fields_of line)))) kept

  line-stays : (line : List ℕ) → is_skipped line ≡ false → renumbered (fields_of line) ≡ fields_of line → renumbered_line renumbered line ≡ line
  line-stays line kept same = line-kept line kept ∙ ap (join_with_byte 58) same ∙ join-back 58 line

  -- ---- a text

  pub text-more : (text line more : List ℕ) → pieces 10 text ≡ line ∷ pieces 10 more → renumbered_text renumbered text ≡ renumbered_line renumbered line ++ 10 ∷ renumbered_text renumbered more
  unfolding renumbered_text
  text-more text line more cut =
      ap (λ ps. join_with_byte 10 (map (renumbered_line renumbered) ps)) cut
      ∙ join-map (pieces 10 more) (pieces-length 10 more)
    where
      join-map : (ps : List (List ℕ)) → 1 ≤ length ps → join_with_byte 10 (renumbered_line renumbered line ∷ map (renumbered_line renumbered) ps) ≡ renumbered_line renumbered line ++ 10 ∷ join_with_byte 10 (map (renumbered_line renumbered) ps)
      join-map [] h = absurd (omega (arith, h))
      join-map (p ∷ ps) h = refl

  pub text-last : (text : List ℕ) → pieces 10 text ≡ text ∷ [] → renumbered_text renumbered text ≡ renumbered_line renumbered text
  unfolding renumbered_text
  text-last text whole = ap (λ ps. join_with_byte 10 (map (renumbered_line renumbered) ps)) whole

-- one line more after what is written
pub written-more : (old now new line more all : List ℕ) → new ≡ (now ++ line) ++ 10 ∷ [] → old ≡ line ++ 10 ∷ more → now ++ old ≡ all → new ++ more ≡ all
written-more old now new line more all made parts so =
    ap (λ t. t ++ more) made ∙ append_assoc (now ++ line) (10 ∷ []) more ∙ append_assoc now line (10 ∷ more) ∙ ap (λ t. now ++ t) (sym parts) ∙ so

-- ---- what is written, where no growth was refused

pub ended : {E : Type 0} (r : Result (Unit {0}) E) (new old line out : List ℕ) → new ≡ cond (is_ok r) (old ++ line) old → out ≡ line → OnOk r (new ≡ old ++ out)
ended (Ok u) new old line out e same = e ∙ ap (λ t. old ++ t) (sym same)
ended (Err x) new old line out e same = tt

pub ended-user : {E : Type 0} (r : Result (Unit {0}) E) (new old one two three four a b u g rest out : List ℕ) → new ≡ cond (is_ok r) (four ++ rest) four
    → one ≡ old ++ a → two ≡ one ++ b → three ≡ two ++ u → four ≡ three ++ g → out ≡ a ++ (b ++ (u ++ (g ++ rest))) → OnOk r (new ≡ old ++ out)
ended-user (Ok o) new old one two three four a b u g rest out e p q s t is = e ∙ ap (λ l. l ++ rest) t ∙ (rw (s, q, p, is) (simp append_assoc))
ended-user (Err x) new old one two three four a b u g rest out e p q s t is = tt

pub ended-group : {E : Type 0} (r : Result (Unit {0}) E) (new old one two three a b g rest out : List ℕ) → new ≡ cond (is_ok r) (three ++ rest) three
    → one ≡ old ++ a → two ≡ one ++ b → three ≡ two ++ g → out ≡ a ++ (b ++ (g ++ rest)) → OnOk r (new ≡ old ++ out)
ended-group (Ok o) new old one two three a b g rest out e p q s is = e ∙ ap (λ l. l ++ rest) s ∙ (rw (q, p, is) (simp append_assoc))
ended-group (Err x) new old one two three a b g rest out e p q s is = tt

-- ---- a line of passwd

module _ (host : Host) (site : Joined) (m : Mappings) where
  few-of-user : (fs : List (List ℕ)) → length fs < 5 → renumbered_user host site m fs ≡ fs
  few-of-user [] few = refl
  few-of-user (a ∷ []) few = refl
  few-of-user (a ∷ b ∷ []) few = refl
  few-of-user (a ∷ b ∷ c ∷ []) few = refl
  few-of-user (a ∷ b ∷ c ∷ d ∷ []) few = refl
  few-of-user (a ∷ b ∷ c ∷ d ∷ e ∷ more) few = absurd (omega (arith, few))

  pub user-stays : (line : List ℕ) → is_skipped line ≡ false → length (fields_of line) < 5 → renumbered_line (renumbered_user host site m) line ≡ line
  user-stays line kept few = line-stays (renumbered_user host site m) line kept (few-of-user (fields_of line) few)

  user-fields : (name password uid gid : List ℕ) (fs : List (List ℕ)) → 1 ≤ length fs
      → renumbered_user host site m (name ∷ password ∷ uid ∷ gid ∷ fs) ≡ name ∷ password ∷ number_field (new_number site.users m.users name) uid ∷ number_field (new_primary host site.groups m.groups gid) gid ∷ fs
  user-fields name password uid gid [] h = absurd (omega (arith, h))
  user-fields name password uid gid (f ∷ fs) h = refl

  pub user-line : (line name password uid gid rest : List ℕ) (user group : Option ℕ) → is_skipped line ≡ false → fields_of line ≡ name ∷ password ∷ uid ∷ gid ∷ fields_of rest
      → user ≡ new_number site.users m.users name → group ≡ new_primary host site.groups m.groups gid
      → renumbered_line (renumbered_user host site m) line ≡ field name ++ (field password ++ (field (number_field user uid) ++ (field (number_field group gid) ++ rest)))
  user-line line name password uid gid rest user group kept is user_is group_is =
      let u = number_field user uid in
      let g = number_field group gid in
      line-kept (renumbered_user host site m) line kept
      ∙ ap (λ fs. join_with_byte 58 (renumbered_user host site m fs)) is
      ∙ ap (join_with_byte 58) (user-fields name password uid gid (fields_of rest) (pieces-length 58 rest))
      ∙ ap (λ o. join_with_byte 58 (name ∷ password ∷ number_field o uid ∷ number_field (new_primary host site.groups m.groups gid) gid ∷ fields_of rest)) (sym user_is)
      ∙ ap (λ o. join_with_byte 58 (name ∷ password ∷ u ∷ number_field o gid ∷ fields_of rest)) (sym group_is)
      ∙ join-field name password (u ∷ g ∷ fields_of rest)
      ∙ ap (λ t. field name ++ t) (join-field password u (g ∷ fields_of rest)
      ∙ ap (λ t. field password ++ t) (join-field u g (fields_of rest)
      ∙ ap (λ t. field u ++ t) (join-fields g rest)))

-- ---- a line of group

module _ (site : Joined) (m : List ℕ) where
  few-of-group : (fs : List (List ℕ)) → length fs < 4 → renumbered_group site m fs ≡ fs
  few-of-group [] few = refl
  few-of-group (a ∷ []) few = refl
  few-of-group (a ∷ b ∷ []) few = refl
  few-of-group (a ∷ b ∷ c ∷ []) few = refl
  few-of-group (a ∷ b ∷ c ∷ d ∷ more) few = absurd (omega (arith, few))

  pub group-stays : (line : List ℕ) → is_skipped line ≡ false → length (fields_of line) < 4 → renumbered_line (renumbered_group site m) line ≡ line
  group-stays line kept few = line-stays (renumbered_group site m) line kept (few-of-group (fields_of line) few)

  group-fields : (name password gid : List ℕ) (fs : List (List ℕ)) → 1 ≤ length fs
      → renumbered_group site m (name ∷ password ∷ gid ∷ fs) ≡ name ∷ password ∷ number_field (new_number site.groups m name) gid ∷ fs
  group-fields name password gid [] h = absurd (omega (arith, h))
  group-fields name password gid (f ∷ fs) h = refl

  pub group-line : (line name password gid rest : List ℕ) (number : Option ℕ) → is_skipped line ≡ false → fields_of line ≡ name ∷ password ∷ gid ∷ fields_of rest
      → number ≡ new_number site.groups m name
      → renumbered_line (renumbered_group site m) line ≡ field name ++ (field password ++ (field (number_field number gid) ++ rest))
  group-line line name password gid rest number kept is number_is =
      let g = number_field number gid in
      line-kept (renumbered_group site m) line kept
      ∙ ap (λ fs. join_with_byte 58 (renumbered_group site m fs)) is
      ∙ ap (join_with_byte 58) (group-fields name password gid (fields_of rest) (pieces-length 58 rest))
      ∙ ap (λ o. join_with_byte 58 (name ∷ password ∷ number_field o gid ∷ fields_of rest)) (sym number_is)
      ∙ join-field name password (g ∷ fields_of rest)
      ∙ ap (λ t. field name ++ t) (join-field password g (fields_of rest)
      ∙ ap (λ t. field password ++ t) (join-fields g rest))
