-- What the calls of a root ask of a file, what they answer and what they write down.
use Rattle.std.proofs.Common.{Option, Some, None, inl, inr, ◌≡◌, ◌↔◌, ◌∷◌, length, length-append, arith, [], ◌||◌, ℕ, Bool, true, false, cond, List, refl, sym, ◌∙◌, ap, subst, ◌++◌, codes, drop, ◌-◌}
use Rattle.std.proofs.Math.Seq.{drop-append_seam}
use Rattle.reown_plan.specs.declared.plan.Owner.{Owner}
use Rattle.reown_plan.specs.Owners.{owner_eq}
use Rattle.reown_files.specs.declared.answers.Modes.{Modes}
use Rattle.reown_files.specs.declared.walk.Found.{Found}
use Rattle.reown_files.specs.declared.walk.Kind.TheVariants.{Regular}
use Rattle.reown_files.specs.Asked.{Asked, Told, Counted, Awaited, Given, ModeGiven, Synced, IsGiven, IsGivenAtMost, IsModeSet, IsKept, HasOneOwner, met, line_of}
use Rattle.reown_files.specs.Actions.{Action, FileRead, TextPut, NameSynced, FileRemoved, new_beside}
use Rattle.reown_files.specs.Looks.{seen_of, is_other}
use Rattle.reown_files.specs.NamesExample.{path, told, program, file_at, twice, both_met}
use Rattle.reown_files.specs.OneFile.{HasLost}
use Rattle.reown_files.specs.RootData.{IsMet, IsLostOf, IsPathFrom}
use Rattle.reown_files.specs.RootExample.{root, bare, whole, ExampleOfAnswers, ExampleOfMet, ExampleOfLost, ExampleOfGiven, ExampleOfChanges, ExampleOfMarks, ExampleOfPaths, mark, modes}
use Rattle.reown_files.specs.Runs.{old, new, foreign}
use Rattle.reown_files.proofs.Laws.{differ}
use Rattle.reown_files.proofs.LooksExample.{all_names, lost_modes}

-- two looks that are one told one file
same : (a b : Found) → Told path a ∷ [] ≡ Told path b ∷ [] → a ≡ b
same a b e = cc

-- ---- what is met

module _ (after : Owner) (before : List Asked) where
  abbrev counted : Found → List Asked
  counted found = Counted path found after ∷ Told path found ∷ before

  -- a file that was counted and not synced is the one that was met
  same_met : (a b : Found) (here kept : Bool) → counted a ≡ cond here (cond kept (counted b) (Synced path ∷ counted b)) (counted b) → a ≡ b
  same_met a b false kept e = cc
  same_met a b true true e = cc
  same_met a b true false e = absurd cc

  met_is : (a : Found) (one_journal : Bool) (b : Found) → counted a ≡ met one_journal path after b before → a ≡ b
  met_is a one_journal b e = same_met a b (owner_eq b.owner after) (one_journal || is_other b.kind) e

  -- where one journal keeps all, nothing is synced
  unsynced_met : (a b : Found) (here : Bool) → ¬ (Synced path ∷ counted a ≡ cond here (counted b) (counted b))
  unsynced_met a b true e = absurd cc
  unsynced_met a b false e = absurd cc

  -- what is met was counted
  never_met : (b : Found) (here kept : Bool) → ¬ ([] ≡ cond here (cond kept (counted b) (Synced path ∷ counted b)) (counted b))
  never_met b false kept e = absurd cc
  never_met b true true e = absurd cc
  never_met b true false e = absurd cc

one_owner : HasOneOwner new whole []
one_owner several other = other

met_synced : (one_journal : Bool) → IsMet path new new (root one_journal [] []) (root one_journal (Synced path ∷ told whole) []) ↔ (one_journal ≡ false)
met_synced true = (λ h. absurd (unsynced_met new [] whole h.0 (owner_eq h.0.owner new) h.3), λ is. absurd cc)
met_synced false = (λ h. refl, λ is. (whole, refl, one_owner, refl, refl))

met_unsynced : (one_journal : Bool) → IsMet path new new (root one_journal [] []) (root one_journal (told whole) []) ↔ (one_journal ≡ true)
met_unsynced true = (λ h. refl, λ is. (whole, refl, one_owner, refl, refl))
met_unsynced false = (
  λ h. absurd (
      let is = sym (met_is new [] whole false h.0 h.3) in
      let e : told whole ≡ Synced path ∷ told whole = subst (λ (f : Found). told whole ≡ met false path new f []) is h.3 in
      cc),
  λ is. absurd cc,
)

pub met_roots : ExampleOfMet
met_roots =
    record {
      line = λ owner lines. (
        λ h. let is = sym (met_is new [] program false h.0 h.3) in (
          h.1 ∙ ap (λ (f : Found). f.owner) is,
          subst (λ (f : Found). lines ≡ codes "4755 bin/ps\n" ++ line_of path new f) is h.4,
        ),
        λ h. (program, h.0, one_owner, refl, h.1),
      );
      synced = met_synced;
      unsynced = met_unsynced;
      same_owner = (twice, refl, all_names.same, refl, refl);
      other_owner = λ h. all_names.other_group (subst (λ (f : Found). HasOneOwner foreign f both_met) (sym (met_is foreign both_met twice false h.0 h.3)) h.2);
    }

-- ---- what is answered

pub answers : ExampleOfAnswers
answers =
    record {
      seen = λ seen. (λ h. h.1 ∙ ap seen_of (sym (same program h.0 h.2)), λ is. (program, is, refl));
      owner = λ owner. (λ h. h.1 ∙ ap (λ (f : Found). f.owner) (sym (same program h.0 h.2)), λ is. (program, is, refl));
      not_seen = λ seen h. let e : [] ≡ Told path h.0 ∷ [] = h.2 in absurd cc;
      no_owner = λ owner h. let e : [] ≡ Told path h.0 ∷ [] = h.2 in absurd cc;
      not_met = λ owner h. never_met new [] h.0 (owner_eq h.0.owner new) (is_other h.0.kind) h.3;
    }

-- ---- modes that are lost

new_is_not_old : ¬ (new ≡ old)
new_is_not_old e = differ 200 100 refl (ap (λ (o : Owner). o.uid) e)

-- a mode that a look at this file tells as lost is this one, where the file has lost it
told_lost : (owner : Owner) (a found : Found) (mode : Option ℕ) → Told path a ∷ [] ≡ Told path found ∷ [] → a.owner ≡ owner → HasLost a 2541 → IsLostOf owner found 2541 mode → mode ≡ Some 2541
told_lost owner a found None e own lost h = absurd (h (subst (λ (f : Found). (f.owner ≡ owner) × HasLost f 2541) (same a found e) (own, lost)))
told_lost owner a found (Some mode) e own lost h = ap Some h.0

-- and none is told where it has not
told_none : (owner : Owner) (a found : Found) (mode : Option ℕ) → Told path a ∷ [] ≡ Told path found ∷ [] → ¬ ((a.owner ≡ owner) × HasLost a 2541) → IsLostOf owner found 2541 mode → mode ≡ None
told_none owner a found None e kept h = refl
told_none owner a found (Some mode) e kept h = absurd (kept (subst (λ (f : Found). (f.owner ≡ owner) × HasLost f 2541) (sym (same a found e)) (h.1, h.2)))

pub lost_roots : ExampleOfLost
lost_roots =
    record {
      lost = λ owner. (
        λ h. sym h.1 ∙ ap (λ (f : Found). f.owner) (sym (same bare h.0 h.3)),
        λ is. (bare, sym is, lost_modes.set_user, refl),
      );
      other_mode = λ h. lost_modes.other_bits (subst (λ (f : Found). HasLost f 2541) (sym (same (file_at new Regular 448 1) h.0 h.3)) h.2);
      told = λ mode. (
        λ h. told_lost new bare h.0 mode h.2 refl lost_modes.set_user h.1,
        λ is. (bare, subst (λ (m : Option ℕ). IsLostOf new bare 2541 m) (sym is) (refl, refl, lost_modes.set_user), refl),
      );
      other_owner = λ mode. (
        λ h. told_none old bare h.0 mode h.2 (λ l. new_is_not_old l.0) h.1,
        λ is. (bare, subst (λ (m : Option ℕ). IsLostOf old bare 2541 m) (sym is) (λ l. new_is_not_old l.0), refl),
      );
      not_lost = λ mode. (
        λ h. told_none new whole h.0 mode h.2 (λ l. lost_modes.none l.1) h.1,
        λ is. (whole, subst (λ (m : Option ℕ). IsLostOf new whole 2541 m) (sym is) (λ l. lost_modes.none l.1), refl),
      );
      not_read = λ mode. (λ h. h.0, λ is. (is, refl));
      not_looked = λ mode h. let e : [] ≡ Told path h.0 ∷ [] = h.2 in absurd cc;
    }

-- ---- owners that are given

modes_are : (modes : Modes) (before after : ℕ) → modes.before ≡ before → modes.after ≡ after → modes ≡ record { before = before; after = after }
modes_are modes before after was is =
    let first : modes ≡ record { before = before; after = modes.after } = ap (λ n. record { before = n; after = modes.after }) was in
    first ∙ ap (λ n. record { before = before; after = n }) is

-- what was asked where the program is given an owner, up to the change of it
abbrev to_owner : Owner → List Asked
to_owner owner = Given path owner ∷ Awaited program ∷ Told path program ∷ []

given_new : (after : Owner) (modes : Modes) → IsGiven path old after modes [] (Told path bare ∷ to_owner new) ↔ ((after ≡ new) × (modes ≡ record { before = 2541; after = 493 }))
given_new after modes = (
  λ h. elim h.3 [
    | inl way ↦ absurd (let e : Told path bare ∷ to_owner new ≡ Awaited h.0 ∷ Told path h.0 ∷ [] = way.2 in cc)
    | inr way ↦ (
        let now = way.1.0 in
        let e : Told path bare ∷ to_owner new ≡ Told path now ∷ Given path after ∷ Awaited h.0 ∷ Told path h.0 ∷ [] = way.1.4 in
        let was : program ≡ h.0 = cc in
        let is : bare ≡ now = cc in
        let to : after ≡ new = cc in
        (to, modes_are modes 2541 493 (h.2 ∙ ap (λ (f : Found). f.mode) (sym was)) (way.1.3 ∙ ap (λ (f : Found). f.mode) (sym is))))
  ],
  λ is. (
    program,
    refl,
    ap (λ (m : Modes). m.before) is.1,
    inr (refl, (bare, sym is.0, (refl, refl, refl), ap (λ (m : Modes). m.after) is.1, ap (λ (o : Owner). Told path bare ∷ to_owner o) (sym is.0))),
  ),
)

waits_on : (after : Owner) (modes : Modes) → IsGiven path old after modes both_met (Awaited twice ∷ Told path twice ∷ both_met) ↔ (modes ≡ record { before = 493; after = 493 })
waits_on after modes = (
  λ h. elim h.3 [
    | inl way ↦ (
        let e : Awaited twice ∷ Told path twice ∷ both_met ≡ Awaited h.0 ∷ Told path h.0 ∷ both_met = way.2 in
        let was : twice ≡ h.0 = cc in
        let mode = ap (λ (f : Found). f.mode) (sym was) in
        modes_are modes 493 493 (h.2 ∙ mode) (way.1 ∙ mode))
    | inr way ↦ absurd (let e : Awaited twice ∷ Told path twice ∷ both_met ≡ Told path way.1.0 ∷ Given path after ∷ Awaited h.0 ∷ Told path h.0 ∷ both_met = way.1.4 in cc)
  ],
  λ is. (twice, refl, ap (λ (m : Modes). m.before) is, inl (refl, ap (λ (m : Modes). m.after) is, refl)),
)

given_at_most : (after : Owner) → IsGivenAtMost path old after [] (to_owner new) ↔ (after ≡ new)
given_at_most after = (
  λ h. elim h [
    | inl (inl e) ↦ absurd (let e' : to_owner new ≡ [] = e in cc)
    | inl (inr told) ↦ absurd (let e : to_owner new ≡ Told path told.0 ∷ [] = told.1 in cc)
    | inr (found, owner, last, way) ↦ elim way [
      | inl e ↦ absurd (let e' : to_owner new ≡ Awaited found ∷ Told path found ∷ [] = e in cc)
      | inr (inl e) ↦ (let e' : to_owner new ≡ Given path after ∷ Awaited found ∷ Told path found ∷ [] = e in cc)
      | inr (inr told) ↦ absurd (let e : to_owner new ≡ Told path told.0 ∷ Given path after ∷ Awaited found ∷ Told path found ∷ [] = told.1 in cc)
    ]
  ],
  λ is. inr (program, refl, refl, inr (inl (ap to_owner (sym is)))),
)

pub given_roots : ExampleOfGiven
given_roots = record { given = given_new; waiting = waits_on; failed = given_at_most }

-- ---- modes that are set, and files that are kept

mode_set : (mode : ℕ) → IsModeSet path new mode [] (ModeGiven path 2541 ∷ Told path bare ∷ []) ↔ (mode ≡ 2541)
mode_set mode = (
  λ h. let e : ModeGiven path 2541 ∷ Told path bare ∷ [] ≡ ModeGiven path mode ∷ Told path h.0 ∷ [] = h.3 in cc,
  λ is. (bare, refl, λ e. absurd cc, ap (λ m. ModeGiven path m ∷ Told path bare ∷ []) (sym is)),
)

mode_left : (mode : ℕ) → ¬ IsModeSet path new mode [] (Told path bare ∷ [])
mode_left mode h = let e : Told path bare ∷ [] ≡ ModeGiven path mode ∷ Told path h.0 ∷ [] = h.3 in absurd cc

kept_synced : (one_journal : Bool) → IsKept one_journal path new [] (Synced path ∷ Told path whole ∷ []) ↔ (one_journal ≡ false)
kept_synced true = (
  λ h. absurd (let e : Synced path ∷ Told path whole ∷ [] ≡ Told path h.0 ∷ [] = h.2 in cc),
  λ is. absurd cc,
)
kept_synced false = (λ h. refl, λ is. (whole, refl, refl))

-- what was not synced is a link or the like
is_link : (found : Found) (other : Bool) → Told path whole ∷ [] ≡ cond other (Told path found ∷ []) (Synced path ∷ Told path found ∷ []) → (other ≡ true) × (whole ≡ found)
is_link found true e = (refl, same whole found e)
is_link found false e = absurd cc

kept_unsynced : (one_journal : Bool) → IsKept one_journal path new [] (Told path whole ∷ []) ↔ (one_journal ≡ true)
kept_unsynced true = (λ h. refl, λ is. (whole, refl, refl))
kept_unsynced false = (
  λ h. (
      let link = is_link h.0 (is_other h.0.kind) h.2 in
      ap (λ (f : Found). is_other f.kind) link.1 ∙ link.0),
  λ is. absurd cc,
)

pub changes : ExampleOfChanges
changes = record { mode = mode_set; no_mode = mode_left; synced = kept_synced; unsynced = kept_unsynced }

-- ---- the mark

-- no list is one that has more in front of it
longer : (one : Action) (since before : List Action) → ¬ (one ∷ since ++ before ≡ before)
longer one since before e = absurd (omega (arith, length-append since before, ap length e))

pub marks : (text : List ℕ) (before : List Action) → ExampleOfMarks text before
marks text before =
    record {
      there = refl;
      not_there = refl;
      put = refl;
      not_put = refl;
      read = refl;
      no_modes = refl;
      written = refl;
      done = refl;
      not_met = λ since h. elim h [
        | inl e ↦ longer (NameSynced mark) since before e
        | inr e ↦ let e' : NameSynced mark ∷ since ++ before ≡ FileRead mark e.0 ∷ before = e.1 in absurd cc
      ];
      not_kept = λ are_over since h. elim h [
        | inl e ↦ longer (FileRemoved modes) since before e
        | inr e ↦ let e' : FileRemoved modes ∷ since ++ before ≡ NameSynced mark ∷ before = e.1 in absurd cc
      ];
      not_written = λ was_done since h. elim h [
        | inl e ↦ longer (NameSynced modes) since before e
        | inr e ↦ let e' : NameSynced modes ∷ since ++ before ≡ TextPut (new_beside modes) modes text ∷ before = e.1 in absurd cc
      ];
      not_read = λ since h. elim h [
        | inl e ↦ longer (TextPut (new_beside modes) modes text) since before e
        | inr e ↦ elim e.1 [
          | inl f ↦ let e' : TextPut (new_beside modes) modes text ∷ since ++ before ≡ FileRead modes e.0 ∷ before = f in absurd cc
          | inr f ↦ let e' : TextPut (new_beside modes) modes text ∷ since ++ before ≡ FileRead mark f.0 ∷ FileRead modes e.0 ∷ before = f.1 in absurd cc
        ]
      ];
    }

-- ---- where the mark stands

ends_so : (whole : List ℕ) → IsPathFrom false mark whole → drop (length whole - 10) whole ≡ codes "/plan.done"
ends_so whole h =
    let n : length whole - 10 ≡ length h.0 = omega (arith, ap length h.1, length-append h.0 (codes "/plan.done")) in
    ap (λ (k : ℕ). drop k whole) n ∙ ap (drop (length h.0)) h.1 ∙ drop-append_seam h.0 (codes "/plan.done")

pub paths : ExampleOfPaths
paths =
    record {
      beside = refl;
      new = refl;
      new_modes = refl;
      from_root = refl;
      from_here = refl;
      same = λ whole. (λ h. h, λ h. h);
      behind = (codes "/proc/self/fd/3", refl);
      ends = ends_so;
    }
