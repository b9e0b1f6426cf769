-- What is asked before a plan is carried out, in its own words.
use Rattle.std.proofs.Common.{◌≡◌, ◌≢◌, ◌⊎◌, inl, inr, ⊎_elim, ℕ, ◌==◌, ◌&&◌, ◌||◌, ◌+◌, ◌-◌, ◌<◌, ◌≤◌, Bool, true, false, cond, not, nat_lt, List, [], ◌∷◌, ◌++◌, Option, Some, None, Contains, decimal, drop, length, take, refl, sym, ap, ◌∙◌, arith, length-append, true≢false}
use Rattle.std.specs.Prelude.{codes, is_some, nat_eq, nat_le, ◌↔◌}
use Rattle.std.specs.Char.{digit_value}
use Rattle.std.specs.List.{list_all, list_any}
use Rattle.std.specs.Option.{option_map_or}
use Rattle.std.specs.Str.{bytes_eq}
use Rattle.std.specs.Str.Parse.{digits_value}
use Rattle.std.specs.Prelude.{Decides}
use Rattle.std.proofs.lemmas.Bool.{and_from, and_parts}
use Rattle.std.proofs.lemmas.Bool.Decides.{Decides-and, Decides-eqb, Decides-like, Decides-ltb, Decides-not, Decides-or, leb_tells, not_from_Decides}
use Rattle.std.proofs.lemmas.List.Elements.{Contains-append_right, Contains-get_or}
use Rattle.std.proofs.lemmas.List.Folds.{list_any_at}
use Rattle.std.proofs.lemmas.Slice.Eq.{bytes_eq-Decides}
use Rattle.idtext.specs.Numbers.{greatest_id, id_of, numeral}
use Rattle.idtext.specs.Pieces.{begins_with, lines, pieces}
use Rattle.idtext.specs.Words.{words}
use Rattle.idtext.proofs.NumberLemmas.{decimal-back}
use Rattle.reown_plan.specs.declared.plan.Owner.{Owner}
use Rattle.reown_plan.specs.declared.plan.Record.{Record}
use Rattle.unify_apply.specs.AskedLaws.{DevicesByExample, EndsByExample, FitTellsTheHost, FitsTellTheHost, IsCalled, IsLeftOrTaken, IsOfThree, JournalIsANumber, MapsByExample, MayBe, Moves, NamesAreTold, OneJournalIsOfThree, ProcessesAreFound, RootIsEffective, SoughtGroupsMove, SoughtUsersMove, TellRange, TellsAny, TellsRange, TellsRoot}
use Rattle.unify_apply.specs.Ends.{without_end}
use Rattle.unify_apply.specs.Machine.{fit_of, have_root, is_called, tells_root}
use Rattle.unify_apply.specs.Mounts.{MountText, has_one_journal, mount_of, mounts_in, path_from}
use Rattle.unify_apply.specs.Sought.{has_one, have_within, is_sought, maps_one, runs_as_one, tell_range_with, tells_one, writes_one}
use Rattle.unify_apply.specs.declared.machine.HostFit.{HostFit}
use Rattle.unify_apply.specs.declared.machine.HostFit.TheVariants.{Same, Named, Other}
use Rattle.unify_apply.proofs.Fronts.{begins, behind, front-of, other-end}

-- ---- one of a list

module _ {X : Type 0} (p : X → Bool) (P : X → Type 0) (each : (x : X) → Decides (p x) (P x)) where
  any-from : (xs : List X) → list_any p xs ≡ true → (x : X) × Contains xs x × P x
  any-from [] e = absurd (true≢false (sym e))
  any-from (x ∷ xs) e = by (p x) refl (any-from xs) e
    where
      by : (t : Bool) → p x ≡ t → (list_any p xs ≡ true → (y : X) × Contains xs y × P y) → (t || list_any p xs) ≡ true → (y : X) × Contains (x ∷ xs) y × P y
      by true is rest e = (x, Contains-get_or (x ∷ xs) 0 x (omega arith), (each x).0 is)
      by false is rest e = let more = rest e in (more.0, Contains-append_right (x ∷ []) xs more.0 more.1, more.2)

  any-to : (xs : List X) (x : X) → Contains xs x → P x → list_any p xs ≡ true
  any-to xs x at holds = list_any_at p xs at.0 x at.1 (ap p at.2 ∙ (each x).1 holds)

  Decides-any : (xs : List X) → Decides (list_any p xs) ((x : X) × Contains xs x × P x)
  Decides-any xs = (any-from xs, λ w. any-to xs w.0 w.1 w.2)

abbrev inside : {X : Type 0} → X → Option X → X
inside x None = x
inside x (Some y) = y

-- ---- the file system

of-three : (kind : List ℕ) → Decides (has_one_journal kind) (IsOfThree kind)
of-three kind =
    Decides-or (bytes_eq kind (codes "ext3") || bytes_eq kind (codes "ext4")) (bytes_eq kind (codes "xfs"))
    (Decides-or (bytes_eq kind (codes "ext3")) (bytes_eq kind (codes "ext4")) (bytes_eq-Decides kind (codes "ext3")) (bytes_eq-Decides kind (codes "ext4")))
    (bytes_eq-Decides kind (codes "xfs"))

pub one-journal : OneJournalIsOfThree
one-journal text path = by (mount_of (mounts_in text) (path_from path))
  where
    by : (found : Option MountText) → (option_map_or (λ (mount : MountText). has_one_journal mount.kind) found false ≡ true) ↔ ((mount : MountText) × (found ≡ Some mount) × IsOfThree mount.kind)
    by None = (λ e. absurd (true≢false (sym e)), λ h. let e = h.1 in absurd (cc))
    by (Some mount) = (
      λ e. (mount, refl, (of-three mount.kind).0 e),
      λ h. ap (λ (m : MountText). has_one_journal m.kind) (ap (inside mount) h.1) ∙ (of-three h.0.kind).1 h.2,
    )

abbrev newline : List ℕ
newline = codes "\n"

without-newline : (text : List ℕ) → without_end newline (text ++ newline) ≡ text
without-newline text =
    let whole : List ℕ = text ++ newline in
    let long = length-append text newline in
    let less : length whole - 1 ≡ length text = omega (arith, long) in
    ap (λ n. cond (bytes_eq (drop n whole) newline) (take n whole) whole) less
    ∙ ap (λ d. cond (bytes_eq d newline) (take (length text) whole) whole) (behind text newline)
    ∙ front-of text newline

no-digit : (c : ℕ) (digit : Bool) → nat_lt (digit_value c) 10 ≡ digit → nat_le 10 (digit_value c) ≡ not digit
no-digit c digit is = grind (arith, leb_tells)

not-all : (text : List ℕ) → list_any (λ b. nat_le 10 (digit_value b)) text ≡ true → list_all (λ b. nat_lt (digit_value b) 10) text ≡ false
not-all [] e = absurd (true≢false (sym e))
not-all (c ∷ cs) e = by (nat_lt (digit_value c) 10) refl (not-all cs) e
  where
    by : (digit : Bool) → nat_lt (digit_value c) 10 ≡ digit → (list_any (λ b. nat_le 10 (digit_value b)) cs ≡ true → list_all (λ b. nat_lt (digit_value b) 10) cs ≡ false) → (nat_le 10 (digit_value c) || list_any (λ b. nat_le 10 (digit_value b)) cs) ≡ true → (digit && list_all (λ b. nat_lt (digit_value b) 10) cs) ≡ false
    by false is rest e = refl
    by true is rest e = rest (sym (ap (λ t. t || list_any (λ b. nat_le 10 (digit_value b)) cs) (no-digit c true is)) ∙ e)

no-number : (text : List ℕ) → list_any (λ b. nat_le 10 (digit_value b)) text ≡ true → id_of text ≡ None
unfolding numeral
no-number [] e = refl
no-number (c ∷ cs) e =
    ap (λ t. cond (t && nat_le (digits_value 10 (c ∷ cs)) greatest_id) (Some (digits_value 10 (c ∷ cs))) None) (not-all (c ∷ cs) e)

pub journal-told : JournalIsANumber
journal-told = record {
  number = λ process small. ap is_some (ap id_of (without-newline (decimal process)) ∙ decimal-back process small);
  others = λ text other. ap is_some (ap id_of (without-newline text) ∙ no-number text other);
}

pub device-told : DevicesByExample
device-told = record { majors = refl; minors = refl }

-- ---- the machine

abbrev rank : HostFit → ℕ
rank Same = 0
rank Named = 1
rank Other = 2

unlike : (a b : HostFit) → a ≡ b → rank a ≢ rank b → ⊥
unlike a b e apart = apart (ap rank e)

nothing : (name : List ℕ) → ◌≡◌ {A = Option (List ℕ)} None (Some name) → ⊥
nothing name e = absurd (cc)

module _ (host machine : List ℕ) where
  called : Decides (is_called host machine) (IsCalled host machine)
  called =
      Decides-or (bytes_eq machine host) (begins_with (host ++ codes ".") machine) (bytes_eq-Decides machine host)
      (begins (host ++ codes ".") machine)

  none-named : (is : Bool) → is_called host machine ≡ is → FitTellsTheHost host machine None
  none-named true is =
      let value : fit_of host None machine ≡ Same = ap (λ c. cond c Same Other) is in
      record {
        same = (λ _. (called.0 is, inl refl), λ _. value);
        named = (λ e. absurd (unlike Same Named (sym value ∙ e) (omega arith)), λ h. absurd (h.0 (called.0 is)));
        other = (λ e. absurd (unlike Same Other (sym value ∙ e) (omega arith)), λ h. absurd (⊎_elim (λ not_so. not_so (inl refl)) (λ both. both.0 (called.0 is)) h));
      }
  none-named false is =
      let value : fit_of host None machine ≡ Other = ap (λ c. cond c Same Other) is in
      let not_so : ¬ IsCalled host machine = not_from_Decides (is_called host machine) called is in
      record {
        same = (λ e. absurd (unlike Other Same (sym value ∙ e) (omega arith)), λ h. absurd (not_so h.0));
        named = (λ e. absurd (unlike Other Named (sym value ∙ e) (omega arith)), λ h. absurd (nothing host h.1));
        other = (λ _. inr (not_so, refl), λ _. value);
      }

  some-named : (name : List ℕ) (like is : Bool) → bytes_eq name host ≡ like → is_called host machine ≡ is → FitTellsTheHost host machine (Some name)
  some-named name true true same_name is =
      let value : fit_of host (Some name) machine ≡ Same = ap (λ c. cond c (cond (is_called host machine) Same Named) Other) same_name ∙ ap (λ c. cond c Same Named) is in
      let may : Some name ≡ Some host = ap (λ n. Some n) ((bytes_eq-Decides name host).0 same_name) in
      record {
        same = (λ _. (called.0 is, inr may), λ _. value);
        named = (λ e. absurd (unlike Same Named (sym value ∙ e) (omega arith)), λ h. absurd (h.0 (called.0 is)));
        other = (λ e. absurd (unlike Same Other (sym value ∙ e) (omega arith)), λ h. absurd (⊎_elim (λ not_so. not_so (inr may)) (λ both. both.0 (called.0 is)) h));
      }
  some-named name true false same_name is =
      let value : fit_of host (Some name) machine ≡ Named = ap (λ c. cond c (cond (is_called host machine) Same Named) Other) same_name ∙ ap (λ c. cond c Same Named) is in
      let may : Some name ≡ Some host = ap (λ n. Some n) ((bytes_eq-Decides name host).0 same_name) in
      let not_so : ¬ IsCalled host machine = not_from_Decides (is_called host machine) called is in
      record {
        same = (λ e. absurd (unlike Named Same (sym value ∙ e) (omega arith)), λ h. absurd (not_so h.0));
        named = (λ _. (not_so, may), λ _. value);
        other = (λ e. absurd (unlike Named Other (sym value ∙ e) (omega arith)), λ h. absurd (⊎_elim (λ not_may. not_may (inr may)) (λ both. nothing name (sym both.1)) h));
      }
  some-named name false is same_name called_is =
      let value : fit_of host (Some name) machine ≡ Other = ap (λ c. cond c (cond (is_called host machine) Same Named) Other) same_name in
      let apart : name ≢ host = not_from_Decides (bytes_eq name host) (bytes_eq-Decides name host) same_name in
      let not_so : ¬ MayBe host (Some name) = λ may. ⊎_elim (λ none. nothing name (sym none)) (λ some. apart (ap (inside host) some)) may in
      record {
        same = (λ e. absurd (unlike Other Same (sym value ∙ e) (omega arith)), λ h. absurd (not_so h.1));
        named = (λ e. absurd (unlike Other Named (sym value ∙ e) (omega arith)), λ h. absurd (not_so (inr h.1)));
        other = (λ _. inl not_so, λ _. value);
      }

pub names-told : NamesAreTold
names-told = record { line = without-newline; bare = other-end 10; none = refl }

pub fits-told : FitsTellTheHost
fits-told host machine None = none-named host machine (is_called host machine) refl
fits-told host machine (Some name) = some-named host machine name (bytes_eq name host) (is_called host machine) refl refl

-- ---- who calls

root-words : (ws : List (List ℕ)) → Decides (have_root ws) ((real : List ℕ) × (others : List (List ℕ)) × (ws ≡ codes "Uid:" ∷ real ∷ codes "0" ∷ others))
root-words [] = (λ e. absurd (true≢false (sym e)), λ h. ap have_root h.2)
root-words (a ∷ []) = (λ e. absurd (true≢false (sym e)), λ h. ap have_root h.2)
root-words (a ∷ b ∷ []) = (λ e. absurd (true≢false (sym e)), λ h. ap have_root h.2)
root-words (head ∷ real ∷ effective ∷ more) = (
  λ e. let parts = and_parts (bytes_eq head (codes "Uid:")) (bytes_eq effective (codes "0")) e in (
    real,
    more,
    ap (λ h. h ∷ real ∷ effective ∷ more) ((bytes_eq-Decides head (codes "Uid:")).0 parts.0)
        ∙ ap (λ f. codes "Uid:" ∷ real ∷ f ∷ more) ((bytes_eq-Decides effective (codes "0")).0 parts.1),
  ),
  λ h. ap have_root h.2,
)

pub root-told : RootIsEffective
root-told status = let d = Decides-any tells_root TellsRoot (λ line. root-words (words line)) (lines status) in (d.0, d.1)

-- ---- the processes

module _ (number : Owner → ℕ) (v : ℕ) where
  abbrev changes : Record → Bool
  changes r = not (number r.before == number r.after) && (number r.before == v || number r.after == v)

  abbrev Changes : Record → Type 0
  Changes r = (number r.before ≢ number r.after) × ((number r.before ≡ v) ⊎ (number r.after ≡ v))

  one-record : (r : Record) → Decides (changes r) (Changes r)
  one-record r =
      Decides-and (not (number r.before == number r.after)) (number r.before == v || number r.after == v)
      (Decides-not (number r.before == number r.after) (Decides-eqb (number r.before) (number r.after)))
      (Decides-or (number r.before == v) (number r.after == v) (Decides-eqb (number r.before) v) (Decides-eqb (number r.after) v))

  other-of : (records : List Record) (r : Record) → Contains records r → number r.before ≢ number r.after → (number r.before ≡ v) ⊎ (number r.after ≡ v) → IsLeftOrTaken number records v
  other-of records r at apart (inl before) = (number r.after, (λ e. apart (before ∙ sym e)), inl (r, at, before, refl))
  other-of records r at apart (inr after) = (number r.before, (λ e. apart (e ∙ sym after)), inr (r, at, refl, after))

  record-of : (records : List Record) (other : ℕ) → other ≢ v → Moves number records v other ⊎ Moves number records other v → (r : Record) × Contains records r × Changes r
  record-of records other apart (inl left) = (left.0, left.1, ((λ e. apart (sym left.3 ∙ sym e ∙ left.2)), inl left.2))
  record-of records other apart (inr taken) = (taken.0, taken.1, ((λ e. apart (sym taken.2 ∙ e ∙ taken.3)), inr taken.3))

  sought-number : (records : List Record) → Decides (is_sought number records v) (IsLeftOrTaken number records v)
  sought-number records =
      Decides-like (is_sought number records v) (λ h. other-of records h.0 h.1 h.2.0 h.2.1) (λ h. record-of records h.0 h.1 h.2)
      (Decides-any changes Changes one-record records)

pub users-move : SoughtUsersMove
users-move records uid = let d = sought-number (λ owner. owner.uid) uid records in (d.0, d.1)

pub groups-move : SoughtGroupsMove
groups-move records gid = let d = sought-number (λ owner. owner.gid) gid records in (d.0, d.1)

Decides-leb : (a b : ℕ) → Decides (nat_le a b) (a ≤ b)
Decides-leb a b = by (leb_tells a b)
  where
    by : ((nat_le a b ≡ true) × (a ≤ b)) ⊎ ((nat_le a b ≡ false) × (b < a)) → Decides (nat_le a b) (a ≤ b)
    by (inl h) = (λ _. h.1, λ _. h.0)
    by (inr h) = (λ e. absurd (true≢false (sym e ∙ h.0)), λ at_most. absurd (omega (arith, h.1, at_most)))

module _ (numbers : List ℕ) where
  the-same : (v x : ℕ) → v ≡ x → Contains numbers x → Contains numbers v
  the-same v x e at = rw e at

  one-of : (v : ℕ) → Decides (list_any (nat_eq v) numbers) (Contains numbers v)
  one-of v =
      Decides-like (list_any (nat_eq v) numbers) (λ h. the-same v h.0 h.2 h.1) (λ at. (v, at, refl))
      (Decides-any (nat_eq v) (λ x. v ≡ x) (λ x. Decides-eqb v x) numbers)

  of-number : (written : Option ℕ) → Decides (option_map_or (λ v. list_any (nat_eq v) numbers) written false) ((number : ℕ) × (written ≡ Some number) × Contains numbers number)
  of-number None = (λ e. absurd (true≢false (sym e)), λ h. absurd (none-some h.0 h.1))
    where
      none-some : (n : ℕ) → ◌≡◌ {A = Option ℕ} None (Some n) → ⊥
      none-some n e = absurd (cc)
  of-number (Some v) = (λ e. (v, refl, (one-of v).0 e), λ h. (one-of v).1 (the-same v h.0 (ap (inside v) h.1) h.2))

  one-line : (head : List ℕ) (ws : List (List ℕ)) → Decides (has_one head numbers ws)
      ((others : List (List ℕ)) × (ws ≡ head ∷ others) × ((word : List ℕ) × Contains others word × ((number : ℕ) × (id_of word ≡ Some number) × Contains numbers number)))
  one-line head [] = (λ e. absurd (true≢false (sym e)), λ h. absurd (no-word h.0 h.1))
    where
      no-word : (others : List (List ℕ)) → [] ≡ head ∷ others → ⊥
      no-word others e = absurd (cc)
  one-line head (word ∷ more) = (
    λ e. let parts = and_parts (bytes_eq word head) (list_any (writes_one numbers) more) e in
        (more, ap (λ w. w ∷ more) ((bytes_eq-Decides word head).0 parts.0), (some more).0 parts.1),
    λ h. ap (has_one head numbers) h.1 ∙ and_from (bytes_eq head head) (list_any (writes_one numbers) h.0) ((bytes_eq-Decides head head).1 refl) ((some h.0).1 h.2),
  )
    where
      some : (ws : List (List ℕ)) → Decides (list_any (writes_one numbers) ws) ((w : List ℕ) × Contains ws w × ((number : ℕ) × (id_of w ≡ Some number) × Contains numbers number))
      some ws = Decides-any (writes_one numbers) (λ w. (number : ℕ) × (id_of w ≡ Some number) × Contains numbers number) (λ w. of-number (id_of w)) ws

  within : (first many : ℕ) → Decides (have_within numbers first many) ((number : ℕ) × Contains numbers number × (first ≤ number) × (number < first + many))
  within first many =
      Decides-like (have_within numbers first many) (λ h. (h.0, h.1, h.2.0, h.2.1)) (λ h. (h.0, h.1, (h.2, h.3)))
      (Decides-any (λ v. nat_le first v && nat_lt v (first + many)) (λ v. (first ≤ v) × (v < first + many))
      (λ v. Decides-and (nat_le first v) (nat_lt v (first + many)) (Decides-leb first v) (Decides-ltb v (first + many))) numbers)

  abbrev ranged : Option ℕ → Option ℕ → Bool
  ranged outside count = option_map_or (λ first. option_map_or (λ many. have_within numbers first many) count false) outside false

  range-from : (ws : List (List ℕ)) → tell_range_with numbers ws ≡ true → TellRange numbers ws
  range-from [] e = absurd (true≢false (sym e))
  range-from (inside ∷ []) e = absurd (true≢false (sym e))
  range-from (inside ∷ outside ∷ []) e = absurd (true≢false (sym e))
  range-from (inside ∷ outside ∷ count ∷ more) e = by (id_of outside) (id_of count) refl refl e
    where
      by : (begun counted : Option ℕ) → id_of outside ≡ begun → id_of count ≡ counted → ranged begun counted ≡ true → TellRange numbers (inside ∷ outside ∷ count ∷ more)
      by None counted begins counts e = absurd (true≢false (sym e))
      by (Some first) None begins counts e = absurd (true≢false (sym e))
      by (Some first) (Some many) begins counts e =
          let w = (within first many).0 e in
          record {
            inside = inside;
            outside = outside;
            count = count;
            more = more;
            first = first;
            many = many;
            number = w.0;
            told = refl;
            begins = begins;
            counts = counts;
            sought = w.1;
            from = w.2;
            before = w.3;
          }

  range-to : (ws : List (List ℕ)) → TellRange numbers ws → tell_range_with numbers ws ≡ true
  range-to ws h =
      ap (tell_range_with numbers) h.told
      ∙ ap (λ begun. ranged begun (id_of h.count)) h.begins
      ∙ ap (λ counted. ranged (Some h.first) counted) h.counts
      ∙ (within h.first h.many).1 (h.number, h.sought, h.from, h.before)

  one-map : (map : List ℕ) → Decides (maps_one numbers map) (TellsRange numbers map)
  one-map map = Decides-any (λ line. tell_range_with numbers (words line)) (λ line. TellRange numbers (words line)) (λ line. (range-from (words line), range-to (words line))) (lines map)

one-status : (users groups status : List ℕ) → Decides (runs_as_one users groups status) ((line : List ℕ) × Contains (lines status) line × TellsAny users groups line)
one-status users groups status =
    Decides-any (tells_one users groups) (TellsAny users groups)
    (λ line. let ws : List (List ℕ) = words line in
    let user = has_one (codes "Uid:") users ws in
    let group = has_one (codes "Gid:") groups ws in
    Decides-or (user || group) (has_one (codes "Groups:") groups ws)
    (Decides-or user group (one-line users (codes "Uid:") ws) (one-line groups (codes "Gid:") ws))
    (one-line groups (codes "Groups:") ws)) (lines status)

pub processes-found : ProcessesAreFound
processes-found users groups status uid_map gid_map =
    let d = Decides-or (runs_as_one users groups status || maps_one users uid_map) (maps_one groups gid_map)
    (Decides-or (runs_as_one users groups status) (maps_one users uid_map) (one-status users groups status) (one-map users uid_map))
    (one-map groups gid_map) in (d.0, d.1)

pub maps-told : MapsByExample
unfolding numeral words lines pieces
maps-told = record { initial = λ numbers. refl; own = refl }

pub ended-told : EndsByExample
unfolding numeral words lines pieces
ended-told = refl
