-- The inventories as they were read last: those of the first hosts again, and those of the others once.
use Rattle.std.proofs.Common.{◌≡◌, ◌≤◌, ◌<◌, ◌+◌, ◌-◌, ◌++◌, ◌∷◌, [], ℕ, zero, suc, List, length, drop, Some, Result, Ok, refl, sym, ap, ◌∙◌, arith, inl, inr, ⊎_elim, length-append, length-drop}
use Rattle.std.specs.Prelude.{◌⊎◌}
use Rattle.std.specs.List.{slice_get}
use Rattle.std.proofs.lemmas.List.Elements.{All-append, All-drop}
use Rattle.std.proofs.lemmas.Option.{same_Some, slice_get_within}
use Rattle.idtext.specs.First.{◌>>=◌, each}
use Rattle.idtext.proofs.OkLemmas.{bind_ok, ok_same}
use Rattle.mtree_inv.specs.declared.entry.Entry.{Entry}
use Rattle.hosts_join.specs.declared.host.Host.{Host}
use Rattle.unify.specs.Count.{site_of}
use Rattle.site_tables.specs.Loading.{loaded_from}
use Rattle.unify.specs.SecondPass.{SolvedValue, or_changed, second_files, whole_plan}
use Rattle.unify.specs.RowFiles.{row_files}
use Rattle.unify_laws.specs.TwoPasses.{AreReadAgain, AreWholePlans}
use Rattle.unify_laws.proofs.Agreeing.{item_at}
use Rattle.unify_laws.proofs.OnePiece.{accepted_at}
use Rattle.unify_merge.specs.FirstReading.{AreWithinLimit, IsWithinLimit}
use Rattle.unify_merge.specs.SecondReading.{ArePlannedFirst, IsPlannedAgain, WereRead, plans_from}
use Rattle.unify_merge.proofs.AllPlanned.{host_at, read_len}

-- ---- lists, one after the other

at_first : {A : Type 0} (xs ys : List A) (k : ℕ) (x : A) → slice_get xs k ≡ Some x → slice_get (xs ++ ys) k ≡ Some x
at_first [] ys k x here = absurd (cc)
at_first (z ∷ xs) ys zero x here = here
at_first (z ∷ xs) ys (suc k) x here = at_first xs ys k x here

pub in_front : {A : Type 0} (xs ys : List A) (k : ℕ) (x : A) → k < length xs → slice_get (xs ++ ys) k ≡ Some x → slice_get xs k ≡ Some x
in_front [] ys k x within here = absurd (omega (arith, within))
in_front (z ∷ xs) ys zero x within here = here
in_front (z ∷ xs) ys (suc k) x within here = in_front xs ys k x (omega (arith, within)) here

pub at_second : {A : Type 0} (xs ys : List A) (k j : ℕ) → k ≡ length xs + j → slice_get (xs ++ ys) k ≡ slice_get ys j
at_second [] ys k j same =
    let equal : k ≡ j = omega (arith, same) in
    ap (slice_get ys) equal
at_second (x ∷ xs) ys zero j same = absurd (omega (arith, same))
at_second (x ∷ xs) ys (suc k) j same = at_second xs ys k j (omega (arith, same))

pub at_drop : {A : Type 0} (n : ℕ) (xs : List A) (j k : ℕ) → k ≡ n + j → slice_get (drop n xs) j ≡ slice_get xs k
at_drop zero xs j k same =
    let equal : j ≡ k = omega (arith, same) in
    ap (slice_get xs) equal
at_drop (suc n) [] j k same = refl
at_drop (suc n) (x ∷ xs) j zero same = absurd (omega (arith, same))
at_drop (suc n) (x ∷ xs) j (suc k) same = at_drop n xs j k (omega (arith, same))

pub drop_from : {A : Type 0} (xs : List A) (k : ℕ) (x : A) → slice_get xs k ≡ Some x → drop k xs ≡ x ∷ drop (suc k) xs
drop_from [] k x here = absurd (cc)
drop_from (y ∷ xs) zero x here =
    let same : y ≡ x = same_Some y x here in
    ap (λ z. z ∷ xs) same
drop_from (y ∷ xs) (suc k) x here = drop_from xs k x here

below_or_not : (k n : ℕ) → (k < n) ⊎ (n ≤ k)
below_or_not k zero = inr (omega arith)
below_or_not zero (suc n) = inl (omega arith)
below_or_not (suc k) (suc n) = ⊎_elim (λ p. inl (omega (arith, p))) (λ p. inr (omega (arith, p))) (below_or_not k n)

-- ---- what each item gives

each_append : {A B F : Type 0} (f : A → Result B F) (xs zs : List A) (ys ws : List B) → each f xs ≡ Ok ys → each f zs ≡ Ok ws → each f (xs ++ zs) ≡ Ok (ys ++ ws)
unfolding each
each_append {B} {F} f [] zs ys ws one two =
    let none : [] ≡ ys = ok_same {F = F} [] ys one in
    two ∙ ap (λ vs. Ok (vs ++ ws)) none
each_append {B} {F} f (x ∷ xs) zs ys ws one two =
    let first = bind_ok (f x) (λ y. each f xs >>= λ vs. Ok (y ∷ vs)) ys one in
    let rest = bind_ok (each f xs) (λ vs. Ok (first.0 ∷ vs)) ys first.2 in
    let more = each_append f xs zs rest.0 ws rest.1 two in
    ap (λ (r : Result B F). r >>= λ y. each f (xs ++ zs) >>= λ vs. Ok (y ∷ vs)) first.1 ∙ ap (λ (r : Result (List B) F). r >>= λ vs. Ok (first.0 ∷ vs)) more
    ∙ ap (λ vs. Ok (vs ++ ws)) (ok_same {F = F} (first.0 ∷ rest.0) ys rest.2)

each_drop : {A B F : Type 0} (f : A → Result B F) (k : ℕ) (xs : List A) (ys : List B) → each f xs ≡ Ok ys → each f (drop k xs) ≡ Ok (drop k ys)
unfolding each
each_drop f zero xs ys are = are
each_drop {B} {F} f (suc k) [] ys are =
    let none : [] ≡ ys = ok_same {F = F} [] ys are in
    ap (λ vs. Ok (drop (suc k) vs)) none
each_drop {B} {F} f (suc k) (x ∷ xs) ys are =
    let first = bind_ok (f x) (λ y. each f xs >>= λ vs. Ok (y ∷ vs)) ys are in
    let rest = bind_ok (each f xs) (λ vs. Ok (first.0 ∷ vs)) ys first.2 in
    each_drop f k xs rest.0 rest.1 ∙ ap (λ vs. Ok (drop (suc k) vs)) (ok_same {F = F} (first.0 ∷ rest.0) ys rest.2)

loaded_last : (hosts : List Host) (texts first : List (List ℕ)) → length first ≡ length hosts → loaded_from hosts (texts ++ drop (length texts) first) ≡ loaded_from hosts texts ++ drop (length texts) (loaded_from hosts first)
loaded_last [] [] first same = refl
loaded_last [] (t ∷ texts) first same = refl
loaded_last (h ∷ hosts) [] first same = refl
loaded_last (h ∷ hosts) (t ∷ texts) [] same = absurd (omega (arith, same))
loaded_last (h ∷ hosts) (t ∷ texts) (f ∷ first) same = ap (λ ls. record { host = h; mtree = t } ∷ ls) (loaded_last hosts texts first (omega (arith, same)))

-- ---- the plans of other hosts

pub length-plans_from : (s : SolvedValue) (index : ℕ) (hosts : List (Host × List Entry)) → length (plans_from s index hosts) ≡ length hosts
length-plans_from s index [] = refl
length-plans_from s index (h ∷ hosts) = ap suc (length-plans_from s (index + 1) hosts)

plans_at : (s : SolvedValue) (index : ℕ) (hosts : List (Host × List Entry)) (j k : ℕ) (host : Host) (files : List Entry) → k ≡ index + j → slice_get hosts j ≡ Some (host, files) → slice_get (plans_from s index hosts) j ≡ Some (whole_plan host s.joined s.merged k files)
plans_at s index [] j k host files same at = absurd (cc)
plans_at s index (h ∷ hosts) zero k host files same at =
    let pair : h ≡ (host, files) = same_Some h (host, files) at in
    let equal : index ≡ k = omega (arith, same) in
    λ i. Some (whole_plan (pair i).0 s.joined s.merged (equal i) (pair i).1)
plans_at s index (h ∷ hosts) (suc j) k host files same at = plans_at s (index + 1) hosts j k host files (omega (arith, same)) at

-- ---- the inventories of all hosts

-- all were read again
unfoldable pub all_first : (s : SolvedValue) (read : List (Host × List Entry)) (index : ℕ) → IsPlannedAgain s read → WereRead s read → index ≡ length s.hosts → ArePlannedFirst s read index
all_first s read index again was all = record {
  texts = again.texts;
  again = again.again;
  plans = again.plans;
  texts_are = again.one_each ∙ sym all;
  within = again.within;
  again_are = again.same.one_each ∙ read_len s read was ∙ sym all;
  plans_are = again.whole.one_each ∙ again.same.one_each ∙ read_len s read was ∙ sym all;
  accepted = again.accepted;
  each_host = λ k host were within at.
      let it = again.same.each_host k host were at in
      (it.0, it.1, record { accepted = it.2; same = it.3 }, it.4, again.whole.each_plan k host it.1 it.4);
}

-- first, read: the texts that were read once, and their files
-- index: how many hosts were read again
module _ (s : SolvedValue) (first : List (List ℕ)) (read : List (Host × List Entry)) (index : ℕ) (one_each : length first ≡ length s.hosts) (accepted : each site_of (loaded_from s.hosts first) ≡ Ok read) (was : WereRead s read) (site : ArePlannedFirst s read index) (within : index ≤ length s.hosts) where
  abbrev last : List (Host × List Entry)
  last = site.again ++ drop index read

  abbrev texts_last : List (List ℕ)
  texts_last = site.texts ++ drop (length site.texts) first

  pub last_one_each : length texts_last ≡ length s.hosts
  last_one_each = omega (arith, length-append site.texts (drop (length site.texts) first), length-drop (length site.texts) first, site.texts_are, one_each, within)

  pub last_within : AreWithinLimit first → AreWithinLimit texts_last
  last_within all = All-append IsWithinLimit site.texts (drop (length site.texts) first) site.within (All-drop IsWithinLimit (length site.texts) first all)

  pub last_accepted : each site_of (loaded_from s.hosts texts_last) ≡ Ok last
  last_accepted =
      let n = length site.texts in
      ap (each site_of) (loaded_last s.hosts site.texts first one_each) ∙ each_append site_of (loaded_from s.hosts site.texts) (drop n (loaded_from s.hosts first)) site.again (drop n read) site.accepted (each_drop site_of n (loaded_from s.hosts first) read accepted)
      ∙ ap (λ k. Ok (site.again ++ drop k read)) site.texts_are

  -- the host with an index was read once
  past : (k : ℕ) → index ≤ k → slice_get last k ≡ slice_get read k
  past k more = at_second site.again (drop index read) k (k - index) (omega (arith, more, site.again_are)) ∙ at_drop index read (k - index) k (omega (arith, more))

  pub last_again : AreReadAgain (record { hosts = read; joined = s.joined }) last
  last_again = record {
    one_each = omega (arith, length-append site.again (drop index read), length-drop index read, site.again_are, read_len s read was, within);
    each_host = λ k host were at. by k host were at (below_or_not k index);
  }
    where
      by : (k : ℕ) (host : Host) (were : List Entry) → slice_get read k ≡ Some (host, were) → (k < index) ⊎ (index ≤ k)
          → (text : List ℕ) × (files : List Entry) × (second_files host text ≡ Ok files) × (row_files host were ≡ row_files host files) × (slice_get last k ≡ Some (host, files))
      by k host were at (inl less) =
          let it = site.each_host k host were less at in
          (it.0, it.1, it.2.accepted, it.2.same, at_first site.again (drop index read) k (host, it.1) it.3)
      by k host were at (inr more) =
          let text = item_at first k (omega (arith, slice_get_within read k (host, were) at, read_len s read was, one_each)) in
          let it = accepted_at s.hosts first read k host text.0 accepted (host_at s read k host were was at) text.1 in
          let pair : (host, it.0) ≡ (host, were) = same_Some (host, it.0) (host, were) (sym it.2 ∙ at) in
          (text.0, were, ap (or_changed host) it.1 ∙ ap (λ (p : Host × List Entry). Ok p.1) pair, refl, past k more ∙ at)

  abbrev plans_last : List (List ℕ)
  plans_last = site.plans ++ plans_from s index (drop index read)

  pub last_plans : AreWholePlans (record { hosts = last; joined = s.joined }) s.merged plans_last
  last_plans = record {
    one_each = omega (arith, length-append site.plans (plans_from s index (drop index read)), length-plans_from s index (drop index read), length-append site.again (drop index read), site.plans_are, site.again_are);
    each_plan = λ k host files at. by k host files at (below_or_not k index);
  }
    where
      by : (k : ℕ) (host : Host) (files : List Entry) → slice_get last k ≡ Some (host, files) → (k < index) ⊎ (index ≤ k) → slice_get plans_last k ≡ Some (whole_plan host s.joined s.merged k files)
      by k host files at (inl less) =
          let once = item_at read k (omega (arith, less, within, read_len s read was)) in
          let it = site.each_host k once.0.0 once.0.1 less once.1 in
          let pair : (once.0.0, it.1) ≡ (host, files) = same_Some (once.0.0, it.1) (host, files) (sym (at_first site.again (drop index read) k (once.0.0, it.1) it.3) ∙ at) in
          at_first site.plans (plans_from s index (drop index read)) k (whole_plan once.0.0 s.joined s.merged k it.1) it.4 ∙ (λ j. Some (whole_plan (pair j).0 s.joined s.merged k (pair j).1))
      by k host files at (inr more) =
          let there = sym (at_second site.again (drop index read) k (k - index) (omega (arith, more, site.again_are))) ∙ at in
          at_second site.plans (plans_from s index (drop index read)) k (k - index) (omega (arith, more, site.plans_are)) ∙ plans_at s index (drop index read) (k - index) k host files (omega (arith, more)) there
