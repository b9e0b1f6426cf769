-- The turn of each host, and the plans of all.
use Rattle.std.proofs.Common.{◌≡◌, ◌<◌, ◌++◌, ◌∷◌, [], ℕ, zero, suc, List, length, map, Some, Ok, sym, ap, subst, ◌∙◌, arith}
use Rattle.std.specs.List.{slice_get}
use Rattle.std.proofs.lemmas.List.{length-map}
use Rattle.std.proofs.lemmas.Option.{same_Some, slice_get_within}
use Rattle.idtext.specs.First.{each}
use Rattle.mtree_inv.specs.declared.entry.Entry.{Entry}
use Rattle.hosts_join.specs.declared.host.Host.{Host}
use Rattle.hosts_join.specs.declared.texts.HostText.{HostText}
use Rattle.unify.specs.Count.{site_of}
use Rattle.site_tables.specs.Loading.{loaded_from}
use Rattle.unify.specs.SecondPass.{HaveSameCounts, IsFresh, IsOfSameSite, SolvedValue, ended_in, first_in, whole_plan}
use Rattle.unify_laws.proofs.Agreeing.{item_at}
use Rattle.unify_merge.specs.Ledger.{Ledger}
use Rattle.unify_merge.specs.FirstReading.{readings_from}
use Rattle.unify_merge.specs.SecondReading.{ArePlanned, IsChangeFault, IsTurnOf, PlannedSoFar, StopsPlanning, StopsSecond, WereRead}
use Rattle.unify_merge.specs.declared.fault.MergeFault.{MergeFault}
use Rattle.unify_merge.proofs.Stops.{stops_map}

mapped_at : {A B : Type 0} (f : A → B) (xs : List A) (k : ℕ) (x : A) → slice_get xs k ≡ Some x → slice_get (map f xs) k ≡ Some (f x)
mapped_at f [] k x at = absurd (cc)
mapped_at f (y ∷ ys) zero x at =
    let same : y ≡ x = same_Some y x at in
    ap (λ z. Some (f z)) same
mapped_at f (y ∷ ys) (suc k) x at = mapped_at f ys k x at

pub host_at : (s : SolvedValue) (read : List (Host × List Entry)) (index : ℕ) (host : Host) (were : List Entry) → WereRead s read → slice_get read index ≡ Some (host, were) → slice_get s.hosts index ≡ Some host
host_at s read index host were was at =
    let first : Host × List Entry → Host = λ h. h.0 in
    ap (λ hs. slice_get hs index) (sym was.hosts) ∙ mapped_at first read index (host, were) at

pub read_len : (s : SolvedValue) (read : List (Host × List Entry)) → WereRead s read → length read ≡ length s.hosts
read_len s read was =
    let first : Host × List Entry → Host = λ h. h.0 in
    sym (length-map read first) ∙ ap length was.hosts

-- one site, however often
pub same_site : (s mid new : SolvedValue) {text planned : List ℕ} → mid ≡ record s { text = text; planned = planned } → IsOfSameSite mid new → IsOfSameSite s new
same_site s mid new come site = site ∙ ap (λ (v : SolvedValue). record v { ended = new.ended; text = new.text; planned = new.planned; met = new.met }) come

pub same_again : (s mid new : SolvedValue) → IsOfSameSite s mid → IsOfSameSite mid new → IsOfSameSite s new
same_again s mid new one two = two ∙ ap (λ (v : SolvedValue). record v { ended = new.ended; text = new.text; planned = new.planned; met = new.met }) one

-- now: the second pass after the hosts before it
pub turn_of : (s now : SolvedValue) (read : List (Host × List Entry)) (index : ℕ) (host : Host) (were : List Entry) → IsOfSameSite s now → ended_in now ≡ index → WereRead s read → slice_get read index ≡ Some (host, were)
    → IsFresh now → IsTurnOf now host were
turn_of s now read index host were site ended was at fresh = record {
  here = (λ j. slice_get (site j).hosts (ended j)) ∙ host_at s read index host were was at;
  first = (read, ap first_in site ∙ was.files, ap (slice_get read) ended ∙ at);
  fresh = fresh;
}

-- the reading of one inventory ended early, and so did that of all
pub planning_stopped : (names : List HostText) (s : SolvedValue) (read : List (Host × List Entry)) (index : ℕ) (host : Host) (were : List Entry) (old mid new : Ledger) (fault : MergeFault) → PlannedSoFar names s read index old mid
    → WereRead s read → slice_get read index ≡ Some (host, were) → StopsSecond host were index mid.read new fault → StopsPlanning read old new fault
planning_stopped names s read index host were old mid new fault so_far was at stops = stops_map _ _ new fault (λ f is. record {
  texts = so_far.site.texts;
  again = so_far.site.again;
  accepted = subst (λ (hs : List Host). each site_of (loaded_from hs so_far.site.texts) ≡ Ok so_far.site.again) (sym was.hosts) so_far.site.accepted;
  same = λ k other others files before after.
      let it = so_far.site.each_host k other others (omega (arith, slice_get_within so_far.site.again k (other, files) after, so_far.site.again_are)) before in
      let pair : (other, it.1) ≡ (other, files) = same_Some (other, it.1) (other, files) (sym it.3 ∙ after) in
      subst (λ (p : Host × List Entry). HaveSameCounts other others p.1) pair it.2.same;
  host = host;
  were = were;
  here = subst (λ k. slice_get read k ≡ Some (host, were)) (sym so_far.site.texts_are) at;
  change = subst (λ k. IsChangeFault host were k (old.read ++ readings_from 0 so_far.site.texts) new f) (sym so_far.site.texts_are) (subst (λ b. IsChangeFault host were index b new f) so_far.readings is);
}) stops

-- the plans of all hosts
pub all_planned : (names : List HostText) (s : SolvedValue) (read : List (Host × List Entry)) (index : ℕ) (old new : Ledger) → PlannedSoFar names s read index old new → WereRead s read → index ≡ length s.hosts → ArePlanned names s read old new
all_planned names s read index old new so_far was all = record {
  site = record {
    texts = so_far.site.texts;
    one_each = so_far.site.texts_are ∙ all;
    within = so_far.site.within;
    again = so_far.site.again;
    accepted = so_far.site.accepted;
    same = record {
      one_each = omega (arith, so_far.site.again_are, all, read_len s read was);
      each_host = λ k host were at.
          let it = so_far.site.each_host k host were (omega (arith, slice_get_within read k (host, were) at, all, read_len s read was)) at in
          (it.0, it.1, it.2.accepted, it.2.same, it.3);
    };
    plans = so_far.site.plans;
    whole = record {
      one_each = omega (arith, so_far.site.plans_are, so_far.site.again_are);
      each_plan = λ k host files at.
          let within : k < index = omega (arith, slice_get_within so_far.site.again k (host, files) at, so_far.site.again_are) in
          let here = item_at read k (omega (arith, within, all, read_len s read was)) in
          let it = so_far.site.each_host k here.0.0 here.0.1 within here.1 in
          let pair : (here.0.0, it.1) ≡ (host, files) = same_Some (here.0.0, it.1) (host, files) (sym it.3 ∙ at) in
          it.4 ∙ (λ j. Some (whole_plan (pair j).0 s.joined s.merged k (pair j).1));
    };
  };
  readings = so_far.readings;
  files = so_far.files;
}
