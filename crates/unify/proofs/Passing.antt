-- Inventories that come, call by call.
use Rattle.std.proofs.Common.{◌≡◌, ℕ, ◌+◌, ◌<◌, ◌≤◌, List, [], ◌∷◌, ◌++◌, length, get_or, Option, Some, None, Result, Ok, Err, refl, sym, ap, subst, ◌∙◌, arith, length-append}
use Rattle.std.specs.Prelude.{IfErr, IfNone, IfSome}
use Rattle.std.specs.List.{All, slice_get}
use Rattle.std.proofs.lemmas.List.{map-append}
use Rattle.std.proofs.lemmas.Option.{same_Some, slice_get-get_or}
use Rattle.idtext.specs.First.{◌>>=◌, each}
use Rattle.idtext.proofs.OkLemmas.{bind_ok, ok_same}
use Rattle.mtree_inv.specs.declared.entry.Entry.{Entry}
use Rattle.hosts_join.specs.Hosts.{IsLawfulHost}
use Rattle.hosts_join.specs.declared.host.Host.{Host}
use Rattle.unify_texts.specs.declared.fault.Fault.{Fault}
use Rattle.site_tables.specs.declared.host.Loaded.{Loaded}
use Rattle.unify.specs.declared.turn.Turn.{Turn}
use Rattle.unify.specs.Count.{site_of}
use Rattle.site_tables.specs.Loading.{loaded_from}
use Rattle.unify.specs.Passes.{IsNext, TellsFault, at_start}
use Rattle.unify.specs.RowFiles.{row_files}
use Rattle.unify.specs.Taken.{nothing}
use Rattle.unify.specs.Turns.{AreComing, IsAccepted, Pass, TurnsFor, met_at, met_by, met_in, met_on, seen}
use Rattle.unify.proofs.Sites.{site_given}
use Rattle.unify.proofs.Turns.{met_none}

-- ---- hosts with the texts that were ended

pub loaded_none : (hosts : List Host) → loaded_from hosts [] ≡ []
loaded_none [] = refl
loaded_none (h ∷ hosts) = refl

pub none_read : (hosts : List Host) → each site_of (loaded_from hosts []) ≡ Ok []
unfolding each
none_read hosts = ap (each site_of) (loaded_none hosts)

pub loaded_push : (hosts : List Host) (ended : List (List ℕ)) (host : Host) (text : List ℕ) → slice_get hosts (length ended) ≡ Some host → loaded_from hosts (ended ++ text ∷ []) ≡ loaded_from hosts ended ++ record { host = host; mtree = text } ∷ []
loaded_push [] ended host text here = absurd (cc)
loaded_push (h ∷ hosts) [] host text here =
    let same : h ≡ host = (cc) in
    let one : List Loaded → List Loaded = λ t. record { host = h; mtree = text } ∷ t in
    let with_host : Host → List Loaded = λ x. record { host = x; mtree = text } ∷ [] in
    ap one (loaded_none hosts) ∙ ap with_host same
loaded_push (h ∷ hosts) (e ∷ ended) host text here =
    let one : List Loaded → List Loaded = λ t. record { host = h; mtree = e } ∷ t in
    ap one (loaded_push hosts ended host text here)

pub each_push : {A B F : Type 0} (f : A → Result B F) (xs : List A) (x : A) (ys : List B) (y : B) → each f xs ≡ Ok ys → f x ≡ Ok y → each f (xs ++ x ∷ []) ≡ Ok (ys ++ y ∷ [])
unfolding each
each_push f [] x ys y h is = rw is (ap (λ zs. Ok (zs ++ y ∷ [])) (ok_same [] ys h))
each_push f (a ∷ xs) x ys y h is =
    let first = bind_ok (f a) (λ z. each f xs >>= λ zs. Ok (z ∷ zs)) ys h in
    let rest = bind_ok (each f xs) (λ zs. Ok (first.0 ∷ zs)) ys first.2 in
    rw (first.1, each_push f xs x rest.0 y rest.1 is) (ap (λ zs. Ok (zs ++ y ∷ [])) (ok_same (first.0 ∷ rest.0) ys rest.2))

pub unmet : (P : Fault → Type 0) (o : Option Fault) → IfSome o (λ f. ⊥ × P f) → o ≡ None
unmet P None h = refl
unmet P (Some f) h = absurd h.0

pub on_err : {A : Type 0} (P : Type 0) (r : Result A Fault) → P → IfErr r (λ e. P)
on_err P (Ok x) p = tt
on_err P (Err e) p = p

-- the turn of the host at a place, if there is one, of whose inventory nothing has come
abbrev pub IsNew : List Host → ℕ → Turn → Type 0
IsNew hosts k turn = (host : Host) → slice_get hosts k ≡ Some host → TurnsFor host turn []

pub coming_start : (hosts : List Host) (turn : Turn) → length hosts ≤ 64 → All IsLawfulHost hosts → IsNew hosts 0 turn → AreComing (record { hosts = hosts; passed = []; turn = turn; taken = nothing })
coming_start hosts turn few lawful new = record {
  counting = record { few = few; lawful = lawful; within = omega arith; ended_are = refl; read = []; accepted = none_read hosts; passed_are = refl };
  turns = λ none. new;
}

-- a turn of which something has come has met no fault
pub turns_unmet : (host : Host) (turn : Turn) (text : List ℕ) → TurnsFor host turn text → met_by host turn ≡ None
turns_unmet host turn text turns = met_none host turn.reader.is_finished turn.reader.fault turn.unowned turns.going turns.sound

-- nor one of which nothing has come, if there is one
new_unmet : (o : Option Host) (turn : Turn) → ((host : Host) → o ≡ Some host → TurnsFor host turn []) → met_on o turn ≡ None
new_unmet None turn new = refl
new_unmet (Some host) turn new = turns_unmet host turn [] (new host refl)

pub start_seen : (hosts : List Host) (turn : Turn) → IsNew hosts 0 turn → seen (record { hosts = hosts; passed = []; turn = turn; taken = nothing }) ≡ at_start hosts
start_seen hosts turn new = ap (λ o. record (at_start hosts) { met = o }) (new_unmet (slice_get hosts 0) turn new)

-- ---- with a host whose turn it is

pub record IsTurnOf (p : Pass) (host : Host) : Type 0 where
  pub inv : AreComing p
  pub left : length p.passed < length p.hosts
  pub here : slice_get p.hosts (length p.passed) ≡ Some host

-- at an index that is looked up
pub turn_of : (p : Pass) (k : ℕ) (host : Host) → AreComing p → k ≡ length p.passed → length p.taken.ended < length p.hosts → host ≡ get_or p.hosts k host → IsTurnOf p host
turn_of p k host inv is asked at =
    let left : length p.passed < length p.hosts = omega (arith, asked, inv.counting.ended_are) in
    record { inv = inv; left = left; here = slice_get-get_or p.hosts (length p.passed) host left ∙ ap (λ (h : Host). Some h) (sym (rw is at at)) }

module _ {p : Pass} {host : Host} (is : IsTurnOf p host) where
  inv : AreComing p
  inv = is.inv

  here : slice_get p.hosts (length p.passed) ≡ Some host
  here = is.here

  -- with a turn of it
  abbrev pub turned : Turn → Pass
  turned turn = record p { turn = turn }

  pub met_here : (turn : Turn) → met_in (turned turn) ≡ met_by host turn
  met_here turn = ap (λ o. met_on o turn) here

  -- while none was met, the turn goes on
  pub going : met_by host p.turn ≡ None → (text : List ℕ) × TurnsFor host p.turn text
  going none = (p.taken.text, inv.turns (met_here p.turn ∙ none) host here)

  -- what a turn that goes on has, the next host has
  pub for_next : (P : Host → Type 0) → (TurnsFor host p.turn p.taken.text → P host) → (other : Host) → IsNext (seen p) other → P other
  for_next P has other next =
      let there : slice_get p.hosts (length p.passed) ≡ Some other = ap (slice_get p.hosts) (sym inv.counting.ended_are) ∙ next.0 in
      subst P (same_Some host other (sym here ∙ there)) (has (inv.turns next.1 host here))

  -- ---- a fault

  pub refused_coming : (turn : Turn) (f : Fault) → met_by host turn ≡ Some f → AreComing (turned turn)
  refused_coming turn f met = record {
    counting = inv.counting;
    turns = λ none.
        let bad : Some f ≡ None = sym (met_here turn ∙ met) ∙ none in
        absurd (cc);
  }

  pub refused_seen : (turn : Turn) (f : Fault) → met_by host turn ≡ Some f → seen (turned turn) ≡ record (seen p) { met = Some f }
  refused_seen turn f met = ap (λ o. record (seen p) { met = o }) (met_here turn ∙ met)

  -- a new fault is the one that is met
  pub met_new : (turn : Turn) (e : Fault) → IfNone (met_by host p.turn) (met_by host turn ≡ Some e) → IfNone (met_in p) (seen (turned turn) ≡ record (seen p) { met = Some e })
  met_new turn e met = by (met_in p) (met_by host p.turn) (met_here p.turn) met
    where
      by : (o q : Option Fault) → o ≡ q → IfNone q (met_by host turn ≡ Some e) → IfNone o (seen (turned turn) ≡ record (seen p) { met = Some e })
      by None None same new = refused_seen turn e new
      by None (Some f) same new = absurd (cc)
      by (Some f) q same new = tt

  pub again_as : (turn : Turn) (r : Result (Unit {0}) Fault) → IfSome (met_by host p.turn) (λ f. TellsFault f r × (turn ≡ p.turn)) → IfSome (met_in p) (λ f. TellsFault f r × (seen (turned turn) ≡ seen p))
  again_as turn r again = by (met_in p) (met_by host p.turn) (met_here p.turn) again
    where
      by : (o q : Option Fault) → o ≡ q → IfSome q (λ f. TellsFault f r × (turn ≡ p.turn)) → IfSome o (λ f. TellsFault f r × (seen (turned turn) ≡ seen p))
      by None q same old = tt
      by (Some f) None same old = absurd (cc)
      by (Some f) (Some g) same old =
          let one : g ≡ f = (cc) in
          (subst (λ h. TellsFault h r) one old.0, ap (λ t. seen (turned t)) old.1)

  -- what a turn meets, the pass meets
  pub met_as : (P : Fault → Type 0) (turn : Turn) → IfSome (met_by host turn) P → IfSome (met_in (turned turn)) P
  met_as P turn met = subst (λ o. IfSome o P) (sym (met_here turn)) met

  -- a call that was answered with Ok met no fault before
  pub was_unmet : (turn : Turn) → IfSome (met_by host p.turn) (λ f. ⊥ × (turn ≡ p.turn)) → met_in p ≡ None
  was_unmet turn again = met_here p.turn ∙ unmet (λ f. turn ≡ p.turn) (met_by host p.turn) again

  -- ---- a piece

  module _ (turn : Turn) (bytes : List ℕ) (again : IfSome (met_by host p.turn) (λ f. ⊥ × (turn ≡ p.turn))) (stands : (text : List ℕ) → TurnsFor host p.turn text → TurnsFor host turn (text ++ bytes)) where
    abbrev pub fed : Pass
    fed = record p { turn = turn; taken = record p.taken { text = p.taken.text ++ bytes } }

    fed_turns : TurnsFor host turn (p.taken.text ++ bytes)
    fed_turns = stands p.taken.text (inv.turns (was_unmet turn again) host here)

    pub fed_coming : AreComing fed
    fed_coming = record {
      counting = inv.counting;
      turns = λ none other there. subst (λ (h : Host). TurnsFor h turn (p.taken.text ++ bytes)) (same_Some host other (sym here ∙ there)) fed_turns;
    }

    pub fed_seen : seen fed ≡ record (seen p) { text = p.taken.text ++ bytes }
    fed_seen = ap (λ o. record (seen p) { text = p.taken.text ++ bytes; met = o }) (met_here turn ∙ turns_unmet host turn (p.taken.text ++ bytes) fed_turns ∙ sym (was_unmet turn again))

  -- ---- the end

  -- turn: as it was accepted; next: the turn of the next host
  module _ (turn next : Turn) (again : IfSome (met_by host p.turn) (λ f. ⊥ × (turn ≡ p.turn))) (accepts : (text : List ℕ) → TurnsFor host p.turn text → IsAccepted host turn text) (new : IsNew p.hosts (length p.passed + 1) next) where
    abbrev pub after : Pass
    after = record p { passed = p.passed ++ turn.rows ∷ []; turn = next; taken = record { ended = p.taken.ended ++ p.taken.text ∷ []; text = []; planned = [] } }

    one_more : length (p.passed ++ turn.rows ∷ []) ≡ length p.passed + 1
    one_more = length-append p.passed (turn.rows ∷ [])

    new_here : IsNew p.hosts (length (p.passed ++ turn.rows ∷ [])) next
    new_here = subst (λ k. IsNew p.hosts k next) (sym one_more) new

    pub after_coming : AreComing after
    after_coming =
        let was = inv.counting in
        let text = p.taken.text in
        let l : Loaded = record { host = host; mtree = text } in
        let a = accepts text (inv.turns (was_unmet turn again) host here) in
        let rows = λ (at : Host × List Entry). row_files at.0 at.1 in
        let there : slice_get p.hosts (length p.taken.ended) ≡ Some host = ap (slice_get p.hosts) was.ended_are ∙ here in
        record {
          counting = record {
            few = was.few;
            lawful = was.lawful;
            within = omega (arith, is.left, one_more);
            ended_are = omega (arith, was.ended_are, length-append p.taken.ended (text ∷ []), one_more);
            read = was.read ++ (host, a.files) ∷ [];
            accepted = ap (each site_of) (loaded_push p.hosts p.taken.ended host text there) ∙ each_push site_of (loaded_from p.hosts p.taken.ended) l was.read (host, a.files) was.accepted (site_given l text a.files refl a.are);
            passed_are = (λ i. was.passed_are i ++ a.rows i ∷ []) ∙ sym (map-append rows was.read ((host, a.files) ∷ []));
          };
          turns = λ none. new_here;
        }

    pub after_seen : seen after ≡ record (seen p) { ended = p.taken.ended ++ p.taken.text ∷ []; text = [] }
    after_seen = ap (λ o. record (seen p) { ended = p.taken.ended ++ p.taken.text ∷ []; text = []; met = o }) (new_unmet (slice_get p.hosts (length (p.passed ++ turn.rows ∷ []))) next new_here ∙ sym (was_unmet turn again))

-- a turn whose reader and whose file without an account are as they were met what it had met
pub met_same : (host : Host) (turn other : Turn) (o : Option Fault) → turn.reader ≡ other.reader → turn.unowned ≡ other.unowned → met_by host other ≡ o → met_by host turn ≡ o
met_same host turn other o reader unowned met = (λ i. met_at host (reader i).is_finished (reader i).fault (unowned i)) ∙ met
