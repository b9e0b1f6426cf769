-- Reading a pins text line by line.
use Rattle.std.proofs.Common.{◌≡◌, ℕ, ◌+◌, ◌≤◌, Bool, true, false, cond, not, List, [], ◌∷◌, ◌++◌, length, map, Option, Some, None, Ok, Err, is_some, refl, sym, ap, ◌∙◌, append-nil, arith, length-append, nat_eq, bytes_eq, ◌<◌, Result, subst, inl, inr, drop}
use Rattle.std.specs.Prelude.{◌&&◌, nat_lt, nat_le, IfOk, codes}
use Rattle.std.specs.List.{flat_map, list_any, list_all}
use Rattle.std.specs.Char.{digit_value}
use Rattle.std.specs.Str.Parse.{digits_value}
use Rattle.std.proofs.lemmas.Bool.{leb-true, cases_Bool, not-true, lt-ltb, le-ltb, eq-eqb}
use Rattle.std.proofs.lemmas.List.{map_push}
use Rattle.std.proofs.lemmas.List.Concat.{flat_map-append}
use Rattle.std.proofs.lemmas.List.Elements.{All-push}
use Rattle.idtext.specs.Faults.{line_number}
use Rattle.idtext.specs.Numbers.{id_of, numeral}
use Rattle.idtext.specs.Names.{is_lawful_name, is_skipped}
use Rattle.idtext.specs.Pieces.{lines, begins_with}
use Rattle.idtext.specs.Spaces.{cut_at_last_space}
use Rattle.idtext.proofs.FirstLemmas.{Reads, reads_none, reads_fails, reads_more, reads_all}
use Rattle.accounts.proofs.LawLemmas.{distinct-push}
use Rattle.accounts.proofs.ListLemmas.{list_any-map}
use Rattle.hosts_join.specs.Accounts.{Pair}
use Rattle.hosts_join.proofs.Grouping.{bytes_refl}
use Rattle.hosts_join.specs.Pairs.{number_of}
use Rattle.hosts_join.specs.PairLines.{pair_line_of, cut_pair, named, user_pair, group_pair}
use Rattle.hosts_join.specs.PinPairs.{PinPairs, ArePins}
use Rattle.hosts_join.specs.PinsText.{pins_of, pins_fault, pins_on, may_stand}
use Rattle.hosts_join.specs.PinsInside.{IsIdLine, IsPinTable, IsDraft, drafted}
use Rattle.hosts_join.specs.declared.Which.{Which}
use Rattle.hosts_join.specs.declared.Which.TheVariants.{User, Group}
use Rattle.hosts_join.specs.declared.pair_lines.PairLine.{PairLine}
use Rattle.hosts_join.specs.declared.pair_lines.PairLine.TheVariants.{Skipped, Wrong, Given}
use Rattle.hosts_join.specs.declared.fault.PinsFault.TheVariants.{BadPins}
use Rattle.hosts_join.specs.declared.pins.Draft.{Draft}
use Rattle.hosts_join.specs.declared.pins.PinTable.{PinTable}

-- ---- a number on a line is an id

id-small : (text : List ℕ) (id : ℕ) → id_of text ≡ Some id → id ≤ 4294967294
unfolding numeral
id-small [] id e = absurd (cc)
id-small (c ∷ cs) id e = by (list_all (λ d. nat_lt (digit_value d) 10) (c ∷ cs)) (nat_le (digits_value 10 (c ∷ cs)) 4294967294) refl e
  where
    by : (a b : Bool) → nat_le (digits_value 10 (c ∷ cs)) 4294967294 ≡ b → cond (a && b) (Some (digits_value 10 (c ∷ cs))) None ≡ Some id → id ≤ 4294967294
    by true true le e = small (cc)
      where
        small : digits_value 10 (c ∷ cs) ≡ id → id ≤ 4294967294
        small is = omega (arith, is, leb-true _ _ le)
    by true false le e = absurd (cc)
    by false b le e = absurd (cc)

either : (b : Bool) (x y : PairLine) → IsIdLine x → IsIdLine y → IsIdLine (cond b x y)
either true x y p q = p
either false x y p q = q

named-id : (which : Which) (name text : List ℕ) (id : Option ℕ) → id_of text ≡ id → IsIdLine (named which name id)
named-id which name text None e = tt
named-id which name text (Some n) e = either (is_lawful_name name) (Given which name n) Wrong (id-small text n e) tt

cut-id : (which : Which) (parts : Option (List ℕ × List ℕ)) → IsIdLine (cut_pair which parts)
cut-id which None = tt
cut-id which (Some parts) = named-id which parts.0 parts.1 (id_of parts.1) refl

pub pair_line-id : (line : List ℕ) → IsIdLine (pair_line_of line)
unfolding pair_line_of
pair_line-id line =
    let user = cut_pair User (cut_at_last_space (drop 5 line)) in
    let group = cut_pair Group (cut_at_last_space (drop 6 line)) in
    let is_user = begins_with (codes "user ") line in
    let is_group = begins_with (codes "group ") line in
    either (is_skipped line) Skipped (cond is_user user (cond is_group group Wrong)) tt
    (either is_user user (cond is_group group Wrong) (cut-id User (cut_at_last_space (drop 5 line)))
    (either is_group group Wrong (cut-id Group (cut_at_last_space (drop 6 line))) tt))

-- ---- one pin more

number_refl : (n : ℕ) → nat_eq n n ≡ true
number_refl n = eq-eqb n n refl

none-named : (pairs : List Pair) (name : List ℕ) → is_some (number_of pairs name) ≡ false → list_any (bytes_eq name) (map (λ (p : Pair). p.name) pairs) ≡ false
none-named [] name e = refl
none-named (p ∷ pairs) name e = elim (cases_Bool (bytes_eq name p.name)) [
  | inl t ↦ let e' = rw t at e in absurd (cc)
  | inr f ↦ let e' = rw f at e in rw f (none-named pairs name e')
]

pub pins-push : (pairs : List Pair) (name : List ℕ) (number : ℕ) → ArePins pairs → number ≤ 4294967294 → list_any (nat_eq number) (map (λ (p : Pair). p.number) pairs) ≡ false → is_some (number_of pairs name) ≡ false → ArePins (pairs ++ record { name = name; number = number } ∷ [])
pins-push pairs name number pins id unused unnamed = record {
  names_differ = rw (map_push (λ (p : Pair). p.name) pairs (record { name = name; number = number })) (distinct-push bytes_eq bytes_refl (map (λ (p : Pair). p.name) pairs) name (none-named pairs name unnamed) pins.names_differ);
  numbers_differ = rw (map_push (λ (p : Pair). p.number) pairs (record { name = name; number = number })) (distinct-push nat_eq number_refl (map (λ (p : Pair). p.number) pairs) number unused pins.numbers_differ);
  ids = All-push (λ (p : Pair). p.number ≤ 4294967294) pairs (record { name = name; number = number }) pins.ids id;
}

pub used-is : (number : ℕ) (pairs : List Pair) (keys : List ℕ) → keys ≡ map (λ (p : Pair). p.number) pairs → list_any (nat_eq number) keys ≡ list_any (λ (p : Pair). nat_eq number p.number) pairs
used-is number pairs keys e = ap (list_any (nat_eq number)) e ∙ list_any-map (nat_eq number) (λ (p : Pair). p.number) pairs

pub table-push : {E : Type 0} (o : Result Bool E) (pairs : List Pair) (t : PinTable) (name : List ℕ) (number : ℕ) (keys : List ℕ) → keys ≡ map (λ (p : Pair). p.number) pairs → ArePins pairs → number ≤ 4294967294
    → list_any (nat_eq number) keys ≡ false → t.numbers.keys ≡ keys ++ number ∷ []
    → IfOk o (λ new. new ≡ not (is_some (number_of pairs name))) → IfOk o (λ new. t.pairs ≡ cond new (pairs ++ record { name = name; number = number } ∷ []) pairs) → IfOk o (λ new. new ≡ true → IsPinTable t)
table-push (Err e) pairs t name number keys had pins id free after new added = tt
table-push (Ok false) pairs t name number keys had pins id free after new added = λ e. absurd (cc)
table-push (Ok true) pairs t name number keys had pins id free after new added = λ e.
    let free' : list_any (nat_eq number) (map (λ (p : Pair). p.number) pairs) ≡ false = ap (list_any (nat_eq number)) (sym had) ∙ free in
    record {
      numbers_are = after ∙ ap (λ ks. ks ++ number ∷ []) had ∙ sym (map_push (λ (p : Pair). p.number) pairs (record { name = name; number = number })) ∙ ap (map (λ (p : Pair). p.number)) (sym added);
      lawful = subst (λ (ps : List Pair). ArePins ps) (sym added) (pins-push pairs name number pins id free' (not-true (is_some (number_of pairs name)) (sym new)));
    }

-- ---- line by line

-- seen are the lines so far, and rest those that are left
pub record Reading (text : List ℕ) (seen rest : List (List ℕ)) (number : ℕ) (draft : Draft) : Type 0 where
  pub reads : Reads pins_fault pins_on (lines text) seen rest (drafted draft)
  pub counted : number ≡ length seen
  pub few : number ≤ 1048576
  pub sound : IsDraft draft

same_pins : (a b : PinPairs) → a.users ≡ b.users → a.groups ≡ b.groups → a.reserved_users ≡ b.reserved_users → a.reserved_groups ≡ b.reserved_groups → a ≡ b
same_pins a b p q r s = λ i. record { users = p i; groups = q i; reserved_users = r i; reserved_groups = s i }

pub more : {X A : Type 0} (f : X → List A) (xs : List X) (x : X) → flat_map f xs ++ f x ≡ flat_map f (xs ++ x ∷ [])
more f xs x = sym (flat_map-append f xs (x ∷ []) ∙ ap (λ ys. flat_map f xs ++ ys) (append-nil (f x)))

pub reading_starts : (text : List ℕ) (rest : List (List ℕ)) (draft : Draft) → rest ≡ lines text → IsDraft draft → drafted draft ≡ pins_on [] → Reading text [] rest 0 draft
reading_starts text rest draft is sound made = record {
  reads = reads_none pins_fault pins_on (lines text) rest (drafted draft) is made;
  counted = refl;
  few = omega arith;
  sound = sound;
}

module _ {text : List ℕ} {seen left rest : List (List ℕ)} {number next : ℕ} {draft : Draft} {line : List ℕ} (so_far : Reading text seen left number draft) (is : left ≡ line ∷ rest) (counts : next ≡ number + 1) where
  numbered : line_number (length seen) ≡ next
  numbered = let c = so_far.counted in let f = so_far.few in omega (arith, c, f, counts)

  pub reading_is_long : 1048576 < next → pins_of text ≡ Err (BadPins next)
  unfolding pins_of
  reading_is_long long =
      let past : nat_lt (length seen) 1048576 ≡ false = let c = so_far.counted in le-ltb (length seen) 1048576 (omega (arith, c, counts, long)) in
      let judged : pins_fault seen line ≡ Some (BadPins next) = rw (past, numbered) refl in
      reads_fails pins_fault pins_on (lines text) seen left (drafted draft) line rest (BadPins next) so_far.reads is judged

  same_seen : (good : Bool) → good ≡ may_stand (drafted draft) (pair_line_of line) → may_stand (pins_on seen) (pair_line_of line) ≡ good
  same_seen good e = sym (e ∙ ap (λ m. may_stand m (pair_line_of line)) so_far.reads.made_is)

  pub reading_fails : false ≡ may_stand (drafted draft) (pair_line_of line) → pins_of text ≡ Err (BadPins next)
  unfolding pins_of
  reading_fails bad =
      let judged : pins_fault seen line ≡ Some (BadPins next) = both (nat_lt (length seen) 1048576) in
      reads_fails pins_fault pins_on (lines text) seen left (drafted draft) line rest (BadPins next) so_far.reads is judged
    where
      both : (few : Bool) → cond (few && may_stand (pins_on seen) (pair_line_of line)) None (Some (BadPins (line_number (length seen)))) ≡ Some (BadPins next)
      both true = rw (same_seen false bad, numbered) refl
      both false = rw numbered refl

  pub reading_goes_on : (after : Draft) → next ≤ 1048576 → true ≡ may_stand (drafted draft) (pair_line_of line) → after.users.pairs ≡ draft.users.pairs ++ user_pair (pair_line_of line) → after.groups.pairs ≡ draft.groups.pairs ++ group_pair (pair_line_of line) → IsDraft after → Reading text (seen ++ line ∷ []) rest next after
  reading_goes_on after few good users groups sound =
      let short : nat_lt (length seen) 1048576 ≡ true = let c = so_far.counted in lt-ltb (length seen) 1048576 (omega (arith, c, counts, few)) in
      let judged : pins_fault seen line ≡ None = rw (short, same_seen true good) refl in
      record {
        reads = reads_more pins_fault pins_on (lines text) seen left (drafted draft) line rest (drafted after) so_far.reads is judged
            (same_pins (drafted after) (pins_on (seen ++ line ∷ []))
            (users ∙ ap (λ m. m.users ++ user_pair (pair_line_of line)) so_far.reads.made_is ∙ more (λ l. user_pair (pair_line_of l)) seen line)
            (groups ∙ ap (λ m. m.groups ++ group_pair (pair_line_of line)) so_far.reads.made_is ∙ more (λ l. group_pair (pair_line_of l)) seen line) refl refl);
        counted = rw length-append (let c = so_far.counted in omega (arith, c, counts));
        few = few;
        sound = sound;
      }

pub reading_ends : {text : List ℕ} {seen left : List (List ℕ)} {number : ℕ} {draft : Draft} → Reading text seen left number draft → left ≡ [] → pins_of text ≡ Ok (drafted draft)
unfolding pins_of
reading_ends {text} {seen} {left} {number} {draft} so_far none = reads_all pins_fault pins_on (lines text) seen left (drafted draft) so_far.reads none
