-- The first fault of an account file, by the checks of a line.
use Rattle.std.proofs.Common.{◌≡◌, ◌⊎◌, ℕ, ◌+◌, ◌<◌, ◌≤◌, Bool, true, false, cond, List, [], ◌∷◌, length, map, take, get_or, Option, Some, None, Result, Ok, Err, refl, sym, ap, ◌∙◌, subst, arith, inl, inr, bytes_eq, nat_eq}
use Rattle.std.specs.Prelude.{◌==◌, nat_lt, slice_get}
use Rattle.std.specs.List.{Contains, list_any}
use Rattle.std.proofs.lemmas.Bool.{cases_Bool, eq-eqb, eqb-true, ltb-false, ltb-true, or_left, or_right, true≢false}
use Rattle.std.proofs.lemmas.List.Folds.{Any-from_list_any, list_any-from_Any}
use Rattle.std.proofs.lemmas.Option.{same_Some}
use Rattle.std.proofs.lemmas.Slice.Eq.{bytes_eq-Decides}
use Rattle.idtext.specs.declared.faults.TextCode.{TextCode}
use Rattle.idtext.specs.declared.faults.TextCode.TheVariants.{TooManyLines, LineTooLong, CompatLine, BadFields, BadName, BadNumber, NameTwice, SharedNumber}
use Rattle.idtext.specs.declared.faults.TextFault.{TextFault}
use Rattle.idtext.specs.Faults.{refused}
use Rattle.idtext.specs.First.{◌>>=◌, first_fault}
use Rattle.idtext.specs.Names.{is_lawful_name, is_skipped}
use Rattle.idtext.specs.Numbers.{id_of}
use Rattle.idtext.specs.Pieces.{fields_of, lines as lines_of}
use Rattle.idtext.proofs.OkLemmas.{unless_ok}
use Rattle.accounts.specs.Lines.{is_compat}
use Rattle.accounts.specs.Refused.{AllMayStand, Breaks, BreaksBeside, BreaksNone, GroupFirstFaultIsTold, GroupLinesMayStand, GroupNumberIsBad, IsFirstBroken, IsFirstFault, MayStand, PasswdFirstFaultIsTold, PasswdLinesMayStand, PasswdNumberIsBad, checks_of, field}
use Rattle.accounts.specs.Rows.{Passwd, Group, group_from, group_line, numbered, passwd_from, passwd_line}
use Rattle.accounts.specs.Tables.{fault_in, group_table, line_fault, passwd_table, rows_from, shared_fault, table}
use Rattle.idtext.proofs.FaultLemmas.{all_fine, fault_found, faulty, front-size}
use Rattle.accounts.proofs.ListLemmas.{list_any-map}

-- ---- checks one after the other

-- what a fault, or that there is none, says of the checks that are left
abbrev Outcome : (TextCode → Type 0) → List TextCode → ℕ → Option TextFault → Type 0
Outcome B checks n None = BreaksNone B checks
Outcome B checks n (Some fault) = (fault.line ≡ n) × IsFirstBroken B checks fault.code

here : (B : TextCode → Type 0) (code : TextCode) (later : List TextCode) (n : ℕ) → B code → Outcome B (code ∷ later) n (Some (record { code = code; line = n }))
here B code later n broken = (refl, inl (refl, broken))

onward : (B : TextCode → Type 0) (code : TextCode) (later : List TextCode) (n : ℕ) (o : Option TextFault) → (¬ B code) → Outcome B later n o → Outcome B (code ∷ later) n o
onward B code later n None good rest = (good, rest)
onward B code later n (Some fault) good rest = (rest.0, inr (good, rest.1))

-- ---- what an earlier row has

any-there : {K : Type 0} (test : K → K → Bool) → ((a b : K) → test a b ≡ true → a ≡ b) → (x : K) (xs : List K) → list_any (test x) xs ≡ true → Contains xs x
any-there {K} test exact x xs e =
    let any = Any-from_list_any (test x) xs e in
    subst (λ (y : K). Contains xs y) (sym (exact x any.1 any.4)) (any.0, any.2, any.3)

there-any : {K : Type 0} (test : K → K → Bool) → ((a : K) → test a a ≡ true) → (x : K) (xs : List K) → Contains xs x → list_any (test x) xs ≡ true
there-any test same x xs there = list_any-from_Any (test x) xs (there.0, x, there.1, there.2, same x)

bytes-exact : (a b : List ℕ) → bytes_eq a b ≡ true → a ≡ b
bytes-exact a b e = (bytes_eq-Decides a b).0 e

bytes-same : (a : List ℕ) → bytes_eq a a ≡ true
bytes-same a = (bytes_eq-Decides a a).1 refl

number-same : (n : ℕ) → nat_eq n n ≡ true
number-same n = eq-eqb n n refl

abbrev last_two : List TextCode
last_two = NameTwice ∷ SharedNumber ∷ []

module _ {Row : Type 0} (name : Row → List ℕ) (number : Row → ℕ) (line_of : ℕ → List ℕ → Result (Option Row) TextFault) where
  abbrev name_known : List Row → Row → Bool
  name_known rows row = list_any (λ r. bytes_eq (name row) (name r)) rows

  abbrev number_known : List Row → Row → Bool
  number_known rows row = list_any (λ r. nat_eq (number row) (number r)) rows

  -- the names and the numbers of the rows, where the id of the line is that of the row
  module _ (many : ℕ) (Bad : List (List ℕ) → Type 0) (rows : List Row) (row : Row) (n : ℕ) (line : List ℕ) (fields : List (List ℕ)) (name_is : name row ≡ field fields 0) (number_is : id_of (field fields 2) ≡ Some (number row)) where
    abbrev Beside : TextCode → Type 0
    Beside = BreaksBeside many Bad (map name rows) (map number rows) n line fields

    name-there : name_known rows row ≡ true → Contains (map name rows) (field fields 0)
    name-there e = subst (λ (x : List ℕ). Contains (map name rows) x) name_is (any-there bytes_eq bytes-exact (name row) (map name rows) (list_any-map (bytes_eq (name row)) name rows ∙ e))

    there-name : Contains (map name rows) (field fields 0) → name_known rows row ≡ true
    there-name there = sym (list_any-map (bytes_eq (name row)) name rows) ∙ there-any bytes_eq bytes-same (name row) (map name rows) (subst (λ (x : List ℕ). Contains (map name rows) x) (sym name_is) there)

    number-there : number_known rows row ≡ true → Beside SharedNumber
    number-there e = (number row, number_is, any-there nat_eq eqb-true (number row) (map number rows) (list_any-map (nat_eq (number row)) number rows ∙ e))

    there-number : Beside SharedNumber → number_known rows row ≡ true
    there-number shared =
        let same : shared.0 ≡ number row = same_Some shared.0 (number row) (sym shared.1 ∙ number_is) in
        sym (list_any-map (nat_eq (number row)) number rows) ∙ there-any nat_eq number-same (number row) (map number rows) (subst (λ (k : ℕ). Contains (map number rows) k) same shared.2)

    shared_by : (a b : Bool) → name_known rows row ≡ a → number_known rows row ≡ b → Outcome Beside last_two n (shared_fault line_of name number n (cond a (Some NameTwice) (cond b (Some SharedNumber) None)))
    shared_by true b ea eb = here Beside NameTwice (SharedNumber ∷ []) n (name-there ea)
    shared_by false true ea eb =
        onward Beside NameTwice (SharedNumber ∷ []) n (Some (record { code = SharedNumber; line = n })) (λ there. true≢false (sym (there-name there) ∙ ea)) (here Beside SharedNumber [] n (number-there eb))
    shared_by false false ea eb =
        onward Beside NameTwice (SharedNumber ∷ []) n None (λ there. true≢false (sym (there-name there) ∙ ea))
        (onward Beside SharedNumber [] n None (λ there. true≢false (sym (there-number there) ∙ eb)) tt)

    pub shared-outcome : Outcome Beside last_two n (fault_in line_of name number rows n (Ok (Some row)))
    shared-outcome = shared_by (name_known rows row) (number_known rows row) refl refl

-- ---- the fields

abbrev from_name : List TextCode
from_name = BadName ∷ BadNumber ∷ last_two

abbrev from_fields : List TextCode
from_fields = BadFields ∷ from_name

abbrev user_fault : List Passwd → ℕ → Result Passwd TextFault → Option TextFault
user_fault rows n read = fault_in passwd_line (λ row. row.name) (λ row. row.uid) rows n (read >>= λ row. Ok (Some row))

abbrev UserBreaks : List Passwd → ℕ → List ℕ → List (List ℕ) → TextCode → Type 0
UserBreaks rows n line fields = BreaksBeside 7 PasswdNumberIsBad (map (λ row. row.name) rows) (map (λ row. row.uid) rows) n line fields

module _ (rows : List Passwd) (n : ℕ) (line : List ℕ) where
  module _ (name password uid gid comment home shell : List ℕ) where
    abbrev user_fields : List (List ℕ)
    user_fields = name ∷ password ∷ uid ∷ gid ∷ comment ∷ home ∷ shell ∷ []

    abbrev user_row : ℕ → ℕ → Passwd
    user_row user group = record { line = n; name = name; password = password; uid = user; gid = group; comment = comment; home = home; shell = shell }

    abbrev user_read : Option ℕ → Option ℕ → Result Passwd TextFault
    user_read u g = numbered n u (λ user. numbered n g (λ group. Ok (user_row user group)))

    user-numbers : (u g : Option ℕ) → id_of uid ≡ u → id_of gid ≡ g → Outcome (UserBreaks rows n line user_fields) (BadNumber ∷ last_two) n (user_fault rows n (user_read u g))
    user-numbers None g eu eg = here (UserBreaks rows n line user_fields) BadNumber last_two n (inl eu)
    user-numbers (Some u) None eu eg = here (UserBreaks rows n line user_fields) BadNumber last_two n (inr eg)
    user-numbers (Some u) (Some g) eu eg =
        onward (UserBreaks rows n line user_fields) BadNumber last_two n (user_fault rows n (Ok (user_row u g))) no
        (shared-outcome (λ row. row.name) (λ row. row.uid) passwd_line 7 PasswdNumberIsBad rows (user_row u g) n line user_fields refl eu)
      where
        no : ¬ PasswdNumberIsBad user_fields
        no (inl e) = let both : ◌≡◌ {A = Option ℕ} (Some u) None = sym eu ∙ e in absurd (cc)
        no (inr e) = let both : ◌≡◌ {A = Option ℕ} (Some g) None = sym eg ∙ e in absurd (cc)

    abbrev user_after : Bool → Result Passwd TextFault
    user_after lawful = cond lawful (user_read (id_of uid) (id_of gid)) (refused n BadName)

    user-name : (b : Bool) → is_lawful_name name ≡ b → Outcome (UserBreaks rows n line user_fields) from_name n (user_fault rows n (user_after b))
    user-name true e =
        onward (UserBreaks rows n line user_fields) BadName (BadNumber ∷ last_two) n (user_fault rows n (user_read (id_of uid) (id_of gid))) (λ bad. true≢false (sym e ∙ bad)) (user-numbers (id_of uid) (id_of gid) refl refl)
    user-name false e = here (UserBreaks rows n line user_fields) BadName (BadNumber ∷ last_two) n e

  abbrev UserOutcome : List (List ℕ) → Type 0
  UserOutcome fields = Outcome (UserBreaks rows n line fields) from_fields n (user_fault rows n (passwd_from n fields))

  user-other : (fields : List (List ℕ)) → passwd_from n fields ≡ refused n BadFields → (length fields ≡ 7 → ⊥) → UserOutcome fields
  user-other fields e other =
      subst (λ (read : Result Passwd TextFault). Outcome (UserBreaks rows n line fields) from_fields n (user_fault rows n read)) (sym e)
      (here (UserBreaks rows n line fields) BadFields from_name n other)

  user-fields : (fields : List (List ℕ)) → UserOutcome fields
  user-fields [] = user-other [] refl (λ e. omega (arith, e))
  user-fields (a ∷ []) = user-other (a ∷ []) refl (λ e. omega (arith, e))
  user-fields (a ∷ b ∷ []) = user-other (a ∷ b ∷ []) refl (λ e. omega (arith, e))
  user-fields (a ∷ b ∷ c ∷ []) = user-other (a ∷ b ∷ c ∷ []) refl (λ e. omega (arith, e))
  user-fields (a ∷ b ∷ c ∷ d ∷ []) = user-other (a ∷ b ∷ c ∷ d ∷ []) refl (λ e. omega (arith, e))
  user-fields (a ∷ b ∷ c ∷ d ∷ f ∷ []) = user-other (a ∷ b ∷ c ∷ d ∷ f ∷ []) refl (λ e. omega (arith, e))
  user-fields (a ∷ b ∷ c ∷ d ∷ f ∷ g ∷ []) = user-other (a ∷ b ∷ c ∷ d ∷ f ∷ g ∷ []) refl (λ e. omega (arith, e))
  user-fields (a ∷ b ∷ c ∷ d ∷ f ∷ g ∷ h ∷ i ∷ more) = user-other (a ∷ b ∷ c ∷ d ∷ f ∷ g ∷ h ∷ i ∷ more) refl (λ e. omega (arith, e))
  user-fields (name ∷ password ∷ uid ∷ gid ∷ comment ∷ home ∷ shell ∷ []) =
      onward (UserBreaks rows n line (name ∷ password ∷ uid ∷ gid ∷ comment ∷ home ∷ shell ∷ [])) BadFields from_name n (user_fault rows n (user_after name password uid gid comment home shell (is_lawful_name name))) (λ other. other refl)
      (user-name name password uid gid comment home shell (is_lawful_name name) refl)

abbrev group_fault : List Group → ℕ → Result Group TextFault → Option TextFault
group_fault rows n read = fault_in group_line (λ row. row.name) (λ row. row.gid) rows n (read >>= λ row. Ok (Some row))

abbrev GroupBreaks : List Group → ℕ → List ℕ → List (List ℕ) → TextCode → Type 0
GroupBreaks rows n line fields = BreaksBeside 4 GroupNumberIsBad (map (λ row. row.name) rows) (map (λ row. row.gid) rows) n line fields

module _ (rows : List Group) (n : ℕ) (line : List ℕ) where
  module _ (name password gid members : List ℕ) where
    abbrev group_fields : List (List ℕ)
    group_fields = name ∷ password ∷ gid ∷ members ∷ []

    abbrev group_row : ℕ → Group
    group_row group = record { line = n; name = name; password = password; gid = group; members = members }

    abbrev group_read : Option ℕ → Result Group TextFault
    group_read g = numbered n g (λ group. Ok (group_row group))

    group-number : (g : Option ℕ) → id_of gid ≡ g → Outcome (GroupBreaks rows n line group_fields) (BadNumber ∷ last_two) n (group_fault rows n (group_read g))
    group-number None eg = here (GroupBreaks rows n line group_fields) BadNumber last_two n eg
    group-number (Some g) eg =
        onward (GroupBreaks rows n line group_fields) BadNumber last_two n (group_fault rows n (Ok (group_row g))) no
        (shared-outcome (λ row. row.name) (λ row. row.gid) group_line 4 GroupNumberIsBad rows (group_row g) n line group_fields refl eg)
      where
        no : ¬ GroupNumberIsBad group_fields
        no e = let both : ◌≡◌ {A = Option ℕ} (Some g) None = sym eg ∙ e in absurd (cc)

    abbrev group_after : Bool → Result Group TextFault
    group_after lawful = cond lawful (group_read (id_of gid)) (refused n BadName)

    group-name : (b : Bool) → is_lawful_name name ≡ b → Outcome (GroupBreaks rows n line group_fields) from_name n (group_fault rows n (group_after b))
    group-name true e =
        onward (GroupBreaks rows n line group_fields) BadName (BadNumber ∷ last_two) n (group_fault rows n (group_read (id_of gid))) (λ bad. true≢false (sym e ∙ bad)) (group-number (id_of gid) refl)
    group-name false e = here (GroupBreaks rows n line group_fields) BadName (BadNumber ∷ last_two) n e

  abbrev GroupOutcome : List (List ℕ) → Type 0
  GroupOutcome fields = Outcome (GroupBreaks rows n line fields) from_fields n (group_fault rows n (group_from n fields))

  group-other : (fields : List (List ℕ)) → group_from n fields ≡ refused n BadFields → (length fields ≡ 4 → ⊥) → GroupOutcome fields
  group-other fields e other =
      subst (λ (read : Result Group TextFault). Outcome (GroupBreaks rows n line fields) from_fields n (group_fault rows n read)) (sym e)
      (here (GroupBreaks rows n line fields) BadFields from_name n other)

  group-fields : (fields : List (List ℕ)) → GroupOutcome fields
  group-fields [] = group-other [] refl (λ e. omega (arith, e))
  group-fields (a ∷ []) = group-other (a ∷ []) refl (λ e. omega (arith, e))
  group-fields (a ∷ b ∷ []) = group-other (a ∷ b ∷ []) refl (λ e. omega (arith, e))
  group-fields (a ∷ b ∷ c ∷ []) = group-other (a ∷ b ∷ c ∷ []) refl (λ e. omega (arith, e))
  group-fields (a ∷ b ∷ c ∷ d ∷ e ∷ more) = group-other (a ∷ b ∷ c ∷ d ∷ e ∷ more) refl (λ e. omega (arith, e))
  group-fields (name ∷ password ∷ gid ∷ members ∷ []) =
      onward (GroupBreaks rows n line (name ∷ password ∷ gid ∷ members ∷ [])) BadFields from_name n (group_fault rows n (group_after name password gid members (is_lawful_name name))) (λ other. other refl)
      (group-name name password gid members (is_lawful_name name) refl)

-- ---- the line

byte-first : (line : List ℕ) (b : ℕ) → 0 < b → (get_or line 0 0 == b) ≡ true → slice_get line 0 ≡ Some b
byte-first [] b some e = let none = eqb-true 0 b e in absurd (omega (arith, some, none))
byte-first (c ∷ line) b some e = ap (λ (k : ℕ). Some k) (eqb-true c b e)

first-byte : (line : List ℕ) (b : ℕ) → slice_get line 0 ≡ Some b → (get_or line 0 0 == b) ≡ true
first-byte [] b e = absurd (cc)
first-byte (c ∷ line) b e = eq-eqb c b (same_Some c b e)

abbrev BeginsCompat : List ℕ → Type 0
BeginsCompat line = (slice_get line 0 ≡ Some 43) ⊎ (slice_get line 0 ≡ Some 45)

compat-begins : (line : List ℕ) → is_compat line ≡ true → BeginsCompat line
compat-begins line e = elim (cases_Bool (get_or line 0 0 == 43)) [
  | inl plus ↦ inl (byte-first line 43 (omega arith) plus)
  | inr other ↦ let e' = rw other at e in inr (byte-first line 45 (omega arith) e')
]

begins-compat : (line : List ℕ) → BeginsCompat line → is_compat line ≡ true
begins-compat line (inl plus) = or_left (get_or line 0 0 == 43) (get_or line 0 0 == 45) (first-byte line 43 plus)
begins-compat line (inr minus) = or_right (get_or line 0 0 == 43) (get_or line 0 0 == 45) (first-byte line 45 minus)

module _ {Row : Type 0} (line_of : ℕ → List ℕ → Result (Option Row) TextFault) (name : Row → List ℕ) (number : Row → ℕ) (many : ℕ) (Bad : List (List ℕ) → Type 0) (rows : List Row) (n : ℕ) (line : List ℕ) (read : Result (Option Row) TextFault) where
  abbrev Here : TextCode → Type 0
  Here = BreaksBeside many Bad (map name rows) (map number rows) n line (fields_of line)

  abbrev row_if : Result Bool TextFault → Result (Option Row) TextFault
  row_if kept = kept >>= λ (is : Bool). cond is read (Ok None)

  abbrev judged : Result Bool TextFault → Option TextFault
  judged kept = fault_in line_of name number rows n (row_if kept)

  by-compat : (d : Bool) → is_compat line ≡ d → Outcome Here from_fields n (fault_in line_of name number rows n read) → Outcome Here (CompatLine ∷ from_fields) n (judged (cond d (refused n CompatLine) (Ok true)))
  by-compat true e rest = here Here CompatLine from_fields n (compat-begins line e)
  by-compat false e rest = onward Here CompatLine from_fields n (fault_in line_of name number rows n read) (λ compat. true≢false (sym (begins-compat line compat) ∙ e)) rest

  by-skipped : (c : Bool) → Outcome Here from_fields n (fault_in line_of name number rows n read) → Outcome Here (cond c [] (CompatLine ∷ from_fields)) n (judged (cond c (Ok false) (cond (is_compat line) (refused n CompatLine) (Ok true))))
  by-skipped true rest = tt
  by-skipped false rest = by-compat (is_compat line) refl rest

  abbrev after_skip : List TextCode
  after_skip = cond (is_skipped line) [] (CompatLine ∷ from_fields)

  abbrev skip_read : Result Bool TextFault
  skip_read = cond (is_skipped line) (Ok false) (cond (is_compat line) (refused n CompatLine) (Ok true))

  by-length : (b : Bool) → nat_lt 65535 (length line) ≡ b → Outcome Here after_skip n (judged skip_read) → Outcome Here (LineTooLong ∷ after_skip) n (judged (cond b (refused n LineTooLong) skip_read))
  by-length true e rest = here Here LineTooLong after_skip n (ltb-true 65535 (length line) e)
  by-length false e rest = onward Here LineTooLong after_skip n (judged skip_read) (λ long. short long (ltb-false 65535 (length line) e)) rest
    where
      short : {a : ℕ} → 65535 < a → a ≤ 65535 → ⊥
      short lt le = omega (arith, lt, le)

  by-number : (a : Bool) → nat_lt 65536 n ≡ a → Outcome Here (LineTooLong ∷ after_skip) n (judged (cond (nat_lt 65535 (length line)) (refused n LineTooLong) skip_read)) → Outcome Here (TooManyLines ∷ LineTooLong ∷ after_skip) n (judged (cond a (refused n TooManyLines) (cond (nat_lt 65535 (length line)) (refused n LineTooLong) skip_read)))
  by-number true e rest = here Here TooManyLines (LineTooLong ∷ after_skip) n (ltb-true 65536 n e)
  by-number false e rest = onward Here TooManyLines (LineTooLong ∷ after_skip) n (judged (cond (nat_lt 65535 (length line)) (refused n LineTooLong) skip_read)) (λ many. few many (ltb-false 65536 n e)) rest
    where
      few : {a : ℕ} → 65536 < a → a ≤ 65536 → ⊥
      few lt le = omega (arith, lt, le)

  pub line-outcome : Outcome Here from_fields n (fault_in line_of name number rows n read) → Outcome Here (checks_of line) n (judged (cond (nat_lt 65536 n) (refused n TooManyLines) (cond (nat_lt 65535 (length line)) (refused n LineTooLong) skip_read)))
  line-outcome rest = by-number (nat_lt 65536 n) refl (by-length (nat_lt 65535 (length line)) refl (by-skipped (is_skipped line) rest))

user-outcome : (rows : List Passwd) (n : ℕ) (line : List ℕ) → Outcome (UserBreaks rows n line (fields_of line)) (checks_of line) n (fault_in passwd_line (λ row. row.name) (λ row. row.uid) rows n (passwd_line n line))
unfolding passwd_line
user-outcome rows n line =
    line-outcome passwd_line (λ row. row.name) (λ row. row.uid) 7 PasswdNumberIsBad rows n line (passwd_from n (fields_of line) >>= λ row. Ok (Some row))
    (user-fields rows n line (fields_of line))

group-outcome : (rows : List Group) (n : ℕ) (line : List ℕ) → Outcome (GroupBreaks rows n line (fields_of line)) (checks_of line) n (fault_in group_line (λ row. row.name) (λ row. row.gid) rows n (group_line n line))
unfolding group_line
group-outcome rows n line =
    line-outcome group_line (λ row. row.name) (λ row. row.gid) 4 GroupNumberIsBad rows n line (group_from n (fields_of line) >>= λ row. Ok (Some row))
    (group-fields rows n line (fields_of line))

-- ---- the file

module _ {Row : Type 0} (line_of : ℕ → List ℕ → Result (Option Row) TextFault) (name : Row → List ℕ) (number : Row → ℕ) (many : ℕ) (Bad : List (List ℕ) → Type 0)
    (outcome : (rows : List Row) (n : ℕ) (line : List ℕ) → Outcome (BreaksBeside many Bad (map name rows) (map number rows) n line (fields_of line)) (checks_of line) n (fault_in line_of name number rows n (line_of n line))) where
  abbrev judge : List (List ℕ) → List ℕ → Option TextFault
  judge = line_fault line_of name number

  judged-outcome : (before : List (List ℕ)) (line : List ℕ) → Outcome (Breaks line_of name number many Bad before line) (checks_of line) (length before + 1) (judge before line)
  unfolding line_fault
  judged-outcome before line = outcome (rows_from line_of name number 1 before) (length before + 1) line

  stands : (before : List (List ℕ)) (line : List ℕ) → judge before line ≡ None → MayStand line_of name number many Bad before line
  stands before line e =
      subst (λ (o : Option TextFault). Outcome (Breaks line_of name number many Bad before line) (checks_of line) (length before + 1) o) e (judged-outcome before line)

  fails : (before : List (List ℕ)) (line : List ℕ) (f : TextFault) → judge before line ≡ Some f → (f.line ≡ length before + 1) × IsFirstBroken (Breaks line_of name number many Bad before line) (checks_of line) f.code
  fails before line f e =
      subst (λ (o : Option TextFault). Outcome (Breaks line_of name number many Bad before line) (checks_of line) (length before + 1) o) e (judged-outcome before line)

  pub lines-stand : (text : List ℕ) (rows : List Row) → table line_of name number text ≡ Ok rows → AllMayStand line_of name number many Bad (lines_of text)
  lines-stand text rows e i line is =
      let told = unless_ok (first_fault judge [] (lines_of text)) (rows_from line_of name number 1 (lines_of text)) rows e in
      stands (take i (lines_of text)) line (all_fine judge [] (lines_of text) told.0 i line is)

  pub first-told : (text : List ℕ) (f : TextFault) → table line_of name number text ≡ Err f → IsFirstFault line_of name number many Bad (lines_of text) f
  first-told text f e =
      let lines = lines_of text in
      let found = fault_found judge [] lines f (faulty (first_fault judge [] lines) (rows_from line_of name number 1 lines) f e) in
      let failed = fails (take found.count lines) found.item f found.told in
      record {
        before = found.count;
        line = found.item;
        there = found.there;
        good = λ i earlier lt is. stands (take i lines) earlier (found.fine i earlier lt is);
        numbered = failed.0 ∙ ap (λ k. k + 1) (front-size lines found.count found.item found.there);
        first = failed.1;
      }

pub passwd_stands : PasswdLinesMayStand
unfolding passwd_table
passwd_stands = lines-stand passwd_line (λ row. row.name) (λ row. row.uid) 7 PasswdNumberIsBad user-outcome

pub group_stands : GroupLinesMayStand
unfolding group_table
group_stands = lines-stand group_line (λ row. row.name) (λ row. row.gid) 4 GroupNumberIsBad group-outcome

pub passwd_told : PasswdFirstFaultIsTold
unfolding passwd_table
passwd_told = first-told passwd_line (λ row. row.name) (λ row. row.uid) 7 PasswdNumberIsBad user-outcome

pub group_told : GroupFirstFaultIsTold
unfolding group_table
group_told = first-told group_line (λ row. row.name) (λ row. row.gid) 4 GroupNumberIsBad group-outcome
