-- The row of a line that was read has the fields of the line.
use Rattle.std.proofs.Common.{◌≡◌, ℕ, Bool, true, false, cond, List, [], ◌∷◌, refl, subst, Option, Some, None, Result, Ok, Err}
use Rattle.idtext.specs.declared.faults.TextCode.TheVariants.{BadName}
use Rattle.idtext.specs.declared.faults.TextFault.{TextFault}
use Rattle.idtext.specs.First.{◌>>=◌}
use Rattle.idtext.specs.Names.{is_lawful_name}
use Rattle.idtext.specs.Numbers.{id_of}
use Rattle.idtext.specs.Pieces.{fields_of}
use Rattle.idtext.proofs.OkLemmas.{bind_ok, ok_same}
use Rattle.accounts.specs.Lines.{is_kept}
use Rattle.accounts.specs.Rows.{Passwd, Group, passwd_from, passwd_line, group_from, group_line, named, numbered}

named-ok : {X : Type 0} (n : ℕ) (name : List ℕ) (rest : Result X TextFault) (x : X) → named n name rest ≡ Ok x → (is_lawful_name name ≡ true) × (rest ≡ Ok x)
named-ok {X} n name rest x e = by (is_lawful_name name) e
  where
    by : (a : Bool) → cond a rest (Err (record { code = BadName; line = n })) ≡ Ok x → (a ≡ true) × (rest ≡ Ok x)
    by true e = (refl, e)
    by false e = absurd (cc)

numbered-ok : {X : Type 0} (n : ℕ) (id : Option ℕ) (rest : ℕ → Result X TextFault) (x : X) → numbered n id rest ≡ Ok x → (v : ℕ) × (id ≡ Some v) × (rest v ≡ Ok x)
numbered-ok n None rest x e = absurd (cc)
numbered-ok n (Some v) rest x e = (v, refl, e)

pub record IsUser (n : ℕ) (fields : List (List ℕ)) (row : Passwd) : Type 0 where
  pub uid : List ℕ
  pub gid : List ℕ
  pub are : fields ≡ row.name ∷ row.password ∷ uid ∷ gid ∷ row.comment ∷ row.home ∷ row.shell ∷ []
  pub line : row.line ≡ n
  pub lawful : is_lawful_name row.name ≡ true
  pub user : id_of uid ≡ Some row.uid
  pub group : id_of gid ≡ Some row.gid

pub is-user : (n : ℕ) (fields : List (List ℕ)) (row : Passwd) → passwd_from n fields ≡ Ok row → IsUser n fields row
is-user n [] row e = absurd (cc)
is-user n (a ∷ []) row e = absurd (cc)
is-user n (a ∷ b ∷ []) row e = absurd (cc)
is-user n (a ∷ b ∷ c ∷ []) row e = absurd (cc)
is-user n (a ∷ b ∷ c ∷ d ∷ []) row e = absurd (cc)
is-user n (a ∷ b ∷ c ∷ d ∷ f ∷ []) row e = absurd (cc)
is-user n (a ∷ b ∷ c ∷ d ∷ f ∷ g ∷ []) row e = absurd (cc)
is-user n (a ∷ b ∷ c ∷ d ∷ f ∷ g ∷ h ∷ i ∷ more) row e = absurd (cc)
is-user n (name ∷ password ∷ uid ∷ gid ∷ comment ∷ home ∷ shell ∷ []) row e =
    let lawful = named-ok n name _ row e in
    let user = numbered-ok n (id_of uid) _ row lawful.1 in
    let group = numbered-ok n (id_of gid) _ row user.2 in
    let made : Passwd = record { line = n; name = name; password = password; uid = user.0; gid = group.0; comment = comment; home = home; shell = shell } in
    let is : IsUser n (name ∷ password ∷ uid ∷ gid ∷ comment ∷ home ∷ shell ∷ []) made = record { uid = uid; gid = gid; are = refl; line = refl; lawful = lawful.0; user = user.1; group = group.1 } in
    subst (λ (r : Passwd). IsUser n (name ∷ password ∷ uid ∷ gid ∷ comment ∷ home ∷ shell ∷ []) r) (ok_same made row group.2) is

pub record IsGroup (n : ℕ) (fields : List (List ℕ)) (row : Group) : Type 0 where
  pub gid : List ℕ
  pub are : fields ≡ row.name ∷ row.password ∷ gid ∷ row.members ∷ []
  pub line : row.line ≡ n
  pub lawful : is_lawful_name row.name ≡ true
  pub group : id_of gid ≡ Some row.gid

pub is-group : (n : ℕ) (fields : List (List ℕ)) (row : Group) → group_from n fields ≡ Ok row → IsGroup n fields row
is-group n [] row e = absurd (cc)
is-group n (a ∷ []) row e = absurd (cc)
is-group n (a ∷ b ∷ []) row e = absurd (cc)
is-group n (a ∷ b ∷ c ∷ []) row e = absurd (cc)
is-group n (a ∷ b ∷ c ∷ d ∷ f ∷ more) row e = absurd (cc)
is-group n (name ∷ password ∷ gid ∷ members ∷ []) row e =
    let lawful = named-ok n name _ row e in
    let group = numbered-ok n (id_of gid) _ row lawful.1 in
    let made : Group = record { line = n; name = name; password = password; gid = group.0; members = members } in
    let is : IsGroup n (name ∷ password ∷ gid ∷ members ∷ []) made = record { gid = gid; are = refl; line = refl; lawful = lawful.0; group = group.1 } in
    subst (λ (r : Group). IsGroup n (name ∷ password ∷ gid ∷ members ∷ []) r) (ok_same made row group.2) is

-- ---- a line

pub kept-row : {Row : Type 0} (kept : Bool) (told : Result Row TextFault) (row : Row) → cond kept (told >>= λ r. Ok (Some r)) (Ok None) ≡ Ok (Some row) → told ≡ Ok row
kept-row true (Ok r) row e = cc
kept-row true (Err fault) row e = absurd (cc)
kept-row false told row e = absurd (cc)

pub user-line : (n : ℕ) (line : List ℕ) (row : Passwd) → passwd_line n line ≡ Ok (Some row) → (kept : Bool) × (is_kept n line ≡ Ok kept) × IsUser n (fields_of line) row
unfolding passwd_line
user-line n line row e =
    let kept = bind_ok (is_kept n line) _ (Some row) e in
    (kept.0, kept.1, is-user n (fields_of line) row (kept-row kept.0 (passwd_from n (fields_of line)) row kept.2))

pub group-line : (n : ℕ) (line : List ℕ) (row : Group) → group_line n line ≡ Ok (Some row) → (kept : Bool) × (is_kept n line ≡ Ok kept) × IsGroup n (fields_of line) row
unfolding group_line
group-line n line row e =
    let kept = bind_ok (is_kept n line) _ (Some row) e in
    (kept.0, kept.1, is-group n (fields_of line) row (kept-row kept.0 (group_from n (fields_of line)) row kept.2))
