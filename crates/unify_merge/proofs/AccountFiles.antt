-- Whether a merge writes passwd and group goes by what stays of the hosts in full.
use Rattle.std.proofs.Common.{◌≡◌, ℕ, zero, suc, false, true, List, [], ◌∷◌, codes, inl, inr, refl, sym, ap, subst, ◌∙◌, arith}
use Rattle.std.specs.List.{AllZip, Any, Contains}
use Rattle.std.proofs.lemmas.Bool.{cases_Bool}
use Rattle.idtext.proofs.OkLemmas.{ok_same}
use Rattle.accounts.specs.Rows.{Group, Passwd}
use Rattle.hosts_join.specs.Kinds.{group_rows, user_rows}
use Rattle.hosts_join.specs.declared.host.Host.{Host}
use Rattle.hosts_join.specs.declared.texts.HostText.{HostText}
use Rattle.hosts_join.proofs.MadeLists.{later}
use Rattle.keep_text.specs.declared.keep_text.Kept.{Kept}
use Rattle.keep_text.specs.declared.keep_text.KeepText.{KeepText}
use Rattle.kept_accounts.specs.Laws.{HasNumber, Stays}
use Rattle.unify.specs.declared.site_files.NamedText.{NamedText}
use Rattle.site_tables.specs.TextLaws.{SomeGroupStays, SomeUserStays, GroupStays, IsOfText, UserStays}
use Rattle.unify.specs.KeptLaws.{TellsKeptNames}
use Rattle.unify.proofs.KeptLaws.{outcomes_tell_kept_names}
use Rattle.unify_merge.specs.AccountFiles.{AccountFilesGoByTexts, SomeNameStays}
use Rattle.unify_merge.specs.Ledger.{Ledger}
use Rattle.unify_merge.specs.Merge.{merged_files}
use Rattle.unify_merge.specs.NamedFiles.{AreNamed, Have}
use Rattle.unify_merge.proofs.NamedFiles.{files_have_their_names}

-- ---- hosts of the same texts

-- a host among others, with the same rows
record IsAmong (hosts : List Host) (host : Host) : Type 0 where
  other : Host
  there : Contains hosts other
  users : host.users ≡ other.users
  groups : host.groups ≡ other.groups

counterpart : (texts : List HostText) (a b : List Host) → AllZip IsOfText texts a → AllZip IsOfText texts b → (host : Host) → Contains a host → IsAmong b host
counterpart texts [] b one two host there = absurd (omega (arith, there.1))
counterpart [] (x ∷ a) b one two host there = absurd one
counterpart (t ∷ texts) (x ∷ a) [] one two host there = absurd two
counterpart (t ∷ texts) (x ∷ a) (y ∷ b) one two host (zero, lt, e) = record {
  other = y;
  there = (zero, omega arith, refl);
  users = ap (λ (h : Host). h.users) (sym e) ∙ ok_same x.users y.users (sym one.0.users ∙ two.0.users);
  groups = ap (λ (h : Host). h.groups) (sym e) ∙ ok_same x.groups y.groups (sym one.0.groups ∙ two.0.groups);
}
counterpart (t ∷ texts) (x ∷ a) (y ∷ b) one two host (suc k, lt, e) =
    let more = counterpart texts a b one.1 two.1 host (k, omega (arith, lt), e) in
    record { other = more.other; there = later y b more.other more.there; users = more.users; groups = more.groups }

-- ---- the same names stay by them

module _ (rows_on : Host → List (List ℕ × ℕ)) (like : (host other : Host) → host.users ≡ other.users → host.groups ≡ other.groups → rows_on host ≡ rows_on other) where
  number_moved : (a b : List Host) → ((host : Host) → Contains a host → IsAmong b host) → (name : List ℕ) (number : ℕ) → HasNumber rows_on a name number → HasNumber rows_on b name number
  number_moved a b among name number has =
      let o = among has.host has.is_host in
      record { host = o.other; is_host = o.there; is_row = subst (λ rows. Contains rows (name, number)) (like has.host o.other o.users o.groups) has.is_row }

  stay_moved : (keep : Kept) (a b : List Host) → ((host : Host) → Contains a host → IsAmong b host) → ((host : Host) → Contains b host → IsAmong a host) → (name : List ℕ) → Stays keep rows_on a name → Stays keep rows_on b name
  stay_moved keep a b among back name s = record {
    number = s.number;
    had = number_moved a b among name s.number s.had;
    as_listed = elim s.as_listed [ inl listed ↦ inl listed | inr lie ↦ inr (λ n has. lie n (number_moved b a back name n has)) ];
  }

-- a row of some host, of which something holds by its name
module _ {Row : Type 0} (rows : Host → List Row) (name : Row → List ℕ) (P Q : List ℕ → Type 0) (goes : (n : List ℕ) → P n → Q n) where
  row_moved : (a b : List Host) → ((host : Host) → Contains a host → (o : Host) × Contains b o × (rows host ≡ rows o)) → Any (λ host. Any (λ row. P (name row)) (rows host)) a → Any (λ host. Any (λ row. Q (name row)) (rows host)) b
  row_moved a b among some =
      let o = among some.1 (some.0, some.2, some.3) in
      let row = subst (λ (rs : List Row). Any (λ row. P (name row)) rs) o.2 some.4 in
      (o.1.0, o.0, o.1.1, o.1.2, (row.0, row.1, row.2, row.3, goes (name row.1) row.4))

module _ (keep : KeepText) (texts : List HostText) (a b : List Host) (one : AllZip IsOfText texts a) (two : AllZip IsOfText texts b) where
  user_moved : (name : List ℕ) → UserStays keep a name → UserStays keep b name
  user_moved name s = stay_moved (λ host. user_rows host.users) (λ host other users groups. ap user_rows users) keep.users a b (counterpart texts a b one two) (counterpart texts b a two one) name s

  group_moved : (name : List ℕ) → GroupStays keep a name → GroupStays keep b name
  group_moved name s = stay_moved (λ host. group_rows host.groups) (λ host other users groups. ap group_rows groups) keep.groups a b (counterpart texts a b one two) (counterpart texts b a two one) name s

  users_moved : SomeUserStays keep a → SomeUserStays keep b
  users_moved = row_moved (λ (host : Host). host.users) (λ (row : Passwd). row.name) (UserStays keep a) (UserStays keep b) user_moved a b
      (λ host there. let o = counterpart texts a b one two host there in (o.other, o.there, o.users))

  groups_moved : SomeGroupStays keep a → SomeGroupStays keep b
  groups_moved = row_moved (λ (host : Host). host.groups) (λ (row : Group). row.name) (GroupStays keep a) (GroupStays keep b) group_moved a b
      (λ host there. let o = counterpart texts a b one two host there in (o.other, o.there, o.groups))

  some_moved : SomeNameStays keep a → SomeNameStays keep b
  some_moved (inl user) = inl (users_moved user)
  some_moved (inr group) = inr (groups_moved group)

-- ---- the files of a merge

pub account-files : AccountFilesGoByTexts
account-files texts rules old new cost keep full merged keep_is full_are =
    let begun = merged.begun in
    let files = merged_files texts begun merged.is_correct.mappings merged.outcome in
    let named : AreNamed texts begun merged.is_correct.mappings merged.outcome files = files_have_their_names texts begun merged.is_correct.mappings merged.outcome in
    let finished : new.finished ≡ files = ap (λ (l : Ledger). l.finished) merged.files in
    let tells : TellsKeptNames texts rules begun merged.outcome = outcomes_tell_kept_names texts rules begun (record { hosts = merged.are; joined = begun.joined }) merged.outcome merged.begun_is refl merged.is_right in
    let was = tells.hosts.full in
    let same : tells.hosts.keep ≡ keep = ok_same tells.hosts.keep keep (sym tells.hosts.keep_is ∙ keep_is) in
    let kept : SomeNameStays keep full → merged.outcome.keeps_names ≡ true = λ some.
    tells.told.1 (subst (λ (k : KeepText). SomeNameStays k was) (sym same) (some_moved keep texts full was full_are tells.hosts.full_are some)) in
    let some : merged.outcome.keeps_names ≡ true → SomeNameStays keep full = λ is.
    some_moved keep texts was full tells.hosts.full_are full_are (subst (λ (k : KeepText). SomeNameStays k was) same (tells.told.0 is)) in
    let none : (SomeNameStays keep full → ⊥) → merged.outcome.keeps_names ≡ false = λ never.
    elim (cases_Bool merged.outcome.keeps_names) [ inl is ↦ absurd (never (some is)) | inr away ↦ away ] in
    record {
      no_passwd = λ stay stands. named.no_passwd (kept stay) stands.0 (subst (λ (fs : List NamedText). Have fs (codes "passwd") stands.0) finished stands.1);
      no_group = λ stay stands. named.no_group (kept stay) stands.0 (subst (λ (fs : List NamedText). Have fs (codes "group") stands.0) finished stands.1);
      passwd = λ never. (merged.outcome.passwd, subst (λ (fs : List NamedText). Have fs (codes "passwd") merged.outcome.passwd) (sym finished) (named.passwd (none never)));
      group = λ never. (merged.outcome.group, subst (λ (fs : List NamedText). Have fs (codes "group") merged.outcome.group) (sym finished) (named.group (none never)));
    }
