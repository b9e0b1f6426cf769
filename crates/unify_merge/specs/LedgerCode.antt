-- How the logic stores a ledger: as the tuple of its fields.
-- Words of the code and not of the subject: only the field of `Log` cites them.
use Rattle.std.specs.Prelude.{ℕ, Bool, List, Option, refl}
use Rattle.std.specs.Coded.{Coded, code_by, coded×, coded_ℕ, coded_bool, coded_list, coded_option}
use Rattle.unify.specs.declared.site_files.NamedText.{NamedText}
use Rattle.unify_merge.specs.Ledger.{Reading, Ledger}

abbrev bytes_code : Coded (List ℕ)
bytes_code = coded_list coded_ℕ

abbrev reading_code : Coded Reading
reading_code =
    code_by (ℕ × List ℕ) (coded× coded_ℕ bytes_code) (λ r. (r.host, r.text))
    (λ p. record { host = p.0; text = p.1 }) (λ _. refl)

abbrev file_code : Coded NamedText
file_code =
    code_by (List ℕ × List ℕ) (coded× bytes_code bytes_code) (λ f. (f.name, f.text))
    (λ p. record { name = p.0; text = p.1 }) (λ _. refl)

abbrev Fields : Type 0
Fields =
    (List Reading × Option Reading)
    × (Bool × (List (List ℕ) × (List NamedText × (List NamedText × Option NamedText))))

abbrev fields_code : Coded Fields
fields_code =
    coded× (coded× (coded_list reading_code) (coded_option reading_code)) (coded× coded_bool
    (coded× (coded_list bytes_code)
    (coded× (coded_list file_code) (coded× (coded_list file_code) (coded_option file_code)))))

abbrev pub ledger_code : Coded Ledger
ledger_code =
    code_by Fields fields_code
    (λ l. ((l.read, l.reading), (l.is_clear, (l.begun, (l.finished, (l.settled, l.writing))))))
    (λ f. record {
      read = f.0.0;
      reading = f.0.1;
      is_clear = f.1.0;
      begun = f.1.1.0;
      finished = f.1.1.1.0;
      settled = f.1.1.1.1.0;
      writing = f.1.1.1.1.1;
    }) (λ _. refl)
