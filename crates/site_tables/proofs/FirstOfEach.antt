-- Of items one after the other the fault of the first that has one is told.
use Rattle.std.proofs.Common.{◌≡◌, ◌⊎◌, List, [], ◌∷◌, ◌++◌, Result, Ok, Err, All, inl, inr, refl, ap, ◌∙◌}
use Rattle.std.proofs.lemmas.List.Elements.{All-nil, All-cons, All-head, All-tail}
use Rattle.idtext.specs.First.{◌>>=◌, each}
use Rattle.unify_texts.specs.declared.fault.Fault.{Fault}
use Rattle.site_tables.specs.Hosts.{host_of}
use Rattle.site_tables.specs.SiteLaws.{FirstFaultsOfHosts, IsOfTheFirst}
use Rattle.site_tables.proofs.FaultLaws.{bind_err, never_err}

module _ {A B : Type 0} (step : A → Result B Fault) (f : Fault) where
  abbrev IsTaken : A → Type 0
  IsTaken x = (y : B) × (step x ≡ Ok y)

  after : (x : A) (xs : List A) → IsTaken x → IsOfTheFirst step xs f → IsOfTheFirst step (x ∷ xs) f
  after x xs taken is = record {
    earlier = x ∷ is.earlier;
    item = is.item;
    later = is.later;
    items_are = ap (λ ys. x ∷ ys) is.items_are;
    taken = All-cons IsTaken x is.earlier taken is.taken;
    refused = is.refused;
  }

  abbrev and_more : B → List A → Result (List B) Fault
  and_more y xs = each step xs >>= λ ys. Ok (y ∷ ys)

  module _ (x : A) (xs : List A) (rest : each step xs ≡ Err f → IsOfTheFirst step xs f) where
    later_there : (y : B) → step x ≡ Ok y → (each step xs ≡ Err f) ⊎ ((ys : List B) × (each step xs ≡ Ok ys) × (◌≡◌ {A = Result (List B) Fault} (Ok (y ∷ ys)) (Err f))) → IsOfTheFirst step (x ∷ xs) f
    later_there y is (inl told) = after x xs (y, is) (rest told)
    later_there y is (inr passed) = never_err (y ∷ passed.0) f passed.2

    one_there : (step x ≡ Err f) ⊎ ((y : B) × (step x ≡ Ok y) × (and_more y xs ≡ Err f)) → IsOfTheFirst step (x ∷ xs) f
    one_there (inl told) = record { earlier = []; item = x; later = xs; items_are = refl; taken = All-nil IsTaken; refused = told }
    one_there (inr passed) = later_there passed.0 passed.1 (bind_err (each step xs) (λ ys. Ok (passed.0 ∷ ys)) f passed.2)

  first_there : (xs : List A) → each step xs ≡ Err f → IsOfTheFirst step xs f
  unfolding each
  first_there [] e = never_err [] f e
  first_there (x ∷ xs) e = one_there x xs (first_there xs) (bind_err (step x) (λ y. and_more y xs) f e)

  told_at : (earlier : List A) (item : A) (later : List A) → All IsTaken earlier → step item ≡ Err f → each step (earlier ++ item ∷ later) ≡ Err f
  unfolding each
  told_at [] item later taken refused = ap (λ r. r >>= λ y. and_more y later) refused
  told_at (x ∷ earlier) item later taken refused =
      let first : IsTaken x = All-head IsTaken x earlier taken in
      ap (λ r. r >>= λ y. and_more y (earlier ++ item ∷ later)) first.1
      ∙ ap (λ r. r >>= λ ys. Ok (first.0 ∷ ys)) (told_at earlier item later (All-tail IsTaken x earlier taken) refused)

  first_back : (xs : List A) → IsOfTheFirst step xs f → each step xs ≡ Err f
  first_back xs is = ap (each step) is.items_are ∙ told_at is.earlier is.item is.later is.taken is.refused

pub first_faults_of_hosts : FirstFaultsOfHosts
first_faults_of_hosts texts f = (first_there host_of f texts, first_back host_of f texts)
