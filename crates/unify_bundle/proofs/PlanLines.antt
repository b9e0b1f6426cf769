-- The plans of hosts, as files after one another.
use Rattle.std.proofs.Common.{◌≡◌, ℕ, List, [], ◌∷◌, ◌++◌, refl, sym, ap, ◌∙◌, append-nil, inl, inr}
use Rattle.std.specs.Prelude.{◌⊎◌}
use Rattle.hosts_join.specs.declared.texts.HostText.{HostText}
use Rattle.unify_merge.specs.SecondReading.{plan_files}
use Rattle.unify_bundle.specs.Lines.{named_lines}

-- no plans are left where no hosts or no plans are
none_left : (hosts : List HostText) (plans : List (List ℕ)) → (hosts ≡ []) ⊎ (plans ≡ []) → named_lines (plan_files hosts plans) ≡ []
none_left [] plans ends = refl
none_left (host ∷ hosts) [] ends = refl
none_left (host ∷ hosts) (plan ∷ plans) (inl none) = absurd (cc)
none_left (host ∷ hosts) (plan ∷ plans) (inr none) = absurd (cc)

-- all are pushed where none are left
pub all_pushed : (hosts : List HostText) (plans : List (List ℕ)) (out whole : List ℕ) → (hosts ≡ []) ⊎ (plans ≡ []) → out ++ named_lines (plan_files hosts plans) ≡ whole → out ≡ whole
all_pushed hosts plans out whole ends pushed = sym (ap (λ ls. out ++ ls) (none_left hosts plans ends) ∙ append-nil out) ∙ pushed
