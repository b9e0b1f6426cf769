-- Where a text is no plan.
use Rattle.std.proofs.Common.{◌≡◌, ◌≢◌, ◌+◌, ◌-◌, ℕ, true, false, List, ◌++◌, All, length, take, drop, sym, ◌∙◌, ap, subst, arith, append_assoc, length-append, take-append-drop}
use Rattle.std.specs.Str.{bytes_eq}
use Rattle.std.specs.Cmp.Lexicographic.{bytes_decides}
use Rattle.reown_plan.specs.declared.plan.PlanFault.TheVariants.{BadPlan}
use Rattle.reown_plan.specs.PlanData.{PlanRecord, PlanData, HaveDistinctPaths}
use Rattle.reown_plan.specs.Spelling.{head, line, lines, end, spelling, IsHostName, IsLawfulRecord, IsFaultAt, no_record, trailing}

pub told : (text : List ℕ) (at offset : ℕ) → BadPlan at ≡ BadPlan offset → IsFaultAt text at → IsFaultAt text offset
told text at offset e h = (let same : at ≡ offset = cc in subst (IsFaultAt text) same h)

pub offset_is : (text a rest : List ℕ) → text ≡ a ++ rest → length a ≡ length text - length rest
offset_is text a rest e = omega (arith, ap length e ∙ length-append a rest)

module _ (text host : List ℕ) (records : List PlanRecord) (rest : List ℕ) (name : IsHostName host) (lawful : All IsLawfulRecord records) (distinct : HaveDistinctPaths records) (read : text ≡ head host ++ lines records ++ rest) where
  here : IsFaultAt text (length (head host ++ lines records)) → IsFaultAt text (length text - length rest)
  here h = subst (IsFaultAt text) (offset_is text (head host ++ lines records) rest read) h

  pub end_fault : ((d : PlanRecord) (more : List ℕ) → IsLawfulRecord d → rest ≡ line d ++ more → ⊥) → bytes_eq end (take 4 rest) ≡ false → IsFaultAt text (length text - length rest)
  end_fault none differs =
      here (no_record host records rest name lawful distinct read (λ d after law other e. none d after law e)
      (λ after e. let same : bytes_eq end (take 4 rest) ≡ true = (bytes_decides end (take 4 rest)).1 (sym (ap (take 4) e)) in cc))

  pub behind_fault : rest ≢ end → bytes_eq end (take 4 rest) ≡ true → IsFaultAt text (length text - length rest + 4)
  behind_fault differs same =
      let plan : PlanData = record { host = host; records = records } in
      let split : rest ≡ end ++ drop 4 rest = sym (take-append-drop 4 rest) ∙ ap (λ l. l ++ drop 4 rest) (sym ((bytes_decides end (take 4 rest)).0 same)) in
      let whole : text ≡ spelling plan ++ drop 4 rest = read ∙ ap (λ l. head host ++ lines records ++ l) split ∙ sym (append_assoc (head host ++ lines records) end (drop 4 rest)) in
      let at : length (spelling plan) ≡ length text - length rest + 4 = omega (arith, offset_is text (head host ++ lines records) rest read, ap length read ∙ length-append (head host ++ lines records) rest, length-append (head host ++ lines records) end) in
      subst (IsFaultAt text) at (trailing plan (drop 4 rest) (record { host = name; records = lawful; distinct = distinct }) whole (λ none. differs (split ∙ ap (λ l. end ++ l) none)))
