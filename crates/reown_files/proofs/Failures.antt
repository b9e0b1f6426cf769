-- Why calls have failed.
use Rattle.std.proofs.Common.{◌≡◌, inl, inr, true, false, List, [], ◌∷◌, Option, None, Some, Result, Ok, Err, IfErr, OnErr, refl, sym, subst}
use Rattle.std.specs.Result.{is_ok}
use Rattle.reown_files.specs.declared.answers.Failure.{Failure}
use Rattle.reown_files.specs.Calls.{Called}
use Rattle.reown_files.specs.Failed.{Last, AskedLast, FailsToSettle}
use Rattle.reown_files.specs.Real.{RealData, FailsAt, FailsToSync, WasNotKept}

-- what follows where a call failed
pub failed_as : {T E P : Type 0} (r : Result T E) → (is_ok r ≡ false → P) → OnErr r P
failed_as (Ok x) p = tt
failed_as (Err e) p = p refl

-- what follows of the error where a call failed
pub failed_with : {T E : Type 0} (P : E → Type 0) (r : Result T E) → ((e : E) → is_ok r ≡ false → P e) → IfErr r P
failed_with P (Ok x) p = tt
failed_with P (Err e) p = p e refl

-- what holds where a call failed
pub where_failed : {T E P : Type 0} (r : Result T E) → OnErr r P → is_ok r ≡ false → P
where_failed (Ok x) p e = absurd (let h : true ≡ false = e in cc)
where_failed (Err x) p e = p

-- one call was made
pub asked_once : (Is : Called → Type 0) (old new : List Called) (call : Called) → new ≡ call ∷ old → Is call → AskedLast Is old new
asked_once Is old new call e is = ([], call, e, is)

-- ---- syncs

pub stopped_sync : (old new : RealData) (failure : Option Failure) → old.is_stopped ≡ true → FailsAt None failure → FailsToSync old new failure
stopped_sync old new None stopped at = at
stopped_sync old new (Some failure) stopped at = inl (stopped, at)

pub unsettled_sync : (old new : RealData) (failure : Option Failure) → Last FailsToSettle new.calls → FailsAt None failure → FailsToSync old new failure
unsettled_sync old new None last at = at
unsettled_sync old new (Some failure) last at = inr (subst (WasNotKept old.records new.calls) (sym at) last)
