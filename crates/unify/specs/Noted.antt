-- What a call that succeeded makes of the texts.
-- Words of the code and not of the subject: only private contracts and invariants cite them.
use Rattle.std.specs.Prelude.{[], ◌∷◌, ◌++◌, drop}
use Rattle.unify.specs.Taken.{Taken}
use Rattle.unify.specs.declared.text_log.Call.{Call}
use Rattle.unify.specs.declared.text_log.Call.TheVariants as call

abbrev pub noted : Call → Taken → Taken
noted (call.Piece bytes) t = record t { text = t.text ++ bytes.now }
noted (call.Planned bytes before plan) t =
    record t { text = t.text ++ bytes.now; planned = t.planned ++ drop before plan.now }
noted call.End t = record { ended = t.ended ++ t.text ∷ []; text = []; planned = [] }
