-- What a call that succeeded makes of the ledger.
-- Source: this project's own rule.
use Rattle.std.specs.Prelude.{[]}
use Rattle.unify_merge.specs.Ledger.{Ledger, reading_so_far, with_piece, cleared, with_begun}
use Rattle.unify_merge.specs.Ledger.{with_bytes, with_finished, with_sealed}
use Rattle.unify_merge.specs.declared.log.Call.{Call}
use Rattle.unify_merge.specs.declared.log.Call.TheVariants as call

abbrev pub noted : Call → Ledger → Ledger
noted (call.Open host) l = reading_so_far host [] l
noted (call.Piece bytes) l = with_piece bytes.now l
noted call.Clear l = cleared l
noted (call.Begin name) l = with_begun name.now l
noted (call.Append bytes) l = with_bytes bytes.now l
noted call.Finish l = with_finished l
noted (call.Seal name text) l = with_sealed (record { name = name.now; text = text.now }) l
